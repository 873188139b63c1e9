-- What callers see of a desk.
use Rattle.rm_model.specs.Place.{Place}
use Rattle.rm_core.specs.Seen.{Seen}

-- the manager with its log, and what is left of the script
pub record DeskView : Type 0 where
  pub core : Seen
  pub place : Place
