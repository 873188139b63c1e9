-- A step of an open life that keeps what holds of every attempt and of every container.
use Rattle.rm_types.specs.declared.entries.Entry.{Entry}
use Rattle.rm_types.specs.declared.settings.Settings.{Settings}
use Rattle.rm_tables.specs.declared.tables.Tables.{Tables}
use Rattle.rm_invariant.specs.Step.{Step}
use Rattle.rm_refinement.specs.History.{History}
use Rattle.rm_invariant.specs.masters.Invariant.{ContainersInvariant}

-- a step from a history and its tables to the next ones, with what holds of the containers after it
pub record PreservesContainers (settings : Settings) (h : History) (t : Tables) (entry : Entry) (g : History) (next : Tables) : Type 0 where
  pub step : Step settings h t entry g next
  pub marks : ContainersInvariant g next

-- a step of an event or a message, which goes to some history
pub record PreservesContainersTo (settings : Settings) (h : History) (t : Tables) (done : Entry × Tables) : Type 0 where
  pub next : History
  pub joins : PreservesContainers settings h t done.0 next done.1
