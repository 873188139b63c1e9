-- What a life remembers that the events of the queues leave as it is. This project's own.
use Rattle.std.specs.Prelude.{List, Option, option_map}
use Rattle.rm_types.specs.declared.ids.AppId.{AppId}
use Rattle.rm_types.specs.declared.operations.Submitted.{Submitted}
use Rattle.rm_types.specs.Records.{Records}
use Rattle.rm_model.specs.State.{LifeState, Manager, Release}
use Rattle.rm_refinement.specs.History.{History}

-- what was recorded when the life began, the applications that were removed and those that wait, and what was released since the last Settled
pub record FixedParts : Type 0 where
  pub first : Records
  pub retired : List AppId
  pub submitted : List Submitted
  pub releases : List Release

-- these parts as the history has them
abbrev pub fixed_parts : History → FixedParts
fixed_parts h = record { first = h.first; retired = h.apps.retired; submitted = h.apps.submitted; releases = h.endings.releases }

-- these parts as the judge's life has them
abbrev pub life_parts : LifeState → FixedParts
life_parts life = record { first = life.first; retired = life.apps.retired; submitted = life.apps.submitted; releases = life.endings.releases }

-- those of a state in which a life stands
abbrev pub parts_in : Manager → Option FixedParts
parts_in s = option_map life_parts s.life
