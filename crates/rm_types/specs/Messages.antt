-- The parts of messages, each in its range, as a script says it and the manager takes it. The ranges are this project's own.
use Rattle.std.specs.Prelude.{ℕ, ◌≤◌, List, length, All}
use Rattle.rm_types.specs.Limits.{greatest_count, greatest_memory_mb, greatest_priority, greatest_vcores, most_listed}
use Rattle.rm_types.specs.Ranges.{IsContainerId, IsWithin}
use Rattle.rm_types.specs.declared.containers.Ask.{Ask}
use Rattle.rm_types.specs.declared.containers.Held.{Held}
use Rattle.rm_types.specs.declared.resources.Resource.{Resource}

-- the size of a container or a node: up to 16 TiB and 256 cores
pub record IsSize (size : Resource) : Type 0 where
  pub memory : IsWithin 1 greatest_memory_mb size.memory_mb
  pub vcores : IsWithin 1 greatest_vcores size.vcores

-- a list of at most a thousand
pub record IsList {X : Type 0} (Fits : X → Type 0) (items : List X) : Type 0 where
  pub few : length items ≤ most_listed
  pub each : All Fits items

-- a container that is reported to run on a node
pub record IsHeld (held : Held) : Type 0 where
  pub id : IsContainerId held.id
  pub size : IsSize held.size

-- what a master asks for; a count of 0 takes an ask away
pub record IsAsk (ask : Ask) : Type 0 where
  pub priority : IsWithin 1 greatest_priority ask.priority
  pub count : IsWithin 0 greatest_count ask.count
  pub size : IsSize ask.size
