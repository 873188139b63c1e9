-- What is asked of containers: whether anybody was told of one, and whether one is among those that a node reports.
use Rattle.std.specs.Prelude.{List, Bool, true, false}
use Rattle.std.specs.List.{list_any}
use Rattle.rm_types.specs.Ids.{is_container}
use Rattle.rm_types.specs.declared.containers.ContainerState.{ContainerState}
use Rattle.rm_types.specs.declared.containers.ContainerState.TheVariants.{Granted, Acquired, Running, Completed}
use Rattle.rm_types.specs.declared.containers.Held.{Held}
use Rattle.rm_types.specs.declared.ids.ContainerId.{ContainerId}

-- it was granted, and nobody was told of it yet (`ALLOCATED`, in YARN's `RMContainerState`)
abbrev pub is_granted : ContainerState → Bool
is_granted Granted = true
is_granted Acquired = false
is_granted Running = false
is_granted Completed = false

-- the container is one of these
abbrev pub is_held : List Held → ContainerId → Bool
is_held list id = list_any (λ held. is_container held.id id) list
