-- What holds of the table of transitions of a container.
use Rattle.std.specs.Prelude.{◌≡◌, ◌<◌, ◌⊎◌, ℕ}
use Rattle.rm_types.specs.declared.containers.ContainerState.{ContainerState}
use Rattle.rm_types.specs.declared.containers.ContainerState.TheVariants.{Granted, Acquired, Running, Completed}
use Rattle.rm_states.specs.declared.container.states.ContainerEvent.{ContainerEvent}
use Rattle.rm_states.specs.declared.container.states.ContainerEvent.TheVariants.{Run, End}
use Rattle.rm_states.specs.declared.container.states.ContainerAction.{ContainerAction}
use Rattle.rm_states.specs.declared.container.states.ContainerAction.TheVariants.{Nothing}
use Rattle.rm_states.specs.container.Table.{ContainerTransition}

-- a state and an event have at most one row
abbrev pub ContainerRowsAreOne : Type 0
ContainerRowsAreOne = (state : ContainerState) (event : ContainerEvent) (next other : ContainerState) (action another : ContainerAction)
    → ContainerTransition state event next action → ContainerTransition state event other another → (next ≡ other) × (action ≡ another)

-- how far a state is
abbrev pub state_rank : ContainerState → ℕ
state_rank Granted = 0
state_rank Acquired = 1
state_rank Running = 2
state_rank Completed = 3

-- each row leads to a later state: granted, told, running and ended come in this order, and none comes twice
abbrev pub RowsGoForward : Type 0
RowsGoForward = (state : ContainerState) (event : ContainerEvent) (next : ContainerState) (action : ContainerAction)
    → ContainerTransition state event next action → state_rank state < state_rank next

-- a row to where a container runs begins where it is granted or told, and comes by its node's report; a row to where it
-- ended comes by its end, which has a row wherever the container hasn't ended
pub record RunsAndEnds : Type 0 where
  pub running : (state : ContainerState) (event : ContainerEvent) (action : ContainerAction)
      → ContainerTransition state event Running action → ((state ≡ Granted) ⊎ (state ≡ Acquired)) × (event ≡ Run)
  pub completed : (state : ContainerState) (event : ContainerEvent) (action : ContainerAction)
      → ContainerTransition state event Completed action → event ≡ End
  pub ends : (state : ContainerState) → ¬ (state ≡ Completed) → ContainerTransition state End Completed Nothing
