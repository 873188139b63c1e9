-- The table of transitions of a container. This project's own, after the state machine of YARN's `RMContainerImpl`.
use Rattle.std.specs.Prelude.{Option, Some, None}
use Rattle.rm_types.specs.declared.containers.ContainerState.{ContainerState}
use Rattle.rm_types.specs.declared.containers.ContainerState.TheVariants.{Granted, Acquired, Running, Completed}
use Rattle.rm_states.specs.declared.container.states.ContainerEvent.{ContainerEvent}
use Rattle.rm_states.specs.declared.container.states.ContainerEvent.TheVariants.{Tell, Run, End}
use Rattle.rm_states.specs.declared.container.states.ContainerAction.{ContainerAction}
use Rattle.rm_states.specs.declared.container.states.ContainerAction.TheVariants.{Nothing}

-- a row of the table: in a state, at an event, the next state and what is then to be done; what has no row is ignored
pub data ContainerTransition : ContainerState → ContainerEvent → ContainerState → ContainerAction → Type 0 where
  tell : ContainerTransition Granted Tell Acquired Nothing
  run_granted : ContainerTransition Granted Run Running Nothing
  run_acquired : ContainerTransition Acquired Run Running Nothing
  end_granted : ContainerTransition Granted End Completed Nothing
  end_acquired : ContainerTransition Acquired End Completed Nothing
  end_running : ContainerTransition Running End Completed Nothing

-- no row leads from the state
abbrev pub IsFinalContainer : ContainerState → Type 0
IsFinalContainer state = (event : ContainerEvent) (next : ContainerState) (action : ContainerAction) → ¬ ContainerTransition state event next action

-- the transition that the table has for a state and an event, if it has one: the next state, and what is then to be done
abbrev pub container_transition : ContainerState → ContainerEvent → Option (ContainerState × ContainerAction)
container_transition Granted Tell = Some (Acquired, Nothing)
container_transition Granted Run = Some (Running, Nothing)
container_transition Acquired Run = Some (Running, Nothing)
container_transition Granted End = Some (Completed, Nothing)
container_transition Acquired End = Some (Completed, Nothing)
container_transition Running End = Some (Completed, Nothing)
container_transition _ _ = None

-- the state that a transition leads to, and the one before where there is none
abbrev pub container_target : ContainerState → Option (ContainerState × ContainerAction) → ContainerState
container_target state None = state
container_target state (Some row) = row.0

-- the state after an event: where the transition of the two leads, if the table has one, and else the same, since an event that
-- has no row is ignored
abbrev pub next_container_state : ContainerState → ContainerEvent → ContainerState
next_container_state state event = container_target state (container_transition state event)
