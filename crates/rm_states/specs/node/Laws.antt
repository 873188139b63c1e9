-- What holds of the table of transitions of a node.
use Rattle.std.specs.Prelude.{◌≡◌, ◌⊎◌}
use Rattle.rm_states.specs.declared.node.states.NodeState.{NodeState}
use Rattle.rm_states.specs.declared.node.states.NodeState.TheVariants.{Absent, Waiting, Ready, Lost}
use Rattle.rm_states.specs.declared.node.states.NodeEvent.{NodeEvent}
use Rattle.rm_states.specs.declared.node.states.NodeEvent.TheVariants.{Register, Absorb, Expire}
use Rattle.rm_states.specs.declared.node.states.NodeAction.{NodeAction}
use Rattle.rm_states.specs.declared.node.states.NodeAction.TheVariants.{PostAdded, PostLost}
use Rattle.rm_states.specs.node.Table.{NodeTransition}

-- a state and an event have at most one row
abbrev pub NodeRowsAreOne : Type 0
NodeRowsAreOne = (state : NodeState) (event : NodeEvent) (next other : NodeState) (action another : NodeAction)
    → NodeTransition state event next action → NodeTransition state event other another → (next ≡ other) × (action ≡ another)

-- a row to where a node is ready begins where it waits, and comes by taking in what it runs
abbrev pub ReadyWereWaiting : Type 0
ReadyWereWaiting = (state : NodeState) (event : NodeEvent) (action : NodeAction)
    → NodeTransition state event Ready action → (state ≡ Waiting) × (event ≡ Absorb)

-- a registration has a row from each state, to where the node waits, and what it runs is to be taken in; no other row
-- leads there, or has that done
pub record RegisteredWait : Type 0 where
  pub from_any : (state : NodeState) → NodeTransition state Register Waiting PostAdded
  pub waiting : (state : NodeState) (event : NodeEvent) (action : NodeAction)
      → NodeTransition state event Waiting action → (event ≡ Register) × (action ≡ PostAdded)
  pub added : (state : NodeState) (event : NodeEvent) (next : NodeState)
      → NodeTransition state event next PostAdded → (event ≡ Register) × (next ≡ Waiting)

-- a row to where a node is lost begins where it is registered, comes by its silence, and has its containers ended; no
-- other row has that done
pub record LostWereRegistered : Type 0 where
  pub lost : (state : NodeState) (event : NodeEvent) (action : NodeAction)
      → NodeTransition state event Lost action → ((state ≡ Waiting) ⊎ (state ≡ Ready)) × (event ≡ Expire) × (action ≡ PostLost)
  pub told : (state : NodeState) (event : NodeEvent) (next : NodeState)
      → NodeTransition state event next PostLost → (event ≡ Expire) × (next ≡ Lost)

-- no row leads to where a node has never registered
abbrev pub NoneIsAbsentAgain : Type 0
NoneIsAbsentAgain = (state : NodeState) (event : NodeEvent) (action : NodeAction) → ¬ NodeTransition state event Absent action
