-- The table of transitions of a node. This project's own, after the state machine of YARN's `RMNodeImpl`.
use Rattle.std.specs.Prelude.{Bool, true, false, Option, Some, None}
use Rattle.rm_states.specs.declared.node.states.NodeState.{NodeState}
use Rattle.rm_states.specs.declared.node.states.NodeState.TheVariants.{Absent, Waiting, Ready, Lost}
use Rattle.rm_states.specs.declared.node.states.NodeEvent.{NodeEvent}
use Rattle.rm_states.specs.declared.node.states.NodeEvent.TheVariants.{Register, Absorb, Expire}
use Rattle.rm_states.specs.declared.node.states.NodeAction.{NodeAction}
use Rattle.rm_states.specs.declared.node.states.NodeAction.TheVariants.{PostAdded, PostLost, Nothing}

-- a row of the table: in a state, at an event, the next state and what is then to be done; what has no row is ignored
pub data NodeTransition : NodeState → NodeEvent → NodeState → NodeAction → Type 0 where
  register_absent : NodeTransition Absent Register Waiting PostAdded
  register_waiting : NodeTransition Waiting Register Waiting PostAdded
  register_ready : NodeTransition Ready Register Waiting PostAdded
  register_lost : NodeTransition Lost Register Waiting PostAdded
  absorb : NodeTransition Waiting Absorb Ready Nothing
  expire_waiting : NodeTransition Waiting Expire Lost PostLost
  expire_ready : NodeTransition Ready Expire Lost PostLost

-- the transition that the table has for a state and an event, if it has one: the next state, and what is then to be done
abbrev pub node_transition : NodeState → NodeEvent → Option (NodeState × NodeAction)
node_transition _ Register = Some (Waiting, PostAdded)
node_transition Waiting Absorb = Some (Ready, Nothing)
node_transition Waiting Expire = Some (Lost, PostLost)
node_transition Ready Expire = Some (Lost, PostLost)
node_transition _ _ = None

-- the state that a transition leads to, and the one before where there is none
abbrev pub node_target : NodeState → Option (NodeState × NodeAction) → NodeState
node_target state None = state
node_target state (Some row) = row.0

-- the state after an event: where the transition of the two leads, if the table has one, and else the same, since an event that
-- has no row is ignored
abbrev pub next_node_state : NodeState → NodeEvent → NodeState
next_node_state state event = node_target state (node_transition state event)

-- a node is registered, and can be lost
abbrev pub is_known_node : NodeState → Bool
is_known_node Absent = false
is_known_node Waiting = true
is_known_node Ready = true
is_known_node Lost = false
