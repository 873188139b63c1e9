-- The nodes that registered in a life, as a map by name, and how the row of one changes. This project's own.
use Rattle.std.specs.Prelude.{ℕ, List, [], ◌∷◌, ◌++◌, Bool, true, false, not, Option, None, Some, filter, if◌then◌else◌}
use Rattle.std.specs.Map.{lookup, set_value}
use Rattle.std.specs.Str.{bytes_eq}
use Rattle.rm_types.specs.declared.containers.Held.{Held}
use Rattle.rm_types.specs.declared.ids.ContainerId.{ContainerId}
use Rattle.rm_types.specs.declared.replies.Reply.{Reply}
use Rattle.rm_types.specs.declared.resources.Resource.{Resource}
use Rattle.rm_types.specs.Ids.{is_container}
use Rattle.rm_states.specs.declared.node.states.NodeState.{NodeState}
use Rattle.rm_states.specs.declared.node.states.NodeState.TheVariants as states
use Rattle.rm_states.specs.declared.node.states.NodeEvent.TheVariants as events
use Rattle.rm_states.specs.node.Table.{next_node_state}
use Rattle.rm_tables.specs.declared.nodes.NodeChange.{NodeChange}
use Rattle.rm_tables.specs.declared.nodes.NodeChange.TheVariants.{Absorb, Lose, Unlaunch}
use Rattle.rm_tables.specs.declared.nodes.NodeRow.{NodeRow}

-- the row of a node, if it registered in this life
abbrev pub node_row : List (List ℕ × NodeRow) → List ℕ → Option NodeRow
node_row nodes name = lookup (bytes_eq name) nodes

-- the nodes with the row of one changed, which is found or isn't
abbrev pub with_found : (NodeRow → NodeRow) → List ℕ → List (List ℕ × NodeRow) → Option NodeRow → List (List ℕ × NodeRow)
with_found change name nodes None = nodes
with_found change name nodes (Some row) = set_value (bytes_eq name) nodes (change row)

-- the nodes with the row of one changed, where there is one
abbrev pub with_node : (NodeRow → NodeRow) → List ℕ → List (List ℕ × NodeRow) → List (List ℕ × NodeRow)
with_node change name nodes = with_found change name nodes (node_row nodes name)

-- it waits for its report to be absorbed; it was absorbed
abbrev pub is_waiting_row : NodeState → Bool
is_waiting_row states.Absent = false
is_waiting_row states.Waiting = true
is_waiting_row states.Ready = false
is_waiting_row states.Lost = false

-- its report was absorbed, and its lease has not run out
abbrev pub is_ready_row : NodeState → Bool
is_ready_row states.Absent = false
is_ready_row states.Waiting = false
is_ready_row states.Ready = true
is_ready_row states.Lost = false

-- the row of a node at its first registration
abbrev pub new_node_row : ℕ → Resource → List Held → Reply → NodeRow
new_node_row turn capability running reply =
    record { turn = turn; capability = capability; running = running; state = next_node_state states.Absent events.Register; last_id = 0; last_reply = reply; launches = [] }

-- a row after a later registration: the node waits, and its last id is 0
abbrev pub registered_node_row : ℕ → Resource → List Held → Reply → NodeRow → NodeRow
registered_node_row turn capability running reply row =
    record row { turn = turn; capability = capability; running = running; state = next_node_state row.state events.Register; last_id = 0; last_reply = reply }

-- a row after a new beat: a node that is ready was told what it is to launch
abbrev pub beaten_row : ℕ → Reply → NodeRow → NodeRow
beaten_row id reply row = record row { last_id = id; last_reply = reply; launches = if is_ready_row row.state then [] else row.launches }

-- a row after an order: the node is to launch one container more
abbrev pub ordered_row : ContainerId → NodeRow → NodeRow
ordered_row container row = record row { launches = row.launches ++ container ∷ [] }

-- a row without the launch of a container
abbrev pub row_without_launch : ContainerId → NodeRow → NodeRow
row_without_launch container row = record row { launches = filter (λ one. not (is_container one container)) row.launches }

-- a row after a change
abbrev pub changed_row : NodeChange → NodeRow → NodeRow
changed_row Absorb row = record row { state = next_node_state row.state events.Absorb }
changed_row Lose row = record row { state = next_node_state row.state events.Expire }
changed_row (Unlaunch container) row = row_without_launch container row
