-- What nodes and the clock are answered, read off the tables, and the ranges of what they say. This project's own.
use Rattle.std.specs.Prelude.{ℕ, ◌+◌, List, [], Bool, false, ◌&&◌, not, ◌==◌, nat_lt, filter, Option, None, Some, if◌then◌else◌}
use Rattle.std.specs.List.{list_any}
use Rattle.std.specs.Str.{bytes_eq}
use Rattle.rm_types.specs.declared.containers.BookRow.{BookRow}
use Rattle.rm_types.specs.declared.containers.Held.{Held}
use Rattle.rm_types.specs.declared.ids.ContainerId.{ContainerId}
use Rattle.rm_types.specs.declared.messages.ClockAsk.{ClockAsk}
use Rattle.rm_types.specs.declared.messages.ClockAsk.TheVariants.{Tick, ExpireNode, ExpireMaster}
use Rattle.rm_types.specs.declared.messages.NodeAsk.{NodeAsk}
use Rattle.rm_types.specs.declared.messages.NodeAsk.TheVariants.{Register as AskRegister, Beat as AskBeat}
use Rattle.rm_types.specs.declared.replies.Reply.{Reply}
use Rattle.rm_types.specs.declared.replies.Reply.TheVariants.{NodeRegistered, Resync, Beat}
use Rattle.rm_types.specs.Ids.{is_container}
use Rattle.rm_book.specs.Books.{BookOf}
use Rattle.rm_model.specs.Containers.{once}
use Rattle.rm_model.specs.NodeReplies.{reported}
use Rattle.rm_states.specs.declared.node.states.NodeState.{NodeState}
use Rattle.rm_states.specs.node.Table.{is_known_node}
use Rattle.rm_tables.specs.declared.nodes.NodeRow.{NodeRow}
use Rattle.rm_tables.specs.Nodes.{is_ready_row}

-- the response id that a node says it was answered last, where it beats
abbrev pub beat_id : NodeAsk → ℕ
beat_id (AskRegister turn capability running) = 0
beat_id (AskBeat id running done) = id

-- the milliseconds that the clock says went by
abbrev pub elapsed : ClockAsk → ℕ
elapsed (Tick time) = time
elapsed (ExpireNode name) = 0
elapsed (ExpireMaster attempt) = 0

-- a node isn't registered: it never was, or its lease ran out
abbrev pub is_lost : NodeState → Bool
is_lost state = not (is_known_node state)

-- what a registration is answered, of a node that has no row, and of one that has
abbrev pub node_register_told : ℕ → ℕ → Option NodeRow → Reply
node_register_told epoch turn None = NodeRegistered turn epoch
node_register_told epoch turn (Some row) = NodeRegistered (if nat_lt row.turn turn then turn else row.turn) epoch

-- a row of the book is of this container, and on this node
abbrev pub is_there : List ℕ → ContainerId → BookRow → Bool
is_there name id row = is_container row.id id && bytes_eq row.node name

-- a container lives on a node
abbrev pub lives_at : BookOf → List ℕ → ContainerId → Bool
lives_at book name id = list_any (is_there name id) book.rows

-- the containers that a node reports as running and that don't live on it; in the report's order, each once
abbrev pub strangers_in : BookOf → List ℕ → List Held → List ContainerId
strangers_in book name running = once (filter (λ id. not (lives_at book name id)) (reported running))

-- what a node is told to launch at a new beat, and what to clean: one that is ready all that it is to, and one that waits nothing
abbrev pub launch_told : NodeRow → List ContainerId
launch_told row = if is_ready_row row.state then row.launches else []

-- what a node is told to clean at a new beat: where it is ready, what it reports as running that is not in the book
abbrev pub clean_told : BookOf → List ℕ → List Held → NodeRow → List ContainerId
clean_told book name running row = if is_ready_row row.state then strangers_in book name running else []

-- what a new beat is answered
abbrev pub new_beat_told : BookOf → List ℕ → ℕ → List Held → NodeRow → Reply
new_beat_told book name id running row = Beat (id + 1) (launch_told row) (clean_told book name running row)

-- what a beat is answered, of a node that has no row, and of one that has: it is lost; its beat is repeated, is of another id, or is new
abbrev pub beat_told : BookOf → List ℕ → ℕ → List Held → Option NodeRow → Reply
beat_told book name id running None = Resync
beat_told book name id running (Some row) =
    if is_lost row.state then Resync else
    (if id + 1 == row.last_id then row.last_reply else
    (if not (id == row.last_id) then Resync else new_beat_told book name id running row))

-- a node may expire that has a row and isn't lost
abbrev pub may_expire_in : Option NodeRow → Bool
may_expire_in None = false
may_expire_in (Some row) = is_known_node row.state
