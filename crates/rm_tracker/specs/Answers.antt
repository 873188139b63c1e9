-- How the tables change where a node or the clock is answered. This project's own.
use Rattle.std.specs.Prelude.{ℕ, ◌+◌, List, [], ◌∷◌, ◌++◌, Bool, false, ◌&&◌, ◌==◌, nat_lt, fold, Option, None, Some, if◌then◌else◌}
use Rattle.std.specs.Str.{bytes_eq}
use Rattle.rm_types.specs.declared.containers.BookRow.{BookRow}
use Rattle.rm_types.specs.declared.containers.ContainerState.{ContainerState}
use Rattle.rm_types.specs.declared.containers.ContainerState.TheVariants.{Acquired, Running}
use Rattle.rm_types.specs.declared.containers.Held.{Held}
use Rattle.rm_types.specs.declared.ids.ContainerId.{ContainerId}
use Rattle.rm_types.specs.declared.messages.ClockAsk.{ClockAsk}
use Rattle.rm_types.specs.declared.messages.ClockAsk.TheVariants.{Tick, ExpireNode, ExpireMaster}
use Rattle.rm_types.specs.declared.messages.NodeAsk.{NodeAsk}
use Rattle.rm_types.specs.declared.messages.NodeAsk.TheVariants.{Register as AskRegister, Beat as AskBeat}
use Rattle.rm_types.specs.declared.replies.Reply.{Reply}
use Rattle.rm_types.specs.declared.replies.Reply.TheVariants.{Beat as TellBeat, Ok}
use Rattle.rm_types.specs.declared.resources.Resource.{Resource}
use Rattle.rm_types.specs.Records.{is_some_and}
use Rattle.rm_book.specs.Books.{BookOf, book_row, with_state}
use Rattle.rm_types.specs.Containers.{is_granted}
use Rattle.rm_model.specs.NodeReplies.{reported}
use Rattle.rm_tables.specs.declared.events.MainEvent.TheVariants as mains
use Rattle.rm_tables.specs.declared.events.SchedEvent.{SchedEvent}
use Rattle.rm_tables.specs.declared.events.SchedEvent.TheVariants as scheds
use Rattle.rm_tables.specs.declared.nodes.NodeChange.TheVariants as of_node
use Rattle.rm_tables.specs.declared.nodes.NodeRow.{NodeRow}
use Rattle.rm_tables.specs.declared.tables.Tables.{Tables}
use Rattle.rm_tables.specs.Nodes.{beaten_row, changed_row, new_node_row, node_row, registered_node_row, with_node}

-- a node registers for the first time: it has a row, and its report is to be absorbed
abbrev pub registered_first : List ℕ → ℕ → Resource → List Held → Reply → Tables → Tables
registered_first name turn capability running reply t =
    record t { nodes = t.nodes ++ (name, new_node_row turn capability running reply) ∷ []; sched = t.sched ++ scheds.NodeAdded name turn ∷ [] }

-- a node registers with a later turn
abbrev pub registered_later : List ℕ → ℕ → Resource → List Held → Reply → Tables → Tables
registered_later name turn capability running reply t =
    record t { nodes = with_node (registered_node_row turn capability running reply) name t.nodes; sched = t.sched ++ scheds.NodeAdded name turn ∷ [] }

-- a registration, of a node that has no row, and of one that has: a turn that isn't later changes nothing
abbrev pub registered_by : Option NodeRow → List ℕ → ℕ → Resource → List Held → Reply → Tables → Tables
registered_by None name turn capability running reply t = registered_first name turn capability running reply t
registered_by (Some row) name turn capability running reply t =
    if nat_lt row.turn turn then registered_later name turn capability running reply t else t

-- a row of the book is on this node; and nobody was told of its container yet
abbrev pub is_row_on : List ℕ → BookRow → Bool
is_row_on name row = bytes_eq row.node name

-- a row of the book is on this node, and nobody was told of its container yet
abbrev pub is_untold_row : List ℕ → BookRow → Bool
is_untold_row name row = bytes_eq row.node name && is_granted row.state

-- the book with a container in another state, where its row passes
abbrev pub brought_one : (BookRow → Bool) → ContainerState → BookOf → ContainerId → BookOf
brought_one passes state book id = if is_some_and passes (book_row book id) then with_state book id state else book

-- the book with each of these in another state, whose row passes
abbrev pub brought_all : (BookRow → Bool) → ContainerState → BookOf → List ContainerId → BookOf
brought_all passes state book ids = fold (brought_one passes state) book ids

-- the book after a new beat: on the node, what it was told to launch is acquired, and what it reports runs
abbrev pub beaten_book : List ℕ → List ContainerId → List ContainerId → BookOf → BookOf
beaten_book name running launched book = brought_all (is_row_on name) Running (brought_all (is_untold_row name) Acquired book launched) running

-- what a beat posts: what is done, if anything is, and then the update
abbrev pub beat_events : List ℕ → List ContainerId → List SchedEvent
beat_events name [] = scheds.NodeUpdate name ∷ []
beat_events name (id ∷ done) = scheds.NodeDone name (id ∷ done) ∷ scheds.NodeUpdate name ∷ []

-- what a reply tells a node to launch
abbrev pub launched_by : Reply → List ContainerId
launched_by (TellBeat next launched clean) = launched
launched_by _ = []

-- a new beat, which was answered so
abbrev pub beaten_with : List ℕ → ℕ → List Held → List ContainerId → Reply → Tables → Tables
beaten_with name id running done reply t =
    record t {
      book = beaten_book name (reported running) (launched_by reply) t.book;
      nodes = with_node (beaten_row (id + 1) reply) name t.nodes;
      sched = t.sched ++ beat_events name done;
    }

-- a beat is of the id that its node was answered last
abbrev pub is_next_beat : ℕ → Option NodeRow → Bool
is_next_beat id None = false
is_next_beat id (Some row) = id == row.last_id

-- the tables after a node was answered
abbrev pub after_node : List ℕ → NodeAsk → Reply → Tables → Tables
after_node name (AskRegister turn capability running) reply t = registered_by (node_row t.nodes name) name turn capability running reply t
after_node name (AskBeat id running done) (TellBeat next launched clean) t =
    if is_next_beat id (node_row t.nodes name) then beaten_with name id running done (TellBeat next launched clean) t else t
after_node name _ _ t = t

-- a node's lease ran out: it is lost at once, and what stands there is to end
abbrev pub after_expiry : List ℕ → Tables → Tables
after_expiry name t = record t { nodes = with_node (changed_row of_node.Lose) name t.nodes; sched = t.sched ++ scheds.NodeLost name ∷ [] }

-- the tables after the clock was answered
abbrev pub after_clock : ClockAsk → Reply → Tables → Tables
after_clock (Tick time) Ok t = record t { clock = t.clock + time }
after_clock (ExpireNode name) Ok t = after_expiry name t
after_clock (ExpireMaster attempt) Ok t = record t { main = t.main ++ mains.AttemptExpired attempt ∷ [] }
after_clock _ _ t = t
