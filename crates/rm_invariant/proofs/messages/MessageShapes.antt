-- What each message may change: one node, by what it did or what happened to it; rows, the book, what is asked for and how many go on; both queues, by
-- events behind the others, none of which begins a life. All else stays.
use Rattle.rm_invariant.proofs.Common.{◌≡◌, ℕ, ◌+◌, List, [], ◌∷◌, ◌++◌, false, None, list_any, refl, sym, Held, Message, Reply, Resource, MainEvent, SchedEvent, NodeRow, Tables, Lose, beat_events, beaten_row, changed_row, new_node_row, node_row, registered_node_row, release_events, with_node}
use Rattle.std.proofs.lemmas.List.{append-nil}
use Rattle.rm_types.specs.declared.messages.Message.TheVariants as messages
use Rattle.rm_types.specs.declared.messages.NodeAsk.TheVariants as nodes
use Rattle.rm_tables.specs.declared.events.MainEvent.TheVariants as mains
use Rattle.rm_tables.specs.declared.events.SchedEvent.TheVariants as scheds
use Rattle.rm_invariant.specs.Invariant.{is_epoch_start}
use Rattle.rm_invariant.specs.messages.Outcomes.{MessageOutcome, after_message}
use Rattle.rm_invariant.specs.messages.Outcomes as comes
use Rattle.rm_invariant.proofs.messages.Outcomes.{message_outcome}

-- nodes of which none changed, or one registered for the first time or again, was answered a beat, or was lost: by this message
pub data NodesBy (rows : List (List ℕ × NodeRow)) : Message → List (List ℕ × NodeRow) → Type 0 where
  same : (message : Message) → NodesBy rows message rows
  put_so : (name : List ℕ) (turn : ℕ) (capability : Resource) (running : List Held) (reply : Reply) → node_row rows name ≡ None
      → NodesBy rows (messages.Node name (nodes.Register turn capability running)) (rows ++ (name, new_node_row turn capability running reply) ∷ [])
  registered_so : (name : List ℕ) (turn : ℕ) (capability : Resource) (running : List Held) (reply : Reply)
      → NodesBy rows (messages.Node name (nodes.Register turn capability running)) (with_node (registered_node_row turn capability running reply) name rows)
  beaten_so : (message : Message) (name : List ℕ) (id : ℕ) (reply : Reply) → NodesBy rows message (with_node (beaten_row id reply) name rows)
  lost_so : (message : Message) (name : List ℕ) → NodesBy rows message (with_node (changed_row Lose) name rows)

-- what a message did
pub record MessageShape (t : Tables) (message : Message) (next : Tables) : Type 0 where
  pub nodes : NodesBy t.nodes message next.nodes
  pub more : List MainEvent
  pub main : next.main ≡ t.main ++ more
  pub begins : list_any is_epoch_start more ≡ false
  pub events : List SchedEvent
  pub sched : next.sched ≡ t.sched ++ events
  pub rest : next ≡ record t { rows = next.rows; nodes = next.nodes; book = next.book; asks = next.asks; going = next.going; given = next.given; clock = next.clock; main = next.main; sched = next.sched; pending = next.pending }

module _ (t : Tables) where
  main_same : t.main ≡ t.main ++ []
  main_same = sym (append-nil t.main)

  sched_same : t.sched ≡ t.sched ++ []
  sched_same = sym (append-nil t.sched)

  shape_of : (message : Message) (reply : Reply) (next : Tables) → MessageOutcome t message reply next → MessageShape t message next
  shape_of message reply next (comes.joins user id submission found) = record { nodes = NodesBy.same _; more = mains.AppStart id ∷ []; main = refl; begins = refl; events = []; sched = sched_same; rest = refl }
  shape_of message reply next (comes.wishes user id row found new) = record { nodes = NodesBy.same _; more = mains.AppKill id ∷ []; main = refl; begins = refl; events = []; sched = sched_same; rest = refl }
  shape_of message reply next (comes.finishes attempt text goes) = record { nodes = NodesBy.same _; more = mains.AttemptFinish attempt ∷ []; main = refl; begins = refl; events = []; sched = sched_same; rest = refl }
  shape_of message reply next (comes.allocates attempt id asks release answer so new) =
      record { nodes = NodesBy.same _; more = []; main = main_same; begins = refl; events = release_events attempt release; sched = refl; rest = refl }
  shape_of message reply next (comes.appears name turn capability running one found) =
      record { nodes = NodesBy.put_so name turn capability running one found; more = []; main = main_same; begins = refl; events = scheds.NodeAdded name turn ∷ []; sched = refl; rest = refl }
  shape_of message reply next (comes.returns name turn capability running one row found later) =
      record { nodes = NodesBy.registered_so name turn capability running one; more = []; main = main_same; begins = refl; events = scheds.NodeAdded name turn ∷ []; sched = refl; rest = refl }
  shape_of message reply next (comes.beats name id running done answer so new) =
      record { nodes = NodesBy.beaten_so _ name (id + 1) answer; more = []; main = main_same; begins = refl; events = beat_events name done; sched = refl; rest = refl }
  shape_of message reply next (comes.loses name) = record { nodes = NodesBy.lost_so _ name; more = []; main = main_same; begins = refl; events = scheds.NodeLost name ∷ []; sched = refl; rest = refl }
  shape_of message reply next (comes.expires attempt) = record { nodes = NodesBy.same _; more = mains.AttemptExpired attempt ∷ []; main = refl; begins = refl; events = []; sched = sched_same; rest = refl }
  shape_of message reply next _ = record { nodes = NodesBy.same _; more = []; main = main_same; begins = refl; events = []; sched = sched_same; rest = refl }

  pub message_shape : (message : Message) (reply : Reply) → MessageShape t message (after_message message reply t)
  message_shape message reply = shape_of message reply (after_message message reply t) (message_outcome t message reply)
