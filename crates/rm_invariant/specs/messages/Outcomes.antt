-- What a message comes to, with the reply that it is given: the tables after it, whatever state brings it about. This project's own.
use Rattle.std.specs.Prelude.{◌≡◌, ℕ, ◌+◌, List, [], ◌∷◌, ◌++◌, true, false, nat_lt, Bool, None, Some}
use Rattle.rm_types.specs.declared.containers.Ask.{Ask}
use Rattle.rm_types.specs.declared.containers.Held.{Held}
use Rattle.rm_types.specs.declared.ids.AppId.{AppId}
use Rattle.rm_types.specs.declared.ids.AttemptId.{AttemptId}
use Rattle.rm_types.specs.declared.ids.ContainerId.{ContainerId}
use Rattle.rm_types.specs.declared.messages.ClientAsk.TheVariants as clients
use Rattle.rm_types.specs.declared.messages.ClockAsk.TheVariants as clocks
use Rattle.rm_types.specs.declared.messages.MasterAsk.TheVariants as masters
use Rattle.rm_types.specs.declared.messages.Message.{Message}
use Rattle.rm_types.specs.declared.messages.Message.TheVariants as messages
use Rattle.rm_types.specs.declared.messages.NodeAsk.TheVariants as nodes
use Rattle.rm_types.specs.declared.operations.Submission.{Submission}
use Rattle.rm_types.specs.declared.replies.Reply.{Reply}
use Rattle.rm_types.specs.declared.replies.Reply.TheVariants as replies
use Rattle.rm_types.specs.declared.resources.Resource.{Resource}
use Rattle.rm_tables.specs.declared.changes.RowChange.TheVariants as of_app
use Rattle.rm_tables.specs.declared.events.MainEvent.TheVariants as mains
use Rattle.rm_tables.specs.declared.nodes.NodeRow.{NodeRow}
use Rattle.rm_tables.specs.declared.rows.AppRow.{AppRow}
use Rattle.rm_tables.specs.declared.tables.Tables.{Tables}
use Rattle.rm_tables.specs.Changes.{changed}
use Rattle.rm_tables.specs.Nodes.{node_row}
use Rattle.rm_tables.specs.Rows.{row_of, with_row}
use Rattle.rm_client.specs.Answers.{after_client, with_submission}
use Rattle.rm_master.specs.Answers.{after_master, allocated_with, is_new_to, registered, said}
use Rattle.rm_master.specs.Told.{goes_on, spoken_by}
use Rattle.rm_tracker.specs.Answers.{after_clock, after_expiry, after_node, beaten_with, is_next_beat, registered_first, registered_later}

-- the tables after a message of whatever sender was answered
abbrev pub after_message : Message → Reply → Tables → Tables
after_message (messages.Client user ask) reply t = after_client ask reply t
after_message (messages.Master attempt ask) reply t = after_master attempt ask reply t
after_message (messages.Node name ask) reply t = after_node name ask reply t
after_message (messages.Clock ask) reply t = after_clock ask reply t

-- by this reply a master registers
abbrev pub registers_master : Reply → Bool
registers_master replies.MasterRegistered = true
registers_master (replies.Took kept) = true
registers_master _ = false

-- by this reply an allocation is served
abbrev pub serves_allocation : Reply → Bool
serves_allocation (replies.Allocated next grants ended) = true
serves_allocation _ = false

-- by this reply a beat is answered
abbrev pub answers_beat : Reply → Bool
answers_beat (replies.Beat next launched clean) = true
answers_beat _ = false

-- what a message may come to
pub data MessageOutcome (t : Tables) : Message → Reply → Tables → Type 0 where
  -- nothing changes
  idles : (message : Message) (reply : Reply) → MessageOutcome t message reply t
  -- an id is given
  gives : (user : List ℕ) (id : AppId) → MessageOutcome t (messages.Client user clients.New) (replies.New id) (record t { given = id.number })
  -- a submission joins, whose application isn't known
  joins : (user : List ℕ) (id : AppId) (submission : Submission) → row_of t.rows id ≡ None → MessageOutcome t (messages.Client user (clients.Submit id submission)) replies.Submitted (with_submission id submission t)
  -- a kill is wished for, for the first time
  wishes : (user : List ℕ) (id : AppId) (row : AppRow) → row_of t.rows id ≡ Some row → row.wish ≡ false
      → MessageOutcome t (messages.Client user (clients.Kill id)) replies.Killing (record t { rows = with_row (changed of_app.Wish) id t.rows; main = t.main ++ mains.AppKill id ∷ [] })
  -- a master registers
  registers : (attempt : AttemptId) (reply : Reply) → registers_master reply ≡ true → MessageOutcome t (messages.Master attempt masters.Register) reply (registered attempt reply t)
  -- a master finishes that goes on
  finishes : (attempt : AttemptId) (text : List ℕ) → goes_on (spoken_by attempt (row_of t.rows attempt.app)) ≡ true → MessageOutcome t (messages.Master attempt (masters.Finish text)) replies.Finishing (said attempt text t)
  -- a new allocation is served
  allocates : (attempt : AttemptId) (id : ℕ) (asks : List Ask) (release : List ContainerId) (reply : Reply) → serves_allocation reply ≡ true → is_new_to id (spoken_by attempt (row_of t.rows attempt.app)) ≡ true
      → MessageOutcome t (messages.Master attempt (masters.Allocate id asks release)) reply (allocated_with attempt id asks release reply t)
  -- a node registers for the first time, and with a later turn
  appears : (name : List ℕ) (turn : ℕ) (capability : Resource) (running : List Held) (reply : Reply) → node_row t.nodes name ≡ None
      → MessageOutcome t (messages.Node name (nodes.Register turn capability running)) reply (registered_first name turn capability running reply t)
  returns : (name : List ℕ) (turn : ℕ) (capability : Resource) (running : List Held) (reply : Reply) (row : NodeRow) → node_row t.nodes name ≡ Some row → nat_lt row.turn turn ≡ true
      → MessageOutcome t (messages.Node name (nodes.Register turn capability running)) reply (registered_later name turn capability running reply t)
  -- a beat is the next one
  beats : (name : List ℕ) (id : ℕ) (running : List Held) (done : List ContainerId) (reply : Reply) → answers_beat reply ≡ true → is_next_beat id (node_row t.nodes name) ≡ true
      → MessageOutcome t (messages.Node name (nodes.Beat id running done)) reply (beaten_with name id running done reply t)
  -- time goes on, the lease of a node runs out, that of a master does
  ticks : (time : ℕ) → MessageOutcome t (messages.Clock (clocks.Tick time)) replies.Ok (record t { clock = t.clock + time })
  loses : (name : List ℕ) → MessageOutcome t (messages.Clock (clocks.ExpireNode name)) replies.Ok (after_expiry name t)
  expires : (attempt : AttemptId) → MessageOutcome t (messages.Clock (clocks.ExpireMaster attempt)) replies.Ok (record t { main = t.main ++ mains.AttemptExpired attempt ∷ [] })
