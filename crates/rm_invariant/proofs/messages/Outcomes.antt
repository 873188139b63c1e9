-- Each message comes to one of the things that may happen.
use Rattle.rm_invariant.proofs.Common.{◌≡◌, ◌∙◌, ℕ, List, Bool, true, false, Option, None, Some, refl, Held, AppId, AttemptId, ClientAsk, ClockAsk, MasterAsk, NodeAsk, Message, Submission, Reply, Resource, NodeRow, AppRow, Tables, after_client, after_clock, after_master, after_node, goes_on, is_new_to, is_next_beat, node_row, registered_by, row_of, spoken_by, taken_by, wished_by, Scene, register_reply, is_live, false≢true, ap, sym}
use Rattle.std.proofs.Common.{nat_lt}
use Rattle.rm_types.specs.declared.messages.ClientAsk.TheVariants as clients
use Rattle.rm_types.specs.declared.messages.ClockAsk.TheVariants as clocks
use Rattle.rm_types.specs.declared.messages.MasterAsk.TheVariants as masters
use Rattle.rm_types.specs.declared.messages.Message.TheVariants as messages
use Rattle.rm_types.specs.declared.messages.NodeAsk.TheVariants as nodes
use Rattle.rm_types.specs.declared.replies.Reply.TheVariants as replies
use Rattle.rm_invariant.specs.messages.Outcomes.{MessageOutcome, after_message}
use Rattle.rm_invariant.specs.messages.Outcomes as comes
use Rattle.rm_invariant.specs.messages.Outcomes.{registers_master}

module _ (t : Tables) where
  taken : (user : List ℕ) (id : AppId) (submission : Submission) (o : Option AppRow) → row_of t.rows id ≡ o → MessageOutcome t (messages.Client user (clients.Submit id submission)) replies.Submitted (taken_by o id submission t)
  taken user id submission None found = comes.joins user id submission found
  taken user id submission (Some row) found = comes.idles _ _

  wished : (user : List ℕ) (id : AppId) (o : Option AppRow) → row_of t.rows id ≡ o → MessageOutcome t (messages.Client user (clients.Kill id)) replies.Killing (wished_by o id t)
  wished user id None found = comes.idles _ _
  wished user id (Some row) found = by row.wish refl
    where
      by : (b : Bool) → row.wish ≡ b → MessageOutcome t (messages.Client user (clients.Kill id)) replies.Killing (wished_by (Some row) id t)
      by true e = rw e (comes.idles _ _)
      by false e = rw e (comes.wishes user id row found e)

  of_client : (user : List ℕ) (ask : ClientAsk) (reply : Reply) → MessageOutcome t (messages.Client user ask) reply (after_client ask reply t)
  of_client user clients.New (replies.New id) = comes.gives user id
  of_client user (clients.Submit id submission) replies.Submitted = taken user id submission (row_of t.rows id) refl
  of_client user (clients.Kill id) replies.Killing = wished user id (row_of t.rows id) refl
  of_client user ask reply = comes.idles _ _

  of_master : (attempt : AttemptId) (ask : MasterAsk) (reply : Reply) → MessageOutcome t (messages.Master attempt ask) reply (after_master attempt ask reply t)
  of_master attempt masters.Register replies.MasterRegistered = comes.registers attempt replies.MasterRegistered refl
  of_master attempt masters.Register (replies.Took kept) = comes.registers attempt (replies.Took kept) refl
  of_master attempt (masters.Finish text) replies.Finishing = by (goes_on (spoken_by attempt (row_of t.rows attempt.app))) refl
    where
      by : (b : Bool) → goes_on (spoken_by attempt (row_of t.rows attempt.app)) ≡ b → MessageOutcome t (messages.Master attempt (masters.Finish text)) replies.Finishing (after_master attempt (masters.Finish text) replies.Finishing t)
      by true e = rw e (comes.finishes attempt text e)
      by false e = rw e (comes.idles _ _)
  of_master attempt (masters.Allocate id asks release) (replies.Allocated next grants ended) = by (is_new_to id (spoken_by attempt (row_of t.rows attempt.app))) refl
    where
      by : (b : Bool) → is_new_to id (spoken_by attempt (row_of t.rows attempt.app)) ≡ b
          → MessageOutcome t (messages.Master attempt (masters.Allocate id asks release)) (replies.Allocated next grants ended) (after_master attempt (masters.Allocate id asks release) (replies.Allocated next grants ended) t)
      by true e = rw e (comes.allocates attempt id asks release (replies.Allocated next grants ended) refl e)
      by false e = rw e (comes.idles _ _)
  of_master attempt ask reply = comes.idles _ _

  enrolled : (name : List ℕ) (turn : ℕ) (capability : Resource) (running : List Held) (reply : Reply) (o : Option NodeRow) → node_row t.nodes name ≡ o
      → MessageOutcome t (messages.Node name (nodes.Register turn capability running)) reply (registered_by o name turn capability running reply t)
  enrolled name turn capability running reply None found = comes.appears name turn capability running reply found
  enrolled name turn capability running reply (Some row) found = by (nat_lt row.turn turn) refl
    where
      by : (b : Bool) → nat_lt row.turn turn ≡ b → MessageOutcome t (messages.Node name (nodes.Register turn capability running)) reply (registered_by (Some row) name turn capability running reply t)
      by true e = rw e (comes.returns name turn capability running reply row found e)
      by false e = rw e (comes.idles _ _)

  of_node : (name : List ℕ) (ask : NodeAsk) (reply : Reply) → MessageOutcome t (messages.Node name ask) reply (after_node name ask reply t)
  of_node name (nodes.Register turn capability running) reply = enrolled name turn capability running reply (node_row t.nodes name) refl
  of_node name (nodes.Beat id running done) (replies.Beat next launched clean) = by (is_next_beat id (node_row t.nodes name)) refl
    where
      by : (b : Bool) → is_next_beat id (node_row t.nodes name) ≡ b → MessageOutcome t (messages.Node name (nodes.Beat id running done)) (replies.Beat next launched clean) (after_node name (nodes.Beat id running done) (replies.Beat next launched clean) t)
      by true e = rw e (comes.beats name id running done (replies.Beat next launched clean) refl e)
      by false e = rw e (comes.idles _ _)
  of_node name (nodes.Beat id running done) reply = comes.idles _ _

  of_clock : (ask : ClockAsk) (reply : Reply) → MessageOutcome t (messages.Clock ask) reply (after_clock ask reply t)
  of_clock (clocks.Tick time) replies.Ok = comes.ticks time
  of_clock (clocks.ExpireNode name) replies.Ok = comes.loses name
  of_clock (clocks.ExpireMaster attempt) replies.Ok = comes.expires attempt
  of_clock ask reply = comes.idles _ _

  -- each message
  pub message_outcome : (message : Message) (reply : Reply) → MessageOutcome t message reply (after_message message reply t)
  message_outcome (messages.Client user ask) reply = of_client user ask reply
  message_outcome (messages.Master attempt ask) reply = of_master attempt ask reply
  message_outcome (messages.Node name ask) reply = of_node name ask reply
  message_outcome (messages.Clock ask) reply = of_clock ask reply

-- an attempt whose master is told that it registered lives
pub registers_live : (m : Scene) (attempt : AttemptId) (reply : Reply) → registers_master reply ≡ true → reply ≡ register_reply m attempt → is_live m attempt ≡ true
registers_live m attempt reply so is = by (is_live m attempt) refl
  where
    by : (b : Bool) → is_live m attempt ≡ b → is_live m attempt ≡ true
    by true e = e
    by false e = let gone : reply ≡ replies.Gone = rw e at is in absurd (false≢true (ap registers_master (sym gone) ∙ so))
