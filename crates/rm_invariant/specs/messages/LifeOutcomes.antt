-- What a message comes to for the judge, with the reply that it is given: the life after it, whatever life brings it about. This project's own.
use Rattle.std.specs.Prelude.{◌≡◌, ℕ, ◌+◌, List, [], ◌∷◌, ◌++◌, true, false, Some}
use Rattle.rm_types.specs.declared.containers.Ask.{Ask}
use Rattle.rm_types.specs.declared.containers.Held.{Held}
use Rattle.rm_types.specs.declared.ids.AppId.{AppId}
use Rattle.rm_types.specs.declared.ids.AttemptId.{AttemptId}
use Rattle.rm_types.specs.declared.ids.ContainerId.{ContainerId}
use Rattle.rm_types.specs.declared.messages.ClientAsk.TheVariants as clients
use Rattle.rm_types.specs.declared.messages.ClockAsk.TheVariants as clocks
use Rattle.rm_types.specs.declared.messages.MasterAsk.TheVariants as masters
use Rattle.rm_types.specs.declared.messages.Message.{Message}
use Rattle.rm_types.specs.declared.messages.Message.TheVariants as messages
use Rattle.rm_types.specs.declared.messages.NodeAsk.TheVariants as nodes
use Rattle.rm_types.specs.declared.operations.Submission.{Submission}
use Rattle.rm_types.specs.declared.replies.Reply.{Reply}
use Rattle.rm_types.specs.declared.resources.Resource.{Resource}
use Rattle.rm_model.specs.Facts.{is_known}
use Rattle.rm_model.specs.Attempts.{is_registered}
use Rattle.rm_model.specs.MasterReplies.{allocates as served_to, is_new_to_master, registers as registered_by, with_master}
use Rattle.rm_model.specs.NodeReplies.{beats as beaten_by, expired, is_later_turn, is_new_to_node, nodes_registered}
use Rattle.rm_model.specs.Nodes.{judged_node, tidied, with_judged_node}
use Rattle.rm_model.specs.State.{LifeState, Row, Scene}
use Rattle.rm_invariant.specs.messages.Outcomes.{serves_allocation}

-- what a message may come to
pub data LifeOutcome (m : Scene) : Message → Reply → LifeState → Type 0 where
  -- nothing changes
  idles : (message : Message) (reply : Reply) → LifeOutcome m message reply m.life
  -- an id is given
  gives : (user : List ℕ) (id : AppId) (reply : Reply) → LifeOutcome m (messages.Client user clients.New) reply (record m.life { given = id.number })
  -- a submission joins, whose application isn't known
  joins : (user : List ℕ) (id : AppId) (submission : Submission) (reply : Reply) → is_known m id ≡ false
      → LifeOutcome m (messages.Client user (clients.Submit id submission)) reply (record m.life { apps = record m.life.apps { submitted = m.life.apps.submitted ++ record { id = id; submission = submission } ∷ [] } })
  -- a kill is wished for
  wishes : (user : List ℕ) (id : AppId) (reply : Reply) → LifeOutcome m (messages.Client user (clients.Kill id)) reply (record m.life { apps = record m.life.apps { wishes = m.life.apps.wishes ++ id ∷ [] } })
  -- a master registers, and may be handed containers; its allocation is served; it finishes
  registers : (attempt : AttemptId) (reply : Reply) (book : List Row) → LifeOutcome m (messages.Master attempt masters.Register) reply (record (registered_by m attempt reply) { book = book })
  allocates : (attempt : AttemptId) (id : ℕ) (asks : List Ask) (release : List ContainerId) (reply : Reply) → serves_allocation reply ≡ true → is_new_to_master m attempt id ≡ true
      → LifeOutcome m (messages.Master attempt (masters.Allocate id asks release)) reply (served_to m attempt asks release reply)
  finishes : (attempt : AttemptId) (text : List ℕ) (reply : Reply) → is_registered m attempt ≡ true
      → LifeOutcome m (messages.Master attempt (masters.Finish text)) reply (record m.life { masters = with_master (λ one. record one { finishing = Some text }) attempt m.life.masters })
  -- a node registers with a later turn, its beat is the next one
  enrolls : (name : List ℕ) (turn : ℕ) (capability : Resource) (running : List Held) (reply : Reply) → is_later_turn turn (judged_node m.life.nodes name) ≡ true
      → LifeOutcome m (messages.Node name (nodes.Register turn capability running)) reply
      (tidied (record m.life { nodes = nodes_registered m name (record { turn = turn; capability = capability; running = running }) reply (judged_node m.life.nodes name) }))
  beats : (name : List ℕ) (id : ℕ) (running : List Held) (done launched : List ContainerId) (reply : Reply) → is_new_to_node m name id ≡ true
      → LifeOutcome m (messages.Node name (nodes.Beat id running done)) reply (beaten_by m name running done launched reply)
  -- time goes on, the lease of a node runs out, that of a master does
  ticks : (time : ℕ) (reply : Reply) → LifeOutcome m (messages.Clock (clocks.Tick time)) reply (record m.life { now = m.life.now + time })
  loses : (name : List ℕ) (reply : Reply) → LifeOutcome m (messages.Clock (clocks.ExpireNode name)) reply (tidied (record m.life { nodes = with_judged_node expired name m.life.nodes }))
  expires : (attempt : AttemptId) (reply : Reply)
      → LifeOutcome m (messages.Clock (clocks.ExpireMaster attempt)) reply (record m.life { masters = record m.life.masters { expired = m.life.masters.expired ++ attempt ∷ [] } })
