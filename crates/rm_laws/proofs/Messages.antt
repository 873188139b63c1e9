-- What the answer to a message changes in a life, kind by kind: what holds where nothing changed and after each kind of change
-- holds after each message.
use Rattle.rm_laws.proofs.Common.{◌≡◌, ℕ, ◌+◌, List, [], ◌∷◌, ◌++◌, Bool, true, false, if◌then◌else◌, Some, refl, Ask, Grant, Held, AppId, AttemptId, ContainerId, Register, Finish, Allocate, Message, Submission, Reply, LifeState, Scene, is_known, is_registered, judged_node, tidied, with_judged_node, allocates, beats, expired, nodes_registered, life_after}
use Rattle.rm_types.specs.declared.containers.Closing.{Closing}
use Rattle.rm_types.specs.declared.messages.ClientAsk.{ClientAsk}
use Rattle.rm_types.specs.declared.messages.ClientAsk.TheVariants.{New as AskNew, Submit as AskSubmit, Report as AskReport, Kill as AskKill}
use Rattle.rm_types.specs.declared.messages.ClockAsk.TheVariants.{Tick, ExpireNode, ExpireMaster}
use Rattle.rm_types.specs.declared.messages.MasterAsk.{MasterAsk}
use Rattle.rm_types.specs.declared.messages.NodeAsk.{NodeAsk}
use Rattle.rm_types.specs.declared.messages.NodeAsk.TheVariants.{Register as NodeRegister, Beat as NodeBeat}
use Rattle.rm_types.specs.declared.messages.Message.TheVariants.{Client as FromClient, Master as FromMaster, Node as FromNode, Clock as FromClock}
use Rattle.rm_types.specs.declared.replies.Reply.TheVariants as replies
use Rattle.rm_model.specs.State.{Registration}
use Rattle.rm_model.specs.ClientReplies.{life_after_client}
use Rattle.rm_model.specs.MasterReplies.{is_new_to_master, life_after_master, registers, takes_over, with_master}
use Rattle.rm_model.specs.NodeReplies.{is_later_turn, is_new_to_node, life_after_node}

-- what holds of two, of whatever a test gives of them
pub either : {X : Type 0} (P : X → Type 0) (b : Bool) (x y : X) → P x → P y → P (if b then x else y)
either P true x y a b = a
either P false x y a b = b

-- P is what holds of lives, and Q what is known of the message and its answer
module _ (m : Scene) (P : LifeState → Type 0) (Q : Message → Reply → Type 0) where
  -- P holds of the life as it is, and after each kind of change
  pub record Changes : Type 0 where
    pub nothing : P m.life
    -- an id is given, a submission joins, a kill is wished for
    pub gives : (user : List ℕ) (id : AppId) → Q (FromClient user AskNew) (replies.New id) → P (record m.life { given = id.number })
    pub joins : (user : List ℕ) (id : AppId) (submission : Submission) → Q (FromClient user (AskSubmit id submission)) replies.Submitted → is_known m id ≡ false
        → P (record m.life { apps = record m.life.apps { submitted = m.life.apps.submitted ++ record { id = id; submission = submission } ∷ [] } })
    pub wishes : (id : AppId) → P (record m.life { apps = record m.life.apps { wishes = m.life.apps.wishes ++ id ∷ [] } })
    -- a master registers, and may have containers from earlier attempts, its allocation is served, it finishes
    pub registered : (attempt : AttemptId) → Q (FromMaster attempt Register) replies.MasterRegistered → P (registers m attempt replies.MasterRegistered)
    pub takes_over : (attempt : AttemptId) (kept : List Grant) → Q (FromMaster attempt Register) (replies.Took kept) → P (takes_over m attempt kept)
    pub allocated : (attempt : AttemptId) (id : ℕ) (asks : List Ask) (release : List ContainerId) (next : ℕ) (grants : List Grant) (ended : List Closing)
        → Q (FromMaster attempt (Allocate id asks release)) (replies.Allocated next grants ended) → P (allocates m attempt asks release (replies.Allocated next grants ended))
    pub finishes : (attempt : AttemptId) (text : List ℕ) → P (record m.life { masters = with_master (λ one. record one { finishing = Some text }) attempt m.life.masters })
    -- a node registers, its beat is new
    pub node_registered : (name : List ℕ) (registration : Registration) (reply : Reply) → P (tidied (record m.life { nodes = nodes_registered m name registration reply (judged_node m.life.nodes name) }))
    pub beaten : (name : List ℕ) (running : List Held) (done launch : List ContainerId) (reply : Reply) → P (beats m name running done launch reply)
    -- time goes on, a node's lease runs out, a master's does
    pub ticks : (time : ℕ) → P (record m.life { now = m.life.now + time })
    pub node_expires : (name : List ℕ) → P (tidied (record m.life { nodes = with_judged_node expired name m.life.nodes }))
    pub master_expires : (attempt : AttemptId) → P (record m.life { masters = record m.life.masters { expired = m.life.masters.expired ++ attempt ∷ [] } })

  module _ (c : Changes) where
    client : (user : List ℕ) (ask : ClientAsk) (reply : Reply) → Q (FromClient user ask) reply → P (life_after_client m ask reply)
    client user AskNew (replies.New id) q = c.gives user id q
    client user AskNew reply q = c.nothing
    client user (AskSubmit id submission) replies.Submitted q = go (is_known m id) refl
      where
        go : (b : Bool) → is_known m id ≡ b → P (if b then m.life else record m.life { apps = record m.life.apps { submitted = m.life.apps.submitted ++ record { id = id; submission = submission } ∷ [] } })
        go true e = c.nothing
        go false e = c.joins user id submission q e
    client user (AskSubmit id submission) reply q = c.nothing
    client user (AskReport id) reply q = c.nothing
    client user (AskKill id) replies.Killing q = c.wishes id
    client user (AskKill id) reply q = c.nothing

    master : (attempt : AttemptId) (ask : MasterAsk) (reply : Reply) → Q (FromMaster attempt ask) reply → P (life_after_master m attempt ask reply)
    master attempt Register replies.MasterRegistered q = c.registered attempt q
    master attempt Register (replies.Took kept) q = c.takes_over attempt kept q
    master attempt Register reply q = c.nothing
    master attempt (Allocate id asks release) (replies.Allocated next grants ended) q = either P (is_new_to_master m attempt id) _ _ (c.allocated attempt id asks release next grants ended q) c.nothing
    master attempt (Allocate id asks release) reply q = c.nothing
    master attempt (Finish text) replies.Finishing q = either P (is_registered m attempt) _ _ (c.finishes attempt text) c.nothing
    master attempt (Finish text) reply q = c.nothing

    node : (name : List ℕ) (ask : NodeAsk) (reply : Reply) → P (life_after_node m name ask reply)
    node name (NodeRegister turn capability running) (replies.NodeRegistered told epoch) =
        either P (is_later_turn turn (judged_node m.life.nodes name)) _ _ (c.node_registered name (record { turn = turn; capability = capability; running = running }) (replies.NodeRegistered told epoch)) c.nothing
    node name (NodeRegister turn capability running) reply = c.nothing
    node name (NodeBeat id running done) (replies.Beat next launch clean) = either P (is_new_to_node m name id) _ _ (c.beaten name running done launch (replies.Beat next launch clean)) c.nothing
    node name (NodeBeat id running done) reply = c.nothing

    pub served : (message : Message) (reply : Reply) → Q message reply → P (life_after m message reply)
    served (FromClient user ask) reply q = client user ask reply q
    served (FromMaster attempt ask) reply q = master attempt ask reply q
    served (FromNode name ask) reply q = node name ask reply
    served (FromClock (Tick time)) replies.Ok q = c.ticks time
    served (FromClock (Tick time)) reply q = c.nothing
    served (FromClock (ExpireNode name)) replies.Ok q = c.node_expires name
    served (FromClock (ExpireNode name)) reply q = c.nothing
    served (FromClock (ExpireMaster attempt)) replies.Ok q = c.master_expires attempt
    served (FromClock (ExpireMaster attempt)) reply q = c.nothing

-- nothing is known
abbrev pub Any : Message → Reply → Type 0
Any message reply = Unit {0}
