-- Each message comes to one of the things that may happen to the judge's life.
use Rattle.rm_invariant.proofs.Common.{◌≡◌, ℕ, List, Bool, true, false, refl, AttemptId, ClientAsk, ClockAsk, MasterAsk, Message, NodeAsk, Reply, Scene, is_known, is_later_turn, is_new_to_master, is_new_to_node, is_registered, judged_node, life_after, life_after_clock, life_after_master, life_after_node}
use Rattle.rm_types.specs.declared.messages.ClientAsk.TheVariants as clients
use Rattle.rm_types.specs.declared.messages.ClockAsk.TheVariants as clocks
use Rattle.rm_types.specs.declared.messages.MasterAsk.TheVariants as masters
use Rattle.rm_types.specs.declared.messages.Message.TheVariants as messages
use Rattle.rm_types.specs.declared.messages.NodeAsk.TheVariants as nodes
use Rattle.rm_types.specs.declared.replies.Reply.TheVariants as replies
use Rattle.rm_model.specs.ClientReplies.{life_after_client}
use Rattle.rm_invariant.specs.messages.LifeOutcomes.{LifeOutcome}
use Rattle.rm_invariant.specs.messages.LifeOutcomes as lives

module _ (m : Scene) where
  of_client : (user : List ℕ) (ask : ClientAsk) (reply : Reply) → LifeOutcome m (messages.Client user ask) reply (life_after_client m ask reply)
  of_client user clients.New (replies.New id) = lives.gives user id (replies.New id)
  of_client user (clients.Submit id submission) replies.Submitted = by (is_known m id) refl
    where
      by : (b : Bool) → is_known m id ≡ b → LifeOutcome m (messages.Client user (clients.Submit id submission)) replies.Submitted (life_after_client m (clients.Submit id submission) replies.Submitted)
      by true e = rw e (lives.idles _ _)
      by false e = rw e (lives.joins user id submission _ e)
  of_client user (clients.Kill id) replies.Killing = lives.wishes user id _
  of_client user _ _ = lives.idles _ _

  of_master : (attempt : AttemptId) (ask : MasterAsk) (reply : Reply) → LifeOutcome m (messages.Master attempt ask) reply (life_after_master m attempt ask reply)
  of_master attempt masters.Register replies.MasterRegistered = lives.registers attempt _ m.life.book
  of_master attempt masters.Register (replies.Took kept) = lives.registers attempt _ _
  of_master attempt (masters.Allocate id asks release) (replies.Allocated next grants ended) = by (is_new_to_master m attempt id) refl
    where
      by : (b : Bool) → is_new_to_master m attempt id ≡ b
          → LifeOutcome m (messages.Master attempt (masters.Allocate id asks release)) (replies.Allocated next grants ended) (life_after_master m attempt (masters.Allocate id asks release) (replies.Allocated next grants ended))
      by true e = rw e (lives.allocates attempt id asks release _ refl e)
      by false e = rw e (lives.idles _ _)
  of_master attempt (masters.Finish text) replies.Finishing = by (is_registered m attempt) refl
    where
      by : (b : Bool) → is_registered m attempt ≡ b → LifeOutcome m (messages.Master attempt (masters.Finish text)) replies.Finishing (life_after_master m attempt (masters.Finish text) replies.Finishing)
      by true e = rw e (lives.finishes attempt text _ e)
      by false e = rw e (lives.idles _ _)
  of_master attempt _ _ = lives.idles _ _

  of_node : (name : List ℕ) (ask : NodeAsk) (reply : Reply) → LifeOutcome m (messages.Node name ask) reply (life_after_node m name ask reply)
  of_node name (nodes.Register turn capability running) (replies.NodeRegistered told epoch) = by (is_later_turn turn (judged_node m.life.nodes name)) refl
    where
      by : (b : Bool) → is_later_turn turn (judged_node m.life.nodes name) ≡ b
          → LifeOutcome m (messages.Node name (nodes.Register turn capability running)) (replies.NodeRegistered told epoch) (life_after_node m name (nodes.Register turn capability running) (replies.NodeRegistered told epoch))
      by true e = rw e (lives.enrolls name turn capability running _ e)
      by false e = rw e (lives.idles _ _)
  of_node name (nodes.Beat id running done) (replies.Beat next launched clean) = by (is_new_to_node m name id) refl
    where
      by : (b : Bool) → is_new_to_node m name id ≡ b → LifeOutcome m (messages.Node name (nodes.Beat id running done)) (replies.Beat next launched clean) (life_after_node m name (nodes.Beat id running done) (replies.Beat next launched clean))
      by true e = rw e (lives.beats name id running done launched _ e)
      by false e = rw e (lives.idles _ _)
  of_node name _ _ = lives.idles _ _

  of_clock : (ask : ClockAsk) (reply : Reply) → LifeOutcome m (messages.Clock ask) reply (life_after_clock m ask reply)
  of_clock (clocks.Tick time) replies.Ok = lives.ticks time _
  of_clock (clocks.ExpireNode name) replies.Ok = lives.loses name _
  of_clock (clocks.ExpireMaster attempt) replies.Ok = lives.expires attempt _
  of_clock _ _ = lives.idles _ _

  -- each message
  pub life_outcome : (message : Message) (reply : Reply) → LifeOutcome m message reply (life_after m message reply)
  life_outcome (messages.Client user ask) reply = of_client user ask reply
  life_outcome (messages.Master attempt ask) reply = of_master attempt ask reply
  life_outcome (messages.Node name ask) reply = of_node name ask reply
  life_outcome (messages.Clock ask) reply = of_clock ask reply
