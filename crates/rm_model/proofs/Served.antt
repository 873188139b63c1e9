-- Neither a message nor an operation that is issued changes whether an operation is with the store and whether the life is blown.
use Rattle.std.proofs.Common.{ℕ, List, Bool, true, false}
use Rattle.std.specs.Prelude.{if◌then◌else◌}
use Rattle.rm_types.specs.declared.ids.AttemptId.{AttemptId}
use Rattle.rm_types.specs.declared.messages.ClientAsk.{ClientAsk}
use Rattle.rm_types.specs.declared.messages.ClientAsk.TheVariants as clients
use Rattle.rm_types.specs.declared.messages.ClockAsk.{ClockAsk}
use Rattle.rm_types.specs.declared.messages.ClockAsk.TheVariants as clocks
use Rattle.rm_types.specs.declared.messages.MasterAsk.{MasterAsk}
use Rattle.rm_types.specs.declared.messages.MasterAsk.TheVariants as masters
use Rattle.rm_types.specs.declared.messages.Message.{Message}
use Rattle.rm_types.specs.declared.messages.Message.TheVariants as messages
use Rattle.rm_types.specs.declared.messages.NodeAsk.{NodeAsk}
use Rattle.rm_types.specs.declared.messages.NodeAsk.TheVariants as nodes
use Rattle.rm_types.specs.declared.operations.Op.{Op}
use Rattle.rm_types.specs.declared.operations.Op.TheVariants.{AppEnd}
use Rattle.rm_types.specs.declared.replies.Reply.{Reply}
use Rattle.rm_types.specs.declared.replies.Reply.TheVariants as replies
use Rattle.rm_model.specs.Attempts.{is_registered}
use Rattle.rm_model.specs.Changes.{life_issues}
use Rattle.rm_model.specs.ClientReplies.{life_after_client}
use Rattle.rm_model.specs.Facts.{is_known}
use Rattle.rm_model.specs.MasterReplies.{is_new_to_master, life_after_master}
use Rattle.rm_model.specs.NodeReplies.{is_later_turn, is_new_to_node, life_after_clock, life_after_node}
use Rattle.rm_model.specs.Nodes.{judged_node}
use Rattle.rm_model.specs.Replies.{life_after}
use Rattle.rm_model.specs.State.{LifeState, Scene}

module _ (P : Bool → Bool → Type 0) where
  abbrev Says : LifeState → Type 0
  Says life = P life.handed life.blown

  of_either : (b : Bool) (one other : LifeState) → Says one → Says other → Says (if b then one else other)
  of_either true one other h k = h
  of_either false one other h k = k

  of_client : (m : Scene) (ask : ClientAsk) (reply : Reply) → Says m.life → Says (life_after_client m ask reply)
  of_client m clients.New (replies.New id) h = h
  of_client m (clients.Submit id submission) replies.Submitted h = of_either (is_known m id) _ _ h h
  of_client m (clients.Kill id) replies.Killing h = h
  of_client m _ _ h = h

  of_master : (m : Scene) (attempt : AttemptId) (ask : MasterAsk) (reply : Reply) → Says m.life → Says (life_after_master m attempt ask reply)
  of_master m attempt masters.Register replies.MasterRegistered h = h
  of_master m attempt (masters.Allocate id asks release) (replies.Allocated next grants ended) h = of_either (is_new_to_master m attempt id) _ _ h h
  of_master m attempt (masters.Finish text) replies.Finishing h = of_either (is_registered m attempt) _ _ h h
  of_master m attempt _ _ h = h

  of_node : (m : Scene) (name : List ℕ) (ask : NodeAsk) (reply : Reply) → Says m.life → Says (life_after_node m name ask reply)
  of_node m name (nodes.Register turn capability running) (replies.NodeRegistered told epoch) h = of_either (is_later_turn turn (judged_node m.life.nodes name)) _ _ h h
  of_node m name (nodes.Beat id running done) (replies.Beat next launch clean) h = of_either (is_new_to_node m name id) _ _ h h
  of_node m name _ _ h = h

  of_clock : (m : Scene) (ask : ClockAsk) (reply : Reply) → Says m.life → Says (life_after_clock m ask reply)
  of_clock m (clocks.Tick time) replies.Ok h = h
  of_clock m (clocks.ExpireNode name) replies.Ok h = h
  of_clock m (clocks.ExpireMaster attempt) replies.Ok h = h
  of_clock m _ _ h = h

  pub of_served : (m : Scene) (message : Message) (reply : Reply) → Says m.life → Says (life_after m message reply)
  of_served m (messages.Client user ask) reply h = of_client m ask reply h
  of_served m (messages.Master attempt ask) reply h = of_master m attempt ask reply h
  of_served m (messages.Node node ask) reply h = of_node m node ask reply h
  of_served m (messages.Clock ask) reply h = of_clock m ask reply h

  pub of_issued : (m : Scene) (op : Op) → Says m.life → Says (life_issues m op)
  of_issued m (AppEnd id how text) h = h
  of_issued m _ h = h
