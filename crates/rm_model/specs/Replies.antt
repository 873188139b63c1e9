-- What a message is answered, and how its serving changes the life. Each reply is a function of the scene. This project's own.
use Rattle.std.specs.Prelude.{if◌then◌else◌}
use Rattle.rm_types.specs.declared.messages.Message.{Message}
use Rattle.rm_types.specs.declared.messages.Message.TheVariants.{Client as FromClient, Master as FromMaster, Node as FromNode, Clock as FromClock}
use Rattle.rm_types.specs.declared.replies.Reply.{Reply}
use Rattle.rm_types.specs.declared.replies.Reply.TheVariants.{NotOpen}
use Rattle.rm_types.specs.declared.settings.Settings.{Settings}
use Rattle.rm_model.specs.State.{Scene, LifeState}
use Rattle.rm_model.specs.ClientReplies.{client_reply, life_after_client}
use Rattle.rm_model.specs.MasterReplies.{master_reply, life_after_master}
use Rattle.rm_model.specs.NodeReplies.{node_reply, clock_reply, life_after_node, life_after_clock}

-- what an open life answers
abbrev pub open_reply : Settings → Scene → Message → Reply
open_reply settings m (FromClient user ask) = client_reply settings m user ask
open_reply settings m (FromMaster attempt ask) = master_reply settings m attempt ask
open_reply settings m (FromNode node ask) = node_reply m node ask
open_reply settings m (FromClock ask) = clock_reply m ask

-- what a message is answered; before the life is open every reply, to each sender, is NOTOPEN (YARN's services start once the
-- store was read)
abbrev pub reply_to : Settings → Scene → Message → Reply
reply_to settings m message = if m.life.is_open then open_reply settings m message else NotOpen

-- the life after a message was answered
abbrev pub life_after : Scene → Message → Reply → LifeState
life_after m (FromClient user ask) reply = life_after_client m ask reply
life_after m (FromMaster attempt ask) reply = life_after_master m attempt ask reply
life_after m (FromNode node ask) reply = life_after_node m node ask reply
life_after m (FromClock ask) reply = life_after_clock m ask reply
