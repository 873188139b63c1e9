-- What serving a message does.
use Rattle.std.specs.Prelude.{◌≡◌, List, [], ◌∷◌, ◌++◌, Bool, true, false}
use Rattle.rm_types.specs.declared.entries.Entry.{Entry}
use Rattle.rm_types.specs.declared.entries.Entry.TheVariants.{Served}
use Rattle.rm_types.specs.declared.messages.Message.{Message}
use Rattle.rm_types.specs.declared.messages.Message.TheVariants as messages
use Rattle.rm_types.specs.declared.replies.Reply.{Reply}
use Rattle.rm_types.specs.declared.replies.Reply.TheVariants.{NotOpen}
use Rattle.rm_types.specs.Lanes.{sender_of}
use Rattle.rm_model.specs.ClientReplies.{client_reply}
use Rattle.rm_model.specs.MasterReplies.{master_reply}
use Rattle.rm_model.specs.NodeReplies.{clock_reply, node_reply}
use Rattle.rm_model.specs.State.{Scene}
use Rattle.rm_tables.specs.declared.tables.Tables.{Tables}
use Rattle.rm_refinement.specs.Services.{RefinesLife}
use Rattle.rm_refinement.specs.Clients.{RefinesForClients}
use Rattle.rm_core.specs.Queues.{served_moved}

-- the reply to a message of an open life is the judge's for every scene that the tables show
abbrev pub IsOpenReply : Tables → Message → Reply → Type 0
IsOpenReply t (messages.Client user ask) reply = (m : Scene) → RefinesForClients m t → reply ≡ client_reply t.settings m user ask
IsOpenReply t (messages.Master attempt ask) reply = (m : Scene) → RefinesLife m t → reply ≡ master_reply t.settings m attempt ask
IsOpenReply t (messages.Node name ask) reply = (m : Scene) → RefinesLife m t → reply ≡ node_reply m name ask
IsOpenReply t (messages.Clock ask) reply = (m : Scene) → RefinesLife m t → reply ≡ clock_reply m ask

-- before the life is open each reply is NOTOPEN
abbrev pub IsReplyWhere : Bool → Tables → Message → Reply → Type 0
IsReplyWhere true t message reply = IsOpenReply t message reply
IsReplyWhere false t message reply = reply ≡ NotOpen

-- the message is answered so: as the tables show the judge's scene where the life is open, and else by NOTOPEN
abbrev pub IsReply : Tables → Message → Reply → Type 0
IsReply t message reply = IsReplyWhere t.is_open t message reply

-- a message is answered: its reply is the judge's, the tables change with it, it is counted, and the log has it
abbrev pub IsServed : Tables → Tables → List Entry → List Entry → Message → Type 0
IsServed old new log longer message =
    (reply : Reply) × IsReply old message reply × (new ≡ served_moved message reply old) × (longer ≡ log ++ Served (sender_of message) message reply ∷ [])
