-- The one text of each message, store operation and reply. This project's own.
use Rattle.std.specs.Prelude.{ℕ, Bool, true, false, List, [], ◌∷◌, ◌++◌, map, codes}
use Rattle.std.specs.List.{join_with_byte}
use Rattle.std.specs.Fmt.{decimal}
use Rattle.rm_types.specs.declared.containers.Ask.{Ask}
use Rattle.rm_types.specs.declared.containers.Cause.{Cause}
use Rattle.rm_types.specs.declared.containers.Cause.TheVariants.{Done, Released, Node as NodeLost, Attempt as AttemptOver, Gone as NotTaken}
use Rattle.rm_types.specs.declared.containers.Closing.{Closing}
use Rattle.rm_types.specs.declared.containers.Grant.{Grant}
use Rattle.rm_types.specs.declared.containers.Held.{Held}
use Rattle.rm_types.specs.declared.messages.ClientAsk.{ClientAsk}
use Rattle.rm_types.specs.declared.messages.ClientAsk.TheVariants.{New, Submit, Report, Kill}
use Rattle.rm_types.specs.declared.messages.ClockAsk.{ClockAsk}
use Rattle.rm_types.specs.declared.messages.ClockAsk.TheVariants.{Tick, ExpireNode, ExpireMaster}
use Rattle.rm_types.specs.declared.messages.MasterAsk.{MasterAsk}
use Rattle.rm_types.specs.declared.messages.MasterAsk.TheVariants.{Register, Finish, Allocate}
use Rattle.rm_types.specs.declared.messages.NodeAsk.{NodeAsk}
use Rattle.rm_types.specs.declared.messages.NodeAsk.TheVariants.{Register as Join, Beat}
use Rattle.rm_types.specs.declared.messages.Message.{Message}
use Rattle.rm_types.specs.declared.messages.Message.TheVariants.{Client, Master, Node, Clock}
use Rattle.rm_types.specs.declared.operations.How.{How}
use Rattle.rm_types.specs.declared.operations.How.TheVariants.{Finished, Failed, Killed}
use Rattle.rm_types.specs.declared.operations.Op.{Op}
use Rattle.rm_types.specs.declared.operations.Op.TheVariants.{Epoch, App, Attempt, AttemptEnd, AppEnd, Remove}
use Rattle.rm_types.specs.declared.operations.Submission.{Submission}
use Rattle.rm_types.specs.declared.replies.AclOp.{AclOp}
use Rattle.rm_types.specs.declared.replies.AclOp.TheVariants.{Submit as ToSubmit, Kill as ToKill}
use Rattle.rm_types.specs.declared.replies.Denial.{Denial}
use Rattle.rm_types.specs.declared.replies.Report.{Report as ReportOf}
use Rattle.rm_types.specs.declared.replies.StateWord.{StateWord}
use Rattle.rm_types.specs.declared.replies.StateWord.TheVariants as states
use Rattle.rm_types.specs.declared.replies.Reply.{Reply}
use Rattle.rm_types.specs.declared.replies.Reply.TheVariants as replies
use Rattle.rm_formats.specs.IdTexts.{app_text, attempt_text, container_text}

-- words with one space between each two
abbrev pub spaced : List (List ℕ) → List ℕ
spaced words = join_with_byte 32 words

-- items with a comma between each two
abbrev pub listed : List (List ℕ) → List ℕ
listed items = join_with_byte 44 items

-- a list in brackets
abbrev pub bracketed : List (List ℕ) → List ℕ
bracketed items = codes "[" ++ (listed items ++ codes "]")

-- a word that stands only where it has items
abbrev pub list_word : List ℕ → List (List ℕ) → List (List ℕ)
list_word name [] = []
list_word name (item ∷ items) = (name ++ listed (item ∷ items)) ∷ []

-- a word that stands only where its text isn't empty
abbrev pub text_word : List ℕ → List ℕ → List (List ℕ)
text_word name [] = []
text_word name (byte ∷ bytes) = (name ++ (byte ∷ bytes)) ∷ []

-- a container that runs, with its memory and vcores
abbrev pub held_text : Held → List ℕ
held_text held = container_text held.id ++ (codes ":" ++ (decimal held.size.memory_mb ++ (codes ":" ++ decimal held.size.vcores)))

-- an ask: its priority, how many, memory and vcores
abbrev pub ask_text : Ask → List ℕ
ask_text ask =
    decimal ask.priority ++ (codes ":" ++ (decimal ask.count ++ (codes ":" ++ (decimal ask.size.memory_mb ++ (codes ":" ++ decimal ask.size.vcores)))))

-- a word that stands only where something is so
abbrev pub yes_word : List ℕ → Bool → List (List ℕ)
yes_word key true = (key ++ codes "yes") ∷ []
yes_word key false = []

-- what a client submits, after the application's id: the user stands elsewhere
abbrev pub submission_words : Submission → List (List ℕ)
submission_words submission =
    (codes "queue=" ++ submission.queue)
    ∷ (codes "name=" ++ submission.name)
    ∷ (codes "memory=" ++ decimal submission.master.memory_mb)
    ∷ (codes "vcores=" ++ decimal submission.master.vcores)
    ∷ (codes "attempts=" ++ decimal submission.attempts)
    ∷ yes_word (codes "keep=") submission.keep
    ++ text_word (codes "modify=") submission.modify

-- what a client asks, after its name
abbrev pub client_words : ClientAsk → List (List ℕ)
client_words New = codes "new" ∷ []
client_words (Submit id submission) = codes "submit" ∷ app_text id ∷ submission_words submission
client_words (Report id) = codes "report" ∷ app_text id ∷ []
client_words (Kill id) = codes "kill" ∷ app_text id ∷ []

-- what a master asks, after its attempt
abbrev pub master_words : MasterAsk → List (List ℕ)
master_words Register = codes "register" ∷ []
master_words (Finish text) = codes "finish" ∷ text ∷ []
master_words (Allocate id asks release) =
    codes "allocate" ∷ decimal id ∷ list_word (codes "ask=") (map ask_text asks) ++ list_word (codes "release=") (map container_text release)

-- what a node says, after its name
abbrev pub node_words : NodeAsk → List (List ℕ)
node_words (Join turn capability running) =
    codes "register"
    ∷ decimal turn
    ∷ (codes "memory=" ++ decimal capability.memory_mb)
    ∷ (codes "vcores=" ++ decimal capability.vcores)
    ∷ list_word (codes "running=") (map held_text running)
node_words (Beat id running done) =
    codes "beat" ∷ decimal id ∷ list_word (codes "running=") (map held_text running) ++ list_word (codes "done=") (map container_text done)

-- what the clock says
abbrev pub clock_words : ClockAsk → List (List ℕ)
clock_words (Tick time) = codes "tick" ∷ decimal time ∷ []
clock_words (ExpireNode node) = codes "expire" ∷ codes "node" ∷ node ∷ []
clock_words (ExpireMaster attempt) = codes "expire" ∷ codes "master" ∷ attempt_text attempt ∷ []

-- a message: who sends it, and what it asks
abbrev pub message_words : Message → List (List ℕ)
message_words (Client user ask) = codes "client" ∷ user ∷ client_words ask
message_words (Master attempt ask) = codes "master" ∷ attempt_text attempt ∷ master_words ask
message_words (Node node ask) = codes "node" ∷ node ∷ node_words ask
message_words (Clock ask) = codes "clock" ∷ clock_words ask

-- the words of a message, with a space between each two
abbrev pub message_text : Message → List ℕ
message_text message = spaced (message_words message)

-- how an attempt or an application ended
abbrev pub how_text : How → List ℕ
how_text Finished = codes "FINISHED"
how_text Failed = codes "FAILED"
how_text Killed = codes "KILLED"

-- a store operation
abbrev pub op_words : Op → List (List ℕ)
op_words (Epoch next stamp) = codes "epoch" ∷ (codes "next=" ++ decimal next) ∷ (codes "stamp=" ++ decimal stamp) ∷ []
op_words (App id submission) = codes "app" ∷ app_text id ∷ (codes "user=" ++ submission.user) ∷ submission_words submission
op_words (Attempt id master node) = codes "attempt" ∷ attempt_text id ∷ (codes "master=" ++ container_text master) ∷ (codes "node=" ++ node) ∷ []
op_words (AttemptEnd id how text) = codes "attempt-end" ∷ attempt_text id ∷ how_text how ∷ (codes "text=" ++ text) ∷ []
op_words (AppEnd id how text) = codes "app-end" ∷ app_text id ∷ how_text how ∷ (codes "text=" ++ text) ∷ []
op_words (Remove id) = codes "remove" ∷ app_text id ∷ []

-- the words of a store operation, with a space between each two
abbrev pub op_text : Op → List ℕ
op_text op = spaced (op_words op)

-- the state of an application
abbrev pub state_text : StateWord → List ℕ
state_text states.New = codes "NEW"
state_text states.NewSaving = codes "NEW_SAVING"
state_text states.Submitted = codes "SUBMITTED"
state_text states.Accepted = codes "ACCEPTED"
state_text states.Running = codes "RUNNING"
state_text states.Finished = codes "FINISHED"
state_text states.Failed = codes "FAILED"
state_text states.Killed = codes "KILLED"

-- why a container ended
abbrev pub cause_text : Cause → List ℕ
cause_text Done = codes "done"
cause_text Released = codes "released"
cause_text NodeLost = codes "node"
cause_text AttemptOver = codes "attempt"
cause_text NotTaken = codes "gone"

-- a container that was granted, and where
abbrev pub grant_text : Grant → List ℕ
grant_text grant = container_text grant.id ++ (codes "@" ++ grant.node)

-- a container that ended, and why
abbrev pub closing_text : Closing → List ℕ
closing_text closing = container_text closing.id ++ (codes ":" ++ cause_text closing.cause)

-- what a right was asked for
abbrev pub acl_op_text : AclOp → List ℕ
acl_op_text ToSubmit = codes "submit"
acl_op_text ToKill = codes "kill"

-- a right that wasn't there, with the lists that were consulted
abbrev pub denial_words : Denial → List (List ℕ)
denial_words denial = codes "DENIED" ∷ acl_op_text denial.op ∷ denial.queue ∷ codes "by" ∷ listed denial.lists ∷ []

-- what a client is told of an application
abbrev pub report_words : ReportOf → List (List ℕ)
report_words report =
    codes "report"
    ∷ (codes "state=" ++ state_text report.state)
    ∷ (codes "user=" ++ report.user)
    ∷ (codes "queue=" ++ report.queue)
    ∷ (codes "name=" ++ report.name)
    ∷ (codes "attempts=" ++ decimal report.attempts)
    ∷ (codes "live=" ++ decimal report.live)
    ∷ (codes "text=" ++ report.text)
    ∷ []

-- a reply
abbrev pub reply_words : Reply → List (List ℕ)
reply_words replies.NotOpen = codes "NOTOPEN" ∷ []
reply_words (replies.New id) = codes "new" ∷ app_text id ∷ []
reply_words replies.Submitted = codes "submitted" ∷ []
reply_words replies.BadId = codes "BADID" ∷ []
reply_words replies.Retired = codes "RETIRED" ∷ []
reply_words replies.NoQueue = codes "NOQUEUE" ∷ []
reply_words (replies.Denied denial) = denial_words denial
reply_words replies.TooLarge = codes "TOOLARGE" ∷ []
reply_words replies.Full = codes "FULL" ∷ []
reply_words replies.Unknown = codes "UNKNOWN" ∷ []
reply_words (replies.Report report) = report_words report
reply_words replies.Killing = codes "killing" ∷ []
reply_words replies.AppEnded = codes "ended" ∷ []
reply_words replies.MasterRegistered = codes "registered" ∷ []
reply_words (replies.Took kept) = codes "registered" ∷ (codes "kept=" ++ bracketed (map grant_text kept)) ∷ []
reply_words replies.Already = codes "ALREADY" ∷ []
reply_words replies.Gone = codes "GONE" ∷ []
reply_words replies.Resync = codes "RESYNC" ∷ []
reply_words replies.WrongId = codes "WRONGID" ∷ []
reply_words replies.NotRegistered = codes "NOTREGISTERED" ∷ []
reply_words replies.Finishing = codes "finishing" ∷ []
reply_words replies.Finished = codes "finished" ∷ []
reply_words (replies.Allocated id grants ended) =
    codes "allocated"
    ∷ (codes "id=" ++ decimal id)
    ∷ (codes "grants=" ++ bracketed (map grant_text grants))
    ∷ (codes "ended=" ++ bracketed (map closing_text ended))
    ∷ []
reply_words (replies.NodeRegistered turn epoch) = codes "registered" ∷ (codes "turn=" ++ decimal turn) ∷ (codes "epoch=" ++ decimal epoch) ∷ []
reply_words (replies.Beat id launch clean) =
    codes "beat"
    ∷ (codes "id=" ++ decimal id)
    ∷ (codes "launch=" ++ bracketed (map container_text launch))
    ∷ (codes "clean=" ++ bracketed (map container_text clean))
    ∷ []
reply_words replies.Ok = codes "ok" ∷ []

-- the words of a reply, with a space between each two
abbrev pub reply_text : Reply → List ℕ
reply_text reply = spaced (reply_words reply)
