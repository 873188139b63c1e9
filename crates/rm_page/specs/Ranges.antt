-- The values of which the laws of the page's wording speak: ids and texts are in their ranges, and each number fits the
-- bits that it has.
use Rattle.std.specs.Prelude.{◌≡◌, ℕ, ◌^◌, ◌<◌, List, All}
use Rattle.rm_types.specs.declared.containers.Ask.{Ask}
use Rattle.rm_types.specs.declared.containers.Closing.{Closing}
use Rattle.rm_types.specs.declared.containers.Grant.{Grant}
use Rattle.rm_types.specs.declared.containers.Held.{Held}
use Rattle.rm_types.specs.declared.entries.Entry.{Entry}
use Rattle.rm_types.specs.declared.entries.Entry.TheVariants as entries
use Rattle.rm_types.specs.declared.messages.ClientAsk.{ClientAsk}
use Rattle.rm_types.specs.declared.messages.ClientAsk.TheVariants as clients
use Rattle.rm_types.specs.declared.messages.ClockAsk.{ClockAsk}
use Rattle.rm_types.specs.declared.messages.ClockAsk.TheVariants as clocks
use Rattle.rm_types.specs.declared.messages.MasterAsk.{MasterAsk}
use Rattle.rm_types.specs.declared.messages.MasterAsk.TheVariants as masters
use Rattle.rm_types.specs.declared.messages.Message.{Message}
use Rattle.rm_types.specs.declared.messages.Message.TheVariants as messages
use Rattle.rm_types.specs.declared.messages.NodeAsk.{NodeAsk}
use Rattle.rm_types.specs.declared.messages.NodeAsk.TheVariants as nodes
use Rattle.rm_types.specs.declared.replies.Denial.{Denial}
use Rattle.rm_types.specs.declared.replies.Reply.{Reply}
use Rattle.rm_types.specs.declared.replies.Reply.TheVariants as replies
use Rattle.rm_types.specs.declared.replies.Report.{Report}
use Rattle.rm_types.specs.declared.texts.TextKind.TheVariants.{Name, Node, Queue, Note}
use Rattle.rm_types.specs.Ranges.{IsText, IsSubmission, IsOperation, IsAppId, IsAttemptId, IsContainerId}
use Rattle.rm_types.specs.Resources.{IsInRange}

-- a number of 32 bits
abbrev pub IsWord32 : ℕ → Type 0
IsWord32 number = number < 2 ^ 32

-- a number of 64 bits
abbrev pub IsWord64 : ℕ → Type 0
IsWord64 number = number < 2 ^ 64

-- a container that a node reports, with its size
pub record IsPageHeld (held : Held) : Type 0 where
  pub id : IsContainerId held.id
  pub size : IsInRange held.size

-- what a master asks for
pub record IsPageAsk (ask : Ask) : Type 0 where
  pub priority : IsWord32 ask.priority
  pub count : IsWord32 ask.count
  pub size : IsInRange ask.size

-- a granted container and its node
pub record IsGrant (grant : Grant) : Type 0 where
  pub id : IsContainerId grant.id
  pub node : IsText Node grant.node

-- a container that ended
abbrev pub IsClosing : Closing → Type 0
IsClosing closing = IsContainerId closing.id

-- what a client asks; who submits is who sends it
abbrev pub IsPageClientAsk : List ℕ → ClientAsk → Type 0
IsPageClientAsk user clients.New = Unit {0}
IsPageClientAsk user (clients.Submit id submission) = IsAppId id × IsSubmission submission × (submission.user ≡ user)
IsPageClientAsk user (clients.Report id) = IsAppId id
IsPageClientAsk user (clients.Kill id) = IsAppId id

-- what a master asks
abbrev pub IsPageMasterAsk : MasterAsk → Type 0
IsPageMasterAsk masters.Register = Unit {0}
IsPageMasterAsk (masters.Finish text) = IsText Note text
IsPageMasterAsk (masters.Allocate id asks release) = IsWord32 id × All IsPageAsk asks × All IsContainerId release

-- what a node says
abbrev pub IsPageNodeAsk : NodeAsk → Type 0
IsPageNodeAsk (nodes.Register turn capability running) = IsWord32 turn × IsInRange capability × All IsPageHeld running
IsPageNodeAsk (nodes.Beat id running done) = IsWord32 id × All IsPageHeld running × All IsContainerId done

-- what the clock says
abbrev pub IsPageClockAsk : ClockAsk → Type 0
IsPageClockAsk (clocks.Tick time) = IsWord64 time
IsPageClockAsk (clocks.ExpireNode node) = IsText Node node
IsPageClockAsk (clocks.ExpireMaster attempt) = IsAttemptId attempt

-- a message
abbrev pub IsPageMessage : Message → Type 0
IsPageMessage (messages.Client user ask) = IsText Name user × IsPageClientAsk user ask
IsPageMessage (messages.Master attempt ask) = IsAttemptId attempt × IsPageMasterAsk ask
IsPageMessage (messages.Node node ask) = IsText Node node × IsPageNodeAsk ask
IsPageMessage (messages.Clock ask) = IsPageClockAsk ask

-- a right that wasn't there; the names of the lists are written as queues are
pub record IsDenial (denial : Denial) : Type 0 where
  pub queue : IsText Queue denial.queue
  pub lists : All (IsText Queue) denial.lists

-- what a client is told of an application
pub record IsPageReport (report : Report) : Type 0 where
  pub user : IsText Name report.user
  pub queue : IsText Queue report.queue
  pub name : IsText Name report.name
  pub attempts : IsWord32 report.attempts
  pub live : IsWord32 report.live
  pub text : IsText Note report.text

-- a reply
abbrev pub IsPageReply : Reply → Type 0
IsPageReply (replies.New id) = IsAppId id
IsPageReply (replies.Denied denial) = IsDenial denial
IsPageReply (replies.Report report) = IsPageReport report
IsPageReply (replies.Took kept) = All IsGrant kept
IsPageReply (replies.Allocated id grants ended) = IsWord32 id × All IsGrant grants × All IsClosing ended
IsPageReply (replies.NodeRegistered turn epoch) = IsWord32 turn × IsWord32 epoch
IsPageReply (replies.Beat id launch clean) = IsWord32 id × All IsContainerId launch × All IsContainerId clean
IsPageReply reply = Unit {0}

-- the message asks for a report
abbrev pub AsksForReport : Message → Type 0
AsksForReport (messages.Client user (clients.Report id)) = Unit {0}
AsksForReport message = ⊥

-- a report answers only who asked for one; any other reply may answer any message
abbrev pub MayAnswer : Message → Reply → Type 0
MayAnswer message (replies.Report report) = AsksForReport message
MayAnswer message reply = Unit {0}

-- a message that was answered
pub record IsPageServed (message : Message) (reply : Reply) : Type 0 where
  pub message_is : IsPageMessage message
  pub reply_is : IsPageReply reply
  pub answers : MayAnswer message reply

-- an entry
abbrev pub IsEntry : Entry → Type 0
IsEntry (entries.Opened landed epoch stamp) = IsWord32 landed × IsWord32 epoch × IsWord64 stamp
IsEntry (entries.Issued op) = IsOperation op
IsEntry entries.Handed = Unit {0}
IsEntry (entries.Kept op) = IsOperation op
IsEntry (entries.Blown passed) = IsWord32 passed
IsEntry (entries.Served sender message reply) = IsPageServed message reply
IsEntry (entries.Accepted app) = IsAppId app
IsEntry (entries.Queued attempt) = IsAttemptId attempt
IsEntry (entries.Absorbed node taken ended) = IsText Node node × All IsPageHeld taken × All IsContainerId ended
IsEntry (entries.Pass node grants) = IsText Node node × All IsGrant grants
IsEntry (entries.Ordered container node) = IsContainerId container × IsText Node node
IsEntry (entries.Ended cause list) = All IsContainerId list
IsEntry entries.Settled = Unit {0}
IsEntry entries.Down = Unit {0}
IsEntry (entries.Quiet lane) = Unit {0}
