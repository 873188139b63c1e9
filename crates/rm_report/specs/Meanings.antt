-- What the lines of a page mean, in half a line each. `docs/OPERATING.md` has the same in more words. This project's own.
use Rattle.std.specs.Prelude.{ℕ, List, [], codes, ◌==◌, if◌then◌else◌}
use Rattle.rm_types.specs.declared.containers.Cause.{Cause}
use Rattle.rm_types.specs.declared.containers.Cause.TheVariants as causes
use Rattle.rm_types.specs.declared.entries.Entry.{Entry}
use Rattle.rm_types.specs.declared.entries.Entry.TheVariants as entries
use Rattle.rm_types.specs.declared.operations.Op.{Op}
use Rattle.rm_types.specs.declared.operations.Op.TheVariants as ops
use Rattle.rm_types.specs.declared.replies.Reply.{Reply}
use Rattle.rm_types.specs.declared.replies.Reply.TheVariants as replies

-- an operation that is issued
abbrev pub issued_meaning : Op → List ℕ
issued_meaning (ops.Epoch next stamp) = codes "the life's epoch is on its way to the store"
issued_meaning (ops.App id submission) = codes "the submission is on its way to the store"
issued_meaning (ops.Attempt id master node) = codes "the attempt's master and its node are on their way to the store"
issued_meaning (ops.AttemptEnd id how text) = codes "the end of the attempt is on its way to the store"
issued_meaning (ops.AppEnd id how text) = codes "the end of the application is on its way to the store"
issued_meaning (ops.Remove id) = codes "that the application is forgotten is on its way to the store"

-- an operation that is kept
abbrev pub kept_meaning : Op → List ℕ
kept_meaning (ops.Epoch next stamp) = codes "the life's epoch is kept, and the life answers from here on"
kept_meaning (ops.App id submission) = codes "the submission is kept: no crash takes it back"
kept_meaning (ops.Attempt id master node) = codes "the attempt is kept, and its master may be ordered"
kept_meaning (ops.AttemptEnd id how text) = codes "the end of the attempt is kept"
kept_meaning (ops.AppEnd id how text) = codes "the end of the application is kept: it has its final state"
kept_meaning (ops.Remove id) = codes "the application is forgotten, and its id retired"

-- a reply
abbrev pub reply_meaning : Reply → List ℕ
reply_meaning replies.NotOpen = codes "the life hasn't kept its epoch yet; to be said again later"
reply_meaning (replies.New id) = codes "the id is the client's, to submit under"
reply_meaning replies.Submitted = codes "the submission is taken, and isn't kept yet"
reply_meaning replies.BadId = codes "the id was never given"
reply_meaning replies.Retired = codes "that application was forgotten"
reply_meaning replies.NoQueue = codes "the queue isn't there, or has queues below it"
reply_meaning (replies.Denied denial) = codes "no right: none of the lists that are named admits the user"
reply_meaning replies.TooLarge = codes "a container is greater than the greatest"
reply_meaning replies.Full = codes "as many applications or asks go on as may"
reply_meaning replies.Unknown = codes "the manager knows of none such"
reply_meaning (replies.Report report) = codes "the client is told how the application stands"
reply_meaning replies.Killing = codes "the kill is wished; a wish falls with the life"
reply_meaning replies.AppEnded = codes "the application had ended before the kill"
reply_meaning replies.MasterRegistered = codes "this life knows the master"
reply_meaning (replies.Took kept) = codes "this life knows the master, which is handed the containers of attempts before"
reply_meaning replies.Already = codes "the master had registered in this life"
reply_meaning replies.Gone = codes "the attempt is over, or isn't kept"
reply_meaning replies.Resync = codes "this life doesn't know it, or lost count: it has to register again"
reply_meaning replies.WrongId = codes "the id is neither the last nor the one before"
reply_meaning replies.NotRegistered = codes "the master has to register first"
reply_meaning replies.Finishing = codes "the master's end is on its way to the store"
reply_meaning replies.Finished = codes "the master's end is kept"
reply_meaning (replies.Allocated id grants ended) = codes "the master is told its grants, and the containers that ended"
reply_meaning (replies.NodeRegistered turn epoch) = codes "the node's report waits to be absorbed"
reply_meaning (replies.Beat id launch clean) = codes "the node is told which masters to launch, and what to end"
reply_meaning replies.Ok = codes "the time went on, or the lease ran out"

-- why containers ended
abbrev pub cause_meaning : Cause → List ℕ
cause_meaning causes.Done = codes "the containers ended: their node reported them done"
cause_meaning causes.Released = codes "the containers ended: their master released them"
cause_meaning causes.Node = codes "the containers ended: their node was lost"
cause_meaning causes.Attempt = codes "the containers ended: their attempt is over"
cause_meaning causes.Gone = codes "the containers ended: their node didn't report them, or they weren't taken"

-- a life, by how many operations on their way had landed
abbrev pub opened_meaning : ℕ → List ℕ
opened_meaning landed =
    if landed == 0 then codes "a life begins; landed=0: no operation on its way was kept" else codes "a life begins; landed=1: the operation on its way was kept"

-- the line of an entry; silent ones have none
abbrev pub meaning : Entry → List ℕ
meaning (entries.Opened landed epoch stamp) = opened_meaning landed
meaning (entries.Issued op) = issued_meaning op
meaning entries.Handed = []
meaning (entries.Kept op) = kept_meaning op
meaning (entries.Blown passed) = codes "the store's device refused a call: this life keeps nothing more"
meaning (entries.Served sender message reply) = reply_meaning reply
meaning (entries.Accepted app) = codes "the application is accepted, and an attempt is to follow"
meaning (entries.Queued attempt) = codes "the attempt asks for its master's container"
meaning (entries.Absorbed node taken ended) = codes "the node's report is absorbed: what it runs is taken in again, or ended"
meaning (entries.Pass node grants) = codes "the node's beat is answered with grants"
meaning (entries.Ordered container node) = codes "the master's container is ordered on its node"
meaning (entries.Ended cause list) = cause_meaning cause
meaning entries.Settled = codes "all was worked off"
meaning entries.Down = codes "the manager goes down"
meaning (entries.Quiet lane) = []
