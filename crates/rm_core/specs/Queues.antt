-- The manager's tables after a log: its own way, entry by entry, of which the judge knows nothing. A log tells which queue each of its
-- entries came from, so that the two queues after it can be read off it.
use Rattle.std.specs.Prelude.{◌+◌, ℕ, List, [], ◌∷◌, Bool, true, false, fold, take, if◌then◌else◌}
use Rattle.std.specs.declared.alloc.Global.{Global}
use Rattle.rm_types.specs.declared.entries.Entry.{Entry}
use Rattle.rm_types.specs.declared.entries.Entry.TheVariants.{Absorbed, Accepted, Blown, Down, Ended, Handed, Issued, Kept, Opened, Ordered, Pass, Queued, Quiet, Served, Settled}
use Rattle.rm_types.specs.declared.ids.ContainerId.{ContainerId}
use Rattle.rm_types.specs.declared.messages.Lane.{Lane}
use Rattle.rm_types.specs.declared.messages.Lane.TheVariants.{Main, Sched}
use Rattle.rm_types.specs.declared.messages.Message.{Message}
use Rattle.rm_types.specs.declared.messages.Message.TheVariants as messages
use Rattle.rm_types.specs.declared.operations.Op.{Op}
use Rattle.rm_types.specs.declared.replies.Reply.{Reply}
use Rattle.rm_types.specs.declared.settings.Settings.{Settings}
use Rattle.rm_types.specs.Records.{Records, recorded, records}
use Rattle.rm_tree.specs.Shows.{shows}
use Rattle.rm_tables.specs.declared.events.MainEvent.{MainEvent}
use Rattle.rm_tables.specs.declared.events.SchedEvent.{SchedEvent}
use Rattle.rm_tables.specs.declared.tables.Tables.{Tables}
use Rattle.rm_tables.specs.Actions.{main_worked, sched_worked}
use Rattle.rm_tables.specs.KeptOps.{kept}
use Rattle.rm_tables.specs.Lives.{begun, tables_gone_down, handed_out, no_life, refused}
use Rattle.rm_tables.specs.MainEvents.{main_step}
use Rattle.rm_tables.specs.SchedEvents.{sched_step}
use Rattle.rm_client.specs.Answers.{after_client}
use Rattle.rm_master.specs.Answers.{after_master}
use Rattle.rm_tracker.specs.Answers.{after_clock, after_node}

-- before the first life, over a store that holds these operations
abbrev pub unopened : Global → Settings → List Op → Tables
unopened alloc settings opening = record (no_life alloc settings) { tree = records opening }

-- the first event of the main queue is worked off, and of the scheduler's, where there is one; these containers end by it
abbrev pub main_moved : List MainEvent → Tables → Tables
main_moved [] t = t
main_moved (event ∷ rest) t = (main_worked (main_step event t)).1

-- the first event of the scheduler's queue is worked off, where there is one; these containers end by it
abbrev pub sched_moved : List SchedEvent → List ContainerId → Tables → Tables
sched_moved [] list t = t
sched_moved (event ∷ rest) list t = (sched_worked (sched_step event list t)).1

-- an event of a queue had nothing to do
abbrev pub quiet_moved : Lane → Tables → Tables
quiet_moved Main t = main_moved t.main t
quiet_moved Sched t = sched_moved t.sched [] t
quiet_moved _ t = t

-- the tables after a message was answered
abbrev pub after_answer : Message → Reply → Tables → Tables
after_answer (messages.Client user ask) reply t = after_client ask reply t
after_answer (messages.Master attempt ask) reply t = after_master attempt ask reply t
after_answer (messages.Node name ask) reply t = after_node name ask reply t
after_answer (messages.Clock ask) reply t = after_clock ask reply t

-- before the life is open nothing of them does
abbrev pub answered_where : Bool → Message → Reply → Tables → Tables
answered_where true message reply t = after_answer message reply t
answered_where false message reply t = t

-- and it is counted
abbrev pub served_moved : Message → Reply → Tables → Tables
served_moved message reply t = record (answered_where t.is_open message reply t) { served = t.served + 1 }

-- how many of the awaiting operations a tree shows after a life that blew: the first, or none
abbrev pub landed_first : List Op → Records → ℕ
landed_first [] tree = 0
landed_first (op ∷ rest) tree = if shows tree op then 1 else 0

-- how many of the awaiting operations landed, by a tree of what is stored: none unless the last life blew
abbrev pub landed_where : Bool → List Op → Records → ℕ
landed_where true awaiting tree = landed_first awaiting tree
landed_where false awaiting tree = 0

-- how many landed over the tree with which the next life begins
abbrev pub landed_in : Tables → Records → ℕ
landed_in t tree = landed_where t.blown t.awaiting tree

-- what is recorded once so many of the awaiting operations have landed
abbrev pub tree_landed : ℕ → Tables → Records
tree_landed landed t = fold recorded t.tree (take landed t.awaiting)

-- what a life begins over: the first one over what is handed to it, a later one over what the manager itself has recorded, with what landed
abbrev pub own_tree : List Entry → Tables → Records → Records
own_tree [] t tree = tree
own_tree (e ∷ log) t tree = tree_landed (landed_in t tree) t

-- the tables after one more entry
abbrev pub tables_moved : Tables → Entry → Tables
tables_moved t (Opened landed epoch stamp) = begun (tree_landed landed t) stamp t
tables_moved t (Issued op) = main_moved t.main t
tables_moved t Handed = handed_out t
tables_moved t (Kept op) = kept op t
tables_moved t (Blown passed) = refused t
tables_moved t (Served sender message reply) = served_moved message reply t
tables_moved t (Accepted app) = main_moved t.main t
tables_moved t (Queued attempt) = sched_moved t.sched [] t
tables_moved t (Absorbed node taken ended) = sched_moved t.sched ended t
tables_moved t (Pass node grants) = sched_moved t.sched [] t
tables_moved t (Ordered container node) = main_moved t.main t
tables_moved t (Ended cause list) = sched_moved t.sched list t
tables_moved t Settled = t
tables_moved t Down = tables_gone_down t
tables_moved t (Quiet lane) = quiet_moved lane t

-- the tables after a log over a store that held the opening list
abbrev pub tables_after : Global → Settings → List Op → List Entry → Tables
tables_after alloc settings opening log = fold tables_moved (unopened alloc settings opening) log
