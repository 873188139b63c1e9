-- The words in which a layer above speaks of a manager, whatever its tables are.
use Rattle.std.specs.Prelude.{◌≡◌, ℕ, List, [], Bool, false, Option, fold}
use Rattle.std.specs.declared.alloc.Global.{Global}
use Rattle.rm_types.specs.declared.entries.Entry.{Entry}
use Rattle.rm_types.specs.declared.messages.Lane.{Lane}
use Rattle.rm_types.specs.declared.messages.Message.{Message}
use Rattle.rm_types.specs.declared.operations.Op.{Op}
use Rattle.rm_types.specs.declared.settings.Settings.{Settings}
use Rattle.rm_types.specs.Records.{Records, records}
use Rattle.rm_tables.specs.Lives.{is_ready_lane, may_go_down, no_life}
use Rattle.rm_invariant.specs.messages.Ranges.{IsMessage}
use Rattle.rm_invariant.specs.measure.Measure.{message_measure as weight_added, measure}
use Rattle.rm_core.specs.Queues.{landed_in, own_tree, tables_moved}
use Rattle.rm_core.specs.Seen.{Seen, handed_op}

-- a life stands
abbrev pub stands : Seen → Bool
stands seen = seen.tables.alive

-- an operation is with the store
abbrev pub is_handed : Seen → Bool
is_handed seen = seen.tables.handed

-- an operation of the life was refused by the store; where none stands, of the last one
abbrev pub is_blown : Seen → Bool
is_blown seen = seen.tables.blown

-- so many operations of the last life landed over the tree with which the next one begins
abbrev pub landed_over : Seen → Records → ℕ
landed_over seen tree = landed_in seen.tables tree

-- what the next life begins over
abbrev pub own_over : Seen → Records → Records
own_over seen tree = own_tree seen.log seen.tables tree

-- so many messages were served in the life that stands
abbrev pub served_in : Seen → ℕ
served_in seen = seen.tables.served

-- the parts of the message are in their ranges
abbrev pub IsServable : Message → Type 0
IsServable message = IsMessage message

-- the manager has something to do in this lane
abbrev pub ready_at : Seen → Lane → Bool
ready_at seen lane = is_ready_lane seen.tables lane

-- the life that stands may go down
abbrev pub can_go_down : Seen → Bool
can_go_down seen = may_go_down seen.tables

-- nothing is left to do in either queue, nothing awaits, and nothing is with the store
abbrev pub has_rest : Seen → Type 0
has_rest seen = (seen.tables.main ≡ []) × (seen.tables.sched ≡ []) × (seen.tables.awaiting ≡ []) × (seen.tables.handed ≡ false)

-- how much is left to do before all is at rest
abbrev pub measure_of : Seen → ℕ
measure_of seen = measure seen.tables

-- a message that is served adds so much to it at most
abbrev pub measure_added : ℕ
measure_added = weight_added

-- the operation that is with the store, where one is
abbrev pub handed_of : Seen → Option Op
handed_of seen = handed_op seen.tables

-- a manager before its first life
abbrev pub new_manager : Global → Settings → Seen
new_manager alloc settings = record { settings = settings; tables = no_life alloc settings; log = [] }

-- the same manager before its first life
abbrev pub as_new : Seen → Seen
as_new seen = new_manager seen.tables.alloc seen.tables.settings

-- a new manager after a log over a store that held the opening list: its own way, entry by entry
abbrev pub manager_after : Seen → List Op → List Entry → Seen
manager_after new opening log =
    record { settings = new.settings; tables = fold tables_moved (record new.tables { tree = records opening }) log; log = log }
