-- How much is left to do before all is at rest: each move of the manager's own makes it less. It is a sum over the events of both queues, the
-- operations that await, the rows of applications, those that are completed, and the rows of the book. This project's own.
use Rattle.std.specs.Prelude.{ℕ, ◌+◌, ◌*◌, ◌-◌, List, Bool, true, false, Option, None, Some, length}
use Rattle.std.specs.List.{sum_by}
use Rattle.std.specs.Map.{values_of}
use Rattle.rm_types.specs.declared.ids.AppId.{AppId}
use Rattle.rm_types.specs.declared.operations.Op.{Op}
use Rattle.rm_types.specs.declared.operations.Op.TheVariants as ops
use Rattle.rm_types.specs.declared.records.AppRecord.{AppRecord}
use Rattle.rm_types.specs.declared.settings.Settings.{Settings}
use Rattle.rm_types.specs.Records.{Records}
use Rattle.rm_states.specs.declared.app.states.AppState.{AppState}
use Rattle.rm_states.specs.declared.app.states.AppState.TheVariants as apps
use Rattle.rm_states.specs.declared.attempt.states.AttemptState.{AttemptState}
use Rattle.rm_states.specs.declared.attempt.states.AttemptState.TheVariants as attempts
use Rattle.rm_tables.specs.declared.events.MainEvent.{MainEvent}
use Rattle.rm_tables.specs.declared.events.MainEvent.TheVariants as mains
use Rattle.rm_tables.specs.declared.events.SchedEvent.{SchedEvent}
use Rattle.rm_tables.specs.declared.events.SchedEvent.TheVariants as scheds
use Rattle.rm_tables.specs.declared.rows.AppRow.{AppRow}
use Rattle.rm_tables.specs.declared.rows.Current.{Current}
use Rattle.rm_tables.specs.declared.tables.Tables.{Tables}

-- a pass grants at most so many containers, and a node reports at most so many
abbrev pub most_grants : ℕ
most_grants = 256

-- a node reports at most so many containers
abbrev pub most_reported : ℕ
most_reported = 1000

-- an application that is completed may be removed: it weighs more than its Remove
abbrev pub completed_measure : ℕ
completed_measure = 3

-- the end of an attempt weighs more than what follows once it is kept: an AttemptRemoved and an AttemptDone
abbrev pub attempt_end_measure : ℕ
attempt_end_measure = 4

-- an attempt weighs more than its AttemptSaved, and its end
abbrev pub attempt_op_measure : ℕ
attempt_op_measure = 7

-- the end of an application weighs more than what follows once it is kept: an AttemptRemoved, a Retire, and its removal
abbrev pub app_end_measure : ℕ
app_end_measure = 7

-- an attempt that may follow weighs more than one that isn't issued
abbrev pub next_measure : ℕ
next_measure = 8

-- an application that was saved weighs its end, and each attempt that it may have
abbrev pub untried_measure : ℕ → ℕ
untried_measure most = app_end_measure + next_measure * most

-- an App weighs more than its AppSaved, and its application once it is saved
abbrev pub app_op_measure : ℕ → ℕ
app_op_measure most = 5 + untried_measure most

-- an event of the main queue weighs more than all that it posts or issues, beside what the rows of applications weigh
abbrev pub main_measure : ℕ → MainEvent → ℕ
main_measure most mains.EpochStart = 4
main_measure most (mains.AppStart id) = 1 + app_op_measure most
main_measure most (mains.AppSaved id) = 3
main_measure most (mains.AppAccepted id) = 1
main_measure most (mains.AppKill id) = 1
main_measure most (mains.MasterGranted container) = 2
main_measure most (mains.AttemptSaved id) = 1
main_measure most (mains.MasterLost container) = 1
main_measure most (mains.AttemptExpired id) = 1
main_measure most (mains.AttemptFinish id) = 1
main_measure most (mains.AttemptDone id) = 1
main_measure most mains.Retire = 1

-- and so does one of the scheduler's: a beat may enter as many rows as a pass grants, each with its MasterGranted, a registration as many as
-- a node reports, and of what a node lists as done each may bring a MasterLost without having a row
abbrev pub sched_measure : SchedEvent → ℕ
sched_measure (scheds.AppAdded id) = 2
sched_measure (scheds.AttemptRecovered id) = 1
sched_measure (scheds.AttemptAdded id) = 1
sched_measure (scheds.AttemptRemoved id) = 1
sched_measure (scheds.Release attempt released) = 1
sched_measure (scheds.NodeAdded node turn) = 1 + most_reported
sched_measure (scheds.NodeDone node done) = 1 + length done
sched_measure (scheds.NodeUpdate node) = 1 + 3 * most_grants
sched_measure (scheds.NodeLost node) = 1

-- an operation that awaits weighs more than what follows once it is kept
abbrev pub op_measure : ℕ → Op → ℕ
op_measure most (ops.Epoch next stamp) = 3
op_measure most (ops.App id submission) = app_op_measure most
op_measure most (ops.Attempt id master node) = attempt_op_measure
op_measure most (ops.AttemptEnd id how text) = attempt_end_measure
op_measure most (ops.AppEnd id how text) = app_end_measure
op_measure most (ops.Remove id) = 2

-- an attempt weighs what is still to be issued of it: itself and its end, its end, or nothing; and so does the current one, where there is one
abbrev pub attempt_measure : AttemptState → ℕ
attempt_measure attempts.Scheduled = attempt_op_measure
attempt_measure attempts.Granted = attempt_op_measure
attempt_measure attempts.Saving = 0
attempt_measure attempts.Live = attempt_end_measure
attempt_measure attempts.Registered = attempt_end_measure
attempt_measure attempts.Finishing = attempt_end_measure
attempt_measure attempts.Ending = 0
attempt_measure attempts.Ended = 0
attempt_measure attempts.Dropped = 0

-- the current attempt counts what is still to be issued of it, where there is one
abbrev pub current_measure : Option Current → ℕ
current_measure None = 0
current_measure (Some current) = attempt_measure current.state

-- the number of the current attempt, and 0 where there is none
abbrev pub current_number : Option Current → ℕ
current_number None = 0
current_number (Some current) = current.number

-- an application weighs its end, until that is issued, and each attempt that may come after its current one
abbrev pub app_measure : ℕ → AppState → ℕ → ℕ
app_measure most apps.New number = 0
app_measure most apps.NewSaving number = 0
app_measure most apps.Submitted number = untried_measure most
app_measure most apps.Accepted number = app_end_measure + next_measure * (most - number)
app_measure most apps.Running number = app_end_measure + next_measure * (most - number)
app_measure most apps.Killing number = app_end_measure + next_measure * (most - number)
app_measure most apps.FinalSaving number = 0
app_measure most apps.Finished number = 0
app_measure most apps.Failed number = 0
app_measure most apps.Killed number = 0

-- a row weighs its application and its current attempt, and a slot its row: nothing where the application was removed
abbrev pub row_measure : ℕ → AppRow → ℕ
row_measure most row = app_measure most row.state (current_number row.current) + current_measure row.current

-- a slot counts its row, and nothing where the application was removed
abbrev pub slot_measure : ℕ → Option AppRow → ℕ
slot_measure most None = 0
slot_measure most (Some row) = row_measure most row

-- the rows of all applications weigh what each of them does
abbrev pub rows_measure : ℕ → List (AppId × Option AppRow) → ℕ
rows_measure most rows = sum_by (slot_measure most) (values_of rows)

-- an operation weighs 1 more until it is handed, and the store 2 until it refuses one
abbrev pub one_unless : Bool → ℕ
one_unless true = 0
one_unless false = 1

-- until a life that stands is open, it is still to go through what is recorded: of each application it posts an AppSaved, an AttemptDone, an
-- AttemptRecovered or nothing
abbrev pub opening_measure : Bool → Bool → List AppRecord → ℕ
opening_measure true alive apps = 0
opening_measure false true apps = 3 * length apps
opening_measure false false apps = 0

-- the weight of what is left, where an application may have so many attempts; a container in the book weighs the MasterLost that its leaving may
-- post
abbrev pub measure_with : ℕ → Tables → ℕ
measure_with most t =
    sum_by (main_measure most) t.main
    + (sum_by sched_measure t.sched
    + (sum_by (op_measure most) t.awaiting
    + (rows_measure most t.rows
    + (completed_measure * length t.ended
    + (length t.book.rows
    + (one_unless t.handed + (2 * one_unless t.blown + opening_measure t.is_open t.alive t.tree.apps)))))))

-- how much is left to do in all, by the number of attempts that the settings allow
abbrev pub measure : Tables → ℕ
measure t = measure_with t.settings.max_attempts t

-- a life begins with at most so much, whatever is recorded: its EpochStart, and for each recorded application what it opens with, its row, and its removal
abbrev pub begin_measure : Settings → Records → ℕ
begin_measure settings tree = 7 + (10 + untried_measure settings.max_attempts) * length tree.apps

-- a message adds at most so much: the most is where a node's beat lists what is done, and is to be answered by a pass
abbrev pub message_measure : ℕ
message_measure = 2 + most_reported + 3 * most_grants
