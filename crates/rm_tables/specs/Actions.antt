-- What the manager does to its tables, each action once: what it logs, and the tables after it. This project's own way, of which
-- the judge knows nothing.
use Rattle.std.specs.Prelude.{ℕ, ◌+◌, List, [], ◌∷◌, ◌++◌, Option, drop, length}
use Rattle.rm_types.specs.declared.entries.Entry.{Entry}
use Rattle.rm_types.specs.declared.entries.Entry.TheVariants.{Issued, Quiet}
use Rattle.rm_types.specs.declared.ids.AppId.{AppId}
use Rattle.rm_types.specs.declared.ids.AttemptId.{AttemptId}
use Rattle.rm_types.specs.declared.messages.Lane.TheVariants as lanes
use Rattle.rm_types.specs.declared.operations.How.{How}
use Rattle.rm_types.specs.declared.operations.Op.TheVariants as ops
use Rattle.rm_types.specs.declared.records.AppRecord.{AppRecord}
use Rattle.rm_types.specs.Records.{record_of}
use Rattle.rm_book.specs.AskTables.{without_asks_of}
use Rattle.rm_model.specs.Facts.{attempts_in}
use Rattle.rm_tables.specs.declared.changes.AttemptChange.TheVariants as of_attempt
use Rattle.rm_tables.specs.declared.changes.RowChange.{RowChange}
use Rattle.rm_tables.specs.declared.changes.RowChange.TheVariants as of_app
use Rattle.rm_tables.specs.declared.events.SchedEvent.TheVariants as scheds
use Rattle.rm_tables.specs.declared.tables.Tables.{Tables}
use Rattle.rm_tables.specs.Changes.{changed}
use Rattle.rm_tables.specs.Rows.{with_row}

-- the tables without the first event of the main queue, and of the scheduler's
abbrev pub main_popped : Tables → Tables
main_popped t = record t { main = drop 1 t.main }

-- the tables without the first event of the scheduler's queue
abbrev pub sched_popped : Tables → Tables
sched_popped t = record t { sched = drop 1 t.sched }

-- what an event did, and its queue without it
abbrev pub main_worked : Entry × Tables → Entry × Tables
main_worked done = (done.0, main_popped done.1)

-- what an event of the scheduler's queue did, and the queue without it
abbrev pub sched_worked : Entry × Tables → Entry × Tables
sched_worked done = (done.0, sched_popped done.1)

-- an event of a queue had nothing to do
abbrev pub main_quiet : Tables → Entry × Tables
main_quiet t = (Quiet lanes.Main, t)

-- an event of the scheduler's queue had nothing to do
abbrev pub sched_quiet : Tables → Entry × Tables
sched_quiet t = (Quiet lanes.Sched, t)

-- something happened to an application
abbrev pub app_changed : RowChange → AppId → Tables → Tables
app_changed change id t = record t { rows = with_row (changed change) id t.rows }

-- the record of an application, if it is kept
abbrev pub found_in : Tables → AppId → Option AppRecord
found_in t id = record_of t.tree.apps id

-- the attempt after the kept ones
abbrev pub next_in : Tables → AppId → AttemptId
next_in t id = record { app = id; number = length (attempts_in (found_in t id)) + 1 }

-- the end of an application is issued; its next attempt asks for nothing more
abbrev pub app_ends : AppId → How → List ℕ → Tables → Tables
app_ends id how text t =
    record t {
      rows = with_row (changed of_app.End) id t.rows;
      asks = without_asks_of (next_in t id) t.asks;
      awaiting = t.awaiting ++ ops.AppEnd id how text ∷ [];
    }

-- the end of an application is issued, and is logged
abbrev pub ends_app : AppId → How → List ℕ → Tables → Entry × Tables
ends_app id how text t = (Issued (ops.AppEnd id how text), app_ends id how text t)

-- the end of an attempt is issued
abbrev pub attempt_ends : AttemptId → How → List ℕ → Tables → Tables
attempt_ends id how text t =
    record t {
      rows = with_row (changed (of_app.OfAttempt (of_attempt.End how))) id.app t.rows;
      awaiting = t.awaiting ++ ops.AttemptEnd id how text ∷ [];
    }

-- the end of an attempt is issued, and is logged
abbrev pub ends_attempt : AttemptId → How → List ℕ → Tables → Entry × Tables
ends_attempt id how text t = (Issued (ops.AttemptEnd id how text), attempt_ends id how text t)

-- an attempt is scheduled: it goes to the scheduler, to ask for its master's container
abbrev pub schedules : AttemptId → Tables → Tables
schedules id t =
    record t { rows = with_row (changed (of_app.Schedule id.number)) id.app t.rows; sched = t.sched ++ scheds.AttemptAdded id ∷ [] }
