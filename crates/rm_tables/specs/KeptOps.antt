-- What is done once the operation that is with the store is kept: it is recorded, the row of its application changes, and what
-- follows from it is posted. This project's own.
use Rattle.std.specs.Prelude.{◌-◌, List, [], ◌∷◌, ◌++◌, Bool, true, false, Option, None, Some, drop}
use Rattle.rm_types.specs.declared.ids.AppId.{AppId}
use Rattle.rm_types.specs.declared.ids.AttemptId.{AttemptId}
use Rattle.rm_types.specs.declared.operations.How.{How}
use Rattle.rm_types.specs.declared.operations.Op.{Op}
use Rattle.rm_types.specs.declared.operations.Op.TheVariants as ops
use Rattle.rm_types.specs.Records.{recorded}
use Rattle.rm_model.specs.Facts.{keeps}
use Rattle.rm_book.specs.AskTables.{without_asks_of}
use Rattle.rm_states.specs.declared.attempt.states.AttemptState.{AttemptState}
use Rattle.rm_states.specs.declared.attempt.states.AttemptState.TheVariants as attempts
use Rattle.rm_tables.specs.declared.changes.AttemptChange.TheVariants as of_attempt
use Rattle.rm_tables.specs.declared.changes.RowChange.TheVariants as of_app
use Rattle.rm_tables.specs.declared.events.MainEvent.TheVariants as mains
use Rattle.rm_tables.specs.declared.events.SchedEvent.{SchedEvent}
use Rattle.rm_tables.specs.declared.events.SchedEvent.TheVariants as scheds
use Rattle.rm_tables.specs.declared.rows.AppRow.{AppRow}
use Rattle.rm_tables.specs.declared.rows.Current.{Current}
use Rattle.rm_tables.specs.declared.tables.Tables.{Tables}
use Rattle.rm_tables.specs.Actions.{found_in}
use Rattle.rm_tables.specs.Changes.{changed}
use Rattle.rm_tables.specs.Opening.{opening_main, opening_sched}
use Rattle.rm_tables.specs.Rows.{row_of, with_row, without_row}

-- the first awaiting operation is recorded, and is no longer with the store
abbrev pub taken_up : Op → Tables → Tables
taken_up op t = record t { tree = recorded t.tree op; awaiting = drop 1 t.awaiting; handed = false }

-- Epoch: the life opens over what is recorded
abbrev pub epoch_kept : Tables → Tables
epoch_kept t = record t { is_open = true; clock = 0; main = opening_main t.tree.apps; sched = opening_sched t.tree.apps }

-- App: the application is saved
abbrev pub app_kept : AppId → Tables → Tables
app_kept id t = record t { rows = with_row (changed of_app.Keep) id t.rows; main = t.main ++ mains.AppSaved id ∷ [] }

-- Attempt: its master is to be launched
abbrev pub attempt_kept : AttemptId → Tables → Tables
attempt_kept id t =
    record t { rows = with_row (changed (of_app.OfAttempt of_attempt.Keep)) id.app t.rows; main = t.main ++ mains.AttemptSaved id ∷ [] }

-- AttemptEnd: its asks go, the scheduler is to end its containers, and its application is to be decided
abbrev pub attempt_end_posted : AttemptId → Tables → Tables
attempt_end_posted id t = record t { sched = t.sched ++ scheds.AttemptRemoved id ∷ []; main = t.main ++ mains.AttemptDone id ∷ [] }

-- the tables once an AttemptEnd is kept
abbrev pub attempt_end_kept : AttemptId → How → Tables → Tables
attempt_end_kept id how t =
    record (attempt_end_posted id t) {
      rows = with_row (changed (of_app.OfAttempt (of_attempt.KeepEnd how))) id.app t.rows;
      asks = without_asks_of id t.asks;
    }

-- the attempt of an application that ends, where it has containers still: it was dropped, or it has ended and left some over
abbrev pub removed_if : Bool → AttemptId → List SchedEvent
removed_if true id = scheds.AttemptRemoved id ∷ []
removed_if false id = []

-- the attempt of an application that ends, by its state
abbrev pub removed_at : AttemptState → Bool → AttemptId → List SchedEvent
removed_at attempts.Dropped keep id = removed_if true id
removed_at attempts.Ended keep id = removed_if keep id
removed_at _ keep id = []

-- the current attempt of an application that ends, where it has containers still
abbrev pub removed_of : Option Current → Bool → AppId → List SchedEvent
removed_of None keep id = []
removed_of (Some current) keep id = removed_at current.state keep (record { app = id; number = current.number })

-- the attempt of a row whose application ends, where it has containers still
abbrev pub removed_by : Option AppRow → Bool → AppId → List SchedEvent
removed_by None keep id = []
removed_by (Some row) keep id = removed_of row.current keep id

-- AppEnd: it is completed; the scheduler is to end the containers that no attempt has any more
abbrev pub app_end_posted : AppId → Tables → Tables
app_end_posted id t =
    record t { ended = t.ended ++ id ∷ []; main = t.main ++ mains.Retire ∷ []; sched = t.sched ++ removed_by (row_of t.rows id) (keeps (found_in t id)) id }

-- the tables once an AppEnd is kept: one application fewer goes on
abbrev pub app_end_kept : AppId → How → Tables → Tables
app_end_kept id how t = record (app_end_posted id t) { rows = with_row (changed (of_app.KeepEnd how)) id t.rows; going = t.going - 1 }

-- Remove: its id is retired
abbrev pub remove_kept : AppId → Tables → Tables
remove_kept id t = record t { rows = without_row id t.rows }

-- what follows from an operation that was taken up
abbrev pub kept_by : Op → Tables → Tables
kept_by (ops.Epoch next stamp) t = epoch_kept t
kept_by (ops.App id submission) t = app_kept id t
kept_by (ops.Attempt id master node) t = attempt_kept id t
kept_by (ops.AttemptEnd id how text) t = attempt_end_kept id how t
kept_by (ops.AppEnd id how text) t = app_end_kept id how t
kept_by (ops.Remove id) t = remove_kept id t

-- the tables after the first awaiting operation is kept
abbrev pub kept : Op → Tables → Tables
kept op t = kept_by op (taken_up op t)
