-- How the tables change where a client is answered. This project's own.
use Rattle.std.specs.Prelude.{ℕ, ◌+◌, List, [], ◌∷◌, ◌++◌, false, Option, None, Some, if◌then◌else◌}
use Rattle.rm_types.specs.declared.ids.AppId.{AppId}
use Rattle.rm_types.specs.declared.messages.ClientAsk.{ClientAsk}
use Rattle.rm_types.specs.declared.messages.ClientAsk.TheVariants.{New, Submit, Kill}
use Rattle.rm_types.specs.declared.operations.Submission.{Submission}
use Rattle.rm_types.specs.declared.replies.Report.{Report as ReportOf}
use Rattle.rm_types.specs.declared.replies.StateWord.{StateWord}
use Rattle.rm_types.specs.declared.replies.Reply.{Reply}
use Rattle.rm_types.specs.declared.replies.Reply.TheVariants.{New as Gives, Submitted as Taken, Killing}
use Rattle.rm_states.specs.declared.app.states.AppState.TheVariants as apps
use Rattle.rm_tables.specs.declared.changes.RowChange.TheVariants as of_app
use Rattle.rm_tables.specs.declared.events.MainEvent.TheVariants as mains
use Rattle.rm_tables.specs.declared.rows.AppRow.{AppRow}
use Rattle.rm_tables.specs.declared.tables.Tables.{Tables}
use Rattle.rm_tables.specs.Changes.{changed}
use Rattle.rm_tables.specs.Rows.{row_of, with_row}

-- a report of this state, of what was submitted, so many attempts, so many living containers and the text of an end
abbrev pub report_with : StateWord → Submission → ℕ → ℕ → List ℕ → ReportOf
report_with state submission attempts live text =
    record { state = state; user = submission.user; queue = submission.queue; name = submission.name; attempts = attempts; live = live; text = text }

-- the row of an application that was submitted just now
abbrev pub submitted_row : Submission → AppRow
submitted_row submission =
    record { state = apps.New; wish = false; pending = Some submission; current = None; first = 0; dialogue = None; closings = [] }

-- a submission joins: its application has a row, goes on, and is to be issued
abbrev pub with_submission : AppId → Submission → Tables → Tables
with_submission id submission t =
    record t { rows = t.rows ++ (id, Some (submitted_row submission)) ∷ []; going = t.going + 1; main = t.main ++ mains.AppStart id ∷ [] }

-- a submission that is taken joins, where its application isn't known
abbrev pub taken_by : Option AppRow → AppId → Submission → Tables → Tables
taken_by None id submission t = with_submission id submission t
taken_by (Some row) id submission t = t

-- the first wish of a life to kill an application is noted, and is to be followed
abbrev pub wished_by : Option AppRow → AppId → Tables → Tables
wished_by None id t = t
wished_by (Some row) id t =
    if row.wish then t else record t { rows = with_row (changed of_app.Wish) id t.rows; main = t.main ++ mains.AppKill id ∷ [] }

-- the tables after a client was answered
abbrev pub after_client : ClientAsk → Reply → Tables → Tables
after_client New (Gives id) t = record t { given = id.number }
after_client (Submit id submission) Taken t = taken_by (row_of t.rows id) id submission t
after_client (Kill id) Killing t = wished_by (row_of t.rows id) id t
after_client _ _ t = t
