-- What an event of the main queue comes to: the entry that it logs and the tables after it, whatever event and state bring it about. This
-- project's own.
use Rattle.std.specs.Prelude.{◌≡◌, ◌<◌, ◌⊎◌, ℕ, ◌∷◌, ◌++◌, [], List, Bool, true, false, ◌==◌, None, Some, length}
use Rattle.rm_types.specs.declared.entries.Entry.{Entry}
use Rattle.rm_types.specs.declared.entries.Entry.TheVariants.{Accepted, Issued, Ordered, Quiet}
use Rattle.rm_types.specs.declared.ids.AppId.{AppId}
use Rattle.rm_types.specs.declared.ids.AttemptId.{AttemptId}
use Rattle.rm_types.specs.declared.ids.ContainerId.{ContainerId}
use Rattle.rm_types.specs.declared.messages.Lane.TheVariants as lanes
use Rattle.rm_types.specs.declared.operations.How.{How}
use Rattle.rm_types.specs.declared.operations.How.TheVariants as ways
use Rattle.rm_types.specs.declared.operations.Op.TheVariants as ops
use Rattle.rm_types.specs.declared.operations.Submission.{Submission}
use Rattle.rm_model.specs.Issuing.{expired_text, killed_text, lost_text}
use Rattle.rm_states.specs.declared.app.states.AppState.TheVariants as apps
use Rattle.rm_states.specs.declared.attempt.states.AttemptState.{AttemptState}
use Rattle.rm_states.specs.declared.attempt.states.AttemptState.TheVariants as attempts
use Rattle.rm_states.specs.attempt.Table.{is_alive}
use Rattle.rm_tables.specs.declared.changes.AttemptChange.TheVariants as of_attempt
use Rattle.rm_tables.specs.declared.changes.RowChange.TheVariants as of_app
use Rattle.rm_tables.specs.declared.events.MainEvent.{MainEvent}
use Rattle.rm_tables.specs.declared.events.MainEvent.TheVariants as mains
use Rattle.rm_tables.specs.declared.events.SchedEvent.TheVariants as scheds
use Rattle.rm_tables.specs.declared.rows.AppRow.{AppRow}
use Rattle.rm_tables.specs.declared.rows.Current.{Current}
use Rattle.rm_tables.specs.declared.tables.Tables.{Tables}
use Rattle.rm_tables.specs.Actions.{app_changed, ends_app, ends_attempt, found_in, main_quiet, next_in, schedules}
use Rattle.rm_tables.specs.MainEvents.{with_attempt_issued, end_with, finishing_in, is_master_of, attempt_kill, last_end_in, node_at, with_order, with_attempt_requeued, start_of_submission}
use Rattle.rm_tables.specs.Rows.{row_of}
use Rattle.rm_invariant.specs.apps.Invariant.{is_active}

-- an application has this row, whose current attempt is this one
pub record IsCurrentOf (t : Tables) (id : AppId) (row : AppRow) (current : Current) : Type 0 where
  pub found : row_of t.rows id ≡ Some row
  pub is : row.current ≡ Some current

-- an attempt isn't issued yet, or has ended
abbrev pub rests_at : AttemptState → Bool
rests_at attempts.Scheduled = true
rests_at attempts.Granted = true
rests_at attempts.Saving = false
rests_at attempts.Live = false
rests_at attempts.Registered = false
rests_at attempts.Finishing = false
rests_at attempts.Ending = false
rests_at attempts.Ended = true
rests_at attempts.Dropped = false

-- an attempt is being saved, ends or has ended
abbrev pub is_past_grant : AttemptState → Bool
is_past_grant attempts.Scheduled = false
is_past_grant attempts.Granted = false
is_past_grant attempts.Saving = true
is_past_grant attempts.Live = false
is_past_grant attempts.Registered = false
is_past_grant attempts.Finishing = false
is_past_grant attempts.Ending = true
is_past_grant attempts.Ended = true
is_past_grant attempts.Dropped = false

-- an application may come to its end: it has not tried, or its current attempt isn't issued or has ended
abbrev pub MayEndApp : AppRow → Type 0
MayEndApp row = (row.state ≡ apps.Submitted) ⊎ ((is_active row.state ≡ true) × ((current : Current) × (row.current ≡ Some current) × (rests_at current.state ≡ true)))

-- what is said of the end of an application: it is killed, or its last attempt ended so
abbrev pub IsEndOfApp : Tables → AppId → How → List ℕ → Type 0
IsEndOfApp t id how text = ((how ≡ ways.Killed) × (text ≡ killed_text)) ⊎ (last_end_in (found_in t id) ≡ Some (how, text))

-- what is said of the end of an attempt: it is killed, its master was lost or is silent for too long, or its master said so
abbrev pub IsEndOfAttempt : AppRow → How → List ℕ → Type 0
IsEndOfAttempt row how text =
    ((how ≡ ways.Killed) × (text ≡ killed_text)) ⊎ (((how ≡ ways.Failed) × ((text ≡ lost_text) ⊎ (text ≡ expired_text))) ⊎ ((how ≡ ways.Finished) × (finishing_in row.dialogue ≡ Some text)))

-- what an event may come to
pub data Outcome (t : Tables) : Entry × Tables → Type 0 where
  -- there is nothing to do
  idles : Outcome t (main_quiet t)
  -- the App of a submission that waits is issued, as the first event says
  saves : (id : AppId) (row : AppRow) (submission : Submission) (rest : List MainEvent) → row_of t.rows id ≡ Some row → row.pending ≡ Some submission → t.main ≡ mains.AppStart id ∷ rest
      → Outcome t (start_of_submission (Some submission) id t)
  -- an application that is saved goes to the scheduler
  adds : (id : AppId) (row : AppRow) (rest : List MainEvent) → row_of t.rows id ≡ Some row → row.state ≡ apps.Submitted → t.main ≡ mains.AppSaved id ∷ rest
      → Outcome t (Quiet lanes.Main, record t { sched = t.sched ++ scheds.AppAdded id ∷ [] })
  -- it is accepted, and its first attempt scheduled
  accepts : (id : AppId) (row : AppRow) → row_of t.rows id ≡ Some row → row.state ≡ apps.Submitted → Outcome t (Accepted id, schedules (record { app = id; number = 1 }) t)
  -- the end of an application is issued
  ends : (id : AppId) (row : AppRow) (how : How) (text : List ℕ) → row_of t.rows id ≡ Some row → MayEndApp row → IsEndOfApp t id how text → Outcome t (ends_app id how text t)
  -- the end of an attempt that lives is issued, as its application is killed
  kills : (id : AttemptId) (row : AppRow) (current : Current) → IsCurrentOf t id.app row current → current.number ≡ id.number → is_alive current.state ≡ true → is_active row.state ≡ true → Outcome t (attempt_kill id t)
  -- an application is to be killed once its attempt is saved or has ended
  delays : (id : AppId) (row : AppRow) (current : Current) → IsCurrentOf t id row current → is_past_grant current.state ≡ true → is_active row.state ≡ true → Outcome t (Quiet lanes.Main, app_changed of_app.Kill id t)
  -- an attempt is issued that was granted its master's container
  issues : (container : ContainerId) (node : List ℕ) (row : AppRow) (current : Current) → IsCurrentOf t container.attempt.app row current → current.state ≡ attempts.Granted
      → (current.number == container.attempt.number) ≡ true → is_master_of container current.master ≡ true → node_at t.book container ≡ Some node
      → Outcome t (Issued (ops.Attempt container.attempt container node), with_attempt_issued container node t)
  -- it waits for another, as that one is gone
  requeues : (container : ContainerId) (row : AppRow) (current : Current) (rest : List MainEvent) → IsCurrentOf t container.attempt.app row current → current.state ≡ attempts.Granted
      → (current.number == container.attempt.number) ≡ true → is_master_of container current.master ≡ true → node_at t.book container ≡ None
      → t.main ≡ mains.MasterGranted container ∷ rest
      → Outcome t (Quiet lanes.Main, with_attempt_requeued container.attempt t)
  -- the master of an attempt that lives is ordered, where it stands
  orders : (id : AttemptId) (container : ContainerId) (node : List ℕ) (row : AppRow) (current : Current) → IsCurrentOf t id.app row current → (current.number == id.number) ≡ true → is_alive current.state ≡ true
      → current.master ≡ Some container → node_at t.book container ≡ Some node → Outcome t (Ordered container node, with_order container node t)
  -- the end of an attempt that lives is issued
  ends_one : (id : AttemptId) (row : AppRow) (current : Current) (how : How) (text : List ℕ) → IsCurrentOf t id.app row current → (current.number == id.number) ≡ true → is_alive current.state ≡ true
      → IsEndOfAttempt row how text → Outcome t (ends_attempt id how text t)
  -- the master of an attempt that is being saved is lost
  loses : (container : ContainerId) (row : AppRow) (current : Current) → IsCurrentOf t container.attempt.app row current → current.state ≡ attempts.Saving → (current.number == container.attempt.number) ≡ true
      → is_master_of container current.master ≡ true → Outcome t (Quiet lanes.Main, app_changed (of_app.OfAttempt of_attempt.Lose) container.attempt.app t)
  -- the next attempt is scheduled, as one may follow
  follows : (id : AppId) (row : AppRow) (current : Current) → IsCurrentOf t id row current → is_active row.state ≡ true → current.state ≡ attempts.Ended
      → end_with t.settings row.wish (found_in t id) (last_end_in (found_in t id)) ≡ None → Outcome t (Quiet lanes.Main, schedules (next_in t id) t)
  -- the Remove of the application that completed first is issued
  removes : (id : AppId) (more : List AppId) → t.ended ≡ id ∷ more → t.settings.max_completed < length (id ∷ more)
      → Outcome t (Issued (ops.Remove id), record t { ended = more; awaiting = t.awaiting ++ ops.Remove id ∷ []; main = t.main ++ mains.Retire ∷ [] })
