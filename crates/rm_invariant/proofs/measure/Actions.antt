-- Each thing that an event of the main queue may come to makes less of what is left to do.
use Rattle.rm_invariant.proofs.Common.{inl, inr, ◌≡◌, ◌<◌, ◌≤◌, ℕ, ◌+◌, ◌*◌, ◌-◌, List, [], ◌∷◌, ◌++◌, true, drop, Option, Some, length, refl, arith, sum_by-cons, Entry, Accepted, Issued, Ordered, Quiet, AppId, ContainerId, How, Op, Submission, is_alive, AsksOf, without_asks_of, MainEvent, SchedEvent, AppRow, Current, Tables, app_changed, ends_app, main_quiet, main_worked, next_in, schedules, changed, attempt_kill, with_order, with_attempt_requeued, start_of_submission, row_of, with_row}
use Rattle.std.specs.List.{sum_by}
use Rattle.rm_types.specs.declared.messages.Lane.TheVariants as lanes
use Rattle.rm_types.specs.declared.operations.Op.TheVariants as ops
use Rattle.rm_states.specs.declared.app.states.AppState.TheVariants as apps
use Rattle.rm_states.specs.declared.attempt.states.AttemptState.TheVariants as attempts
use Rattle.rm_tables.specs.declared.changes.AttemptChange.TheVariants as of_attempt
use Rattle.rm_tables.specs.declared.changes.RowChange.TheVariants as of_app
use Rattle.rm_tables.specs.declared.events.MainEvent.TheVariants as mains
use Rattle.rm_tables.specs.declared.events.SchedEvent.TheVariants as scheds
use Rattle.rm_tables.specs.Actions.{ends_attempt}
use Rattle.rm_tables.specs.MainEvents.{with_attempt_issued}
use Rattle.rm_invariant.specs.events.Outcomes.{is_past_grant}
use Rattle.rm_invariant.specs.apps.Invariant.{is_active}
use Rattle.rm_invariant.specs.measure.Measure.{app_end_measure, app_op_measure, app_measure, attempt_op_measure, attempt_measure, main_measure, next_measure, current_number, op_measure, row_measure, rows_measure, sched_measure, untried_measure, measure}
use Rattle.rm_invariant.proofs.measure.Following.{IsFollowed}
use Rattle.rm_invariant.proofs.measure.Rows.{kill_weighs, alive_weighs, end_falls, going_weighs, issued_falls, killed_weighs, scheduled_weighs, waiting_weighs}
use Rattle.rm_invariant.proofs.measure.Sums.{main_front, main_push, op_push, row_changes, row_rises, sched_push}

module _ (t : Tables) (e : MainEvent) (rest : List MainEvent) (front : t.main ≡ e ∷ rest) where
  abbrev pub Decreases : Entry × Tables → Type 0
  Decreases done = measure (main_worked done).1 < measure t

  abbrev most : ℕ
  most = t.settings.max_attempts

  -- the event is taken, and rows change
  changes : (rows : List (AppId × Option AppRow)) → rows_measure most rows < rows_measure most t.rows + main_measure most e → measure (record t { main = drop 1 t.main; rows = rows }) < measure t
  changes rows less = let f = main_front most t.main e rest front in omega (arith, f, less)

  -- and an event is posted to the scheduler
  posts : (rows : List (AppId × Option AppRow)) (event : SchedEvent) → rows_measure most rows + sched_measure event < rows_measure most t.rows + main_measure most e
      → measure (record t { main = drop 1 t.main; rows = rows; sched = t.sched ++ event ∷ [] }) < measure t
  posts rows event less = let f = main_front most t.main e rest front in omega (arith, f, less, sched_push t.sched event)

  -- or an operation is issued
  issues_op : (rows : List (AppId × Option AppRow)) (asks : List AsksOf) (op : Op) → rows_measure most rows + op_measure most op < rows_measure most t.rows + main_measure most e
      → measure (record t { main = drop 1 t.main; rows = rows; asks = asks; awaiting = t.awaiting ++ op ∷ [] }) < measure t
  issues_op rows asks op less = let f = main_front most t.main e rest front in omega (arith, f, less, op_push most t.awaiting op)

  -- there is nothing to do
  pub idle_lighter : 1 ≤ main_measure most e → Decreases (main_quiet t)
  idle_lighter one = changes t.rows (omega (arith, one))

  -- the App of a submission that waits is issued
  pub save_lighter : app_op_measure most < main_measure most e → (id : AppId) (s : Submission) → Decreases (start_of_submission (Some s) id t)
  save_lighter more id s =
      issues_op (with_row (changed of_app.Issue) id t.rows) t.asks (ops.App id s)
      (let rows = row_rises most 0 (changed of_app.Issue) id t.rows (λ row. omega (arith, issued_falls most row)) in omega (arith, more, rows))

  -- an application that is saved goes to the scheduler
  pub add_lighter : 3 ≤ main_measure most e → (id : AppId) → Decreases (Quiet lanes.Main, record t { sched = t.sched ++ scheds.AppAdded id ∷ [] })
  add_lighter three id = posts t.rows (scheds.AppAdded id) (omega (arith, three))

  -- the master of an attempt is ordered
  pub order_lighter : 1 ≤ main_measure most e → (container : ContainerId) (node : List ℕ) → Decreases (Ordered container node, with_order container node t)
  order_lighter one container node = let f = main_front most t.main e rest front in omega (arith, f, one)

  module _ (one : 1 ≤ main_measure most e) (id : AppId) (row : AppRow) (found : row_of t.rows id ≡ Some row) where
    -- an application is accepted, and its first attempt scheduled
    pub accept_lighter : row.state ≡ apps.Submitted → 1 ≤ most → Decreases (Accepted id, schedules (record { app = id; number = 1 }) t)
    accept_lighter st some =
        posts (with_row (changed (of_app.Schedule 1)) id t.rows) (scheds.AttemptAdded (record { app = id; number = 1 }))
        (let rows = row_changes most (changed (of_app.Schedule 1)) id t.rows row found in
        let now = scheduled_weighs most row (inl st) 1 in
        let before : app_measure most row.state (current_number row.current) ≡ untried_measure most = rw st refl in
        omega (arith, one, some, rows, now, before))

    -- the end of an application is issued
    pub end_lighter : app_end_measure ≤ app_measure most row.state (current_number row.current) → (how : How) (text : List ℕ) → Decreases (ends_app id how text t)
    end_lighter some how text =
        issues_op (with_row (changed of_app.End) id t.rows) (without_asks_of (next_in t id) t.asks) (ops.AppEnd id how text)
        (let rows = row_changes most (changed of_app.End) id t.rows row found in
        let now = end_falls most row some in
        omega (arith, one, some, rows, now))

    module _ (current : Current) (is : row.current ≡ Some current) where
      before : row_measure most row ≡ app_measure most row.state current.number + attempt_measure current.state
      before = rw is refl

      -- the end of an attempt that lives is issued, as its application is killed
      pub kill_lighter : (number : ℕ) → is_alive current.state ≡ true → is_active row.state ≡ true → Decreases (attempt_kill (record { app = id; number = number }) t)
      kill_lighter number alive going =
          issues_op (with_row (changed of_app.Kill) id t.rows) t.asks (ops.AttemptEnd (record { app = id; number = number }) _ _)
          (let rows = row_changes most (changed of_app.Kill) id t.rows row found in
          let now : row_measure most (changed of_app.Kill row) ≡ (app_end_measure + next_measure * (most - current.number)) + 0 = rw (is, killed_weighs current.state alive, kill_weighs most current.number row.state going) refl in
          omega (arith, one, rows, now, before, going_weighs most row.state current.number going, alive_weighs current.state alive))

      -- an application is to be killed once its attempt is saved or has ended
      pub delay_lighter : is_past_grant current.state ≡ true → is_active row.state ≡ true → Decreases (Quiet lanes.Main, app_changed of_app.Kill id t)
      delay_lighter waits going =
          changes (with_row (changed of_app.Kill) id t.rows)
          (let rows = row_changes most (changed of_app.Kill) id t.rows row found in
          let now : row_measure most (changed of_app.Kill row) ≡ (app_end_measure + next_measure * (most - current.number)) + attempt_measure current.state = rw (is, waiting_weighs current.state waits, kill_weighs most current.number row.state going) refl in
          omega (arith, one, rows, now, before, going_weighs most row.state current.number going))

      -- the next attempt is scheduled
      pub follow_lighter : is_active row.state ≡ true → current.state ≡ attempts.Ended → IsFollowed t id current → Decreases (Quiet lanes.Main, schedules (next_in t id) t)
      follow_lighter going st follows =
          posts (with_row (changed (of_app.Schedule (next_in t id).number)) id t.rows) (scheds.AttemptAdded (next_in t id))
          (let rows = row_changes most (changed (of_app.Schedule (next_in t id).number)) id t.rows row found in
          let now = scheduled_weighs most row (inr going) (next_in t id).number in
          let ended : attempt_measure current.state ≡ 0 = rw st refl in
          omega (arith, one, rows, now, before, going_weighs most row.state current.number going, ended, follows.next, follows.below))

      -- the end of an attempt that lives is issued
      pub end_one_lighter : (number : ℕ) → is_alive current.state ≡ true → (how : How) (text : List ℕ) → Decreases (ends_attempt (record { app = id; number = number }) how text t)
      end_one_lighter number alive how text =
          issues_op (with_row (changed (of_app.OfAttempt (of_attempt.End how))) id t.rows) t.asks (ops.AttemptEnd (record { app = id; number = number }) how text)
          (let rows = row_changes most (changed (of_app.OfAttempt (of_attempt.End how))) id t.rows row found in
          let now : row_measure most (changed (of_app.OfAttempt (of_attempt.End how)) row) ≡ app_measure most row.state current.number + 0 = rw (is, killed_weighs current.state alive) refl in
          omega (arith, one, rows, now, before, alive_weighs current.state alive))

      -- the master of an attempt that is being saved is lost
      pub lose_lighter : Decreases (Quiet lanes.Main, app_changed (of_app.OfAttempt of_attempt.Lose) id t)
      lose_lighter =
          changes (with_row (changed (of_app.OfAttempt of_attempt.Lose)) id t.rows)
          (let rows = row_changes most (changed (of_app.OfAttempt of_attempt.Lose)) id t.rows row found in
          let now : row_measure most (changed (of_app.OfAttempt of_attempt.Lose) row) ≡ app_measure most row.state current.number + attempt_measure current.state = rw is refl in
          omega (arith, one, rows, now, before))

  -- an attempt is issued that was granted its master's container, or it waits for another
  module _ (container : ContainerId) (row : AppRow) (found : row_of t.rows container.attempt.app ≡ Some row) (current : Current) (is : row.current ≡ Some current) (st : current.state ≡ attempts.Granted) where
    granted_before : row_measure most row ≡ app_measure most row.state current.number + attempt_op_measure
    granted_before = rw (is, st) refl

    pub issue_lighter : 1 ≤ main_measure most e → (node : List ℕ) → Decreases (Issued (ops.Attempt container.attempt container node), with_attempt_issued container node t)
    issue_lighter one node =
        issues_op (with_row (changed (of_app.OfAttempt of_attempt.Issue)) container.attempt.app t.rows) t.asks (ops.Attempt container.attempt container node)
        (let rows = row_changes most (changed (of_app.OfAttempt of_attempt.Issue)) container.attempt.app t.rows row found in
        let now : row_measure most (changed (of_app.OfAttempt of_attempt.Issue) row) ≡ app_measure most row.state current.number + 0 = rw (is, st) refl in
        omega (arith, one, rows, now, granted_before))

    pub requeue_lighter : 2 ≤ main_measure most e → Decreases (Quiet lanes.Main, with_attempt_requeued container.attempt t)
    requeue_lighter two =
        posts (with_row (changed (of_app.OfAttempt of_attempt.Requeue)) container.attempt.app t.rows) (scheds.AttemptAdded container.attempt)
        (let rows = row_changes most (changed (of_app.OfAttempt of_attempt.Requeue)) container.attempt.app t.rows row found in
        let now : row_measure most (changed (of_app.OfAttempt of_attempt.Requeue) row) ≡ app_measure most row.state current.number + attempt_op_measure = rw (is, st) refl in
        omega (arith, two, rows, now, granted_before))

-- a Remove is issued, and the next one is looked for
pub retire_lighter : (t : Tables) (e : MainEvent) (rest : List MainEvent) → t.main ≡ e ∷ rest → 1 ≤ main_measure t.settings.max_attempts e → (id : AppId) (more : List AppId) → t.ended ≡ id ∷ more
    → measure (record t { ended = more; awaiting = t.awaiting ++ ops.Remove id ∷ []; main = drop 1 (t.main ++ mains.Retire ∷ []) }) < measure t
retire_lighter t e rest front one id more first =
    let posted : sum_by (main_measure t.settings.max_attempts) (drop 1 (t.main ++ mains.Retire ∷ [])) ≡ sum_by (main_measure t.settings.max_attempts) rest + 1 = rw front (main_push t.settings.max_attempts rest mains.Retire) in
    let before : sum_by (main_measure t.settings.max_attempts) t.main ≡ main_measure t.settings.max_attempts e + sum_by (main_measure t.settings.max_attempts) rest = rw front (sum_by-cons (main_measure t.settings.max_attempts) e rest) in
    let issued = op_push t.settings.max_attempts t.awaiting (ops.Remove id) in
    let fewer : length t.ended ≡ length more + 1 = rw first (omega arith) in
    omega (arith, before, posted, issued, fewer, one)
