-- An operation that is kept makes less of what is left to do.
use Rattle.rm_invariant.proofs.Common.{◌≡◌, ℕ, ◌+◌, ◌*◌, ◌<◌, ◌≤◌, ◌⊎◌, inl, inr, List, [], ◌∷◌, ◌++◌, Bool, true, false, None, Some, Option, length, refl, arith, flat_map, sum_by-append, sum_by-cons, AppId, AttemptId, ContainerId, How, Op, Submission, AppRecord, AttemptRecord, last_attempt, is_epoch_op, AttemptState, SchedEvent, AppRow, Current, Tables, changed, removed_at, removed_by, removed_of, kept, main_by, main_of, opening_sched, sched_by, sched_of, row_of, removed_if, found_in}
use Rattle.std.proofs.Common.{is_some, append-nil}
use Rattle.std.specs.List.{sum_by}
use Rattle.std.proofs.lemmas.List.{length-append}
use Rattle.rm_types.specs.declared.operations.Op.TheVariants as ops
use Rattle.rm_states.specs.declared.attempt.states.AttemptState.TheVariants as attempts
use Rattle.rm_tables.specs.declared.changes.AttemptChange.TheVariants as of_attempt
use Rattle.rm_tables.specs.declared.changes.RowChange.TheVariants as of_app
use Rattle.rm_tables.specs.declared.events.MainEvent.TheVariants as mains
use Rattle.rm_tables.specs.declared.events.SchedEvent.TheVariants as scheds
use Rattle.rm_invariant.specs.measure.Measure.{attempt_end_measure, main_measure, opening_measure, sched_measure, untried_measure, measure}
use Rattle.rm_invariant.proofs.measure.Rows.{attempt_end_falls, attempt_rises, end_kept_falls, saved_rises}
use Rattle.rm_invariant.proofs.measure.Sums.{main_push, op_front, row_removed, row_rises, sched_push}
use Rattle.rm_model.specs.Facts.{keeps}

-- where a life is open, nothing weighs that is still to be gone through
open_weighs : (is_open alive : Bool) (apps : List AppRecord) → is_open ≡ true → opening_measure is_open alive apps ≡ 0
open_weighs true alive apps o = refl
open_weighs false alive apps o = cc

-- the scheduler is told of containers that no attempt has any more, if there may be some
few_removed : (row : Option AppRow) (keep : Bool) (id : AppId) (xs : List SchedEvent) → sum_by sched_measure (xs ++ removed_by row keep id) ≤ sum_by sched_measure xs + 1
few_removed row keep id xs = by (removed_by row keep id) (is_one row)
  where
    is_one : (row : Option AppRow) → (removed_by row keep id ≡ []) ⊎ ((one : AttemptId) × (removed_by row keep id ≡ scheds.AttemptRemoved one ∷ []))
    is_one None = inl refl
    is_one (Some row) = at_current row.current
      where
        if_so : (b : Bool) (one : AttemptId) → (removed_if b one ≡ []) ⊎ ((two : AttemptId) × (removed_if b one ≡ scheds.AttemptRemoved two ∷ []))
        if_so true one = inr (one, refl)
        if_so false one = inl refl

        at_state : (s : AttemptState) (one : AttemptId) → (removed_at s keep one ≡ []) ⊎ ((two : AttemptId) × (removed_at s keep one ≡ scheds.AttemptRemoved two ∷ []))
        at_state attempts.Dropped one = inr (one, refl)
        at_state attempts.Ended one = if_so keep one
        at_state _ one = inl refl

        at_current : (c : Option Current) → (removed_of c keep id ≡ []) ⊎ ((one : AttemptId) × (removed_of c keep id ≡ scheds.AttemptRemoved one ∷ []))
        at_current None = inl refl
        at_current (Some current) = at_state current.state (record { app = id; number = current.number })

    by : (events : List SchedEvent) → (events ≡ []) ⊎ ((one : AttemptId) × (events ≡ scheds.AttemptRemoved one ∷ [])) → sum_by sched_measure (xs ++ events) ≤ sum_by sched_measure xs + 1
    by events (inl none) = rw (none, append-nil xs) (omega arith)
    by events (inr (one, is)) = rw is (omega (arith, sched_push xs (scheds.AttemptRemoved one)))

-- an operation is kept in an open life
module _ (t : Tables) (rest : List Op) (o : t.is_open ≡ true) where
  pub app_lighter : (id : AppId) (s : Submission) → t.awaiting ≡ ops.App id s ∷ rest → measure (kept (ops.App id s) t) < measure t
  app_lighter id s front =
      let f = op_front t.settings.max_attempts t.awaiting (ops.App id s) rest front in
      let before = open_weighs t.is_open t.alive t.tree.apps o in
      let now = open_weighs t.is_open t.alive (kept (ops.App id s) t).tree.apps o in
      let rows = row_rises t.settings.max_attempts (untried_measure t.settings.max_attempts) (changed of_app.Keep) id t.rows (saved_rises t.settings.max_attempts) in
      omega (arith, f, before, now, rows, main_push t.settings.max_attempts t.main (mains.AppSaved id))

  pub attempt_lighter : (id : AttemptId) (master : ContainerId) (node : List ℕ) → t.awaiting ≡ ops.Attempt id master node ∷ rest → measure (kept (ops.Attempt id master node) t) < measure t
  attempt_lighter id master node front =
      let f = op_front t.settings.max_attempts t.awaiting (ops.Attempt id master node) rest front in
      let before = open_weighs t.is_open t.alive t.tree.apps o in
      let now = open_weighs t.is_open t.alive (kept (ops.Attempt id master node) t).tree.apps o in
      let rows = row_rises t.settings.max_attempts attempt_end_measure (changed (of_app.OfAttempt of_attempt.Keep)) id.app t.rows (attempt_rises t.settings.max_attempts) in
      omega (arith, f, before, now, rows, main_push t.settings.max_attempts t.main (mains.AttemptSaved id))

  pub attempt_end_lighter : (id : AttemptId) (how : How) (text : List ℕ) → t.awaiting ≡ ops.AttemptEnd id how text ∷ rest → measure (kept (ops.AttemptEnd id how text) t) < measure t
  attempt_end_lighter id how text front =
      let f = op_front t.settings.max_attempts t.awaiting (ops.AttemptEnd id how text) rest front in
      let before = open_weighs t.is_open t.alive t.tree.apps o in
      let now = open_weighs t.is_open t.alive (kept (ops.AttemptEnd id how text) t).tree.apps o in
      let rows = row_rises t.settings.max_attempts 0 (changed (of_app.OfAttempt (of_attempt.KeepEnd how))) id.app t.rows (λ row. omega (arith, attempt_end_falls t.settings.max_attempts row how)) in
      omega (arith, f, before, now, rows, main_push t.settings.max_attempts t.main (mains.AttemptDone id), sched_push t.sched (scheds.AttemptRemoved id))

  pub app_end_lighter : (id : AppId) (how : How) (text : List ℕ) → t.awaiting ≡ ops.AppEnd id how text ∷ rest → measure (kept (ops.AppEnd id how text) t) < measure t
  app_end_lighter id how text front =
      let f = op_front t.settings.max_attempts t.awaiting (ops.AppEnd id how text) rest front in
      let before = open_weighs t.is_open t.alive t.tree.apps o in
      let now = open_weighs t.is_open t.alive (kept (ops.AppEnd id how text) t).tree.apps o in
      let rows = row_rises t.settings.max_attempts 0 (changed (of_app.KeepEnd how)) id t.rows (λ row. omega (arith, end_kept_falls t.settings.max_attempts row how)) in
      let posted = main_push t.settings.max_attempts t.main mains.Retire in
      let dropped = few_removed (row_of t.rows id) (keeps (found_in (kept (ops.AppEnd id how text) t) id)) id t.sched in
      let more = length-append t.ended (id ∷ []) in
      omega (arith, f, before, now, rows, posted, dropped, more)

  pub remove_lighter : (id : AppId) → t.awaiting ≡ ops.Remove id ∷ rest → measure (kept (ops.Remove id) t) < measure t
  remove_lighter id front =
      let f = op_front t.settings.max_attempts t.awaiting (ops.Remove id) rest front in
      let before = open_weighs t.is_open t.alive t.tree.apps o in
      let now = open_weighs t.is_open t.alive (kept (ops.Remove id) t).tree.apps o in
      let rows = row_removed t.settings.max_attempts id t.rows in
      omega (arith, f, before, now, rows)

-- whichever it is but an Epoch
pub kept_lighter : (t : Tables) (op : Op) (rest : List Op) → t.awaiting ≡ op ∷ rest → t.is_open ≡ true → is_epoch_op op ≡ false → measure (kept op t) < measure t
kept_lighter t (ops.Epoch next stamp) rest front o other = cc
kept_lighter t (ops.App id s) rest front o other = app_lighter t rest o id s front
kept_lighter t (ops.Attempt id master node) rest front o other = attempt_lighter t rest o id master node front
kept_lighter t (ops.AttemptEnd id how text) rest front o other = attempt_end_lighter t rest o id how text front
kept_lighter t (ops.AppEnd id how text) rest front o other = app_end_lighter t rest o id how text front
kept_lighter t (ops.Remove id) rest front o other = remove_lighter t rest o id front

-- the events with which a life opens
module _ (most : ℕ) where
  opens_with : (app : AppRecord) → sum_by (main_measure most) (main_of app) + sum_by sched_measure (sched_of app) ≤ 3
  opens_with app = by app.ending (last_attempt app.attempts)
    where
      last_is : (last : AttemptRecord) (b : Bool) → is_some last.ending ≡ b → (k : Bool) → app.submission.keep ≡ k
          → sum_by (main_measure most) (main_by None (Some last) app.id) + sum_by sched_measure (sched_by None (Some last) app.submission.keep app.id) ≤ 3
      last_is last true e true k =
          rw (e, k)
          (omega (arith, sum_by-cons (main_measure most) (mains.AttemptDone (record { app = app.id; number = last.id.number })) [], sum_by-cons sched_measure (scheds.AttemptRecovered (record { app = app.id; number = last.id.number })) []))
      last_is last true e false k = rw (e, k) (omega (arith, sum_by-cons (main_measure most) (mains.AttemptDone (record { app = app.id; number = last.id.number })) []))
      last_is last false e b k = rw e (omega (arith, sum_by-cons sched_measure (scheds.AttemptRecovered (record { app = app.id; number = last.id.number })) []))

      by : (end : Option (How × List ℕ)) (last : Option AttemptRecord) → sum_by (main_measure most) (main_by end last app.id) + sum_by sched_measure (sched_by end last app.submission.keep app.id) ≤ 3
      by (Some end) last = omega arith
      by None None = omega (arith, sum_by-cons (main_measure most) (mains.AppSaved app.id) [])
      by None (Some last) = last_is last (is_some last.ending) refl app.submission.keep refl

  opening_weighs : (apps : List AppRecord) → sum_by (main_measure most) (flat_map main_of apps) + sum_by sched_measure (opening_sched apps) ≤ 3 * length apps
  opening_weighs [] = omega arith
  opening_weighs (app ∷ apps) =
      let more = opening_weighs apps in
      let one = opens_with app in
      let of_main = sum_by-append (main_measure most) (main_of app) (flat_map main_of apps) in
      let of_sched = sum_by-append sched_measure (sched_of app) (flat_map sched_of apps) in
      omega (arith, more, one, of_main, of_sched)

-- the life's Epoch is kept, over whatever is recorded
pub epoch_lighter : (t : Tables) (next stamp : ℕ) (rest : List Op) → t.awaiting ≡ ops.Epoch next stamp ∷ rest → t.alive ≡ true → t.is_open ≡ false → t.main ≡ [] → t.sched ≡ []
    → measure (kept (ops.Epoch next stamp) t) < measure t
epoch_lighter t next stamp rest front a o m s =
    let f = op_front t.settings.max_attempts t.awaiting (ops.Epoch next stamp) rest front in
    let before : opening_measure t.is_open t.alive t.tree.apps ≡ 3 * length t.tree.apps = rw (o, a) refl in
    let events = opening_weighs t.settings.max_attempts t.tree.apps in
    let all = main_push t.settings.max_attempts (flat_map main_of t.tree.apps) mains.Retire in
    omega (arith, f, before, events, all)
