-- Where another attempt follows one that has ended, that one was the last kept one, and the settings allow one more.
use Rattle.rm_invariant.proofs.Common.{◌≡◌, ◌<◌, ◌≤◌, ◌+◌, Bool, true, false, Option, None, Some, length, refl, arith, nat_tests, AppId, AttemptId, Submission, AppRecord, Settings, attempts_in, reaches_bound, AppState, AppRow, Current, Tables, found_in, next_in, end_with, last_end_in, row_of, History}
use Rattle.std.proofs.Common.{◌==◌}
use Rattle.rm_model.specs.Facts.{bound}
use Rattle.rm_states.specs.declared.attempt.states.AttemptState.TheVariants as attempts
use Rattle.rm_invariant.specs.apps.Invariant.{ActiveInvariant, CurrentInvariant, RowInvariant, is_active}
use Rattle.rm_invariant.specs.Step.{AppsInvariant}
use Rattle.rm_invariant.specs.apps.View.{view}
use Rattle.rm_invariant.proofs.apps.Own.{active_row}
use Rattle.rm_invariant.proofs.apps.Deciding.{done_facts, retry_facts}

-- an application that goes on is active
going_active : (s : AppState) → is_active s ≡ true → is_active s ≡ true
going_active s g = grind arith

-- no bound is above that of the settings
bound_most : (settings : Settings) (s : Submission) → bound settings s ≤ settings.max_attempts
bound_most settings s = by (s.attempts == 0) refl
  where
    by : (b : Bool) → (s.attempts == 0) ≡ b → bound settings s ≤ settings.max_attempts
    by true e = rw e (omega arith)
    by false e = rw e (omega arith)

below_most : (settings : Settings) (found : Option AppRecord) → reaches_bound settings found ≡ false → 1 ≤ settings.max_attempts → length (attempts_in found) < settings.max_attempts
below_most settings None below one = omega (arith, one)
below_most settings (Some app) below one =
    let less : length app.attempts < bound settings app.submission = grind (arith, nat_tests) in
    omega (arith, less, bound_most settings app.submission)

-- the number of an attempt that has ended, where another may follow
pub record IsFollowed (t : Tables) (id : AppId) (current : Current) : Type 0 where
  pub next : (next_in t id).number ≡ current.number + 1
  pub below : current.number < t.settings.max_attempts

pub followed : (h : History) (t : Tables) → AppsInvariant t.settings h t → 1 ≤ t.settings.max_attempts → (id : AppId) (row : AppRow) (current : Current) → row_of t.rows id ≡ Some row → row.current ≡ Some current → is_active row.state ≡ true
    → current.state ≡ attempts.Ended → end_with t.settings row.wish (found_in t id) (last_end_in (found_in t id)) ≡ None → IsFollowed t id current
followed h t keeps one id row current found is going st none =
    let zero : AttemptId = record { app = id; number = 0 } in
    let good : RowInvariant t.settings zero (Some row) (view h t zero) = rw found at (keeps.all zero) in
    let active = going_active row.state going in
    let of_row = active_row t.settings zero row (view h t zero) active good in
    let says : ActiveInvariant t.settings zero (Some current) row.wish (view h t zero) = rw is at of_row.current in
    let own : CurrentInvariant t.settings attempts.Ended (record { app = id; number = current.number }) row.wish (view h t zero) = rw st at says.0 in
    let last : current.number ≡ length (attempts_in (found_in t id)) = own.1 in
    let done = done_facts t.settings zero row current (view h t zero) is active st good in
    let retry = retry_facts t.settings row (view h t zero) done none in
    let below = below_most t.settings (found_in t id) retry.below one in
    record { next = omega (arith, last); below = omega (arith, last, below) }
