-- What the events of masters do to the facts of an application and its attempt of a number.
use Rattle.rm_invariant.proofs.Common.{◌≡◌, ◌⊎◌, ℕ, suc, Bool, true, false, Option, Some, refl, arith, nat_tests, AttemptId, How, Settings, AppState, AttemptState, AppRow, Current, changed}
use Rattle.std.proofs.Common.{◌==◌}
use Rattle.rm_states.specs.declared.attempt.states.AttemptState.TheVariants as attempts
use Rattle.rm_tables.specs.declared.changes.RowChange.TheVariants as of_app
use Rattle.rm_tables.specs.declared.changes.AttemptChange.TheVariants as of_attempt
use Rattle.rm_invariant.specs.apps.Invariant.{ActiveInvariant, RowInvariant, StateInvariant, is_active}
use Rattle.rm_invariant.specs.apps.View.{View, one_if}
use Rattle.rm_invariant.proofs.apps.Own.{active_row}

-- an attempt that is on its way or lives is of an active application
abbrev pub goes_on : AttemptState → Bool
goes_on attempts.Scheduled = true
goes_on attempts.Granted = true
goes_on attempts.Saving = true
goes_on attempts.Live = true
goes_on attempts.Registered = true
goes_on attempts.Finishing = true
goes_on attempts.Ending = true
goes_on attempts.Ended = false
goes_on attempts.Dropped = false

active_by : (settings : Settings) (q : AttemptId) (row : AppRow) (v : View) (current : Current) (c : Option Current) (s : AppState) → c ≡ Some current → row.current ≡ c → goes_on current.state ≡ true → StateInvariant settings q s row v → is_active s ≡ true
active_by settings q row v current c s is e g says = grind arith

-- so its application is active
pub active_of : (settings : Settings) (q : AttemptId) (row : AppRow) (v : View) (current : Current) → row.current ≡ Some current → goes_on current.state ≡ true → RowInvariant settings q (Some row) v → is_active row.state ≡ true
active_of settings q row v current is g good = active_by settings q row v current (Some current) row.state refl is g good.1

module _ (settings : Settings) (q : AttemptId) (row : AppRow) (current : Current) (v : View) (is : row.current ≡ Some current) (a : is_active row.state ≡ true) where
  -- MasterGranted: the attempt goes to be saved
  pub granted_saves : current.state ≡ attempts.Granted → (b : Bool) → (current.number == q.number) ≡ b
      → RowInvariant settings q (Some row) (record v { count = record v.count { grants = one_if b v.count.grants } })
      → RowInvariant settings q (Some (changed (of_app.OfAttempt of_attempt.Issue) row)) (record v { count = record v.count { attempts = suc v.count.attempts; own_ops = one_if b v.count.own_ops } })
  granted_saves s b n good =
      let known = good.0 in
      let active = active_row settings q row (record v { count = record v.count { grants = one_if b v.count.grants } }) a good in
      let says : ActiveInvariant settings q (Some current) row.wish (record v { count = record v.count { grants = one_if b v.count.grants } }) = rw is at active.current in
      rw is (grind (arith, nat_tests))

  -- or waits again
  pub granted_requeues : current.state ≡ attempts.Granted → (b : Bool) → (current.number == q.number) ≡ b → (b ≡ true → v.held ≡ false)
      → RowInvariant settings q (Some row) (record v { count = record v.count { grants = one_if b v.count.grants } })
      → RowInvariant settings q (Some (changed (of_app.OfAttempt of_attempt.Requeue) row)) (record v { count = record v.count { queueings = one_if b v.count.queueings } })
  granted_requeues s b n free good =
      let known = good.0 in
      let active = active_row settings q row (record v { count = record v.count { grants = one_if b v.count.grants } }) a good in
      let says : ActiveInvariant settings q (Some current) row.wish (record v { count = record v.count { grants = one_if b v.count.grants } }) = rw is at active.current in
      rw is (grind (arith, nat_tests))

  -- AttemptSaved, MasterLost, AttemptExpired, AttemptFinish: an attempt that lives goes to have its end saved
  pub alive_ends : (how : How) (state : AttemptState) → current.state ≡ state → (state ≡ attempts.Live) ⊎ (state ≡ attempts.Registered) ⊎ (state ≡ attempts.Finishing) → (m : ℕ) → (b : Bool) → (current.number == q.number) ≡ b
      → RowInvariant settings q (Some row) (record v { count = record v.count { launches = m } })
      → RowInvariant settings q (Some (changed (of_app.OfAttempt (of_attempt.End how)) row)) (record v { count = record v.count { attempt_ends = suc v.count.attempt_ends; own_ops = one_if b v.count.own_ops } })
  alive_ends how state s e m b n good =
      let known = good.0 in
      let active = active_row settings q row (record v { count = record v.count { launches = m } }) a good in
      let says : ActiveInvariant settings q (Some current) row.wish (record v { count = record v.count { launches = m } }) = rw is at active.current in
      rw is (grind (arith, nat_tests))

  -- AttemptSaved of one without a wish
  pub alive_stays : (state : AttemptState) → current.state ≡ state → (state ≡ attempts.Live) ⊎ (state ≡ attempts.Registered) ⊎ (state ≡ attempts.Finishing) → row.wish ≡ false → (b : Bool)
      → RowInvariant settings q (Some row) (record v { count = record v.count { launches = one_if b v.count.launches } })
      → RowInvariant settings q (Some row) v
  alive_stays state s e w b good =
      let known = good.0 in
      let active = active_row settings q row (record v { count = record v.count { launches = one_if b v.count.launches } }) a good in
      let says : ActiveInvariant settings q (Some current) row.wish (record v { count = record v.count { launches = one_if b v.count.launches } }) = rw is at active.current in
      rw is (grind (arith, nat_tests))

  -- MasterLost of one that is being saved
  pub saving_loses : current.state ≡ attempts.Saving → RowInvariant settings q (Some row) v → RowInvariant settings q (Some (changed (of_app.OfAttempt of_attempt.Lose) row)) v
  saving_loses s good =
      let known = good.0 in
      let active = active_row settings q row v a good in
      let says : ActiveInvariant settings q (Some current) row.wish v = rw is at active.current in
      rw is (grind (arith, nat_tests))

  -- its master finishes
  pub alive_finishes : (state : AttemptState) → current.state ≡ state → (state ≡ attempts.Live) ⊎ (state ≡ attempts.Registered) ⊎ (state ≡ attempts.Finishing) → RowInvariant settings q (Some row) v → RowInvariant settings q (Some (changed (of_app.OfAttempt of_attempt.Finish) row)) v
  alive_finishes state s e good =
      let known = good.0 in
      let active = active_row settings q row v a good in
      let says : ActiveInvariant settings q (Some current) row.wish v = rw is at active.current in
      rw is (grind (arith, nat_tests))

  -- its master registers
  pub alive_registers : (state : AttemptState) → current.state ≡ state → (state ≡ attempts.Live) ⊎ (state ≡ attempts.Registered) ⊎ (state ≡ attempts.Finishing) → RowInvariant settings q (Some row) v → RowInvariant settings q (Some (changed of_app.Register row)) v
  alive_registers state s e good =
      let known = good.0 in
      let active = active_row settings q row v a good in
      let says : ActiveInvariant settings q (Some current) row.wish v = rw is at active.current in
      rw is (grind (arith, nat_tests))
