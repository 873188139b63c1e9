-- What each event and kept operation that ends applications and attempts does to what is said of its application, over a view alone.
use Rattle.rm_invariant.proofs.Common.{◌≡◌, ◌≤◌, ◌⊎◌, ◌+◌, suc, Bool, true, false, Option, None, Some, length, refl, sym, ◌∙◌, subst, arith, nat_tests, AttemptId, AppRecord, Settings, is_some_and, last_attempt, attempts_in, end_in, reaches_bound, has_failed, How, AppState, AttemptState, AppRow, Current, changed}
use Rattle.std.proofs.Common.{◌≢◌, ◌==◌, option_map}
use Rattle.rm_states.specs.declared.app.states.AppState.TheVariants as apps
use Rattle.rm_states.specs.declared.attempt.states.AttemptState.TheVariants as attempts
use Rattle.rm_tables.specs.declared.changes.RowChange.TheVariants as of_app
use Rattle.rm_tables.specs.declared.changes.AttemptChange.TheVariants as of_attempt
use Rattle.rm_invariant.specs.apps.View.{View, one_if}
use Rattle.rm_invariant.proofs.apps.Own.{active_row}
use Rattle.rm_invariant.specs.apps.Ends.{none_if}
use Rattle.rm_invariant.specs.apps.Invariant.{RowInvariant, IsKnown, StateInvariant, ActiveInvariant, is_active, AllHaveEnded}

module _ (settings : Settings) (q : AttemptId) (row : AppRow) (v : View) where
  -- AppSaved, where a client wished to kill it; AppKill before it is accepted
  pub saved_wished : row.state ≡ apps.Submitted → (b : Bool)
      → RowInvariant settings q (Some row) (record v { count = record v.count { saves = suc v.count.saves } })
      → RowInvariant settings q (Some (changed of_app.End row)) (record v { count = record v.count { app_ends = suc v.count.app_ends; asks = none_if b v.count.asks } })
  saved_wished is true good =
      let known = good.0 in
      let says : StateInvariant settings q apps.Submitted row (record v { count = record v.count { saves = suc v.count.saves } }) = rw is at good.1 in
      let none = says.3 in
      rw none (grind arith)
  saved_wished is false good =
      let known = good.0 in
      let says : StateInvariant settings q apps.Submitted row (record v { count = record v.count { saves = suc v.count.saves } }) = rw is at good.1 in
      let none = says.3 in
      rw none (grind arith)

  pub kill_submitted : row.state ≡ apps.Submitted → (b : Bool)
      → RowInvariant settings q (Some row) (record v { count = record v.count { kills = suc v.count.kills } })
      → RowInvariant settings q (Some (changed of_app.End row)) (record v { count = record v.count { app_ends = suc v.count.app_ends; asks = none_if b v.count.asks } })
  kill_submitted is true good =
      let known = good.0 in
      let says : StateInvariant settings q apps.Submitted row (record v { count = record v.count { kills = suc v.count.kills } }) = rw is at good.1 in
      let none = says.3 in
      rw none (grind arith)
  kill_submitted is false good =
      let known = good.0 in
      let says : StateInvariant settings q apps.Submitted row (record v { count = record v.count { kills = suc v.count.kills } }) = rw is at good.1 in
      let none = says.3 in
      rw none (grind arith)

-- an active application whose current attempt isn't issued, or has ended, goes to have its end saved
module _ (settings : Settings) (q : AttemptId) (row : AppRow) (current : Current) (v : View) (is : row.current ≡ Some current) (a : is_active row.state ≡ true) where
  pub kill_unsaved : (state : AttemptState) → current.state ≡ state → (state ≡ attempts.Scheduled) ⊎ (state ≡ attempts.Granted) → (b c : Bool) → (current.number == q.number) ≡ c → ((length (attempts_in v.found) + 1) == q.number) ≡ b
      → RowInvariant settings q (Some row) (record v { count = record v.count { kills = suc v.count.kills } })
      → RowInvariant settings q (Some (changed of_app.End row)) (record v { count = record v.count { app_ends = suc v.count.app_ends; asks = none_if b v.count.asks } })
  kill_unsaved state s e b c n k good =
      let known = good.0 in
      let active = active_row settings q row (record v { count = record v.count { kills = suc v.count.kills } }) a good in
      let says : ActiveInvariant settings q (Some current) row.wish (record v { count = record v.count { kills = suc v.count.kills } }) = rw is at active.current in
      rw is (grind (arith, nat_tests))

  -- one that lives goes to have its end saved
  pub kill_living : (state : AttemptState) → current.state ≡ state → (state ≡ attempts.Live) ⊎ (state ≡ attempts.Registered) ⊎ (state ≡ attempts.Finishing) → (c : Bool) → (current.number == q.number) ≡ c
      → RowInvariant settings q (Some row) (record v { count = record v.count { kills = suc v.count.kills } })
      → RowInvariant settings q (Some (changed of_app.Kill row)) (record v { count = record v.count { attempt_ends = suc v.count.attempt_ends; own_ops = one_if c v.count.own_ops } })
  kill_living state s e c n good =
      let known = good.0 in
      let active = active_row settings q row (record v { count = record v.count { kills = suc v.count.kills } }) a good in
      let says : ActiveInvariant settings q (Some current) row.wish (record v { count = record v.count { kills = suc v.count.kills } }) = rw is at active.current in
      rw is (grind (arith, nat_tests))

  -- one that is being saved, or whose end is or was, is left to that
  pub kill_later : (state : AttemptState) → current.state ≡ state → (state ≡ attempts.Saving) ⊎ (state ≡ attempts.Ending) ⊎ (state ≡ attempts.Ended) → (c : Bool) → (current.number == q.number) ≡ c
      → RowInvariant settings q (Some row) (record v { count = record v.count { kills = suc v.count.kills } })
      → RowInvariant settings q (Some (changed of_app.Kill row)) v
  kill_later state s e c n good =
      let known = good.0 in
      let active = active_row settings q row (record v { count = record v.count { kills = suc v.count.kills } }) a good in
      let says : ActiveInvariant settings q (Some current) row.wish (record v { count = record v.count { kills = suc v.count.kills } }) = rw is at active.current in
      rw is (grind (arith, nat_tests))

  -- its last attempt is done: it ends
  pub done_ends : current.state ≡ attempts.Ended → (b c : Bool) → (current.number == q.number) ≡ c
      → RowInvariant settings q (Some row) (record v { count = record v.count { dones = suc v.count.dones } })
      → RowInvariant settings q (Some (changed of_app.End row)) (record v { count = record v.count { app_ends = suc v.count.app_ends; asks = none_if b v.count.asks } })
  done_ends s b c n good =
      let known = good.0 in
      let active = active_row settings q row (record v { count = record v.count { dones = suc v.count.dones } }) a good in
      let says : ActiveInvariant settings q (Some current) row.wish (record v { count = record v.count { dones = suc v.count.dones } }) = rw is at active.current in
      rw is (grind (arith, nat_tests))

  -- or the next one is scheduled
  pub done_retries : current.state ≡ attempts.Ended → row.wish ≡ false → is_some_and has_failed (last_attempt (attempts_in v.found)) ≡ true → reaches_bound settings v.found ≡ false
      → (b c : Bool) → (current.number == q.number) ≡ c → ((length (attempts_in v.found) + 1) == q.number) ≡ b
      → RowInvariant settings q (Some row) (record v { count = record v.count { dones = suc v.count.dones } })
      → RowInvariant settings q (Some (changed (of_app.Schedule (length (attempts_in v.found) + 1)) row)) (record v { count = record v.count { queueings = one_if b v.count.queueings } })
  done_retries s wish failed below b c n k good =
      let known = good.0 in
      let active = active_row settings q row (record v { count = record v.count { dones = suc v.count.dones } }) a good in
      let says : ActiveInvariant settings q (Some current) row.wish (record v { count = record v.count { dones = suc v.count.dones } }) = rw is at active.current in
      by row.state refl a
    where
      by : (state : AppState) → row.state ≡ state → is_active state ≡ true
          → RowInvariant settings q (Some (changed (of_app.Schedule (length (attempts_in v.found) + 1)) row)) (record v { count = record v.count { queueings = one_if b v.count.queueings } })
      by apps.Accepted e active = rw (e, k) (grind (arith, nat_tests))
      by apps.Running e active = rw (e, k) (grind (arith, nat_tests))
      by apps.Killing e active = let killed : StateInvariant settings q apps.Killing row (record v { count = record v.count { dones = suc v.count.dones } }) = rw e at good.1 in let wished = killed.3 in cc
      by _ e active = cc

  -- the end of the current attempt is kept
  pub attempt_ended : (how : How) (found : Option AppRecord) → current.state ≡ attempts.Ending → AllHaveEnded found → length (attempts_in found) ≡ length (attempts_in v.found) → 1 ≤ current.number
      → (b c : Bool) → (current.number == q.number) ≡ c
      → RowInvariant settings q (Some row) (record v { count = record v.count { attempt_ends = suc v.count.attempt_ends; own_ops = one_if c v.count.own_ops } })
      → RowInvariant settings q (Some (changed (of_app.OfAttempt (of_attempt.KeepEnd how)) row)) (record v { found = found; count = record v.count { dones = suc v.count.dones; asks = none_if b v.count.asks } })
  attempt_ended how found s stopped same one b c n good =
      let known = good.0 in
      let active = active_row settings q row (record v { count = record v.count { attempt_ends = suc v.count.attempt_ends; own_ops = one_if c v.count.own_ops } }) a good in
      let says : ActiveInvariant settings q (Some current) row.wish (record v { count = record v.count { attempt_ends = suc v.count.attempt_ends; own_ops = one_if c v.count.own_ops } }) = rw is at active.current in
      rw is (grind (arith, nat_tests))

module _ (settings : Settings) (q : AttemptId) (row : AppRow) (v : View) where
  -- AppEnd is kept
  pub end_saved : (how : How) (found : Option AppRecord) → option_map (λ e. e.0) (end_in found) ≡ Some how → attempts_in found ≡ attempts_in v.found → row.state ≡ apps.FinalSaving
      → RowInvariant settings q (Some row) (record v { count = record v.count { app_ends = suc v.count.app_ends } })
      → RowInvariant settings q (Some (changed (of_app.KeepEnd how) row)) (record v { found = found; count = record v.count { completed = suc v.count.completed } })
  end_saved how found ended same is good =
      let known = good.0 in
      let says : StateInvariant settings q apps.FinalSaving row (record v { count = record v.count { app_ends = suc v.count.app_ends } }) = rw is at good.1 in
      grind (arith, same)

  -- a client's first kill
  pub kill_wished : row.wish ≡ false → RowInvariant settings q (Some row) v
      → RowInvariant settings q (Some (changed of_app.Wish row)) (record v { wished = true; count = record v.count { kills = suc v.count.kills } })
  kill_wished is good = grind arith

-- and a further one
pub kill_again : (settings : Settings) (q : AttemptId) (row : AppRow) (v : View) → row.wish ≡ true → RowInvariant settings q (Some row) v → RowInvariant settings q (Some row) (record v { wished = true })
kill_again settings q row v is good =
    let known = good.0 in
    let same : v.wished ≡ true = known.wish ∙ is in
    subst (λ (b : Bool). RowInvariant settings q (Some row) (record v { wished = b })) same good

-- Remove is issued, and kept
pub remove_issued : (settings : Settings) (q : AttemptId) (row : Option AppRow) (v : View)
    → RowInvariant settings q row (record v { count = record v.count { completed = suc v.count.completed } })
    → RowInvariant settings q row (record v { count = record v.count { removes = suc v.count.removes } })
remove_issued settings q None v good = grind arith
remove_issued settings q (Some row) v good = grind arith

pub remove_saved : (settings : Settings) (q : AttemptId) (row : AppRow) (v : View)
    → RowInvariant settings q (Some row) (record v { count = record v.count { removes = suc v.count.removes } })
    → RowInvariant settings q None (record v { found = None; retired = true })
remove_saved settings q row v good = grind arith

-- where an event has nothing to do, it may go
module _ (settings : Settings) (q : AttemptId) (row : AppRow) (v : View) where
  by_state : (state : AppState) → row.state ≡ state → IsKnown row v → StateInvariant settings q state row v → RowInvariant settings q (Some row) v
  by_state state is known says = (known, subst (λ (state : AppState). StateInvariant settings q state row v) (sym is) says)

  killed_state : (state : AppState) → state ≢ apps.Submitted → is_active state ≡ false → StateInvariant settings q state row (record v { count = record v.count { kills = suc v.count.kills } }) → StateInvariant settings q state row v
  killed_state state not idle says = grind arith

  pub killed_quiet : row.state ≢ apps.Submitted → is_active row.state ≡ false → RowInvariant settings q (Some row) (record v { count = record v.count { kills = suc v.count.kills } }) → RowInvariant settings q (Some row) v
  killed_quiet not idle good =
      let known = good.0 in
      by_state row.state refl (record { wish = known.wish; pending = known.pending; stays = known.stays; one_kill = omega (arith, known.one_kill); killed = λ n. known.killed (omega arith) }) (killed_state row.state not idle good.1)

  done_state : (state : AppState) → is_active state ≡ false → StateInvariant settings q state row (record v { count = record v.count { dones = suc v.count.dones } }) → StateInvariant settings q state row v
  done_state state idle says = grind arith

  pub done_quiet : is_active row.state ≡ false → RowInvariant settings q (Some row) (record v { count = record v.count { dones = suc v.count.dones } }) → RowInvariant settings q (Some row) v
  done_quiet idle good =
      let known = good.0 in
      by_state row.state refl (record { wish = known.wish; pending = known.pending; stays = known.stays; one_kill = known.one_kill; killed = known.killed }) (done_state row.state idle good.1)

  done_unended_state : (state : AppState) (current : Current) → row.current ≡ Some current → current.state ≢ attempts.Ended → (c : Bool) → (current.number == q.number) ≡ c
      → StateInvariant settings q state row (record v { count = record v.count { dones = suc v.count.dones } }) → StateInvariant settings q state row v
  done_unended_state state current is not c n says = grind arith

  pub done_unended : (current : Current) → row.current ≡ Some current → current.state ≢ attempts.Ended
      → RowInvariant settings q (Some row) (record v { count = record v.count { dones = suc v.count.dones } }) → RowInvariant settings q (Some row) v
  done_unended current is not good =
      let known = good.0 in
      by_state row.state refl (record { wish = known.wish; pending = known.pending; stays = known.stays; one_kill = known.one_kill; killed = known.killed }) (done_unended_state row.state current is not (current.number == q.number) refl good.1)

-- an event of an application that isn't known may go
module _ (settings : Settings) (q : AttemptId) (v : View) where
  pub killed_unknown : RowInvariant settings q None (record v { count = record v.count { kills = suc v.count.kills } }) → RowInvariant settings q None v
  killed_unknown good = grind arith

  pub done_unknown : RowInvariant settings q None (record v { count = record v.count { dones = suc v.count.dones } }) → RowInvariant settings q None v
  done_unknown good = grind arith
