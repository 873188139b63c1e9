-- Why the ends that the tables decide are ones that the judge allows, by the state of the row of the application.
use Rattle.rm_invariant.proofs.Common.{◌≡◌, ◌≤◌, ◌⊎◌, inl, inr, ℕ, List, [], ◌∷◌, Bool, true, false, Option, None, Some, length, refl, subst, arith, list_any, nat_tests, AppId, AttemptId, How, Op, AppRecord, AttemptRecord, Settings, all_ended, is_some_and, last_attempt, has_failed, Scene, attempts_in, reaches_bound, is_attempt_op, is_attempt_end_op, is_app_end_op, last_end, EndsFor, killed_text, AppState, AttemptState, AppRow, Current, Tables, end_with, last_end_in, History, abstract_scene}
use Rattle.std.proofs.Common.{is_some}
use Rattle.std.specs.Prelude.{option_and_then}
use Rattle.rm_types.specs.declared.operations.How.TheVariants as ways
use Rattle.rm_types.specs.declared.operations.Op.TheVariants as ops
use Rattle.rm_model.specs.Attempts.{is_failed}
use Rattle.rm_model.specs.Facts.{kept_record, next_attempt, is_wished}
use Rattle.rm_model.specs.Issuing.{MayIssueAppEnd, MayIssueAttemptEnd, end_by}
use Rattle.rm_states.specs.declared.app.states.AppState.TheVariants as apps
use Rattle.rm_states.specs.declared.attempt.states.AttemptState.TheVariants as attempts
use Rattle.rm_invariant.specs.apps.View.{View, view, is_attempt_op_of, is_attempt_end_op_of}
use Rattle.rm_invariant.specs.apps.Invariant.{RowInvariant, StateInvariant, ActiveInvariant, AllHaveEnded, LastIsOpen, MayFollowInView, is_active, ops_of}
use Rattle.rm_invariant.proofs.apps.Counts.{none_under}
use Rattle.rm_invariant.proofs.apps.Own.{active_row}

-- what the facts give where an application's end is to be issued, and where an attempt's is
pub record MayStop (v : View) : Type 0 where
  pub stopped : AllHaveEnded v.found
  pub none_awaits : ops_of v.count ≡ 0

pub record MayEndAttempt (id : AttemptId) (v : View) : Type 0 where
  pub goes_on : LastIsOpen v.found id
  pub none_awaits : ops_of v.count ≡ 0

module _ (h : History) (t : Tables) (q : AttemptId) (settings : Settings) (o : t.is_open ≡ true) where
  under_app : (op : Op) → is_attempt_op (next_attempt (abstract_scene h t) q.app) op ≡ true → is_attempt_op_of q.app op ≡ true
  under_app (ops.Attempt one master node) e = grind (arith, nat_tests)
  under_app _ e = cc

  -- an AppEnd may be issued
  pub app_end_lawful : MayStop (view h t q) → (how : How) (text : List ℕ) → end_by settings (abstract_scene h t) q.app (last_end (abstract_scene h t) q.app) ≡ Some (how, text)
      → MayIssueAppEnd settings (abstract_scene h t) q.app how text
  app_end_lawful may how text by =
      let none = may.none_awaits in
      let stopped = may.stopped in
      let ended : list_any (is_app_end_op q.app) t.awaiting ≡ false = none_under (is_app_end_op q.app) (is_app_end_op q.app) (λ op e. e) t.awaiting (omega (arith, none)) in
      let attempt : list_any (is_attempt_op (next_attempt (abstract_scene h t) q.app)) t.awaiting ≡ false =
      none_under (is_attempt_op_of q.app) (is_attempt_op (next_attempt (abstract_scene h t) q.app)) under_app t.awaiting (omega (arith, none)) in
      record {
        opened = o;
        kept = stopped.0;
        not_issued = rw (ended, stopped.1) refl;
        no_attempt = attempt;
        ended = stopped.2;
        end = by;
      }

  under_end : (id : AttemptId) → id.app ≡ q.app → (op : Op) → is_attempt_end_op id op ≡ true → is_attempt_end_op_of q.app op ≡ true
  under_end id a (ops.AttemptEnd one how text) e = rw (← a) (grind (arith, nat_tests))
  under_end id a _ e = cc

  -- an AttemptEnd may be issued
  pub attempt_end_lawful : (number : ℕ) → MayEndAttempt (record { app = q.app; number = number }) (view h t q) → (how : How) (text : List ℕ)
      → EndsFor (abstract_scene h t) (record { app = q.app; number = number }) how text → MayIssueAttemptEnd (abstract_scene h t) (record { app = q.app; number = number }) how text
  attempt_end_lawful number may how text cause =
      let none = may.none_awaits in
      let goes = may.goes_on in
      let id : AttemptId = record { app = q.app; number = number } in
      let ended : list_any (is_attempt_end_op (record { app = q.app; number = number })) t.awaiting ≡ false =
      none_under (is_attempt_end_op_of q.app) (is_attempt_end_op (record { app = q.app; number = number })) (under_end (record { app = q.app; number = number }) refl) t.awaiting (omega (arith, none)) in
      record {
        opened = o;
        current = goes.2;
        not_issued = ended;
        cause = cause;
      }

-- what makes an event lawful, by the state
pub record WasSaved (row : AppRow) (v : View) : Type 0 where
  pub may : MayStop v
  pub first : attempts_in v.found ≡ []
  pub not_accepted : v.accepted ≡ false
  pub wished : v.wished ≡ row.wish

pub submitted_facts : (settings : Settings) (q : AttemptId) (row : AppRow) (v : View) → row.state ≡ apps.Submitted → RowInvariant settings q (Some row) v → WasSaved row v
submitted_facts settings q row v is good =
    let says = subst (λ (state : AppState). StateInvariant settings q state row v) is good.1 in
    record { may = record { stopped = says.0; none_awaits = says.6 }; first = says.1; not_accepted = says.4; wished = good.0.wish }

-- of an active one, by its current attempt
pub record Unsaved (settings : Settings) (row : AppRow) (current : Current) (v : View) : Type 0 where
  pub may : MayStop v
  pub follows : MayFollowInView settings current.number v
  pub wished : v.wished ≡ row.wish

pub record Living (q : AttemptId) (row : AppRow) (current : Current) (v : View) : Type 0 where
  pub may : MayEndAttempt (record { app = q.app; number = current.number }) v
  pub wished : v.wished ≡ row.wish

pub record Done (row : AppRow) (v : View) : Type 0 where
  pub may : MayStop v
  pub some : 1 ≤ length (attempts_in v.found)
  pub wished : v.wished ≡ row.wish

module _ (settings : Settings) (q : AttemptId) (row : AppRow) (current : Current) (v : View) (is : row.current ≡ Some current) (a : is_active row.state ≡ true) where
  pub unsaved_facts : (state : AttemptState) → current.state ≡ state → (state ≡ attempts.Scheduled) ⊎ (state ≡ attempts.Granted) → RowInvariant settings q (Some row) v → Unsaved settings row current v
  unsaved_facts state s e good =
      let active = active_row settings q row v a good in
      let says : ActiveInvariant settings q (Some current) row.wish v = rw is at active.current in
      record { may = record { stopped = grind arith; none_awaits = grind arith }; follows = grind arith; wished = good.0.wish }

  pub living_facts : (state : AttemptState) → current.state ≡ state → (state ≡ attempts.Live) ⊎ (state ≡ attempts.Registered) ⊎ (state ≡ attempts.Finishing) → RowInvariant settings q (Some row) v → Living q row current v
  living_facts state s e good =
      let active = active_row settings q row v a good in
      let says : ActiveInvariant settings q (Some current) row.wish v = rw is at active.current in
      record { may = record { goes_on = grind arith; none_awaits = grind arith }; wished = good.0.wish }

  pub done_facts : current.state ≡ attempts.Ended → RowInvariant settings q (Some row) v → Done row v
  done_facts s good =
      let active = active_row settings q row v a good in
      let says : ActiveInvariant settings q (Some current) row.wish v = rw is at active.current in
      record { may = record { stopped = grind arith; none_awaits = grind arith }; some = grind arith; wished = good.0.wish }

-- an end that isn't FINISHED
abbrev pub Unfinished : Option (How × List ℕ) → Type 0
Unfinished None = Unit {0}
Unfinished (Some (ways.Finished, text)) = ⊥
Unfinished (Some (ways.Failed, text)) = Unit {0}
Unfinished (Some (ways.Killed, text)) = Unit {0}

failed_ending : (end : Option (How × List ℕ)) → is_some_and (λ ending. is_failed ending.0) end ≡ true → Unfinished end
failed_ending None e = cc
failed_ending (Some (ways.Finished, text)) e = cc
failed_ending (Some (ways.Failed, text)) e = tt
failed_ending (Some (ways.Killed, text)) e = tt

failed_last : (last : Option AttemptRecord) → is_some_and has_failed last ≡ true → Unfinished (option_and_then (λ one. one.ending) last)
failed_last None e = cc
failed_last (Some one) e = failed_ending one.ending e

none_last : (attempts : List AttemptRecord) → length attempts ≡ 0 → Unfinished (option_and_then (λ one. one.ending) (last_attempt attempts))
none_last [] e = tt
none_last (one ∷ more) e = absurd (omega (arith, e))

pub unfinished : (settings : Settings) (number : ℕ) (v : View) → MayFollowInView settings number v → Unfinished (last_end_in v.found)
unfinished settings number v (n, inl first) = let one = first.0 in none_last (attempts_in v.found) (omega (arith, n, one))
unfinished settings number v (n, inr failed) = failed_last (last_attempt (attempts_in v.found)) failed.0

pub killed_end : (settings : Settings) (m : Scene) (id : AppId) (end : Option (How × List ℕ)) → is_wished m id ≡ true → Unfinished end → end_by settings m id end ≡ Some (ways.Killed, killed_text)
killed_end settings m id None w u = rw w refl
killed_end settings m id (Some (ways.Finished, text)) w u = absurd u
killed_end settings m id (Some (ways.Failed, text)) w u = rw w refl
killed_end settings m id (Some (ways.Killed, text)) w u = refl

-- the tables' end is the judge's
pub end_same : (settings : Settings) (m : Scene) (id : AppId) (wish : Bool) (end : Option (How × List ℕ)) → is_wished m id ≡ wish → end_by settings m id end ≡ end_with settings wish (kept_record m id) end
end_same settings m id wish None w = rw w refl
end_same settings m id wish (Some (ways.Finished, text)) w = refl
end_same settings m id wish (Some (ways.Failed, text)) w = rw w refl
end_same settings m id wish (Some (ways.Killed, text)) w = refl

-- where there is none, the next attempt may follow
pub record MayRetry (settings : Settings) (wish : Bool) (found : Option AppRecord) : Type 0 where
  pub no_wish : wish ≡ false
  pub failed : is_some_and has_failed (last_attempt (attempts_in found)) ≡ true
  pub below : reaches_bound settings found ≡ false

last_ended : (attempts : List AttemptRecord) → all_ended attempts ≡ true → 1 ≤ length attempts → is_some (option_and_then (λ one. one.ending) (last_attempt attempts)) ≡ true
last_ended [] e n = absurd (omega (arith, n))
last_ended (one ∷ []) e n = by (is_some one.ending) refl
  where
    by : (b : Bool) → is_some one.ending ≡ b → is_some one.ending ≡ true
    by true s = s
    by false s = absurd (let x = rw s at e in cc)
last_ended (one ∷ next ∷ more) e n = by (is_some one.ending) refl (last_ended (next ∷ more))
  where
    by : (b : Bool) → is_some one.ending ≡ b → (all_ended (next ∷ more) ≡ true → 1 ≤ length (next ∷ more) → is_some (option_and_then (λ one. one.ending) (last_attempt (next ∷ more))) ≡ true)
        → is_some (option_and_then (λ one. one.ending) (last_attempt (next ∷ more))) ≡ true
    by true s rest = rest (let x = rw s at e in x) (omega arith)
    by false s rest = absurd (let x = rw s at e in cc)

retry_by : (settings : Settings) (found : Option AppRecord) (last : Option AttemptRecord) → last_attempt (attempts_in found) ≡ last → (end : Option (How × List ℕ)) → option_and_then (λ one. one.ending) last ≡ end → is_some end ≡ true
    → (wish below : Bool) → reaches_bound settings found ≡ below → end_with settings wish found end ≡ None → MayRetry settings wish found
retry_by settings found last l None e s wish below b n = cc
retry_by settings found last l (Some (ways.Finished, text)) e s wish below b n = cc
retry_by settings found last l (Some (ways.Killed, text)) e s wish below b n = cc
retry_by settings found last l (Some (ways.Failed, text)) e s true below b n = cc
retry_by settings found last l (Some (ways.Failed, text)) e s false true b n = absurd (let x = rw b at n in cc)
retry_by settings found None l (Some (ways.Failed, text)) e s false false b n = cc
retry_by settings found (Some one) l (Some (ways.Failed, text)) e s false false b n = record { no_wish = refl; failed = rw (l, e) refl; below = b }

pub retry_facts : (settings : Settings) (row : AppRow) (v : View) → Done row v → end_with settings row.wish v.found (last_end_in v.found) ≡ None → MayRetry settings row.wish v.found
retry_facts settings row v d n =
    let stopped = d.may.stopped in
    retry_by settings v.found (last_attempt (attempts_in v.found)) refl (last_end_in v.found) refl (last_ended (attempts_in v.found) stopped.2 d.some) row.wish (reaches_bound settings v.found) refl n
