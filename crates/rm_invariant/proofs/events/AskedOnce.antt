-- A pass keeps what it takes: that masters are asked for once and only what goes on asks for more, that those are current, and that no two
-- records are of one application.
use Rattle.rm_invariant.proofs.Common.{◌≡◌, ◌⊎◌, inl, inr, ℕ, ◌-◌, ◌||◌, List, [], ◌∷◌, Bool, true, false, Option, None, Some, filter, find, fold, map, refl, sym, ◌∙◌, ap, subst, arith, false≢true, nat_tests, Ask, Grant, AppId, AttemptId, Resource, is_app, is_attempt, by_priority, same_attempt, AsksOf, asks_granted, attempt_asks, table_granted, is_for, one_less, AttemptState, is_alive, is_size, AppRow, Current, Tables, sched_popped, granted_at, asks_after_answer, passed_with, rows_after_grant, table_without_granted, row_of, is_ending}
use Rattle.std.proofs.Common.{◌==◌, nat_lt}
use Rattle.rm_states.specs.declared.attempt.states.AttemptState.TheVariants as attempts
use Rattle.rm_invariant.specs.apps.View.{changed_if}
use Rattle.rm_invariant.proofs.apps.Found.{row_changed}
use Rattle.rm_invariant.specs.events.Asking.{OthersCurrent, asks_others}
use Rattle.rm_invariant.specs.events.Masters.{AppsOnce, MastersAskOnce, are_single, goes_in, is_single}
use Rattle.rm_invariant.proofs.events.Answered.{other_granted, own_granted}
use Rattle.rm_invariant.proofs.events.Askers.{none_passed, others_passed}
use Rattle.rm_invariant.proofs.events.Granting.{counting}

-- THE ASKS

-- each ask for a master's container is for one after a grant: the one that is answered goes
single_granted : (priority : ℕ) (size : Resource) (asks : List Ask) → are_single asks ≡ true → are_single (asks_granted priority size asks) ≡ true
single_granted priority size [] single = refl
single_granted priority size (one ∷ asks) single = by (is_single one) refl (single_granted priority size asks)
  where
    kept : (less : Ask) → (is_single less ≡ true) ⊎ (nat_lt 0 less.count ≡ false) → are_single (asks_granted priority size asks) ≡ true
        → are_single (filter (λ ask. nat_lt 0 ask.count) (less ∷ map (one_less priority size) asks)) ≡ true
    kept less known rest = count (nat_lt 0 less.count) refl known
      where
        count : (b : Bool) → nat_lt 0 less.count ≡ b → (is_single less ≡ true) ⊎ (nat_lt 0 less.count ≡ false) → are_single (filter (λ ask. nat_lt 0 ask.count) (less ∷ map (one_less priority size) asks)) ≡ true
        count true e (inl is) = rw e (rw is rest)
        count true e (inr none) = absurd (false≢true (sym none ∙ e))
        count false e known = rw e rest

    lessened : is_single one ≡ true → (b : Bool) → is_for priority size one ≡ b → (is_single (one_less priority size one) ≡ true) ⊎ (nat_lt 0 (one_less priority size one).count ≡ false)
    lessened is false e = inl (rw e is)
    lessened is true e = at (one.priority == 0) refl (one.count == 1) refl
      where
        less : one_less priority size one ≡ record one { count = one.count - 1 }
        less = rw e refl

        at : (b : Bool) → (one.priority == 0) ≡ b → (c : Bool) → (one.count == 1) ≡ c → (is_single (one_less priority size one) ≡ true) ⊎ (nat_lt 0 (one_less priority size one).count ≡ false)
        at true f true g =
            let first : one.count ≡ 1 = grind (arith, nat_tests) in
            inr (ap (λ (ask : Ask). nat_lt 0 ask.count) less ∙ ap (λ (n : ℕ). nat_lt 0 (n - 1)) first)
        at true f false g = absurd (let x : false ≡ true = rw (f, g) at is in false≢true x)
        at false f c g = inl (ap is_single less ∙ rw f refl)

    by : (b : Bool) → is_single one ≡ b → (are_single asks ≡ true → are_single (asks_granted priority size asks) ≡ true) → are_single (asks_granted priority size (one ∷ asks)) ≡ true
    by true e rest = kept (one_less priority size one) (lessened e (is_for priority size one) refl) (rest (rw e at single))
    by false e rest = absurd (let x : false ≡ true = rw e at single in false≢true x)

single_answered : (table : List AsksOf) (grant : Grant) (q : AttemptId) → are_single (attempt_asks table q) ≡ true → are_single (attempt_asks (table_without_granted table grant) q) ≡ true
single_answered table grant q single = by (find (λ one. is_size one.size grant.size) (by_priority (attempt_asks table grant.id.attempt)))
  where
    at : (ask : Ask) (b : Bool) → is_attempt grant.id.attempt q ≡ b → are_single (attempt_asks (table_granted grant.id.attempt ask.priority grant.size table) q) ≡ true
    at ask true e =
        let is : grant.id.attempt ≡ q = same_attempt grant.id.attempt q e in
        let own : attempt_asks (table_granted grant.id.attempt ask.priority grant.size table) q ≡ asks_granted ask.priority grant.size (attempt_asks table q) =
        subst (λ (a : AttemptId). attempt_asks (table_granted grant.id.attempt ask.priority grant.size table) a ≡ asks_granted ask.priority grant.size (attempt_asks table a)) is (own_granted grant.id.attempt ask.priority grant.size table) in
        ap are_single own ∙ single_granted ask.priority grant.size (attempt_asks table q) single
    at ask false e = ap are_single (other_granted grant.id.attempt q e ask.priority grant.size table) ∙ single

    by : (o : Option Ask) → are_single (attempt_asks (asks_after_answer table grant o) q) ≡ true
    by None = single
    by (Some ask) = at ask (is_attempt grant.id.attempt q) refl

single_passed : (grants : List Grant) (table : List AsksOf) (q : AttemptId) → are_single (attempt_asks table q) ≡ true → are_single (attempt_asks (fold table_without_granted table grants) q) ≡ true
single_passed [] table q single = single
single_passed (grant ∷ grants) table q single = single_passed grants (table_without_granted table grant) q (single_answered table grant q single)

-- THE ROWS

-- what goes on goes on after a grant
goes_granted : (grant : Grant) (rows : List (AppId × Option AppRow)) (id : AppId) → goes_in (row_of rows id) ≡ true → goes_in (row_of (rows_after_grant rows grant) id) ≡ true
goes_granted grant rows id goes = ap goes_in (row_changed (counting grant) grant.id.attempt.app id rows) ∙ by (is_app grant.id.attempt.app id) (row_of rows id) goes
  where
    at : (s : AttemptState) (one : Current) → one.state ≡ s → (is_alive s || is_ending s) ≡ true → (is_alive (granted_at s grant.id one).state || is_ending (granted_at s grant.id one).state) ≡ true
    at attempts.Live one is e = rw is refl
    at attempts.Registered one is e = rw is refl
    at attempts.Finishing one is e = rw is refl
    at attempts.Ending one is e = rw is refl
    at _ one is e = absurd (false≢true e)

    with : (row : AppRow) (o : Option Current) → row.current ≡ o → goes_in (Some row) ≡ true → goes_in (Some (counting grant row)) ≡ true
    with row None is e = absurd (let x : false ≡ true = rw is at e in false≢true x)
    with row (Some one) is e = let f : (is_alive one.state || is_ending one.state) ≡ true = rw is at e in rw is (at one.state one refl f)

    by : (b : Bool) (o : Option AppRow) → goes_in o ≡ true → goes_in (changed_if b (counting grant) o) ≡ true
    by true None e = e
    by true (Some row) e = with row row.current refl e
    by false o e = e

goes_passed : (grants : List Grant) (rows : List (AppId × Option AppRow)) (id : AppId) → goes_in (row_of rows id) ≡ true → goes_in (row_of (fold rows_after_grant rows grants) id) ≡ true
goes_passed [] rows id goes = goes
goes_passed (grant ∷ grants) rows id goes = goes_passed grants (rows_after_grant rows grant) id (goes_granted grant rows id goes)

-- WHAT A PASS KEEPS

module _ (t : Tables) (grants : List Grant) where
  -- the tables after a pass and its event
  abbrev pub next_tables : Tables
  next_tables = sched_popped (passed_with grants t)

  -- masters are asked for once
  pub once_kept : MastersAskOnce t → MastersAskOnce next_tables
  once_kept once =
      record {
        single = λ q. single_passed grants t.asks q (once.single q);
        others = λ q some. goes_passed grants t.rows q.app (by q (asks_others (attempt_asks t.asks q)) refl some);
      }
    where
      by : (q : AttemptId) (b : Bool) → asks_others (attempt_asks t.asks q) ≡ b → asks_others (attempt_asks (fold table_without_granted t.asks grants) q) ≡ true → goes_in (row_of t.rows q.app) ≡ true
      by q true e some = once.others q e
      by q false e some = absurd (false≢true (sym (none_passed grants t.asks q e) ∙ some))

  -- those that ask for something else are current
  pub others_kept : OthersCurrent t → OthersCurrent next_tables
  others_kept others = others_passed t grants others

  -- and no two records are of one application
  pub apps_kept : AppsOnce t → AppsOnce next_tables
  apps_kept apps = apps
