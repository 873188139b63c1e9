-- Containers are granted: the rows of applications count them, tell the same endings, and agree with what was said of attempts.
use Rattle.rm_invariant.proofs.Common.{◌≡◌, ℕ, ◌+◌, List, [], ◌∷◌, ◌++◌, Bool, true, false, Option, None, Some, fold, map, refl, sym, ◌∙◌, ap, subst, arith, bytes_eq, nat_tests, map-append, Grant, AppId, AttemptId, ContainerId, is_app, is_attempt, same_attempt, same_app, same_text, BookOf, granted_rows, with_grants, AttemptState, passed, MasterState, Row, NodeRow, AppRow, Current, changed, current_after, granted, granted_at, rows_after_grant, row_of, AttemptAgrees, ClosingsAgree, NumberAgrees, RowAgrees, SameNodes, SameRows, bare_row, grants_of, plain_row, plain_node}
use Rattle.std.proofs.Common.{◌==◌, nat_lt, append_assoc, append-nil}
use Rattle.std.specs.Prelude.{option_map}
use Rattle.rm_types.specs.declared.containers.ContainerState.TheVariants.{Granted}
use Rattle.rm_states.specs.declared.attempt.states.AttemptState.TheVariants as attempts
use Rattle.rm_model.specs.Nodes.{judged_node as node_told, with_judged_node as with_told}
use Rattle.rm_model.specs.Passing.{row_granted as row_told}
use Rattle.rm_model.specs.State.{NodeState}
use Rattle.rm_tables.specs.declared.changes.AttemptChange.TheVariants as of_attempt
use Rattle.rm_tables.specs.declared.changes.RowChange.TheVariants as of_app
use Rattle.rm_refinement.proofs.Found.{other_told, own_told}
use Rattle.rm_invariant.specs.apps.View.{changed_if, one_if}
use Rattle.rm_invariant.proofs.apps.Counts.{at_end}
use Rattle.rm_invariant.proofs.apps.Found.{row_changed}
use Rattle.rm_invariant.specs.events.Asking.{AreNext, is_current_number, is_numbered, is_numbered_in}
use Rattle.rm_types.specs.declared.containers.ClosingOf.{ClosingOf}

-- CONTAINERS

-- what is granted enters alike
rows_enter : (added : ℕ) (grants : List Grant) → map bare_row (granted_rows added grants) ≡ map plain_row (map row_told grants)
rows_enter added [] = refl
rows_enter added (grant ∷ grants) = ap (λ l. record { id = grant.id; node = grant.node; size = grant.size; state = Granted } ∷ l) (rows_enter (added + 1) grants)

-- the same containers live again
pub rows_passed : (book : BookOf) (told : List Row) (grants : List Grant) → SameRows book.rows told → SameRows (with_grants book grants).rows (told ++ map row_told grants)
rows_passed book told grants same =
    map-append bare_row book.rows (granted_rows book.added grants)
    ∙ ap (λ l. l ++ map bare_row (granted_rows book.added grants)) same
    ∙ ap (λ l. map plain_row told ++ l) (rows_enter book.added grants)
    ∙ sym (map-append plain_row told (map row_told grants))

-- NODES

-- the same nodes are there again: what is worked off is nothing to the tables
pub nodes_passed : (book : BookOf) (nodes : List (List ℕ × NodeRow)) (told : List NodeState) (name : List ℕ) (grants : List Grant) → SameNodes book nodes told
    → SameNodes (with_grants book grants) nodes (with_told passed name told)
nodes_passed book nodes told name grants same = λ q. same q ∙ sym (by q (bytes_eq name q) refl)
  where
    still : (o : Option NodeState) → option_map plain_node (option_map passed o) ≡ option_map plain_node o
    still None = refl
    still (Some node) = refl

    by : (q : List ℕ) (b : Bool) → bytes_eq name q ≡ b → option_map plain_node (node_told (with_told passed name told) q) ≡ option_map plain_node (node_told told q)
    by q true e =
        subst (λ (z : List ℕ). option_map plain_node (node_told (with_told passed name told) z) ≡ option_map plain_node (node_told told z)) (same_text name q e)
        (ap (option_map plain_node) (own_told passed name told (λ one. refl)) ∙ still (node_told told name))
    by q false e = ap (option_map plain_node) (other_told passed name q told (λ one. refl) e)

-- ROWS THAT COUNT A GRANT

-- a row with one more grant
abbrev pub counting : Grant → AppRow → AppRow
counting grant row = changed (of_app.OfAttempt (of_attempt.Grant grant.id)) row

found_counting : (grant : Grant) (rows : List (AppId × Option AppRow)) (id : AppId) → row_of (rows_after_grant rows grant) id ≡ changed_if (is_app grant.id.attempt.app id) (counting grant) (row_of rows id)
found_counting grant rows id = row_changed (counting grant) grant.id.attempt.app id rows

-- they tell the same endings
pub closings_passed : (outbox : List ClosingOf) (id : AppId) (retired : Bool) (grants : List Grant) (rows : List (AppId × Option AppRow)) → ClosingsAgree outbox id retired (row_of rows id)
    → ClosingsAgree outbox id retired (row_of (fold rows_after_grant rows grants) id)
closings_passed outbox id retired [] rows same = same
closings_passed outbox id retired (grant ∷ grants) rows same =
    closings_passed outbox id retired grants (rows_after_grant rows grant)
    (subst (λ (o : Option AppRow). ClosingsAgree outbox id retired o) (sym (found_counting grant rows id)) (by (is_app grant.id.attempt.app id) (row_of rows id) same))
  where
    by : (b : Bool) (o : Option AppRow) → ClosingsAgree outbox id retired o → ClosingsAgree outbox id retired (changed_if b (counting grant) o)
    by true None same = same
    by true (Some row) same = same
    by false o same = same

-- a grant changes neither the number of the current attempt nor whether its master registered, and the count becomes the container's sequence
pub granted_keeps : (state : AttemptState) (id : ContainerId) (one : Current)
    → ((granted_at state id one).number ≡ one.number) × ((granted_at state id one).registered ≡ one.registered) × ((granted_at state id one).granted ≡ id.seq)
granted_keeps attempts.Scheduled id one = (refl, refl, refl)
granted_keeps _ id one = (refl, refl, refl)

-- the same attempts are current
pub still_current : (grant : Grant) (rows : List (AppId × Option AppRow)) (attempt : AttemptId) → is_current_number (rows_after_grant rows grant) attempt ≡ is_current_number rows attempt
still_current grant rows attempt = ap (is_numbered_in attempt.number) (found_counting grant rows attempt.app) ∙ by (is_app grant.id.attempt.app attempt.app) (row_of rows attempt.app)
  where
    current : (o : Option Current) → is_numbered attempt.number (current_after (of_app.OfAttempt (of_attempt.Grant grant.id)) o) ≡ is_numbered attempt.number o
    current None = refl
    current (Some one) = ap (λ (n : ℕ). n == attempt.number) (granted_keeps one.state grant.id one).0

    by : (b : Bool) (o : Option AppRow) → is_numbered_in attempt.number (changed_if b (counting grant) o) ≡ is_numbered_in attempt.number o
    by true None = refl
    by true (Some row) = current row.current
    by false o = refl

-- so the same grants are next
still_next : (new old : List (AppId × Option AppRow)) → ((attempt : AttemptId) → is_current_number new attempt ≡ is_current_number old attempt) → (granted : List ContainerId) (grants : List Grant) → AreNext old granted grants
    → AreNext new granted grants
still_next new old still granted [] next = tt
still_next new old still granted (grant ∷ grants) next = (still grant.id.attempt ∙ next.0, next.1, still_next new old still (granted ++ grant.id ∷ []) grants next.2)

-- WHAT WAS SAID OF AN ATTEMPT

module _ (registered : List MasterState) (retired : Bool) (attempt : AttemptId) where
  -- it agrees with any grants that are as many to the attempt
  as_many : (old new : List ContainerId) (o : Option AppRow) → grants_of new attempt ≡ grants_of old attempt → RowAgrees registered old retired attempt o → RowAgrees registered new retired attempt o
  as_many old new None e same = λ r. let none = same r in (none.0, e ∙ none.1)
  as_many old new (Some row) e same = by row.current same
    where
      number : (one : Current) (b c : Bool) → NumberAgrees b c registered old attempt row one → NumberAgrees b c registered new attempt row one
      number one true c same = (same.0, same.1, same.2 ∙ sym e)
      number one false true same = (same.0, e ∙ same.1)
      number one false false same = same

      by : (o : Option Current) → AttemptAgrees registered old attempt row o → AttemptAgrees registered new attempt row o
      by None same = ((same.0.0, e ∙ same.0.1), same.1)
      by (Some one) same = number one (one.number == attempt.number) (nat_lt one.number attempt.number) same

  module _ (so_far : List ContainerId) (grant : Grant) (next : grant.id.seq ≡ grants_of so_far grant.id.attempt + 1) where
    abbrev now : List ContainerId
    now = so_far ++ grant.id ∷ []

    -- one more is counted, where the grant is the attempt's
    counted : (b : Bool) → is_attempt grant.id.attempt attempt ≡ b → grants_of now attempt ≡ one_if b (grants_of so_far attempt)
    counted b e = at_end (λ (id : ContainerId). is_attempt id.attempt attempt) so_far grant.id ∙ ap (λ (c : Bool). one_if c (grants_of so_far attempt)) e

    -- the grant is of the attempt's application
    current_counts : (row : AppRow) (app : is_app grant.id.attempt.app attempt.app ≡ true) (o : Option Current) → is_numbered grant.id.attempt.number o ≡ true
        → AttemptAgrees registered so_far attempt row o → AttemptAgrees registered now attempt (counting grant row) (current_after (of_app.OfAttempt (of_attempt.Grant grant.id)) o)
    current_counts row app None at same = cc
    current_counts row app (Some one) at same =
        subst (λ (n : ℕ). NumberAgrees (n == attempt.number) (nat_lt n attempt.number) registered now attempt (counting grant row) (granted grant.id one)) (sym keeps.0)
        (at_number (granted grant.id one) keeps.1 keeps.2 (one.number == attempt.number) refl (nat_lt one.number attempt.number) same)
      where
        keeps : ((granted grant.id one).number ≡ one.number) × ((granted grant.id one).registered ≡ one.registered) × ((granted grant.id one).granted ≡ grant.id.seq)
        keeps = granted_keeps one.state grant.id one

        other : (one.number == attempt.number) ≡ false → is_attempt grant.id.attempt attempt ≡ false
        other e = grind (arith, nat_tests)

        own : (one.number == attempt.number) ≡ true → is_attempt grant.id.attempt attempt ≡ true
        own e = grind (arith, nat_tests)

        at_number : (new : Current) → new.registered ≡ one.registered → new.granted ≡ grant.id.seq → (b : Bool) → (one.number == attempt.number) ≡ b → (c : Bool)
            → NumberAgrees b c registered so_far attempt row one → NumberAgrees b c registered now attempt (counting grant row) new
        at_number new r g true e c same =
            let is : grant.id.attempt ≡ attempt = same_attempt grant.id.attempt attempt (own e) in
            let count : grants_of so_far grant.id.attempt ≡ grants_of so_far attempt = ap (grants_of so_far) is in
            let more = counted true (own e) in
            (same.0, r ∙ same.1, omega (arith, g, next, count, more))
        at_number new r g false e true same = (same.0, counted false (other e) ∙ same.1)
        at_number new r g false e false same = tt

    -- the rows after one grant
    one_counts : (rows : List (AppId × Option AppRow)) → is_current_number rows grant.id.attempt ≡ true → RowAgrees registered so_far retired attempt (row_of rows attempt.app)
        → RowAgrees registered now retired attempt (row_of (rows_after_grant rows grant) attempt.app)
    one_counts rows current same =
        subst (λ (o : Option AppRow). RowAgrees registered now retired attempt o) (sym (found_counting grant rows attempt.app)) (by (is_app grant.id.attempt.app attempt.app) refl)
      where
        own : is_app grant.id.attempt.app attempt.app ≡ true → (o : Option AppRow) → is_numbered_in grant.id.attempt.number o ≡ true → RowAgrees registered so_far retired attempt o
            → RowAgrees registered now retired attempt (option_map (counting grant) o)
        own app None at same = cc
        own app (Some row) at same = current_counts row app row.current at same

        by : (b : Bool) → is_app grant.id.attempt.app attempt.app ≡ b → RowAgrees registered now retired attempt (changed_if b (counting grant) (row_of rows attempt.app))
        by true e =
            let at : is_numbered_in grant.id.attempt.number (row_of rows attempt.app) ≡ true =
            subst (λ (id : AppId). is_numbered_in grant.id.attempt.number (row_of rows id) ≡ true) (same_app grant.id.attempt.app attempt.app e) current in
            own e (row_of rows attempt.app) at same
        by false e =
            let other : is_attempt grant.id.attempt attempt ≡ false = rw e refl in
            as_many so_far now (row_of rows attempt.app) (counted false other) same

  -- it agrees after all grants
  pub masters_passed : (grants : List Grant) (so_far : List ContainerId) (rows : List (AppId × Option AppRow)) → AreNext rows so_far grants → RowAgrees registered so_far retired attempt (row_of rows attempt.app)
      → RowAgrees registered (so_far ++ map (λ grant. grant.id) grants) retired attempt (row_of (fold rows_after_grant rows grants) attempt.app)
  masters_passed [] so_far rows next same = subst (λ (ids : List ContainerId). RowAgrees registered ids retired attempt (row_of rows attempt.app)) (sym (append-nil so_far)) same
  masters_passed (grant ∷ grants) so_far rows next same =
      subst (λ (ids : List ContainerId). RowAgrees registered ids retired attempt (row_of (fold rows_after_grant rows (grant ∷ grants)) attempt.app)) (append_assoc so_far (grant.id ∷ []) (map (λ one. one.id) grants))
      (masters_passed grants (so_far ++ grant.id ∷ []) (rows_after_grant rows grant) (still_next (rows_after_grant rows grant) rows (still_current grant rows) (so_far ++ grant.id ∷ []) grants next.2)
      (one_counts so_far grant next.1 rows next.0 same))
