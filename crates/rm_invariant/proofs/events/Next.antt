-- What a pass of the tables grants to an attempt is numbered on from what was granted to it before.
use Rattle.rm_invariant.proofs.Common.{◌≡◌, ℕ, zero, suc, ◌+◌, List, [], ◌∷◌, ◌++◌, Bool, true, false, ◌&&◌, not, Option, None, Some, filter, fold, map, refl, sym, ◌∙◌, ap, subst, arith, if◌then◌else◌, slice_get, range_with_len, Ask, Grant, Turn, AppId, AttemptId, ContainerId, AppRecord, Resource, is_attempt, PassNode, by_priority, fitting, turn_grant, left_of, seq_after, with_granted, with_turn, attempt_itself, AsksOf, attempt_asks, capability_of, sizes_on, attempt_at, LifeState, NodeRow, AppRow, Tables, is_ready_row, asks_some, fitted_on, grants_on, still_waits, turn_in, grants_of}
use Rattle.std.proofs.Common.{count_by, cond, append_assoc, append-nil}
use Rattle.rm_invariant.specs.apps.View.{one_if}
use Rattle.rm_invariant.proofs.apps.Counts.{at_end, at_front, count_append}
use Rattle.rm_invariant.specs.events.Refines.{Refines}
use Rattle.rm_invariant.specs.events.Asking.{AreNext, AskersCurrent, is_current_number}
use Rattle.rm_invariant.proofs.events.Turns.{first_seq}

-- how many of these grants are an attempt's
count_ids : (attempt : AttemptId) (grants : List Grant) → grants_of (map (λ grant. grant.id) grants) attempt ≡ count_by (λ grant. is_attempt grant.id.attempt attempt) grants
count_ids attempt [] = refl
count_ids attempt (grant ∷ grants) =
    at_front (λ (id : ContainerId). is_attempt id.attempt attempt) grant.id (map (λ one. one.id) grants)
    ∙ ap (one_if (is_attempt grant.id.attempt attempt)) (count_ids attempt grants)
    ∙ sym (at_front (λ (one : Grant). is_attempt one.id.attempt attempt) grant grants)

module _ (rows : List (AppId × Option AppRow)) where
  -- grants behind grants
  next_append : (grants more : List Grant) (so_far : List ContainerId) → AreNext rows so_far grants → AreNext rows (so_far ++ map (λ grant. grant.id) grants) more → AreNext rows so_far (grants ++ more)
  next_append [] more so_far next rest = subst (λ (ids : List ContainerId). AreNext rows ids more) (append-nil so_far) rest
  next_append (grant ∷ grants) more so_far next rest = (
    next.0,
    next.1,
    next_append grants more (so_far ++ grant.id ∷ []) next.2 (subst (λ (ids : List ContainerId). AreNext rows ids more) (sym (append_assoc so_far (grant.id ∷ []) (map (λ one. one.id) grants))) rest),
  )

  -- the grants of one ask
  module _ (pass : PassNode) (turn : Turn) (current : is_current_number rows turn.attempt ≡ true) where
    run_next : (size : Resource) (count seq : ℕ) (so_far : List ContainerId) → seq ≡ grants_of so_far turn.attempt + 1 → AreNext rows so_far (map (turn_grant pass turn size) (range_with_len seq count))
    run_next size zero seq so_far first = tt
    run_next size (suc count) seq so_far first =
        let id : ContainerId = (turn_grant pass turn size seq).id in
        let own : is_attempt turn.attempt turn.attempt ≡ true = attempt_itself turn.attempt in
        let more : grants_of (so_far ++ id ∷ []) turn.attempt ≡ suc (grants_of so_far turn.attempt) =
        at_end (λ (one : ContainerId). is_attempt one.attempt turn.attempt) so_far id ∙ ap (λ (b : Bool). one_if b (grants_of so_far turn.attempt)) own in
        (current, first, run_next size count (seq + 1) (so_far ++ id ∷ []) (omega (arith, first, more)))

    module _ (granted : List ContainerId) (first : turn.next_seq ≡ grants_of granted turn.attempt + 1) where
      seq_next : (grants : List Grant) → seq_after turn grants ≡ grants_of (granted ++ map (λ grant. grant.id) grants) turn.attempt + 1
      seq_next grants =
          let both : grants_of (granted ++ map (λ grant. grant.id) grants) turn.attempt ≡ grants_of granted turn.attempt + grants_of (map (λ grant. grant.id) grants) turn.attempt =
          count_append (λ (id : ContainerId). is_attempt id.attempt turn.attempt) granted (map (λ grant. grant.id) grants) in
          omega (arith, first, both, count_ids turn.attempt grants)

      -- and of one turn
      asks_next : (asks : List Ask) (grants : List Grant) → AreNext rows granted grants → AreNext rows granted (fold (with_granted pass turn) grants asks)
      asks_next [] grants next = next
      asks_next (ask ∷ asks) grants next =
          let count : ℕ = fitting ask.count ask.size (left_of pass grants) in
          asks_next asks (with_granted pass turn grants ask)
          (next_append grants (map (turn_grant pass turn ask.size) (range_with_len (seq_after turn grants) count)) granted next
          (run_next ask.size count (seq_after turn grants) (granted ++ map (λ grant. grant.id) grants) (seq_next grants)))

-- all turns
module _ (rows : List (AppId × Option AppRow)) (asks : List AsksOf) (granted : List ContainerId) (pass : PassNode) where
  -- the attempts that ask for something are current, and their turns go on from what was granted to them
  abbrev TurnsNext : List AppRecord → Type 0
  TurnsNext apps =
      (place : ℕ) (app : AppRecord) → slice_get apps place ≡ Some app → asks_some asks (attempt_at app) ≡ true
      → (is_current_number rows (attempt_at app) ≡ true) × ((turn_in rows (attempt_at app)).next_seq ≡ grants_of granted (attempt_at app) + 1)

  turns_next : (apps : List AppRecord) → TurnsNext apps → (grants : List Grant) → AreNext rows granted grants
      → AreNext rows granted (fold (with_turn pass (attempt_asks asks)) grants (map (turn_in rows) (filter (asks_some asks) (map attempt_at apps))))
  turns_next [] own grants next = next
  turns_next (app ∷ apps) own grants next = by (asks_some asks (attempt_at app)) refl (turns_next apps (λ place one e. own (suc place) one e))
    where
      ours : List Grant → List Grant
      ours so_far = fold (with_turn pass (attempt_asks asks)) so_far (map (turn_in rows) (filter (asks_some asks) (map attempt_at apps)))

      by : (b : Bool) → asks_some asks (attempt_at app) ≡ b → ((so_far : List Grant) → AreNext rows granted so_far → AreNext rows granted (ours so_far))
          → AreNext rows granted (fold (with_turn pass (attempt_asks asks)) grants (map (turn_in rows) (cond b (attempt_at app ∷ filter (asks_some asks) (map attempt_at apps)) (filter (asks_some asks) (map attempt_at apps)))))
      by true e rest =
          let turn : Turn = turn_in rows (attempt_at app) in
          let here = own 0 app refl e in
          rest (with_turn pass (attempt_asks asks) grants turn) (asks_next rows pass turn here.0 granted here.1 (by_priority (attempt_asks asks (attempt_at app))) grants next)
      by false e rest = rest grants next

-- what a pass grants on a node
pub grants_next : (life : LifeState) (t : Tables) → Refines life t → AskersCurrent t → (name : List ℕ) (row : NodeRow) → AreNext t.rows life.granted (grants_on name row t)
grants_next life t same current name row = by (is_ready_row row.state && not (still_waits t)) (capability_of t.book name)
  where
    own : (place : ℕ) (app : AppRecord) → slice_get t.tree.apps place ≡ Some app → asks_some t.asks (attempt_at app) ≡ true
        → (is_current_number t.rows (attempt_at app) ≡ true) × ((turn_in t.rows (attempt_at app)).next_seq ≡ grants_of life.granted (attempt_at app) + 1)
    own place app e some =
        let at : is_current_number t.rows (attempt_at app) ≡ true = current place app e some in
        (at, first_seq life t same (attempt_at app) at)

    by : (b : Bool) (capability : Option Resource) → AreNext t.rows life.granted (if b then fitted_on name capability t else [])
    by true None = tt
    by true (Some capability) = turns_next t.rows t.asks life.granted (record { node = name; capability = capability; sizes = sizes_on name t.book.rows; epoch = t.epoch }) t.tree.apps own [] tt
    by false capability = tt
