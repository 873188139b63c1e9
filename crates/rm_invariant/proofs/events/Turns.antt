-- The tables go over the attempts that ask for something, the judge over all: a pass grants the same.
use Rattle.rm_invariant.proofs.Common.{◌≡◌, ℕ, ◌+◌, suc, List, [], ◌∷◌, Bool, true, false, Option, None, Some, map, filter, fold, refl, sym, ◌∙◌, ap, slice_get, Ask, Grant, Turn, AppId, AttemptId, ContainerId, AppRecord, is_nil, PassNode, by_priority, pass_list, with_granted, with_turn, AsksOf, attempt_asks, attempt_at, has_app, LifeState, MasterState, Scene, AppRow, Current, Tables, asks_some, granted_number, granted_to, turn_in, turns_in, row_of, AttemptAgrees, RowAgrees, grants_of}
use Rattle.rm_types.proofs.TestLemmas.{nil_is}
use Rattle.rm_model.specs.Passing.{turn_of, turns}
use Rattle.rm_invariant.specs.events.Refines.{Refines}
use Rattle.rm_invariant.specs.events.Asking.{AskersCurrent, is_current_number, is_numbered, is_numbered_in}

-- the current attempt's row counts its grants
counts_grants : (registered : List MasterState) (granted : List ContainerId) (retired : Bool) (attempt : AttemptId) (o : Option AppRow) → is_numbered_in attempt.number o ≡ true
    → RowAgrees registered granted retired attempt o → granted_number attempt.number o ≡ grants_of granted attempt
counts_grants registered granted retired attempt None at same = cc
counts_grants registered granted retired attempt (Some row) at same = by row.current at same
  where
    by : (o : Option Current) → is_numbered attempt.number o ≡ true → AttemptAgrees registered granted attempt row o → granted_to attempt.number o ≡ grants_of granted attempt
    by None at same = cc
    by (Some current) at same = rw at (let agrees = rw at at same in agrees.2)

-- so its next grant is numbered on from them
pub first_seq : (life : LifeState) (t : Tables) → Refines life t → (attempt : AttemptId) → is_current_number t.rows attempt ≡ true → (turn_in t.rows attempt).next_seq ≡ grants_of life.granted attempt + 1
first_seq life t same attempt at =
    ap (λ (n : ℕ). n + 1) (counts_grants life.masters.registered life.granted (has_app life.apps.retired attempt.app) attempt (row_of t.rows attempt.app) at (same.masters attempt))

-- attempts that ask for nothing are granted nothing
module _ (m : Scene) (rows : List (AppId × Option AppRow)) (asks : List AsksOf) (pass : PassNode) where
  -- the turns of those that ask for something are the same
  abbrev pub SameTurns : List AppRecord → Type 0
  SameTurns apps = (place : ℕ) (app : AppRecord) → slice_get apps place ≡ Some app → asks_some asks (attempt_at app) ≡ true → turn_in rows (attempt_at app) ≡ turn_of m (attempt_at app)

  turns_from : (apps : List AppRecord) → SameTurns apps → (grants : List Grant)
      → fold (with_turn pass (attempt_asks asks)) grants (map (turn_in rows) (filter (asks_some asks) (map attempt_at apps)))
      ≡ fold (with_turn pass (attempt_asks asks)) grants (map (λ app. turn_of m (attempt_at app)) apps)
  turns_from [] same grants = refl
  turns_from (app ∷ apps) same grants = by (is_nil (attempt_asks asks (attempt_at app))) refl (turns_from apps (λ place one e. same (suc place) one e))
    where
      ours : List Grant → List Grant
      ours so_far = fold (with_turn pass (attempt_asks asks)) so_far (map (turn_in rows) (filter (asks_some asks) (map attempt_at apps)))

      by : (b : Bool) → is_nil (attempt_asks asks (attempt_at app)) ≡ b
          → ((so_far : List Grant) → ours so_far ≡ fold (with_turn pass (attempt_asks asks)) so_far (map (λ one. turn_of m (attempt_at one)) apps))
          → fold (with_turn pass (attempt_asks asks)) grants (map (turn_in rows) (filter (asks_some asks) (map attempt_at (app ∷ apps))))
          ≡ fold (with_turn pass (attempt_asks asks)) grants (map (λ one. turn_of m (attempt_at one)) (app ∷ apps))
      by true e rest =
          let none : attempt_asks asks (attempt_at app) ≡ [] = nil_is (attempt_asks asks (attempt_at app)) e in
          let skipped : with_turn pass (attempt_asks asks) grants (turn_of m (attempt_at app)) ≡ grants =
          ap (λ (l : List Ask). fold (with_granted pass (turn_of m (attempt_at app))) grants (by_priority l)) none in
          rw e (rest grants ∙ ap (λ (so_far : List Grant). fold (with_turn pass (attempt_asks asks)) so_far (map (λ one. turn_of m (attempt_at one)) apps)) (sym skipped))
      by false e rest =
          let some : asks_some asks (attempt_at app) ≡ true = rw e refl in
          rw e (ap (λ (turn : Turn). ours (with_turn pass (attempt_asks asks) grants turn)) (same 0 app refl some) ∙ rest (with_turn pass (attempt_asks asks) grants (turn_of m (attempt_at app))))

-- a pass over the turns of the tables is one over those of the judge
pub turns_same : (m : Scene) (t : Tables) → m.records ≡ t.tree → Refines m.life t → AskersCurrent t → (pass : PassNode) → pass_list pass (attempt_asks t.asks) (turns_in t) ≡ pass_list pass (attempt_asks t.asks) (turns m)
turns_same m t recorded same current pass =
    turns_from m t.rows t.asks pass t.tree.apps own [] ∙ ap (λ r. pass_list pass (attempt_asks t.asks) (map (λ app. turn_of m (attempt_at app)) r.apps)) (sym recorded)
  where
    own : SameTurns m t.rows t.asks pass t.tree.apps
    own place app e some =
        ap (λ (n : ℕ). record { attempt = attempt_at app; next_seq = n }) (first_seq m.life t same (attempt_at app) (current place app e some))
