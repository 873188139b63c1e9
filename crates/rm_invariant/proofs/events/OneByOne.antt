-- The grants of a pass, one by one: what holds of every attempt and of every container holds after all of them.
use Rattle.rm_invariant.proofs.Common.{◌≡◌, ◌≤◌, List, [], ◌∷◌, ◌++◌, Bool, true, false, Option, fold, map, refl, sym, ◌∙◌, ap, subst, arith, list_any, false≢true, AskOf, Grant, AppId, ContainerId, Settings, is_app, app_itself, Row, MainEvent, AppRow, Tables, masters_granted, rows_after_grant, waits_for_master, row_of, History, abstract_life}
use Rattle.std.proofs.Common.{count_by, cond, append_assoc, append-nil}
use Rattle.rm_model.specs.Passing.{row_granted as row_told, without_granted as without_told}
use Rattle.rm_tables.specs.declared.events.MainEvent.TheVariants as mains
use Rattle.rm_invariant.specs.apps.Invariant.{AttemptsInvariant}
use Rattle.rm_invariant.specs.apps.View.{one_if}
use Rattle.rm_invariant.proofs.apps.Counts.{at_front, none_under}
use Rattle.rm_invariant.specs.nodes.Book.{All, BookInvariant, IsAbsorbed}
use Rattle.rm_invariant.specs.masters.Invariant.{ContainersInvariant}
use Rattle.rm_invariant.specs.events.Asking.{AreNext}
use Rattle.rm_invariant.specs.Core.{Nothing}
use Rattle.rm_invariant.proofs.events.Entering.{one_enters, with_one}
use Rattle.rm_invariant.proofs.events.OneGrant.{IsReady, Still, history_with, one_says, still_ready, tables_with, waited}
use Rattle.rm_invariant.specs.masters.Sound.{RecordsAreSound}

-- of an application that waits for its master's container at most one is granted
abbrev pub MastersOnce : List (AppId × Option AppRow) → List Grant → Type 0
MastersOnce rows grants = (id : AppId) → waits_for_master (row_of rows id) ≡ true → count_by (λ grant. is_app id grant.id.attempt.app) grants ≤ 1

-- what none passes fails each
each_fails : {X : Type 0} (p : X → Bool) (xs : List X) → list_any p xs ≡ false → All (λ x. p x ≡ false) xs
each_fails p [] none = tt
each_fails p (x ∷ xs) none = by (p x) refl (each_fails p xs)
  where
    by : (b : Bool) → p x ≡ b → (list_any p xs ≡ false → All (λ y. p y ≡ false) xs) → All (λ y. p y ≡ false) (x ∷ xs)
    by true e rest = absurd (let y : true ≡ false = rw e at none in false≢true (sym y))
    by false e rest = (e, rest (rw e at none))

module _ (rows : List (AppId × Option AppRow)) (grant : Grant) (grants : List Grant) (once : MastersOnce rows (grant ∷ grants)) where
  -- where the first grant is a master's, the others are of other applications
  apart : waits_for_master (row_of rows grant.id.attempt.app) ≡ true → All (λ next. is_app grant.id.attempt.app next.id.attempt.app ≡ false) grants
  apart waits =
      let few = once grant.id.attempt.app waits in
      let first = at_front (λ (one : Grant). is_app grant.id.attempt.app one.id.attempt.app) grant grants
      ∙ ap (λ (b : Bool). one_if b (count_by (λ (one : Grant). is_app grant.id.attempt.app one.id.attempt.app) grants)) (app_itself grant.id.attempt.app) in
      each_fails (λ (one : Grant). is_app grant.id.attempt.app one.id.attempt.app) grants
      (none_under (λ (one : Grant). is_app grant.id.attempt.app one.id.attempt.app) (λ (one : Grant). is_app grant.id.attempt.app one.id.attempt.app) (λ one e. e) grants (omega (arith, few, first)))

  -- and the others are still at most one
  once_more : MastersOnce (rows_after_grant rows grant) grants
  once_more id waits =
      let few = once id (waited grant rows id waits) in
      let first = at_front (λ (one : Grant). is_app id one.id.attempt.app) grant grants in
      by (is_app id grant.id.attempt.app) few first
    where
      by : (b : Bool) → count_by (λ (one : Grant). is_app id one.id.attempt.app) (grant ∷ grants) ≤ 1
          → count_by (λ (one : Grant). is_app id one.id.attempt.app) (grant ∷ grants) ≡ one_if b (count_by (λ (one : Grant). is_app id one.id.attempt.app) grants)
          → count_by (λ (one : Grant). is_app id one.id.attempt.app) grants ≤ 1
      by true few first = omega (arith, few, first)
      by false few first = omega (arith, few, first)

  -- those that are granted next are still ready
  stay_ready : (asks : List AskOf) → IsReady rows asks grant → All (IsReady rows asks) grants → All (Still rows asks grant) grants
  stay_ready asks own each = by (waits_for_master (row_of rows grant.id.attempt.app)) refl
    where
      all : (list : List Grant) → All (IsReady rows asks) list
          → (waits_for_master (row_of rows grant.id.attempt.app) ≡ true → All (λ next. is_app grant.id.attempt.app next.id.attempt.app ≡ false) list) → All (Still rows asks grant) list
      all [] each away = tt
      all (next ∷ list) each away = (still_ready rows asks grant next own each.0 (λ e. (away e).0), all list each.1 (λ e. (away e).1))

      by : (b : Bool) → waits_for_master (row_of rows grant.id.attempt.app) ≡ b → All (Still rows asks grant) grants
      by true e = all grants each apart
      by false e = all grants each apart

-- what the manager is told of grants, one after the others
masters_front : (rows : List (AppId × Option AppRow)) (grant : Grant) (grants : List Grant) → masters_granted rows (grant ∷ grants) ≡ masters_granted rows (grant ∷ []) ++ masters_granted rows grants
masters_front rows grant grants = by (waits_for_master (row_of rows grant.id.attempt.app)) refl
  where
    by : (b : Bool) → waits_for_master (row_of rows grant.id.attempt.app) ≡ b → masters_granted rows (grant ∷ grants) ≡ masters_granted rows (grant ∷ []) ++ masters_granted rows grants
    by true e = rw e refl
    by false e = rw e refl

masters_still : (rows : List (AppId × Option AppRow)) (asks : List AskOf) (grant : Grant) (grants : List Grant) → All (Still rows asks grant) grants → masters_granted (rows_after_grant rows grant) grants ≡ masters_granted rows grants
masters_still rows asks grant [] still = refl
masters_still rows asks grant (next ∷ grants) still =
    masters_front (rows_after_grant rows grant) next grants
    ∙ ap (λ (b : Bool). map (λ one. mains.MasterGranted one.id) (cond b (next ∷ []) []) ++ masters_granted (rows_after_grant rows grant) grants) still.0.waits
    ∙ ap (λ (l : List MainEvent). masters_granted rows (next ∷ []) ++ l) (masters_still rows asks grant grants still.1)
    ∙ sym (masters_front rows next grants)

still_all : (rows : List (AppId × Option AppRow)) (asks : List AskOf) (grant : Grant) (grants : List Grant) → All (Still rows asks grant) grants → All (IsReady (rows_after_grant rows grant) (without_told asks grant)) grants
still_all rows asks grant [] still = tt
still_all rows asks grant (next ∷ grants) still = (still.0.ready, still_all rows asks grant grants still.1)

-- the history and the tables after grants
abbrev pub history_after : History → List Grant → History
history_after h grants = record h { granted = h.granted ++ map (λ grant. grant.id) grants; asks = fold without_told h.asks grants; book = h.book ++ map row_told grants }

abbrev pub tables_after : Tables → List Grant → Tables
tables_after t grants = record t { rows = fold rows_after_grant t.rows grants; main = t.main ++ masters_granted t.rows grants }

-- all that is said of attempts and of containers
abbrev pub BothSay : Settings → History → Tables → Type 0
BothSay settings h t = AttemptsInvariant settings h t × ContainersInvariant h t

-- the book as one grant enters it
book_with : (h : History) (t : Tables) (grant : Grant) → BookInvariant (with_one (abstract_life h t) grant) Nothing → BookInvariant (abstract_life (history_with h t grant) (tables_with h t grant)) Nothing
book_with h t grant holds = record { apart = holds.apart; rows = holds.rows; left = holds.left; launches = holds.launches }

module _ (settings : Settings) (at : List (AppId × Option AppRow)) where
  -- holds after all grants
  pub all_say : (grants : List Grant) (h : History) (t : Tables) → BothSay settings h t → RecordsAreSound t.tree.apps → BookInvariant (abstract_life h t) Nothing → AreNext at h.granted grants → All (λ grant. grant.id.epoch ≡ t.epoch) grants
      → All (λ grant. IsAbsorbed h.nodes grant.node) grants → All (IsReady t.rows h.asks) grants → MastersOnce t.rows grants → BothSay settings (history_after h grants) (tables_after t grants)
  all_say [] h t says each book next now absorbed ready once =
      subst (λ (events : List MainEvent). BothSay settings (history_after h []) (record t { main = events })) (sym (append-nil t.main))
      (subst (λ (rows : List Row). BothSay settings (record h { granted = h.granted ++ []; book = rows }) t) (sym (append-nil h.book))
      (subst (λ (granted : List ContainerId). BothSay settings (record h { granted = granted }) t) (sym (append-nil h.granted)) says))
  all_say (grant ∷ grants) h t says each book next now absorbed ready once =
      let still : All (Still t.rows h.asks grant) grants = stay_ready t.rows grant grants once h.asks ready.0 ready.1 in
      let first : BothSay settings (history_with h t grant) (tables_with h t grant) = one_says h t grant settings says.0 says.1 each book now.0 next.1 ready.0 in
      let entered = book_with h t grant (one_enters (abstract_life h t) grant book now.0 next.1 absorbed.0) in
      let rest : BothSay settings (history_after (history_with h t grant) grants) (tables_after (tables_with h t grant) grants) =
      all_say grants (history_with h t grant) (tables_with h t grant) first each entered next.2 now.1 absorbed.1 (still_all t.rows h.asks grant grants still) (once_more t.rows grant grants once) in
      let events : (t.main ++ masters_granted t.rows (grant ∷ [])) ++ masters_granted (rows_after_grant t.rows grant) grants ≡ t.main ++ masters_granted t.rows (grant ∷ grants) =
      append_assoc t.main (masters_granted t.rows (grant ∷ [])) (masters_granted (rows_after_grant t.rows grant) grants)
      ∙ ap (λ (l : List MainEvent). t.main ++ (masters_granted t.rows (grant ∷ []) ++ l)) (masters_still t.rows h.asks grant grants still)
      ∙ ap (λ (l : List MainEvent). t.main ++ l) (sym (masters_front t.rows grant grants)) in
      subst (λ (events : List MainEvent). BothSay settings (history_after h (grant ∷ grants)) (record t { rows = fold rows_after_grant t.rows (grant ∷ grants); main = events })) events
      (subst (λ (rows : List Row). BothSay settings (record h { granted = h.granted ++ map (λ one. one.id) (grant ∷ grants); asks = fold without_told h.asks (grant ∷ grants); book = rows }) (tables_after (tables_with h t grant) grants))
      (append_assoc h.book (row_told grant ∷ []) (map row_told grants))
      (subst (λ (granted : List ContainerId). BothSay settings (record h { granted = granted; asks = fold without_told h.asks (grant ∷ grants); book = (h.book ++ row_told grant ∷ []) ++ map row_told grants }) (tables_after (tables_with h t grant) grants))
      (append_assoc h.granted (grant.id ∷ []) (map (λ one. one.id) grants)) rest))
