-- The attempts that ask for something are current: those that ask for their master by what holds of every attempt, the others by what holds of
-- them; and a pass keeps that.
use Rattle.rm_invariant.proofs.Common.{◌≡◌, ◌≤◌, ℕ, ◌||◌, List, [], ◌∷◌, Bool, true, false, not, Option, None, Some, find, fold, map, refl, sym, ◌∙◌, ap, subst, arith, list_any, false≢true, Ask, AskOf, Grant, AppId, AttemptId, Resource, Settings, is_attempt, is_nil, by_priority, same_attempt, AsksOf, asks_granted, attempt_asks, table_granted, is_for, one_less, AppState, attempt_at, is_size, AppRow, Current, Tables, asks_after_answer, passed_with, rows_after_grant, table_without_granted, row_of, SameAsks, History}
use Rattle.std.proofs.Common.{◌==◌, nat_lt}
use Rattle.rm_book.proofs.Lists.{any_filter}
use Rattle.rm_states.specs.declared.app.states.AppState.TheVariants as apps
use Rattle.rm_model.specs.Passing.{asks_of as asks_told}
use Rattle.rm_invariant.specs.apps.Invariant.{ActiveInvariant, AttemptsInvariant, AttemptCounts, EndIssuedInvariant, RowInvariant, StateInvariant}
use Rattle.rm_invariant.specs.apps.View.{View, is_ask, view}
use Rattle.rm_invariant.proofs.apps.Counts.{passes_once}
use Rattle.rm_invariant.specs.events.Asking.{AskersCurrent, OthersCurrent, asks_others, is_current_number, is_numbered, is_numbered_in}
use Rattle.rm_invariant.proofs.events.Answered.{other_granted, own_granted}
use Rattle.rm_invariant.proofs.events.Granting.{still_current}

-- THOSE THAT ASK FOR THEIR MASTER

-- an attempt that asks for its master's container is current
pub master_asker : (settings : Settings) (q : AttemptId) (o : Option AppRow) (v : View) → RowInvariant settings q o v → 1 ≤ v.count.asks → is_numbered_in q.number o ≡ true
master_asker settings q None v says asks = let none = says.none_ask in absurd (omega (arith, none, asks))
master_asker settings q (Some row) v says asks = by row.state says.1
  where
    active : (o : Option Current) → ActiveInvariant settings q o row.wish v → is_numbered q.number o ≡ true
    active None says = absurd says
    active (Some current) says = at (current.number == q.number) refl says.1
      where
        at : (b : Bool) → (current.number == q.number) ≡ b → AttemptCounts q.number b current.state row.wish v → (current.number == q.number) ≡ true
        at true e here = e
        at false e here = let none = here.0 in absurd (omega (arith, none, asks))

    over : (o : Option Current) → EndIssuedInvariant o v → is_numbered q.number row.current ≡ true
    over None says = let none = says.0 in absurd (omega (arith, none, asks))
    over (Some current) says = let none = says.1 in absurd (omega (arith, none, asks))

    by : (state : AppState) → StateInvariant settings q state row v → is_numbered q.number row.current ≡ true
    by apps.New says = let none = says.0.none_queued in absurd (omega (arith, none, asks))
    by apps.NewSaving says = let none = says.0.none_queued in absurd (omega (arith, none, asks))
    by apps.Submitted says = let none = says.9 in absurd (omega (arith, none, asks))
    by apps.Accepted says = active row.current says.3
    by apps.Running says = active row.current says.3
    by apps.Killing says = active row.current says.5
    by apps.FinalSaving says = over row.current says.6
    by _ says = over row.current says.5

-- its ask stands among those of all attempts
asks_master : (attempt : AttemptId) (asks : List AskOf) → list_any (λ one. one.priority == 0) (asks_told asks attempt) ≡ true → list_any (is_ask attempt) asks ≡ true
asks_master attempt [] some = some
asks_master attempt (one ∷ asks) some = by (is_attempt one.attempt attempt) refl (one.ask.priority == 0) refl (asks_master attempt asks)
  where
    by : (b : Bool) → is_attempt one.attempt attempt ≡ b → (c : Bool) → (one.ask.priority == 0) ≡ c → (list_any (λ other. other.priority == 0) (asks_told asks attempt) ≡ true → list_any (is_ask attempt) asks ≡ true)
        → list_any (is_ask attempt) (one ∷ asks) ≡ true
    by true e true f rest = rw (e, f) refl
    by true e false f rest = rw (e, f) (rest (rw (e, f) at some))
    by false e c f rest = rw e (rest (rw e at some))

-- ALL THAT ASK

-- each attempt that asks for something is current
pub askers_current : (settings : Settings) (h : History) (t : Tables) → AttemptsInvariant settings h t → SameAsks t.asks h.asks → OthersCurrent t → AskersCurrent t
askers_current settings h t all same others place app found some = by (list_any (λ one. one.priority == 0) (attempt_asks t.asks attempt)) refl
  where
    attempt : AttemptId
    attempt = attempt_at app

    other : (asks : List Ask) → not (is_nil asks) ≡ true → list_any (λ one. one.priority == 0) asks ≡ false → asks_others asks ≡ true
    other [] some none = some
    other (ask ∷ asks) some none = first (ask.priority == 0) refl
      where
        first : (b : Bool) → (ask.priority == 0) ≡ b → asks_others (ask ∷ asks) ≡ true
        first true e = absurd (false≢true (let f : true ≡ false = rw e at none in sym f))
        first false e = rw e refl

    by : (b : Bool) → list_any (λ one. one.priority == 0) (attempt_asks t.asks attempt) ≡ b → is_current_number t.rows attempt ≡ true
    by true e =
        let asked : list_any (is_ask attempt) h.asks ≡ true = asks_master attempt h.asks (sym (ap (list_any (λ one. one.priority == 0)) (same attempt)) ∙ e) in
        master_asker settings attempt (row_of t.rows attempt.app) (view h t attempt) (all attempt) (passes_once (is_ask attempt) h.asks asked)
    by false e = others attempt (other (attempt_asks t.asks attempt) some e)

-- A PASS

-- where none of these asks is for something else, none is after a grant
none_granted : (priority : ℕ) (size : Resource) (asks : List Ask) → asks_others asks ≡ false → asks_others (asks_granted priority size asks) ≡ false
none_granted priority size asks none = any_filter (λ (one : Ask). not (one.priority == 0)) (λ one. nat_lt 0 one.count) (map (one_less priority size) asks) (less asks none)
  where
    kept : (one : Ask) (b : Bool) → is_for priority size one ≡ b → (one_less priority size one).priority ≡ one.priority
    kept one true e = rw e refl
    kept one false e = rw e refl

    less : (asks : List Ask) → asks_others asks ≡ false → asks_others (map (one_less priority size) asks) ≡ false
    less [] none = none
    less (one ∷ asks) none =
        let same : (one_less priority size one).priority ≡ one.priority = kept one (is_for priority size one) refl in
        rw same (more (one.priority == 0) refl (less asks))
      where
        more : (b : Bool) → (one.priority == 0) ≡ b → (asks_others asks ≡ false → asks_others (map (one_less priority size) asks) ≡ false) → (not (one.priority == 0) || asks_others (map (one_less priority size) asks)) ≡ false
        more true e rest = rw e (rest (rw e at none))
        more false e rest = absurd (false≢true (sym (let f : true ≡ false = rw e at none in f)))

-- where an attempt asks for nothing else, it doesn't after a grant
none_answered : (table : List AsksOf) (grant : Grant) (q : AttemptId) → asks_others (attempt_asks table q) ≡ false → asks_others (attempt_asks (table_without_granted table grant) q) ≡ false
none_answered table grant q none = by (find (λ one. is_size one.size grant.size) (by_priority (attempt_asks table grant.id.attempt)))
  where
    at : (ask : Ask) (b : Bool) → is_attempt grant.id.attempt q ≡ b → asks_others (attempt_asks (table_granted grant.id.attempt ask.priority grant.size table) q) ≡ false
    at ask true e =
        let is : grant.id.attempt ≡ q = same_attempt grant.id.attempt q e in
        let own : attempt_asks (table_granted grant.id.attempt ask.priority grant.size table) q ≡ asks_granted ask.priority grant.size (attempt_asks table q) =
        subst (λ (a : AttemptId). attempt_asks (table_granted grant.id.attempt ask.priority grant.size table) a ≡ asks_granted ask.priority grant.size (attempt_asks table a)) is (own_granted grant.id.attempt ask.priority grant.size table) in
        ap asks_others own ∙ none_granted ask.priority grant.size (attempt_asks table q) none
    at ask false e = ap asks_others (other_granted grant.id.attempt q e ask.priority grant.size table) ∙ none

    by : (o : Option Ask) → asks_others (attempt_asks (asks_after_answer table grant o) q) ≡ false
    by None = none
    by (Some ask) = at ask (is_attempt grant.id.attempt q) refl

-- and after all
pub none_passed : (grants : List Grant) (table : List AsksOf) (q : AttemptId) → asks_others (attempt_asks table q) ≡ false → asks_others (attempt_asks (fold table_without_granted table grants) q) ≡ false
none_passed [] table q none = none
none_passed (grant ∷ grants) table q none = none_passed grants (table_without_granted table grant) q (none_answered table grant q none)

-- the same attempts are current after grants
pub current_passed : (grants : List Grant) (rows : List (AppId × Option AppRow)) (attempt : AttemptId) → is_current_number (fold rows_after_grant rows grants) attempt ≡ is_current_number rows attempt
current_passed [] rows attempt = refl
current_passed (grant ∷ grants) rows attempt = current_passed grants (rows_after_grant rows grant) attempt ∙ still_current grant rows attempt

-- a pass keeps that those which ask for something else are current
pub others_passed : (t : Tables) (grants : List Grant) → OthersCurrent t → OthersCurrent (passed_with grants t)
others_passed t grants others attempt some = current_passed grants t.rows attempt ∙ by (asks_others (attempt_asks t.asks attempt)) refl
  where
    by : (b : Bool) → asks_others (attempt_asks t.asks attempt) ≡ b → is_current_number t.rows attempt ≡ true
    by true e = others attempt e
    by false e = absurd (false≢true (sym (none_passed grants t.asks attempt e) ∙ some))
