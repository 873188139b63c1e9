-- A pass over the applications alone of which an attempt asks for something has the turns of all.
use Rattle.std.proofs.Common.{◌≡◌, ℕ, ◌+◌, ◌<◌, zero, suc, List, [], ◌∷◌, ◌++◌, Bool, true, false, ◌||◌, Option, None, Some, map, filter, take, length, get_or, slice_get, refl, sym, ◌∙◌, ap, subst, arith}
use Rattle.std.specs.Prelude.{IsPermutation, if◌then◌else◌}
use Rattle.std.specs.List.{AllByRecursion, cons_option, filter_map, list_any}
use Rattle.std.proofs.lemmas.Bool.Decides.{nat_tests}
use Rattle.std.proofs.lemmas.List.{map-append, take_more}
use Rattle.std.proofs.lemmas.List.Elements.{filter-append, filter_map-append}
use Rattle.std.proofs.lemmas.List.Sorted.{list_any-IsPermutation}
use Rattle.rm_types.specs.declared.ids.AppId.{AppId}
use Rattle.rm_types.specs.declared.ids.AttemptId.{AttemptId}
use Rattle.rm_types.specs.declared.containers.Turn.{Turn}
use Rattle.rm_types.specs.declared.records.AppRecord.{AppRecord}
use Rattle.rm_types.specs.Ids.{is_app, is_attempt}
use Rattle.rm_types.specs.Lists.{is_nil}
use Rattle.rm_types.specs.Records.{record_of}
use Rattle.rm_types.proofs.IdLemmas.{app_back, app_itself}
use Rattle.rm_book.specs.AskTables.{AsksOf, waiting_in}
use Rattle.rm_model.specs.Attempts.{attempt_at}
use Rattle.rm_tables.specs.declared.tables.Tables.{Tables}
use Rattle.rm_tables.specs.Passing.{asks_some, turn_in, turns_in}
use Rattle.rm_tree.specs.Numbers.{AreApart}
use Rattle.rm_sched.specs.Turns.{has_waiting, turns_of}

-- an attempt that asks for something is among those that wait
waits_for : (asks : List AsksOf) (attempt : AttemptId) → asks_some asks attempt ≡ true → has_waiting asks attempt.app ≡ true
waits_for [] attempt e = cc
waits_for (one ∷ asks) attempt e = by (is_attempt one.attempt attempt) (is_nil one.asks) refl refl (waits_for asks attempt)
  where
    its_app : (a b : AttemptId) → is_attempt a b ≡ true → is_app a.app b.app ≡ true
    its_app a b h = grind (arith, nat_tests)

    later : (b : Bool) → b ≡ true → (is_app one.attempt.app attempt.app || b) ≡ true
    later b h = rw h (or_true (is_app one.attempt.app attempt.app))
      where
        or_true : (c : Bool) → (c || true) ≡ true
        or_true true = refl
        or_true false = refl

    by : (b c : Bool) → is_attempt one.attempt attempt ≡ b → is_nil one.asks ≡ c → (asks_some asks attempt ≡ true → has_waiting asks attempt.app ≡ true) → has_waiting (one ∷ asks) attempt.app ≡ true
    by true true f g rest = absurd (let h = rw (f, g) at e in cc)
    by true false f g rest = rw (g, its_app one.attempt attempt f) refl
    by false true f g rest = rw g (rest (rw f at e))
    by false false f g rest = rw g (later (has_waiting asks attempt.app) (rest (rw f at e)))

-- so an application of which no attempt waits has no turn
unasked : (asks : List AsksOf) (app : AppRecord) → has_waiting asks app.id ≡ false → asks_some asks (attempt_at app) ≡ false
unasked asks app none = by (asks_some asks (attempt_at app)) refl
  where
    by : (b : Bool) → asks_some asks (attempt_at app) ≡ b → asks_some asks (attempt_at app) ≡ false
    by true e = absurd (let w = sym (waits_for asks (attempt_at app) e) ∙ none in cc)
    by false e = e

asked_alone : (asks : List AsksOf) (apps : List AppRecord)
    → filter (asks_some asks) (map attempt_at (filter (λ app. has_waiting asks app.id) apps)) ≡ filter (asks_some asks) (map attempt_at apps)
asked_alone asks [] = refl
asked_alone asks (app ∷ apps) = by (has_waiting asks app.id) refl (asked_alone asks apps)
  where
    same : (b : Bool) (xs ys : List AttemptId) → xs ≡ ys → (if b then attempt_at app ∷ xs else xs) ≡ (if b then attempt_at app ∷ ys else ys)
    same b xs ys e = ap (λ (l : List AttemptId). if b then attempt_at app ∷ l else l) e

    by : (b : Bool) → has_waiting asks app.id ≡ b
        → filter (asks_some asks) (map attempt_at (filter (λ one. has_waiting asks one.id) apps)) ≡ filter (asks_some asks) (map attempt_at apps)
        → filter (asks_some asks) (map attempt_at (filter (λ one. has_waiting asks one.id) (app ∷ apps))) ≡ filter (asks_some asks) (map attempt_at (app ∷ apps))
    by true e rest = rw e (same (asks_some asks (attempt_at app)) _ _ rest)
    by false e rest = let none = unasked asks app e in rw (e, none) rest

-- each record is found under its id

all_apart : (id : AppId) (apps : List AppRecord) → record_of apps id ≡ None → AllByRecursion (λ app. is_app app.id id ≡ false) apps
all_apart id [] n = tt
all_apart id (app ∷ apps) n = by (is_app app.id id) refl (all_apart id apps)
  where
    by : (b : Bool) → is_app app.id id ≡ b → (record_of apps id ≡ None → AllByRecursion (λ one. is_app one.id id ≡ false) apps) → AllByRecursion (λ one. is_app one.id id ≡ false) (app ∷ apps)
    by true e rest = absurd (let h = rw e at n in cc)
    by false e rest = (e, rest (rw e at n))

found_behind : (app : AppRecord) (apps ones : List AppRecord) → AllByRecursion (λ one. is_app one.id app.id ≡ false) ones → AllByRecursion (λ one. record_of apps one.id ≡ Some one) ones
    → AllByRecursion (λ one. record_of (app ∷ apps) one.id ≡ Some one) ones
found_behind app apps [] a f = tt
found_behind app apps (one ∷ ones) a f =
    let other : is_app app.id one.id ≡ false = app_back app.id one.id ∙ a.0 in
    (rw other f.0, found_behind app apps ones a.1 f.1)

all_found : (apps : List AppRecord) → AreApart apps → AllByRecursion (λ app. record_of apps app.id ≡ Some app) apps
all_found [] a = tt
all_found (app ∷ apps) a = (rw (app_itself app.id) refl, found_behind app apps apps (all_apart app.id apps a.0) (all_found apps a.1))

found_kept : (f : AppId → Option AppRecord) (test : AppId → Bool) (apps : List AppRecord) → AllByRecursion (λ app. f app.id ≡ Some app) apps
    → filter_map f (filter test (map (λ app. app.id) apps)) ≡ filter (λ app. test app.id) apps
found_kept f test [] a = refl
found_kept f test (app ∷ apps) a = by (test app.id) refl (found_kept f test apps a.1)
  where
    by : (b : Bool) → test app.id ≡ b → filter_map f (filter test (map (λ one. one.id) apps)) ≡ filter (λ one. test one.id) apps
        → filter_map f (filter test (map (λ one. one.id) (app ∷ apps))) ≡ filter (λ one. test one.id) (app ∷ apps)
    by true e rest = rw (e, a.0) (ap (λ (more : List AppRecord). app ∷ more) rest)
    by false e rest = rw e rest

-- the turns of those applications are the turns of all
pub all_turned : (t : Tables) (ids : List AppId) → AreApart t.tree.apps → ids ≡ filter (has_waiting t.asks) (map (λ app. app.id) t.tree.apps) → turns_of t ids ≡ turns_in t
all_turned t ids a e =
    ap (turns_of t) e
    ∙ ap (λ (l : List AppRecord). map (turn_in t.rows) (filter (asks_some t.asks) (map attempt_at l))) (found_kept (record_of t.tree.apps) (has_waiting t.asks) t.tree.apps (all_found t.tree.apps a))
    ∙ ap (map (turn_in t.rows)) (asked_alone t.asks t.tree.apps)

-- one more id: of an application that has a record, and of one that has none

append-nil : (xs : List AppRecord) → xs ++ [] ≡ xs
append-nil [] = refl
append-nil (x ∷ xs) = ap (λ (l : List AppRecord). x ∷ l) (append-nil xs)

one_turned : (t : Tables) (app : AppRecord) (b : Bool) → asks_some t.asks (attempt_at app) ≡ b
    → map (turn_in t.rows) (filter (asks_some t.asks) (attempt_at app ∷ [])) ≡ (if asks_some t.asks (attempt_at app) then turn_in t.rows (attempt_at app) ∷ [] else [])
one_turned t app true f = rw f refl
one_turned t app false f = rw f refl

pub turned_more : (t : Tables) (ids : List AppId) (i : ℕ) (d : AppId) (app : AppRecord) → i < length ids → record_of t.tree.apps (get_or ids i d) ≡ Some app
    → turns_of t (take (i + 1) ids) ≡ turns_of t (take i ids) ++ (if asks_some t.asks (attempt_at app) then turn_in t.rows (attempt_at app) ∷ [] else [])
turned_more t ids i d app h e =
    let before : List AppRecord = filter_map (record_of t.tree.apps) (take i ids) in
    let split : filter_map (record_of t.tree.apps) (take (i + 1) ids) ≡ before ++ app ∷ [] =
    ap (filter_map (record_of t.tree.apps)) (take_more ids i d h) ∙ filter_map-append (record_of t.tree.apps) (take i ids) (get_or ids i d ∷ [])
    ∙ ap (λ (found : Option AppRecord). before ++ cons_option found []) e in
    ap (λ (l : List AppRecord). map (turn_in t.rows) (filter (asks_some t.asks) (map attempt_at l))) split
    ∙ ap (λ (l : List AttemptId). map (turn_in t.rows) (filter (asks_some t.asks) l)) (map-append attempt_at before (app ∷ []))
    ∙ ap (map (turn_in t.rows)) (filter-append (asks_some t.asks) (map attempt_at before) (attempt_at app ∷ []))
    ∙ map-append (turn_in t.rows) (filter (asks_some t.asks) (map attempt_at before)) (filter (asks_some t.asks) (attempt_at app ∷ []))
    ∙ ap (λ (xs : List Turn). turns_of t (take i ids) ++ xs) (one_turned t app (asks_some t.asks (attempt_at app)) refl)

pub turned_none : (t : Tables) (ids : List AppId) (i : ℕ) (d : AppId) → i < length ids → record_of t.tree.apps (get_or ids i d) ≡ None → turns_of t (take (i + 1) ids) ≡ turns_of t (take i ids)
turned_none t ids i d h e =
    let before : List AppRecord = filter_map (record_of t.tree.apps) (take i ids) in
    ap (λ (l : List AppRecord). map (turn_in t.rows) (filter (asks_some t.asks) (map attempt_at l)))
    (ap (filter_map (record_of t.tree.apps)) (take_more ids i d h) ∙ filter_map-append (record_of t.tree.apps) (take i ids) (get_or ids i d ∷ [])
    ∙ ap (λ (found : Option AppRecord). before ++ cons_option found []) e ∙ append-nil before)

-- what holds of the record at each place holds of one that is found
pub found_so : (P : AppRecord → Type 0) (apps : List AppRecord) (id : AppId) (app : AppRecord) → ((place : ℕ) (one : AppRecord) → slice_get apps place ≡ Some one → P one) → record_of apps id ≡ Some app → P app
found_so P [] id app h e = cc
found_so P (one ∷ apps) id app h e = by (is_app one.id id) refl (found_so P apps id app (λ place x g. h (suc place) x g))
  where
    by : (b : Bool) → is_app one.id id ≡ b → (record_of apps id ≡ Some app → P app) → P app
    by true f rest = let same : one ≡ app = (let g = rw f at e in cc) in subst P same (h zero one refl)
    by false f rest = rest (rw f at e)

-- the applications of attempts in another order
any_app : (id : AppId) (attempts : List AttemptId) → list_any (λ one. is_app one id) (map (λ attempt. attempt.app) attempts) ≡ list_any (λ attempt. is_app attempt.app id) attempts
any_app id [] = refl
any_app id (attempt ∷ attempts) = ap (λ (b : Bool). is_app attempt.app id || b) (any_app id attempts)

filter_alike : (p q : AppId → Bool) → ((id : AppId) → p id ≡ q id) → (ids : List AppId) → filter p ids ≡ filter q ids
filter_alike p q same [] = refl
filter_alike p q same (id ∷ ids) = rw (same id, filter_alike p q same ids) refl

pub wanted_are : (asks : List AsksOf) (attempts : List AttemptId) (apps ids : List AppId) → IsPermutation (waiting_in asks) attempts → apps ≡ map (λ attempt. attempt.app) attempts
    → filter (λ id. list_any (λ one. is_app one id) apps) ids ≡ filter (has_waiting asks) ids
wanted_are asks attempts apps ids moved e =
    filter_alike (λ id. list_any (λ one. is_app one id) apps) (has_waiting asks)
    (λ id. ap (λ (l : List AppId). list_any (λ one. is_app one id) l) e ∙ any_app id attempts ∙ sym (list_any-IsPermutation (λ attempt. is_app attempt.app id) (waiting_in asks) attempts moved)) ids
