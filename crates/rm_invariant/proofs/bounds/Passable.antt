-- What is in its range is enough for a pass: what each node offers, what is asked for, and how many were granted.
use Rattle.rm_invariant.proofs.Common.{◌≡◌, ◌≤◌, ◌<◌, ◌^◌, ℕ, zero, suc, ◌+◌, nat_le, List, [], ◌∷◌, Bool, true, false, Option, None, Some, filter, map, length, refl, sym, ◌∙◌, ap, subst, arith, slice_get, list_all, list_any, and_from, nat_tests, Ask, BookRow, NodeCapability, Turn, AppId, AttemptId, ContainerId, AppRecord, AttemptRecord, Resource, Settings, is_app, is_attempt, record_of, same_attempt, attempt_asks, attempt_at, attempts_in, LifeState, Row, Tables, found_in, asks_some, turn_in, turns_in, PlainRow, SameRows, bare_row, grants_of, plain_row, History, abstract_life, IsSize}
use Rattle.std.proofs.Common.{◌==◌, nat_lt, cond, count_by}
use Rattle.rm_book.specs.Books.{capability_in, is_node}
use Rattle.rm_sched.specs.fit.Conditions.{TurnsAreApart, are_past, are_some_sizes, has_turn, have_sizes, is_past, is_some_size}
use Rattle.rm_sched.specs.CanWork.{AreFew, CanPass}
use Rattle.rm_invariant.specs.apps.View.{one_if}
use Rattle.rm_invariant.proofs.apps.Counts.{at_front, passes_once}
use Rattle.rm_invariant.specs.nodes.Book.{All, IsGranted, BookRowInvariant as IsBookRow}
use Rattle.rm_invariant.specs.masters.Sound.{RecordsAreSound, IsSoundRecord, Numbered}
use Rattle.rm_invariant.specs.events.SchedFacts.{SchedFacts}
use Rattle.rm_invariant.specs.Core.{Nothing, CoreInvariant}
use Rattle.rm_invariant.proofs.events.Askers.{askers_current}
use Rattle.rm_invariant.proofs.events.Turns.{first_seq}
use Rattle.rm_invariant.specs.bounds.InBounds.{AreAsked, AreRecords, IsAppRecord, IsAsked, IsAttemptRecord, IsOffer, InBounds}

-- WHAT A NODE OFFERS

-- what is found of a node is one of what is offered
pub offer_found : (nodes : List NodeCapability) (name : List ℕ) (capability : Resource) → All IsOffer nodes → capability_in nodes name ≡ Some capability → IsSize capability
offer_found [] name capability all e = cc
offer_found (one ∷ nodes) name capability all e = by (is_node name one) refl (offer_found nodes name capability all.1)
  where
    by : (b : Bool) → is_node name one ≡ b → (capability_in nodes name ≡ Some capability → IsSize capability) → IsSize capability
    by true f rest =
        let is : Some one.capability ≡ Some capability = rw f at e in
        let same : one.capability ≡ capability = cc in
        subst IsSize same all.0.size
    by false f rest = rest (rw f at e)

-- SIZES

-- what is asked for has a megabyte and a core at least
sizes_some : (asks : List Ask) → All IsAsked asks → are_some_sizes asks ≡ true
sizes_some [] all = refl
sizes_some (ask ∷ asks) all =
    let first : is_some_size ask.size ≡ true =
    let memory = all.0.memory in
    let cores = all.0.vcores in
    let a : nat_le 1 ask.size.memory_mb ≡ true = let m = memory.0 in grind (arith, nat_tests) in
    let b : nat_le 1 ask.size.vcores ≡ true = let m = cores.0 in grind (arith, nat_tests) in
    and_from (nat_le 1 ask.size.memory_mb) (nat_le 1 ask.size.vcores) a b in
    and_from (is_some_size ask.size) (are_some_sizes asks) first (sizes_some asks all.1)

turns_sized : (t : Tables) → AreAsked t.asks → (turns : List Turn) → have_sizes (attempt_asks t.asks) turns ≡ true
turns_sized t asked [] = refl
turns_sized t asked (turn ∷ turns) =
    and_from (are_some_sizes (attempt_asks t.asks turn.attempt)) (have_sizes (attempt_asks t.asks) turns) (sizes_some (attempt_asks t.asks turn.attempt) (asked.each turn.attempt)) (turns_sized t asked turns)

-- TURNS DIFFER

-- no turn is of an application that has no record
no_turn : (t : Tables) (attempt : AttemptId) (apps : List AppRecord) → count_by (λ (app : AppRecord). is_app app.id attempt.app) apps ≡ 0
    → has_turn attempt (map (turn_in t.rows) (filter (asks_some t.asks) (map attempt_at apps))) ≡ false
no_turn t attempt [] none = refl
no_turn t attempt (app ∷ apps) none = by (is_app app.id attempt.app) refl (at_front (λ (one : AppRecord). is_app one.id attempt.app) app apps) (no_turn t attempt apps)
  where
    other : is_app app.id attempt.app ≡ false → is_attempt attempt (attempt_at app) ≡ false
    other e = grind (arith, nat_tests)

    pick : (b : Bool) → is_app app.id attempt.app ≡ false → has_turn attempt (map (turn_in t.rows) (filter (asks_some t.asks) (map attempt_at apps))) ≡ false
        → has_turn attempt (map (turn_in t.rows) (cond b (attempt_at app ∷ filter (asks_some t.asks) (map attempt_at apps)) (filter (asks_some t.asks) (map attempt_at apps)))) ≡ false
    pick true e rest = let apart = other e in rw apart rest
    pick false e rest = rest

    by : (b : Bool) → is_app app.id attempt.app ≡ b
        → count_by (λ (one : AppRecord). is_app one.id attempt.app) (app ∷ apps) ≡ one_if (is_app app.id attempt.app) (count_by (λ (one : AppRecord). is_app one.id attempt.app) apps)
        → (count_by (λ (one : AppRecord). is_app one.id attempt.app) apps ≡ 0 → has_turn attempt (map (turn_in t.rows) (filter (asks_some t.asks) (map attempt_at apps))) ≡ false)
        → has_turn attempt (map (turn_in t.rows) (filter (asks_some t.asks) (map attempt_at (app ∷ apps)))) ≡ false
    by true e first rest = absurd (let f : count_by (λ (one : AppRecord). is_app one.id attempt.app) (app ∷ apps) ≡ suc (count_by (λ (one : AppRecord). is_app one.id attempt.app) apps) = first ∙ ap (λ (b : Bool). one_if b (count_by (λ (one : AppRecord). is_app one.id attempt.app) apps)) e in omega (arith, f, none))
    by false e first rest =
        let f : count_by (λ (one : AppRecord). is_app one.id attempt.app) (app ∷ apps) ≡ count_by (λ (one : AppRecord). is_app one.id attempt.app) apps = first ∙ ap (λ (b : Bool). one_if b (count_by (λ (one : AppRecord). is_app one.id attempt.app) apps)) e in
        pick (asks_some t.asks (attempt_at app)) e (rest (sym f ∙ none))

-- so no two turns are of one attempt
turns_apart : (t : Tables) (apps : List AppRecord) → ((id : AppId) → count_by (λ (app : AppRecord). is_app app.id id) apps ≤ 1)
    → TurnsAreApart (map (turn_in t.rows) (filter (asks_some t.asks) (map attempt_at apps)))
turns_apart t [] once = tt
turns_apart t (app ∷ apps) once = by (asks_some t.asks (attempt_at app)) (turns_apart t apps fewer)
  where
    fewer : (id : AppId) → count_by (λ (one : AppRecord). is_app one.id id) apps ≤ 1
    fewer id = let first = at_front (λ (one : AppRecord). is_app one.id id) app apps in less (is_app app.id id) first (once id)
      where
        less : (b : Bool) → count_by (λ (one : AppRecord). is_app one.id id) (app ∷ apps) ≡ one_if b (count_by (λ (one : AppRecord). is_app one.id id) apps)
            → count_by (λ (one : AppRecord). is_app one.id id) (app ∷ apps) ≤ 1 → count_by (λ (one : AppRecord). is_app one.id id) apps ≤ 1
        less true e few = omega (arith, e, few)
        less false e few = omega (arith, e, few)

    none : count_by (λ (one : AppRecord). is_app one.id app.id) apps ≡ 0
    none =
        let own : is_app app.id app.id ≡ true = grind (arith, nat_tests) in
        let first : count_by (λ (one : AppRecord). is_app one.id app.id) (app ∷ apps) ≡ suc (count_by (λ (one : AppRecord). is_app one.id app.id) apps) =
        at_front (λ (one : AppRecord). is_app one.id app.id) app apps ∙ rw own refl in
        let few = once app.id in
        omega (arith, first, few)

    by : (b : Bool) → TurnsAreApart (map (turn_in t.rows) (filter (asks_some t.asks) (map attempt_at apps)))
        → TurnsAreApart (map (turn_in t.rows) (cond b (attempt_at app ∷ filter (asks_some t.asks) (map attempt_at apps)) (filter (asks_some t.asks) (map attempt_at apps))))
    by true rest = (no_turn t (attempt_at app) apps none, rest)
    by false rest = rest

-- WHAT WAS GRANTED BEFORE

-- what holds of each container of the judge's book holds of each of the tables'
pub book_told : (P : PlainRow → Type 0) (rows : List BookRow) (book : List Row) → SameRows rows book → All (λ row. P (plain_row row)) book → All (λ row. P (bare_row row)) rows
book_told P rows book same all = back rows (map plain_row book) same (forth book all)
  where
    forth : (list : List Row) → All (λ row. P (plain_row row)) list → All P (map plain_row list)
    forth [] all = tt
    forth (row ∷ list) all = (all.0, forth list all.1)

    back : (list : List BookRow) (told : List PlainRow) → map bare_row list ≡ told → All P told → All (λ row. P (bare_row row)) list
    back [] told e all = tt
    back (row ∷ list) [] e all = cc
    back (row ∷ list) (one ∷ told) e all =
        let first : bare_row row ≡ one = cc in
        let rest : map bare_row list ≡ told = cc in
        (subst P (sym first) all.0, back list told rest all.1)

-- no container of this life is one that a turn may yet grant
row_past : (life : LifeState) (turn : Turn) (row : BookRow) → IsGranted life row.id → turn.next_seq ≡ grants_of life.granted turn.attempt + 1 → is_past life.epoch turn row ≡ true
row_past life turn row granted next = by (is_attempt row.id.attempt turn.attempt) refl (row.id.epoch == life.epoch) refl
  where
    by : (b : Bool) → is_attempt row.id.attempt turn.attempt ≡ b → (c : Bool) → (row.id.epoch == life.epoch) ≡ c → is_past life.epoch turn row ≡ true
    by false e c f = rw e refl
    by true e false f = rw (e, f) refl
    by true e true f =
        let same : row.id.attempt ≡ turn.attempt = same_attempt row.id.attempt turn.attempt e in
        let now : row.id.epoch ≡ life.epoch = grind (arith, nat_tests) in
        let seq : row.id.seq ≤ grants_of life.granted row.id.attempt = granted now in
        let own : grants_of life.granted row.id.attempt ≡ grants_of life.granted turn.attempt = ap (grants_of life.granted) same in
        let earlier : nat_lt row.id.seq turn.next_seq ≡ true = let l : row.id.seq < turn.next_seq = omega (arith, seq, own, next) in grind (arith, nat_tests) in
        rw (e, f, earlier) refl

rows_past : (life : LifeState) (turn : Turn) (rows : List BookRow) → All (λ row. IsGranted life row.id) rows → turn.next_seq ≡ grants_of life.granted turn.attempt + 1 → list_all (is_past life.epoch turn) rows ≡ true
rows_past life turn [] all next = refl
rows_past life turn (row ∷ rows) all next = and_from (is_past life.epoch turn row) (list_all (is_past life.epoch turn) rows) (row_past life turn row all.0 next) (rows_past life turn rows all.1 next)

turns_past : (life : LifeState) (t : Tables) → All (λ row. IsGranted life row.id) t.book.rows → (apps : List AppRecord)
    → ((place : ℕ) (app : AppRecord) → slice_get apps place ≡ Some app → asks_some t.asks (attempt_at app) ≡ true → (turn_in t.rows (attempt_at app)).next_seq ≡ grants_of life.granted (attempt_at app) + 1)
    → are_past life.epoch (map (turn_in t.rows) (filter (asks_some t.asks) (map attempt_at apps))) t.book.rows ≡ true
turns_past life t all [] own = refl
turns_past life t all (app ∷ apps) own = by (asks_some t.asks (attempt_at app)) refl (turns_past life t all apps (λ place one e. own (suc place) one e))
  where
    by : (b : Bool) → asks_some t.asks (attempt_at app) ≡ b → are_past life.epoch (map (turn_in t.rows) (filter (asks_some t.asks) (map attempt_at apps))) t.book.rows ≡ true
        → are_past life.epoch (map (turn_in t.rows) (cond b (attempt_at app ∷ filter (asks_some t.asks) (map attempt_at apps)) (filter (asks_some t.asks) (map attempt_at apps)))) t.book.rows ≡ true
    by true e rest = and_from _ _ (rows_past life (turn_in t.rows (attempt_at app)) t.book.rows all (own 0 app refl e)) rest
    by false e rest = rest

-- what holds of each row of the book, as one of its parts
granted_rows : (life : LifeState) (more : ContainerId → Type 0) (book : List Row) → All (IsBookRow life more) book → All (λ row. IsGranted life row.id) book
granted_rows life more [] all = tt
granted_rows life more (row ∷ book) all = (all.0.1, granted_rows life more book all.1)

-- ALL OF IT

-- a pass may be made
pub can_pass : (settings : Settings) (h : History) (t : Tables) → CoreInvariant settings h t → SchedFacts settings h t → InBounds t → CanPass t
can_pass settings h t w f r =
    record {
      room = λ name capability e. let size = offer_found t.book.nodes name capability r.offers e in size.vcores.1;
      apart = turns_apart t t.tree.apps f.apps;
      early = λ id. let few = r.grants.each id in let served = r.counts.served in omega (arith, few, served);
      sizes = turns_sized t r.asks (turns_in t);
      past =
          turns_past (abstract_life h t) t
          (book_told (λ row. IsGranted (abstract_life h t) row.id) t.book.rows h.book w.agrees.rows (granted_rows (abstract_life h t) Nothing h.book w.book.rows)) t.tree.apps
          (λ place app e some. first_seq (abstract_life h t) t w.agrees (attempt_at app) (askers_current settings h t w.keeps.all w.agrees.asks f.current place app e some));
    }

-- HOW MANY ATTEMPTS

-- attempts that are numbered on, of which each has its number in its range, are few
numbered_few : (id : AppId) (n : ℕ) (attempts : List AttemptRecord) → Numbered id n attempts → All IsAttemptRecord attempts → n ≤ 2147483647 → n + length attempts ≤ 2147483647
numbered_few id n [] numbered all few = omega (arith, few)
numbered_few id n (one ∷ more) numbered all few =
    let is : one.id.number ≡ n + 1 = ap (λ (a : AttemptId). a.number) numbered.0 in
    let own = all.0.id.number.1 in
    let rest = numbered_few id (n + 1) more numbered.1 all.1 (omega (arith, is, own)) in
    omega (arith, rest)

record_few : (id : AppId) (app : AppRecord) → IsSoundRecord id app → IsAppRecord app → length app.attempts ≤ 2147483647
record_few id app sound is = let few = numbered_few id 0 app.attempts sound.numbered is.attempts (omega arith) in omega (arith, few)

-- what is found is one of them
pub record_found : (apps : List AppRecord) (id : AppId) (app : AppRecord) → AreRecords apps → record_of apps id ≡ Some app → IsAppRecord app
record_found [] id app all e = cc
record_found (one ∷ apps) id app all e = by (is_app one.id id) refl (record_found apps id app all.1)
  where
    by : (b : Bool) → is_app one.id id ≡ b → (record_of apps id ≡ Some app → IsAppRecord app) → IsAppRecord app
    by true f rest =
        let is : Some one ≡ Some app = rw f at e in
        let same : one ≡ app = cc in
        subst IsAppRecord same all.0
    by false f rest = rest (rw f at e)

-- the attempts of an application leave room for one more
pub few_recorded : (t : Tables) → RecordsAreSound t.tree.apps → InBounds t → (id : AppId) → length (attempts_in (found_in t id)) + 1 < 2 ^ 32
few_recorded t sound r id = by (found_in t id) refl
  where
    by : (o : Option AppRecord) → found_in t id ≡ o → length (attempts_in o) + 1 < 2 ^ 32
    by None e = omega arith
    by (Some app) e = let few = record_few id app (sound id app e) (record_found t.tree.apps id app r.tree e) in omega (arith, few)

pub few_attempts : (settings : Settings) (h : History) (t : Tables) → CoreInvariant settings h t → InBounds t → (id : AppId) → length (attempts_in (found_in t id)) + 1 < 2 ^ 32
few_attempts settings h t w r id = few_recorded t w.sound r id

-- where no two records are of one application, each is found
place_found : (apps : List AppRecord) (place : ℕ) (app : AppRecord) → ((id : AppId) → count_by (λ (one : AppRecord). is_app one.id id) apps ≤ 1) → slice_get apps place ≡ Some app → record_of apps app.id ≡ Some app
place_found [] place app once e = cc
place_found (one ∷ apps) zero app once e =
    let is : one ≡ app = cc in
    let own : is_app one.id one.id ≡ true = grind (arith, nat_tests) in
    subst (λ (x : AppRecord). record_of (one ∷ apps) x.id ≡ Some x) is (rw own refl)
place_found (one ∷ apps) (suc place) app once e = by (is_app one.id app.id) refl (place_found apps place app fewer e)
  where
    fewer : (id : AppId) → count_by (λ (other : AppRecord). is_app other.id id) apps ≤ 1
    fewer id = let first = at_front (λ (other : AppRecord). is_app other.id id) one apps in less (is_app one.id id) first (once id)
      where
        less : (b : Bool) → count_by (λ (other : AppRecord). is_app other.id id) (one ∷ apps) ≡ one_if b (count_by (λ (other : AppRecord). is_app other.id id) apps)
            → count_by (λ (other : AppRecord). is_app other.id id) (one ∷ apps) ≤ 1 → count_by (λ (other : AppRecord). is_app other.id id) apps ≤ 1
        less true f few = omega (arith, f, few)
        less false f few = omega (arith, f, few)

    by : (b : Bool) → is_app one.id app.id ≡ b → record_of apps app.id ≡ Some app → record_of (one ∷ apps) app.id ≡ Some app
    by false f rest = rw f rest
    by true f rest =
        let first : count_by (λ (other : AppRecord). is_app other.id app.id) (one ∷ apps) ≡ suc (count_by (λ (other : AppRecord). is_app other.id app.id) apps) =
        at_front (λ (other : AppRecord). is_app other.id app.id) one apps ∙ rw f refl in
        let some : list_any (λ (other : AppRecord). is_app other.id app.id) apps ≡ true = found_passes apps rest in
        let more = passes_once (λ (other : AppRecord). is_app other.id app.id) apps some in
        let few = once app.id in
        absurd (omega (arith, first, more, few))
      where
        found_passes : (list : List AppRecord) → record_of list app.id ≡ Some app → list_any (λ (other : AppRecord). is_app other.id app.id) list ≡ true
        found_passes [] f = cc
        found_passes (other ∷ list) f = at (is_app other.id app.id) refl (found_passes list)
          where
            at : (b : Bool) → is_app other.id app.id ≡ b → (record_of list app.id ≡ Some app → list_any (λ (x : AppRecord). is_app x.id app.id) list ≡ true) → list_any (λ (x : AppRecord). is_app x.id app.id) (other ∷ list) ≡ true
            at true g next = rw g refl
            at false g next = rw g (next (rw g at f))

-- no number of attempts leaves its range
pub are_few : (settings : Settings) (h : History) (t : Tables) → CoreInvariant settings h t → SchedFacts settings h t → InBounds t → AreFew t
are_few settings h t w f r place app e =
    let found = place_found t.tree.apps place app f.apps e in
    let few = record_few app.id app (w.sound app.id app found) (record_found t.tree.apps app.id app r.tree found) in
    omega (arith, few)
