-- Many asks of an attempt that are set one after the other: their lines stay lawful, and are what contracts see.
use Rattle.rm_book.proofs.Common.{◌≡◌, ℕ, ◌+◌, ◌<◌, List, [], ◌∷◌, Bool, true, false, nat_lt, not, map, length, get_or, drop, refl, sym, ◌∙◌, ap, subst, arith, nat_tests, length-map, Ask, AskLine, AttemptId, is_attempt, inl, inr, cases_Bool}
use Rattle.std.proofs.Common.{zero, suc, nat_le}
use Rattle.std.specs.Prelude.{◌==◌, ◌≤◌, if◌then◌else◌}
use Rattle.std.proofs.lemmas.Bool.{eqb-true}
use Rattle.std.proofs.lemmas.List.{drop_more}
use Rattle.rm_book.specs.AskLines.{AreLines, AttemptAsks, IsAskTable, ask_of, asks_in, asks_of_entry, by_order, lines_in, lines_set, asking_order, put_by, with_lines}
use Rattle.rm_book.specs.AskTables.{AsksOf, attempt_asks, asks_set, with_asks_of}
use Rattle.rm_book.specs.ManyAsks.{all_asked, asks_after, lines_after}
use Rattle.rm_book.proofs.LineSteps.{set_lawful}
use Rattle.rm_book.proofs.Entries.{Changed, changed, lawful_lines, lists_later}
use Rattle.rm_book.proofs.AskViews.{lines_view, set_view, view_of}

-- a step of the loop that sets one ask more
pub step : (asks : List Ask) (place : ℕ) (none : Ask) (order : ℕ) (lines new : List AskLine) (all : List AskLine) → place < length asks
    → new ≡ lines_set (get_or asks place none) (order + 1) lines → lines_after (drop place asks) order lines ≡ all → lines_after (drop (place + 1) asks) (order + 1) new ≡ all
step asks place none order lines new all within set so_far =
    ap (lines_after (drop (place + 1) asks) (order + 1)) set ∙ ap (λ (more : List Ask). lines_after more order lines) (sym (drop_more asks place none within)) ∙ so_far

-- so many asks later
one_more : (asked n : ℕ) → asked + 1 + n ≡ asked + suc n
one_more asked n = omega arith

-- the lines after many asks are lawful
pub after_lawful : (asks : List Ask) (asked : ℕ) (lines : List AskLine) → AreLines asked lines → AreLines (asked + length asks) (lines_after asks asked lines)
after_lawful [] asked lines h = let e : asked ≡ asked + 0 = omega arith in subst (λ (n : ℕ). AreLines n lines) e h
after_lawful (ask ∷ more) asked lines h =
    subst (λ (n : ℕ). AreLines n (lines_after more (asked + 1) (lines_set ask (asked + 1) lines))) (one_more asked (length more))
    (after_lawful more (asked + 1) (lines_set ask (asked + 1) lines) (set_lawful asked ask lines h))

-- and are what the attempt asks for after them
pub after_view : (asks : List Ask) (asked : ℕ) (lines : List AskLine) → AreLines asked lines → asks_in (lines_after asks asked lines) ≡ asks_after (asks_in lines) asks
after_view [] asked lines h = refl
after_view (ask ∷ more) asked lines h =
    after_view more (asked + 1) (lines_set ask (asked + 1) lines) (set_lawful asked ask lines h)
    ∙ ap (λ (so_far : List Ask). asks_after so_far more) (set_view asked ask lines h)

-- as many asks are seen as there are lines
length_put : (line : AskLine) (lines : List AskLine) → length (put_by asking_order line lines) ≡ suc (length lines)
length_put line [] = refl
length_put line (other ∷ lines) = by (nat_lt other.order line.order) (length_put line lines)
  where
    by : (b : Bool) → length (put_by asking_order line lines) ≡ suc (length lines) → length (if b then other ∷ put_by asking_order line lines else line ∷ other ∷ lines) ≡ suc (suc (length lines))
    by true e = ap suc e
    by false e = refl

length_by_order : (lines : List AskLine) → length (by_order lines) ≡ length lines
length_by_order [] = refl
length_by_order (line ∷ lines) = length_put line (by_order lines) ∙ ap suc (length_by_order lines)

pub length_view : (lines : List AskLine) → length (asks_in lines) ≡ length lines
length_view lines = length-map (by_order lines) ask_of ∙ length_by_order lines

-- so many asks later all lines are lawful still
lists_so_later : (n asked : ℕ) (entries : List AttemptAsks) → IsAskTable asked entries → IsAskTable (asked + n) entries
lists_so_later zero asked entries h = let e : asked ≡ asked + 0 = omega arith in subst (λ (k : ℕ). IsAskTable k entries) e h
lists_so_later (suc n) asked entries h = subst (λ (k : ℕ). IsAskTable k entries) (one_more asked n) (lists_so_later n (asked + 1) entries (lists_later asked entries h))

-- what many asks leave
pub after_leaves : (asked : ℕ) (entries new : List AttemptAsks) (attempt : AttemptId) (asks : List Ask) → new ≡ with_lines attempt (lines_after asks asked (lines_in entries attempt)) entries
    → IsAskTable asked entries → Changed (asked + length asks) entries new attempt (lines_after asks asked (lines_in entries attempt))
after_leaves asked entries new attempt asks is lawful =
    changed (asked + length asks) entries new attempt (lines_after asks asked (lines_in entries attempt)) is (lists_so_later (length asks) asked entries lawful)
    (after_lawful asks asked (lines_in entries attempt) (lawful_lines asked entries attempt lawful))

-- what an attempt asks for in a table that it was set in, and one that it was set in twice
asks_set_so : (attempt : AttemptId) (asks : List Ask) (table : List AsksOf) → is_attempt attempt attempt ≡ true → attempt_asks (with_asks_of attempt asks table) attempt ≡ asks
asks_set_so attempt asks [] own = rw own refl
asks_set_so attempt asks (one ∷ table) own = elim (cases_Bool (is_attempt one.attempt attempt)) [
  | inl e ↦ rw (e, e) refl
  | inr e ↦ rw (e, e) (asks_set_so attempt asks table own)
]

set_twice : (attempt : AttemptId) (asks later : List Ask) (table : List AsksOf) → is_attempt attempt attempt ≡ true
    → with_asks_of attempt later (with_asks_of attempt asks table) ≡ with_asks_of attempt later table
set_twice attempt asks later [] own = rw own refl
set_twice attempt asks later (one ∷ table) own = elim (cases_Bool (is_attempt one.attempt attempt)) [
  | inl e ↦ rw (e, e) refl
  | inr e ↦ rw (e, e) (ap (λ (more : List AsksOf). one ∷ more) (set_twice attempt asks later table own))
]

-- the table after many asks, of which there are some
all_at_once : (attempt : AttemptId) (ask : Ask) (more : List Ask) (table : List AsksOf) → is_attempt attempt attempt ≡ true
    → with_asks_of attempt (asks_after (attempt_asks table attempt) (ask ∷ more)) table ≡ all_asked attempt table (ask ∷ more)
all_at_once attempt ask [] table own = refl
all_at_once attempt ask (next ∷ more) table own =
    let set : List Ask = asks_set ask (attempt_asks table attempt) in
    sym (set_twice attempt set (asks_after set (next ∷ more)) table own)
    ∙ ap (λ (asks : List Ask). with_asks_of attempt (asks_after asks (next ∷ more)) (with_asks_of attempt set table)) (sym (asks_set_so attempt set table own))
    ∙ all_at_once attempt next more (with_asks_of attempt set table) own

-- the same in what contracts see
pub all_view : (asked : ℕ) (attempt : AttemptId) (asks : List Ask) (entries : List AttemptAsks) → IsAskTable asked entries → (asks ≡ [] → ⊥)
    → map asks_of_entry (with_lines attempt (lines_after asks asked (lines_in entries attempt)) entries) ≡ all_asked attempt (map asks_of_entry entries) asks
all_view asked attempt [] entries lawful some = absurd (some refl)
all_view asked attempt (ask ∷ more) entries lawful some =
    lines_view attempt (lines_after (ask ∷ more) asked (lines_in entries attempt)) entries
    ∙ ap (λ (asks : List Ask). with_asks_of attempt asks (map asks_of_entry entries))
    (after_view (ask ∷ more) asked (lines_in entries attempt) (lawful_lines asked entries attempt lawful)
    ∙ ap (λ (asks : List Ask). asks_after asks (ask ∷ more)) (sym (view_of entries attempt)))
    ∙ all_at_once attempt ask more (map asks_of_entry entries) (own attempt)
  where
    own : (attempt : AttemptId) → is_attempt attempt attempt ≡ true
    own attempt = grind (arith, nat_tests)

-- so many asks there are after them
pub count_after : (asked : ℕ) (attempt : AttemptId) (asks : List Ask) (entries : List AttemptAsks) → IsAskTable asked entries
    → length (lines_after asks asked (lines_in entries attempt)) ≡ length (asks_after (attempt_asks (map asks_of_entry entries) attempt) asks)
count_after asked attempt asks entries lawful =
    sym (length_view (lines_after asks asked (lines_in entries attempt)))
    ∙ ap (length {A = Ask})
    (after_view asks asked (lines_in entries attempt) (lawful_lines asked entries attempt lawful) ∙ ap (λ (so_far : List Ask). asks_after so_far asks) (sym (view_of entries attempt)))

-- they are few enough, or too many
pub few_enough : (n most : ℕ) → nat_le n most ≡ not (nat_lt most n)
few_enough n most = grind (arith, nat_tests)

pub are_few : (n len most : ℕ) → len ≡ n → len ≤ most → true ≡ not (nat_lt most n)
are_few n len most same few = grind (arith, nat_tests)

pub are_many : (n len most : ℕ) → len ≡ n → most < len → false ≡ not (nat_lt most n)
are_many n len most same many = grind (arith, nat_tests)

-- a list with a length of 0
pub no_asks : (asks : List Ask) → (length asks == 0) ≡ true → asks ≡ []
no_asks [] e = refl
no_asks (ask ∷ asks) e = let h : length (ask ∷ asks) ≡ 0 = eqb-true (length (ask ∷ asks)) 0 e in absurd (omega arith)

pub some_asks_left : (asks : List Ask) → ((length asks == 0) ≡ false) → (asks ≡ [] → ⊥)
some_asks_left [] e = cc
some_asks_left (ask ∷ asks) e = λ nil. cc
