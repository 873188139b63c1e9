-- Of the containers that leave no more MasterLost are posted than rows go from the book.
use Rattle.rm_invariant.proofs.Common.{◌≡◌, ℕ, ◌+◌, ◌≤◌, List, [], ◌∷◌, Bool, true, false, not, ◌||◌, filter, map, Option, length, refl, sym, ◌∙◌, arith, list_any, false≢true, length-map, sum_by-cons, BookRow, AppId, ContainerId, AppRecord, is_container, container_itself, same_container, is_of, once, has_container, AppRow, closed, closed_in, closed_one, is_masters_in, losts_of}
use Rattle.std.specs.Prelude.{IsPermutation}
use Rattle.std.specs.List.{sum_by}
use Rattle.std.proofs.lemmas.List.Sorted.{length_permutation}
use Rattle.rm_invariant.proofs.nodes.Ascending.{permuted_has}
use Rattle.rm_tables.specs.declared.events.MainEvent.TheVariants as mains
use Rattle.rm_invariant.specs.measure.Measure.{main_measure, rows_measure}
use Rattle.rm_invariant.proofs.measure.Sums.{row_rises}
use Rattle.rm_types.specs.declared.containers.ClosingOf.{ClosingOf}

-- each MasterLost weighs 1, and is of one of the containers
pub losts_weigh : (most : ℕ) (apps : List AppRecord) (ids : List ContainerId) → sum_by (main_measure most) (losts_of apps ids) ≤ length ids
losts_weigh most apps [] = omega arith
losts_weigh most apps (id ∷ ids) = by (is_masters_in apps id) refl (losts_weigh most apps ids)
  where
    by : (b : Bool) → is_masters_in apps id ≡ b → sum_by (main_measure most) (losts_of apps ids) ≤ length ids → sum_by (main_measure most) (losts_of apps (id ∷ ids)) ≤ length (id ∷ ids)
    by true e rest = rw e (omega (arith, rest, sum_by-cons (main_measure most) (mains.MasterLost id) (losts_of apps ids)))
    by false e rest = rw e (omega (arith, rest))

-- that masters are to be told of them is nothing to the rows
pub closed_weighs : (most : ℕ) (rows : List (AppId × Option AppRow)) (closings : List ClosingOf) → rows_measure most (closed_in rows closings) ≤ rows_measure most rows
closed_weighs most rows [] = omega arith
closed_weighs most rows (closing ∷ closings) =
    let one = row_rises most 0 (closed closing) closing.attempt.app rows (λ row. omega arith) in
    let more = closed_weighs most (closed_one rows closing) closings in
    omega (arith, one, more)

-- the rows of the book that are of none of these
abbrev pub left_of : List ContainerId → List BookRow → List BookRow
left_of list rows = filter (λ row. not (list_any (λ id. is_container id row.id) list)) rows

-- where all of some kind are among those that leave, at least so many rows go
pub kind_leaves : (p : BookRow → Bool) (list : List ContainerId) (rows : List BookRow) → ((id : ContainerId) → has_container (map (λ row. row.id) (filter p rows)) id ≡ true → has_container list id ≡ true)
    → length (left_of list rows) + length (filter p rows) ≤ length rows
kind_leaves p list [] each = omega arith
kind_leaves p list (row ∷ rows) each = by (p row) refl (kind_leaves p list rows)
  where
    out : (b : Bool) → has_container list row.id ≡ b → length (left_of list (row ∷ rows)) ≤ length (left_of list rows) + 1
    out true e = rw e (omega arith)
    out false e = rw e (omega arith)

    or_true : {c : Bool} (b : Bool) → c ≡ true → (b || c) ≡ true
    or_true true h = refl
    or_true false h = h

    by : (b : Bool) → p row ≡ b
        → (((id : ContainerId) → has_container (map (λ row. row.id) (filter p rows)) id ≡ true → has_container list id ≡ true) → length (left_of list rows) + length (filter p rows) ≤ length rows)
        → length (left_of list (row ∷ rows)) + length (filter p (row ∷ rows)) ≤ length (row ∷ rows)
    by true e rest =
        let own : has_container list row.id ≡ true = each row.id (rw e (let x = container_itself row.id in rw x refl)) in
        let more = rest (λ id h. each id (rw e (or_true (is_container row.id id) h))) in
        rw (own, e) (omega (arith, more))
    by false e rest =
        let more = rest (λ id h. each id (rw e h)) in
        let here = out (has_container list row.id) refl in
        let same : length (filter p (row ∷ rows)) ≡ length (filter p rows) = rw e refl in
        omega (arith, more, here, same)

pub all_leave : (p : BookRow → Bool) (rows : List BookRow) (list : List ContainerId) → IsPermutation (map (λ row. row.id) (filter p rows)) list → length (left_of list rows) + length list ≤ length rows
all_leave p rows list same =
    let long = length_permutation (map (λ row. row.id) (filter p rows)) list same in
    let ids = length-map (filter p rows) (λ row. row.id) in
    let go = kind_leaves p list rows (λ id h. permuted_has (map (λ row. row.id) (filter p rows)) list id same h) in
    omega (arith, long, ids, go)

-- each of these has a row, and each stands there once
abbrev pub Leave : List BookRow → List ContainerId → Type 0
Leave rows [] = Unit {0}
Leave rows (id ∷ ids) = (has_container ids id ≡ false) × (list_any (is_of id) rows ≡ true) × Leave rows ids

-- each of these has a row
abbrev pub HaveRows : List BookRow → List ContainerId → Type 0
HaveRows rows [] = Unit {0}
HaveRows rows (id ∷ ids) = (list_any (is_of id) rows ≡ true) × HaveRows rows ids

-- where one more leaves, one row more goes
fewer_left : (id : ContainerId) (ids : List ContainerId) (rows : List BookRow) → length (left_of (id ∷ ids) rows) ≤ length (left_of ids rows)
fewer_left id ids [] = omega arith
fewer_left id ids (row ∷ rows) = by (is_container id row.id) (has_container ids row.id) refl refl (fewer_left id ids rows)
  where
    by : (a b : Bool) → is_container id row.id ≡ a → has_container ids row.id ≡ b → length (left_of (id ∷ ids) rows) ≤ length (left_of ids rows) → length (left_of (id ∷ ids) (row ∷ rows)) ≤ length (left_of ids (row ∷ rows))
    by true true e f rest = rw (e, f) rest
    by true false e f rest = rw (e, f) (omega (arith, rest))
    by false true e f rest = rw (e, f) rest
    by false false e f rest = rw (e, f) (omega (arith, rest))

one_less : (id : ContainerId) (ids : List ContainerId) (rows : List BookRow) → has_container ids id ≡ false → list_any (is_of id) rows ≡ true → length (left_of (id ∷ ids) rows) + 1 ≤ length (left_of ids rows)
one_less id ids [] apart there = absurd (false≢true there)
one_less id ids (row ∷ rows) apart there = by (is_container row.id id) refl (one_less id ids rows apart)
  where
    by : (b : Bool) → is_container row.id id ≡ b → (list_any (is_of id) rows ≡ true → length (left_of (id ∷ ids) rows) + 1 ≤ length (left_of ids rows)) → length (left_of (id ∷ ids) (row ∷ rows)) + 1 ≤ length (left_of ids (row ∷ rows))
    by true e rest =
        let same : row.id ≡ id = same_container row.id id e in
        let here : is_container id row.id ≡ true = rw same (container_itself id) in
        let not_more : has_container ids row.id ≡ false = rw same apart in
        rw (here, not_more) (omega (arith, fewer_left id ids rows))
    by false e rest = another (is_container id row.id) (has_container ids row.id) refl refl (rest (rw e at there))
      where
        another : (a b : Bool) → is_container id row.id ≡ a → has_container ids row.id ≡ b → length (left_of (id ∷ ids) rows) + 1 ≤ length (left_of ids rows) → length (left_of (id ∷ ids) (row ∷ rows)) + 1 ≤ length (left_of ids (row ∷ rows))
        another true b f g less =
            let same : id ≡ row.id = same_container id row.id f in
            let x : is_container row.id id ≡ true = rw same (container_itself row.id) in absurd (false≢true (sym e ∙ x))
        another false true f g less = rw (f, g) less
        another false false f g less = rw (f, g) (omega (arith, less))

pub each_leaves : (rows : List BookRow) (list : List ContainerId) → Leave rows list → length (left_of list rows) + length list ≤ length rows
each_leaves rows [] leave = omega (arith, all_stay rows)
  where
    all_stay : (rows : List BookRow) → length (left_of [] rows) ≤ length rows
    all_stay [] = omega arith
    all_stay (row ∷ rows) = omega (arith, all_stay rows)
each_leaves rows (id ∷ ids) leave =
    let more = each_leaves rows ids leave.2 in
    let one = one_less id ids rows leave.0 leave.1 in
    omega (arith, more, one)

-- a list that is cut down, and each once, leaves as well
filtered_leave : (rows : List BookRow) (p : ContainerId → Bool) (list : List ContainerId) → Leave rows list → Leave rows (filter p list)
filtered_leave rows p [] leave = tt
filtered_leave rows p (id ∷ ids) leave = by (p id) refl (filtered_leave rows p ids leave.2)
  where
    apart : (ids : List ContainerId) → has_container ids id ≡ false → has_container (filter p ids) id ≡ false
    apart [] h = refl
    apart (one ∷ ids) h = cut (p one) (is_container one id) refl refl (apart ids)
      where
        cut : (a b : Bool) → p one ≡ a → is_container one id ≡ b → (has_container ids id ≡ false → has_container (filter p ids) id ≡ false) → has_container (filter p (one ∷ ids)) id ≡ false
        cut a true e f rest = absurd (let x : true ≡ false = rw f at h in cc)
        cut true false e f rest = rw (e, f) (rest (rw f at h))
        cut false false e f rest = rw e (rest (rw f at h))

    by : (b : Bool) → p id ≡ b → Leave rows (filter p ids) → Leave rows (filter p (id ∷ ids))
    by true e more = rw e (apart ids leave.0, leave.1, more)
    by false e more = rw e more

pub once_leave : (rows : List BookRow) (list : List ContainerId) → HaveRows rows list → Leave rows (once list)
once_leave rows [] each = tt
once_leave rows (id ∷ ids) each = (gone (once ids), each.0, filtered_leave rows (λ other. not (is_container other id)) (once ids) (once_leave rows ids each.1))
  where
    gone : (xs : List ContainerId) → has_container (filter (λ other. not (is_container other id)) xs) id ≡ false
    gone [] = refl
    gone (x ∷ xs) = by (is_container x id) refl (gone xs)
      where
        by : (b : Bool) → is_container x id ≡ b → has_container (filter (λ other. not (is_container other id)) xs) id ≡ false → has_container (filter (λ other. not (is_container other id)) (x ∷ xs)) id ≡ false
        by true e rest = rw e rest
        by false e rest = rw (e, e) rest

-- those that pass a test have rows, where whatever passes has one
pub passing_have : (rows : List BookRow) (p : ContainerId → Bool) → ((id : ContainerId) → p id ≡ true → list_any (is_of id) rows ≡ true) → (list : List ContainerId) → HaveRows rows (filter p list)
passing_have rows p each [] = tt
passing_have rows p each (id ∷ ids) = by (p id) refl (passing_have rows p each ids)
  where
    by : (b : Bool) → p id ≡ b → HaveRows rows (filter p ids) → HaveRows rows (filter p (id ∷ ids))
    by true e rest = rw e (each id e, rest)
    by false e rest = rw e rest
