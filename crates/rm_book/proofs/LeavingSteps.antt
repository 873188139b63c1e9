-- What is left when rows leave, what stands on nodes then, and what runs.
use Rattle.rm_book.proofs.Common.{◌≡◌, ℕ, ◌+◌, ◌<◌, Bool, true, false, not, cond, ◌||◌, List, [], ◌∷◌, ◌++◌, Option, None, Some, IfSome, is_some, length, filter, map, find, take, get_or, refl, sym, ap, ◌∙◌, arith, list_any, sum_by, lookup, option_map, bytes_eq, take_more, list_any-append, BookRow, Running, Held, ContainerId, Resource, is_container, container_back, same_container, Run, next_container_state, is_held}
use Rattle.rm_types.proofs.TestLemmas.{is_some-find, text_itself}
use Rattle.rm_book.specs.declared.node_table.NodeLoad.{NodeLoad}
use Rattle.rm_book.specs.Books.{BookRowsAreApart, AreLiving, is_of, book_row_taken, sizes_on, total_on}
use Rattle.rm_book.specs.Kept.{AreUsed, Holds, IsSum, sum_without}
use Rattle.rm_book.proofs.Changes.{runs}
use Rattle.rm_book.proofs.Kept.{without}
use Rattle.rm_book.proofs.Rows.{share, sum-sizes_on-cons}
use Rattle.rm_book.proofs.Splits.{filter_none}

abbrev Loads : Type 0
Loads = List (List ℕ × NodeLoad)

-- the sum with one row and without it
pub sum_without_row : (part : Resource → ℕ) (node : List ℕ) (id : ContainerId) (rows : List BookRow) (gone : BookRow) → BookRowsAreApart rows → find (is_of id) rows ≡ Some gone
    → sum_by part (sizes_on node rows) ≡ share part node gone + sum_by part (sizes_on node (without id rows))
sum_without_row part node id [] gone apart at = cc
sum_without_row part node id (row ∷ rows) gone apart at = by (is_of id row) refl (sum_without_row part node id rows gone apart.1)
  where
    whole : sum_by part (sizes_on node (row ∷ rows)) ≡ share part node row + sum_by part (sizes_on node rows)
    whole = sum-sizes_on-cons part node row rows _ refl

    by : (b : Bool) → is_of id row ≡ b → (find (is_of id) rows ≡ Some gone → sum_by part (sizes_on node rows) ≡ share part node gone + sum_by part (sizes_on node (without id rows)))
        → sum_by part (sizes_on node (row ∷ rows)) ≡ share part node gone + sum_by part (sizes_on node (without id (row ∷ rows)))
    by true e rest =
        let is : row ≡ gone = let at' = rw e at at in cc in
        let none : list_any (is_of id) rows ≡ false = rw (same_container row.id id e) at apart.0 in
        rw (e, filter_none (is_of id) rows none, ← is) whole
    by false e rest =
        let at' = rw e at at in
        rw e (omega (arith, whole, rest at', sum-sizes_on-cons part node row (without id rows) _ refl))

-- so much stands on a row's node
pub holds_row : (loads : Loads) (rows : List BookRow) (id : ContainerId) (row : BookRow) → AreUsed loads rows → BookRowsAreApart rows → find (is_of id) rows ≡ Some row
    → IfSome (lookup (bytes_eq row.node) loads) (λ load. Holds load.used row.size)
holds_row loads rows id row used apart at = by (lookup (bytes_eq row.node) loads) refl
  where
    own : (part : Resource → ℕ) → sum_by part (sizes_on row.node rows) ≡ part row.size + sum_by part (sizes_on row.node (without id rows))
    own part = rw (text_itself row.node) at (sum_without_row part row.node id rows row apart at)

    by : (o : Option NodeLoad) → lookup (bytes_eq row.node) loads ≡ o → IfSome (lookup (bytes_eq row.node) loads) (λ load. Holds load.used row.size)
    by None e = rw e tt
    by (Some load) e =
        let u : IsSum load.used (total_on row.node rows) = rw e at (used row.node) in
        rw e (omega (arith, u.0, own (λ size. size.memory_mb)), omega (arith, u.1, own (λ size. size.vcores)))

-- and less when it went
pub used_lowered : (loads new : Loads) (rows : List BookRow) (id : ContainerId) (row : BookRow) → AreUsed loads rows → BookRowsAreApart rows → find (is_of id) rows ≡ Some row
    → ((other : List ℕ) → lookup (bytes_eq other) new ≡ option_map (λ load. cond (bytes_eq row.node other) (record load { used = sum_without load.used row.size }) load) (lookup (bytes_eq other) loads))
    → AreUsed new (without id rows)
used_lowered loads new rows id row used apart at set other = by (lookup (bytes_eq other) loads) refl
  where
    parts : (part : Resource → ℕ) → sum_by part (sizes_on other rows) ≡ share part other row + sum_by part (sizes_on other (without id rows))
    parts part = sum_without_row part other id rows row apart at

    lowered : (load : NodeLoad) (b : Bool) → bytes_eq row.node other ≡ b → IsSum load.used (total_on other rows)
        → IsSum (cond b (record load { used = sum_without load.used row.size }) load).used (total_on other (without id rows))
    lowered load true e u =
        let m = rw e at (parts (λ size. size.memory_mb)) in
        let c = rw e at (parts (λ size. size.vcores)) in
        (omega (arith, u.0, m), omega (arith, u.1, c))
    lowered load false e u =
        let m = rw e at (parts (λ size. size.memory_mb)) in
        let c = rw e at (parts (λ size. size.vcores)) in
        (omega (arith, u.0, m), omega (arith, u.1, c))

    by : (o : Option NodeLoad) → lookup (bytes_eq other) loads ≡ o → IfSome (lookup (bytes_eq other) new) (λ load. IsSum load.used (total_on other (without id rows)))
    by None e = let s = rw e at (set other) in rw s tt
    by (Some load) e =
        let s = rw e at (set other) in
        let u : IsSum load.used (total_on other rows) = rw e at (used other) in
        rw s (lowered load (bytes_eq row.node other) refl u)

-- the rows that are left when more leave
abbrev pub staying : List ContainerId → List BookRow → List BookRow
staying ids rows = filter (λ row. not (list_any (λ id. is_container id row.id) ids)) rows

pub one_left : (ids : List ContainerId) (id : ContainerId) (rows : List BookRow) → without id (staying ids rows) ≡ staying (ids ++ id ∷ []) rows
one_left ids id [] = refl
one_left ids id (row ∷ rows) =
    by (list_any (λ one. is_container one row.id) ids) (is_container id row.id) refl refl (list_any-append (λ one. is_container one row.id) ids (id ∷ [])) (one_left ids id rows)
  where
    by : (a b : Bool) → list_any (λ one. is_container one row.id) ids ≡ a → is_container id row.id ≡ b
        → list_any (λ one. is_container one row.id) (ids ++ id ∷ []) ≡ (list_any (λ one. is_container one row.id) ids || (is_container id row.id || false))
        → without id (staying ids rows) ≡ staying (ids ++ id ∷ []) rows
        → without id (staying ids (row ∷ rows)) ≡ staying (ids ++ id ∷ []) (row ∷ rows)
    by true b e f all rest = let all' = rw e at all in rw (e, all') rest
    by false true e f all rest = let all' = rw (e, f) at all in rw (e, all', container_back row.id id, f) rest
    by false false e f all rest = let all' = rw (e, f) at all in rw (e, all', container_back row.id id, f) (ap (λ more. row ∷ more) rest)

pub none_left : (rows : List BookRow) → rows ≡ staying [] rows
none_left [] = refl
none_left (row ∷ rows) = ap (λ more. row ∷ more) (none_left rows)

-- where a container has no row, all are left
pub all_left : (id : ContainerId) (rows : List BookRow) → find (is_of id) rows ≡ None → without id rows ≡ rows
all_left id rows none = filter_none (is_of id) rows (sym (is_some-find (is_of id) rows) ∙ ap is_some none)

pub left_more : (ids : List ContainerId) (i : ℕ) (d : ContainerId) (rows now : List BookRow) → i < length ids → now ≡ staying (take i ids) rows
    → without (get_or ids i d) now ≡ staying (take (i + 1) ids) rows
left_more ids i d rows now within so_far =
    ap (without (get_or ids i d)) so_far ∙ one_left (take i ids) (get_or ids i d) rows ∙ ap (λ l. staying l rows) (sym (take_more ids i d within))

-- what runs when one more runs
abbrev pub stepped : ContainerId → List BookRow → List BookRow
stepped id rows = map (λ row. cond (is_of id row) (record row { state = next_container_state row.state Run }) row) rows

pub one_ran : (list : List Held) (held : Held) (rows : List BookRow) → AreLiving rows → stepped held.id (map (book_row_taken list) rows) ≡ map (book_row_taken (list ++ held ∷ [])) rows
one_ran list held [] living = refl
one_ran list held (row ∷ rows) living =
    by (is_held list row.id) (is_container held.id row.id) refl refl (list_any-append (λ one. is_container one.id row.id) list (held ∷ [])) (one_ran list held rows living.1)
  where
    back : is_container row.id held.id ≡ is_container held.id row.id
    back = container_back row.id held.id

    by : (a b : Bool) → is_held list row.id ≡ a → is_container held.id row.id ≡ b → is_held (list ++ held ∷ []) row.id ≡ (is_held list row.id || (is_container held.id row.id || false))
        → stepped held.id (map (book_row_taken list) rows) ≡ map (book_row_taken (list ++ held ∷ [])) rows
        → stepped held.id (map (book_row_taken list) (row ∷ rows)) ≡ map (book_row_taken (list ++ held ∷ [])) (row ∷ rows)
    by true true e f all rest = let all' = rw e at all in rw (e, all', back, f) (ap (λ more. record row { state = Running } ∷ more) rest)
    by true false e f all rest = let all' = rw e at all in rw (e, all', back, f) (ap (λ more. record row { state = Running } ∷ more) rest)
    by false true e f all rest = let all' = rw (e, f) at all in rw (e, all', back, f, runs row.state living.0) (ap (λ more. record row { state = Running } ∷ more) rest)
    by false false e f all rest = let all' = rw (e, f) at all in rw (e, all', back, f) (ap (λ more. row ∷ more) rest)

pub none_ran : (rows : List BookRow) → rows ≡ map (book_row_taken []) rows
none_ran [] = refl
none_ran (row ∷ rows) = ap (λ more. row ∷ more) (none_ran rows)

pub ran_more : (list : List Held) (i : ℕ) (d : Held) (rows now : List BookRow) → i < length list → AreLiving rows → now ≡ map (book_row_taken (take i list)) rows
    → stepped (get_or list i d).id now ≡ map (book_row_taken (take (i + 1) list)) rows
ran_more list i d rows now within living so_far =
    ap (stepped (get_or list i d).id) so_far ∙ one_ran (take i list) (get_or list i d) rows living ∙ ap (λ l. map (book_row_taken l) rows) (sym (take_more list i d within))
