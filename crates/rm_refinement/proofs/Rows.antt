-- The containers of the tables and of the judge are found alike.
use Rattle.std.proofs.Common.{◌≡◌, List, [], ◌∷◌, Bool, true, false, ◌&&◌, ◌||◌, Some, find, refl, sym, ◌∙◌, ap, subst}
use Rattle.std.specs.Prelude.{option_map}
use Rattle.std.specs.List.{list_any}
use Rattle.rm_types.specs.declared.containers.BookRow.{BookRow}
use Rattle.rm_types.specs.declared.ids.ContainerId.{ContainerId}
use Rattle.rm_types.specs.Ids.{is_container}
use Rattle.rm_types.specs.Records.{is_some_and}
use Rattle.rm_types.proofs.IdLemmas.{same_container}
use Rattle.rm_book.specs.Books.{BookRowsAreApart, is_of}
use Rattle.rm_book.proofs.Lists.{any_view}
use Rattle.rm_model.specs.Containers.{judged_row as row_told}
use Rattle.rm_model.specs.State.{Row}
use Rattle.rm_refinement.specs.Agreement.{PlainRow, SameRows, bare_row, plain_row}

-- the row of a container
pub found_alike : (id : ContainerId) (rows : List BookRow) (book : List Row) → SameRows rows book → option_map bare_row (find (is_of id) rows) ≡ option_map plain_row (row_told book id)
found_alike id [] [] same = refl
found_alike id [] (one ∷ book) same = cc
found_alike id (row ∷ rows) [] same = cc
found_alike id (row ∷ rows) (one ∷ book) same =
    let first : bare_row row ≡ plain_row one = cc in
    let more : SameRows rows book = cc in
    by first (is_container one.id id) refl (found_alike id rows book more)
  where
    by : bare_row row ≡ plain_row one → (b : Bool) → is_container one.id id ≡ b → option_map bare_row (find (is_of id) rows) ≡ option_map plain_row (row_told book id)
        → option_map bare_row (find (is_of id) (row ∷ rows)) ≡ option_map plain_row (row_told (one ∷ book) id)
    by first true e rest =
        let f : is_of id row ≡ true = ap (λ (x : PlainRow). is_container x.id id) first ∙ e in
        rw (e, f) (ap Some first)
    by first false e rest =
        let f : is_of id row ≡ false = ap (λ (x : PlainRow). is_container x.id id) first ∙ e in
        rw (e, f) rest

none_of : (p : BookRow → Bool) (id : ContainerId) (rows : List BookRow) → list_any (is_of id) rows ≡ false → list_any (λ row. is_of id row && p row) rows ≡ false
none_of p id [] none = refl
none_of p id (row ∷ rows) none = by (is_of id row) refl (none_of p id rows)
  where
    by : (b : Bool) → is_of id row ≡ b → (list_any (is_of id) rows ≡ false → list_any (λ one. is_of id one && p one) rows ≡ false) → list_any (λ one. is_of id one && p one) (row ∷ rows) ≡ false
    by true e rest = let h : true ≡ false = rw e at none in cc
    by false e rest = rw e (rest (rw e at none))

-- a container has one row at most, so that the first one found is all of it
pub first_alone : (p : BookRow → Bool) (id : ContainerId) (rows : List BookRow) → BookRowsAreApart rows → is_some_and p (find (is_of id) rows) ≡ list_any (λ row. is_of id row && p row) rows
first_alone p id [] apart = refl
first_alone p id (row ∷ rows) apart = by (is_of id row) refl (first_alone p id rows apart.1)
  where
    or_false : (b : Bool) → b ≡ (b || false)
    or_false true = refl
    or_false false = refl

    by : (b : Bool) → is_of id row ≡ b → is_some_and p (find (is_of id) rows) ≡ list_any (λ one. is_of id one && p one) rows
        → is_some_and p (find (is_of id) (row ∷ rows)) ≡ list_any (λ one. is_of id one && p one) (row ∷ rows)
    by true e rest =
        let own : row.id ≡ id = same_container row.id id e in
        let none : list_any (is_of id) rows ≡ false = subst (λ (one : ContainerId). list_any (is_of one) rows ≡ false) own apart.0 in
        rw (e, none_of p id rows none) (or_false (p row))
    by false e rest = rw e rest

-- a test of a container that looks at what the tables and the judge both have
pub any_alike : (q : PlainRow → Bool) (rows : List BookRow) (book : List Row) → SameRows rows book → list_any (λ row. q (bare_row row)) rows ≡ list_any (λ row. q (plain_row row)) book
any_alike q rows book same = any_view bare_row q rows ∙ ap (list_any q) same ∙ sym (any_view plain_row q book)
