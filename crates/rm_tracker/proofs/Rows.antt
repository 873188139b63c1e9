-- Many changes of the states of containers, one by one, are all at once.
use Rattle.std.proofs.Common.{◌≡◌, ℕ, List, [], ◌∷◌, Bool, true, false, ◌&&◌, ◌||◌, Option, None, Some, IfSome, map, refl, ◌∙◌, ap, subst}
use Rattle.std.specs.Prelude.{find, if◌then◌else◌}
use Rattle.std.specs.List.{list_any}
use Rattle.std.specs.Str.{bytes_eq}
use Rattle.rm_types.specs.declared.containers.BookRow.{BookRow}
use Rattle.rm_types.specs.declared.containers.ContainerState.{ContainerState}
use Rattle.rm_types.specs.declared.containers.ContainerState.TheVariants.{Granted, Acquired, Running, Completed}
use Rattle.rm_types.specs.declared.ids.ContainerId.{ContainerId}
use Rattle.rm_types.specs.Records.{is_some_and}
use Rattle.rm_types.proofs.IdLemmas.{container_back, same_container}
use Rattle.rm_book.specs.Books.{BookRowsAreApart, BookOf, is_of, book_row, with_state}
use Rattle.rm_book.specs.Granted.{may_be_told}
use Rattle.rm_types.specs.Containers.{is_granted}
use Rattle.rm_model.specs.Facts.{has_container}
use Rattle.rm_tracker.specs.Answers.{brought_all, brought_one, is_untold_row}

-- the row of a container in another state, where it is one of these and passes
abbrev pub brought_row : (BookRow → Bool) → ContainerState → List ContainerId → BookRow → BookRow
brought_row passes state ids row = record row { state = if has_container ids row.id && passes row then state else row.state }

abbrev brought_if : (BookRow → Bool) → ContainerState → ContainerId → BookRow → BookRow
brought_if passes state id row = record row { state = if is_of id row && passes row then state else row.state }

-- nothing is to be done to rows of other containers
others_stay : (state : ContainerState) (id : ContainerId) (rows : List BookRow) → list_any (is_of id) rows ≡ false → map (λ row. if is_of id row then record row { state = state } else row) rows ≡ rows
others_stay state id [] none = refl
others_stay state id (row ∷ rows) none = by (is_of id row) refl (others_stay state id rows)
  where
    by : (b : Bool) → is_of id row ≡ b → (list_any (is_of id) rows ≡ false → map (λ one. if is_of id one then record one { state = state } else one) rows ≡ rows)
        → map (λ one. if is_of id one then record one { state = state } else one) (row ∷ rows) ≡ row ∷ rows
    by true e rest = let h : true ≡ false = rw e at none in cc
    by false e rest = rw e (ap (λ l. row ∷ l) (rest (rw e at none)))

others_keep : (passes : BookRow → Bool) (state : ContainerState) (id : ContainerId) (rows : List BookRow) → list_any (is_of id) rows ≡ false → map (brought_if passes state id) rows ≡ rows
others_keep passes state id [] none = refl
others_keep passes state id (row ∷ rows) none = by (is_of id row) refl (others_keep passes state id rows)
  where
    by : (b : Bool) → is_of id row ≡ b → (list_any (is_of id) rows ≡ false → map (brought_if passes state id) rows ≡ rows) → map (brought_if passes state id) (row ∷ rows) ≡ row ∷ rows
    by true e rest = let h : true ≡ false = rw e at none in cc
    by false e rest = rw e (ap (λ l. row ∷ l) (rest (rw e at none)))

-- one container, found by its first row, is brought to another state
one_row : (passes : BookRow → Bool) (state : ContainerState) (id : ContainerId) (rows : List BookRow) → BookRowsAreApart rows
    → (if is_some_and passes (find (is_of id) rows) then map (λ row. if is_of id row then record row { state = state } else row) rows else rows) ≡ map (brought_if passes state id) rows
one_row passes state id [] apart = refl
one_row passes state id (row ∷ rows) apart = by (is_of id row) (passes row) refl refl (one_row passes state id rows apart.1)
  where
    up : (b : Bool) (first : BookRow) (xs ys : List BookRow) → (if b then first ∷ xs else first ∷ ys) ≡ first ∷ (if b then xs else ys)
    up true first xs ys = refl
    up false first xs ys = refl

    by : (b p : Bool) → is_of id row ≡ b → passes row ≡ p
        → (if is_some_and passes (find (is_of id) rows) then map (λ one. if is_of id one then record one { state = state } else one) rows else rows) ≡ map (brought_if passes state id) rows
        → (if is_some_and passes (find (is_of id) (row ∷ rows)) then map (λ one. if is_of id one then record one { state = state } else one) (row ∷ rows) else row ∷ rows)
        ≡ map (brought_if passes state id) (row ∷ rows)
    by true true e f rest =
        let none : list_any (is_of id) rows ≡ false = subst (λ (one : ContainerId). list_any (is_of one) rows ≡ false) (same_container row.id id e) apart.0 in
        rw (e, f, others_stay state id rows none, others_keep passes state id rows none) refl
    by true false e f rest =
        let none : list_any (is_of id) rows ≡ false = subst (λ (one : ContainerId). list_any (is_of one) rows ≡ false) (same_container row.id id e) apart.0 in
        rw (e, f, others_keep passes state id rows none) refl
    by false p e f rest = rw e (up _ row _ rows ∙ ap (λ l. row ∷ l) rest)

one_book : (passes : BookRow → Bool) (state : ContainerState) (book : BookOf) (id : ContainerId) → BookRowsAreApart book.rows
    → brought_one passes state book id ≡ record book { rows = map (brought_if passes state id) book.rows }
one_book passes state book id apart = into (is_some_and passes (book_row book id)) ∙ ap (λ (rows : List BookRow). record book { rows = rows }) (one_row passes state id book.rows apart)
  where
    into : (b : Bool) → (if b then with_state book id state else book)
        ≡ record book { rows = if b then map (λ row. if is_of id row then record row { state = state } else row) book.rows else book.rows }
    into true = refl
    into false = refl

still_apart : (passes : BookRow → Bool) (state : ContainerState) (id : ContainerId) (rows : List BookRow) → BookRowsAreApart rows → BookRowsAreApart (map (brought_if passes state id) rows)
still_apart passes state id [] apart = tt
still_apart passes state id (row ∷ rows) apart = (same_ids rows ∙ apart.0, still_apart passes state id rows apart.1)
  where
    same_ids : (xs : List BookRow) → list_any (is_of row.id) (map (brought_if passes state id) xs) ≡ list_any (is_of row.id) xs
    same_ids [] = refl
    same_ids (x ∷ xs) = ap (λ b. is_of row.id x || b) (same_ids xs)

-- what was brought to a state, and is again, is in it
again : (a b p q : Bool) (state before : ContainerState) → (a && p ≡ false → q ≡ p)
    → (if b && q then state else (if a && p then state else before)) ≡ (if (a || b) && p then state else before)
again true true true true state before e = refl
again true true true false state before e = refl
again true false true q state before e = refl
again true false false q state before e = refl
again true true false true state before e = let h : true ≡ false = e refl in cc
again true true false false state before e = refl
again false true true true state before e = refl
again false true true false state before e = let h : false ≡ true = e refl in cc
again false true false true state before e = let h : true ≡ false = e refl in cc
again false true false false state before e = refl
again false false p q state before e = refl

row_again : (passes : BookRow → Bool) (state : ContainerState) (id : ContainerId) (ids : List ContainerId) (row : BookRow)
    → brought_row passes state ids (brought_if passes state id row) ≡ brought_row passes state (id ∷ ids) row
row_again passes state id ids row =
    ap (λ (s : ContainerState). record row { state = s })
    (again (is_of id row) (has_container ids row.id) (passes row) (passes (brought_if passes state id row)) state row.state (λ e. rw e refl)
    ∙ ap (λ (b : Bool). if (b || has_container ids row.id) && passes row then state else row.state) (container_back row.id id))

none_brought : (passes : BookRow → Bool) (state : ContainerState) (rows : List BookRow) → rows ≡ map (brought_row passes state []) rows
none_brought passes state [] = refl
none_brought passes state (row ∷ rows) = ap (λ l. row ∷ l) (none_brought passes state rows)

-- containers that are brought to a state one by one are brought there all at once
pub all_at_once : (passes : BookRow → Bool) (state : ContainerState) (ids : List ContainerId) (book : BookOf) → BookRowsAreApart book.rows
    → brought_all passes state book ids ≡ record book { rows = map (brought_row passes state ids) book.rows }
all_at_once passes state [] book apart = ap (λ (rows : List BookRow). record book { rows = rows }) (none_brought passes state book.rows)
all_at_once passes state (id ∷ ids) book apart =
    ap (λ (b : BookOf). brought_all passes state b ids) (one_book passes state book id apart)
    ∙ all_at_once passes state ids (record book { rows = map (brought_if passes state id) book.rows }) (still_apart passes state id book.rows apart)
    ∙ ap (λ (rows : List BookRow). record book { rows = rows }) (rows_again book.rows)
  where
    rows_again : (xs : List BookRow) → map (brought_row passes state ids) (map (brought_if passes state id) xs) ≡ map (brought_row passes state (id ∷ ids)) xs
    rows_again [] = refl
    rows_again (x ∷ xs) = rw (row_again passes state id ids x) (ap (λ (l : List BookRow). brought_row passes state (id ∷ ids) x ∷ l) (rows_again xs))

pub apart_brought : (passes : BookRow → Bool) (state : ContainerState) (ids : List ContainerId) (rows : List BookRow) → BookRowsAreApart rows → BookRowsAreApart (map (brought_row passes state ids) rows)
apart_brought passes state ids [] apart = tt
apart_brought passes state ids (row ∷ rows) apart = (same_ids rows ∙ apart.0, apart_brought passes state ids rows apart.1)
  where
    same_ids : (xs : List BookRow) → list_any (is_of row.id) (map (brought_row passes state ids) xs) ≡ list_any (is_of row.id) xs
    same_ids [] = refl
    same_ids (x ∷ xs) = ap (λ b. is_of row.id x || b) (same_ids xs)

-- somebody may be told of a container that nobody was told of yet
pub untold_may : (name : List ℕ) (o : Option BookRow) → is_some_and (is_untold_row name) o ≡ true → IfSome o (λ row. may_be_told row.state ≡ true)
untold_may name None e = tt
untold_may name (Some row) e = by (bytes_eq row.node name) row.state e
  where
    by : (b : Bool) (s : ContainerState) → (b && is_granted s) ≡ true → may_be_told s ≡ true
    by true Granted e = refl
    by true Acquired e = cc
    by true Running e = cc
    by true Completed e = cc
    by false s e = cc
