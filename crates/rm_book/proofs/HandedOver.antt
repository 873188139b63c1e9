-- A container that is handed over is told of where nobody was told of it, and stays as it is where somebody was.
use Rattle.rm_book.proofs.Common.{◌≡◌, Bool, true, false, ◌&&◌, List, [], ◌∷◌, Option, None, Some, IfSome, find, map, refl, sym, ap, ◌∙◌, list_any, or_parts, BookRow, ContainerState, Granted, Acquired, Running, Completed, ContainerId, same_container, is_granted}
use Rattle.rm_book.specs.Books.{BookRowsAreApart, handed_over_row, is_of}
use Rattle.rm_book.specs.Granted.{is_granted_row, may_be_told}
use Rattle.rm_book.proofs.BookSteps.{in_state}

granted_may : (s : ContainerState) → is_granted s ≡ true → may_be_told s ≡ true
granted_may Granted e = refl
granted_may Acquired e = refl
granted_may Running e = cc
granted_may Completed e = cc

-- somebody may be told of what nobody was told of
pub new_may : (o : Option BookRow) → is_granted_row o ≡ true → IfSome o (λ row. may_be_told row.state ≡ true)
new_may None e = tt
new_may (Some row) e = granted_may row.state e

module _ (id : ContainerId) where
  abbrev handed : List BookRow → List BookRow
  handed rows = map (handed_over_row id) rows

  -- rows of other containers
  others_stay : (rows : List BookRow) → list_any (is_of id) rows ≡ false → handed rows ≡ rows
  others_stay [] none = refl
  others_stay (row ∷ rows) none =
      let parts = or_parts (is_of id row) (list_any (is_of id) rows) none in
      rw parts.0 (ap (λ more. row ∷ more) (others_stay rows parts.1))

  others_in : (rows : List BookRow) → list_any (is_of id) rows ≡ false → in_state id Acquired rows ≡ rows
  others_in [] none = refl
  others_in (row ∷ rows) none =
      let parts = or_parts (is_of id row) (list_any (is_of id) rows) none in
      rw parts.0 (ap (λ more. row ∷ more) (others_in rows parts.1))

  none_behind : (row : BookRow) (rows : List BookRow) → is_of id row ≡ true → list_any (is_of row.id) rows ≡ false → list_any (is_of id) rows ≡ false
  none_behind row rows e none = rw (same_container row.id id e) at none

  -- it was not told of
  pub new_handed : (rows : List BookRow) → BookRowsAreApart rows → is_granted_row (find (is_of id) rows) ≡ true → in_state id Acquired rows ≡ handed rows
  new_handed [] apart new = cc
  new_handed (row ∷ rows) apart new = by (is_of id row) refl (new_handed rows apart.1)
    where
      by : (b : Bool) → is_of id row ≡ b → (is_granted_row (find (is_of id) rows) ≡ true → in_state id Acquired rows ≡ handed rows) → in_state id Acquired (row ∷ rows) ≡ handed (row ∷ rows)
      by true e rest =
          let granted : is_granted row.state ≡ true = rw e at new in
          let none = none_behind row rows e apart.0 in
          rw (e, granted) (ap (λ more. record row { state = Acquired } ∷ more) (others_in rows none ∙ sym (others_stay rows none)))
      by false e rest = rw e (ap (λ more. row ∷ more) (rest (rw e at new)))

  -- somebody was told of it, or it isn't there
  pub old_handed : (rows : List BookRow) → BookRowsAreApart rows → is_granted_row (find (is_of id) rows) ≡ false → rows ≡ handed rows
  old_handed [] apart old = refl
  old_handed (row ∷ rows) apart old = by (is_of id row) refl (old_handed rows apart.1)
    where
      by : (b : Bool) → is_of id row ≡ b → (is_granted_row (find (is_of id) rows) ≡ false → rows ≡ handed rows) → row ∷ rows ≡ handed (row ∷ rows)
      by true e rest =
          let granted : is_granted row.state ≡ false = rw e at old in
          rw (e, granted) (ap (λ more. row ∷ more) (sym (others_stay rows (none_behind row rows e apart.0))))
      by false e rest = rw e (ap (λ more. row ∷ more) (rest (rw e at old)))
