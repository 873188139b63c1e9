-- Where the containers of the tables and of the judge change alike, they are the same again.
use Rattle.std.proofs.Common.{◌≡◌, ℕ, List, [], ◌∷◌, Bool, true, false, not, ◌&&◌, map, refl, sym, ◌∙◌, ap}
use Rattle.std.specs.Prelude.{if◌then◌else◌}
use Rattle.std.specs.Str.{bytes_eq}
use Rattle.rm_types.specs.declared.containers.BookRow.{BookRow}
use Rattle.rm_types.specs.declared.containers.ContainerState.{ContainerState}
use Rattle.rm_types.specs.declared.containers.ContainerState.TheVariants.{Acquired, Running}
use Rattle.rm_types.specs.declared.ids.ContainerId.{ContainerId}
use Rattle.rm_book.specs.Books.{BookRowsAreApart, BookOf}
use Rattle.rm_model.specs.State.{Row}
use Rattle.rm_types.specs.Containers.{is_granted}
use Rattle.rm_model.specs.Facts.{has_container}
use Rattle.rm_model.specs.NodeReplies.{row_beaten}
use Rattle.rm_refinement.specs.Agreement.{PlainRow, SameRows, bare_row, plain_row}
use Rattle.rm_tracker.specs.Answers.{beaten_book, brought_all, is_row_on, is_untold_row}
use Rattle.rm_tracker.proofs.Rows.{all_at_once, apart_brought, brought_row}
use Rattle.rm_book.proofs.Lists.{map_view}

-- a row of the tables after a beat of its node
abbrev pub beaten_at_once : List ℕ → List ContainerId → List ContainerId → BookRow → BookRow
beaten_at_once name running launched row = brought_row (is_row_on name) Running running (brought_row (is_untold_row name) Acquired launched row)

pub book_at_once : (name : List ℕ) (running launched : List ContainerId) (book : BookOf) → BookRowsAreApart book.rows
    → beaten_book name running launched book ≡ record book { rows = map (beaten_at_once name running launched) book.rows }
book_at_once name running launched book apart =
    ap (λ (b : BookOf). brought_all (is_row_on name) Running b running) (all_at_once (is_untold_row name) Acquired launched book apart)
    ∙ all_at_once (is_row_on name) Running running (record book { rows = map (brought_row (is_untold_row name) Acquired launched) book.rows }) (apart_brought (is_untold_row name) Acquired launched book.rows apart)
    ∙ ap (λ (rows : List BookRow). record book { rows = rows }) (twice book.rows)
  where
    twice : (xs : List BookRow) → map (brought_row (is_row_on name) Running running) (map (brought_row (is_untold_row name) Acquired launched) xs) ≡ map (beaten_at_once name running launched) xs
    twice [] = refl
    twice (x ∷ xs) = ap (λ (l : List BookRow). beaten_at_once name running launched x ∷ l) (twice xs)

-- the state of a container after a beat, as the judge has it
abbrev state_beaten : List ℕ → List ContainerId → List ContainerId → PlainRow → ContainerState
state_beaten name running launched row =
    if not (bytes_eq row.node name) then row.state else
    (if has_container running row.id then Running else
    (if has_container launched row.id && is_granted row.state then Acquired else row.state))

states_alike : (on run launch granted : Bool) (state : ContainerState)
    → (if run && on then Running else (if launch && (on && granted) then Acquired else state)) ≡ (if not on then state else (if run then Running else (if launch && granted then Acquired else state)))
states_alike true true launch granted state = refl
states_alike true false launch granted state = refl
states_alike false true true granted state = refl
states_alike false true false granted state = refl
states_alike false false true granted state = refl
states_alike false false false granted state = refl

told_so : (on run acquired : Bool) (row : Row)
    → plain_row (if not on then row else (if run then record row { state = Running } else (if acquired then record row { state = Acquired } else row)))
    ≡ record (plain_row row) { state = if not on then row.state else (if run then Running else (if acquired then Acquired else row.state)) }
told_so false run acquired row = refl
told_so true true acquired row = refl
told_so true false true row = refl
told_so true false false row = refl

pub rows_beaten_same : (name : List ℕ) (running launched : List ContainerId) (rows : List BookRow) (book : List Row) → SameRows rows book
    → SameRows (map (beaten_at_once name running launched) rows) (map (row_beaten name running launched) book)
rows_beaten_same name running launched rows book same =
    map_view bare_row (beaten_at_once name running launched) change in_tables rows ∙ ap (map change) same ∙ sym (map_view plain_row (row_beaten name running launched) change told book)
  where
    change : PlainRow → PlainRow
    change row = record row { state = state_beaten name running launched row }

    in_tables : (row : BookRow) → bare_row (beaten_at_once name running launched row) ≡ record (bare_row row) { state = state_beaten name running launched (bare_row row) }
    in_tables row =
        ap (λ (state : ContainerState). record (bare_row row) { state = state })
        (states_alike (bytes_eq row.node name) (has_container running row.id) (has_container launched row.id) (is_granted row.state) row.state)

    told : (row : Row) → plain_row (row_beaten name running launched row) ≡ record (plain_row row) { state = state_beaten name running launched (plain_row row) }
    told row = told_so (bytes_eq row.node name) (has_container running row.id) (has_container launched row.id && is_granted row.state) row
