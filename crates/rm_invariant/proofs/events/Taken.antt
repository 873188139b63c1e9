-- Of a node's report the tables take what the judge takes.
use Rattle.rm_invariant.proofs.Common.{◌≡◌, ℕ, List, [], ◌∷◌, ◌++◌, Bool, true, false, not, ◌&&◌, Option, None, Some, find, fold, refl, sym, ◌∙◌, ap, subst, if◌then◌else◌, bytes_eq, false≢true, BookRow, Held, ContainerId, is_container, is_some_and, capability_of, is_of, as_booked, as_counted, as_reported, taken_of, is_held, attempt_was_first, lives_on, Row, Scene, NodeRow, AppRow, Tables, counted_in, tables_may_take, taken_in, was_first, tables_with_counted, row_of, PlainNode, PlainRow, SameRows, bare_row, bare_node, plain_row, plain_node}
use Rattle.std.proofs.Common.{nat_lt, is_some}
use Rattle.std.specs.Prelude.{option_map}
use Rattle.rm_book.specs.Books.{BookRowsAreApart}
use Rattle.rm_model.specs.Absorbing.{may_take as may_take_told, with_counted as with_told}
use Rattle.rm_model.specs.Attempts.{is_wanted}
use Rattle.rm_types.specs.Records.{Records}
use Rattle.rm_types.specs.declared.settings.Settings.{Settings}
use Rattle.rm_model.specs.Containers.{is_pending, lives_elsewhere, judged_row as row_told}
use Rattle.rm_model.specs.State.{NodeState}
use Rattle.rm_tables.specs.Absorbing.{booked_at, is_elsewhere, is_pending_in, reported_in}
use Rattle.rm_tables.specs.Leaving.{is_wanted_in}
use Rattle.rm_refinement.proofs.Recorded.{wanted_same}
use Rattle.rm_refinement.proofs.Rows.{any_alike, first_alone, found_alike}
use Rattle.rm_invariant.specs.events.Here.{FirstsKnown, RowsKnow}

module _ (settings : Settings) (m : Scene) (t : Tables) (pending : (id : ContainerId) → is_pending_in t id ≡ is_pending settings m id) (name : List ℕ) (row : NodeRow) (node : NodeState) (recorded : m.records ≡ t.tree) (epoch : m.life.epoch ≡ t.epoch) (same : SameRows t.book.rows m.life.book) (apart : BookRowsAreApart t.book.rows)
    (know : RowsKnow t) (firsts : FirstsKnown m t.rows) (named : node.name ≡ name) (alike : bare_node t.book name row ≡ plain_node node) where
  -- WHERE A CONTAINER STANDS

  on_same : (id : ContainerId) → lives_on m.life.book name id ≡ is_some_and (λ one. bytes_eq one.node name) (find (is_of id) t.book.rows)
  on_same id =
      sym (any_alike (λ (one : PlainRow). is_container one.id id && bytes_eq one.node name) t.book.rows m.life.book same)
      ∙ sym (first_alone (λ (one : BookRow). bytes_eq one.node name) id t.book.rows apart)

  elsewhere_same : (id : ContainerId) → is_elsewhere name (find (is_of id) t.book.rows) ≡ lives_elsewhere m.life.book node.name id
  elsewhere_same id =
      by (find (is_of id) t.book.rows)
      ∙ first_alone (λ (one : BookRow). not (bytes_eq one.node name)) id t.book.rows apart
      ∙ any_alike (λ (one : PlainRow). is_container one.id id && not (bytes_eq one.node name)) t.book.rows m.life.book same
      ∙ ap (λ (n : List ℕ). lives_elsewhere m.life.book n id) (sym named)
    where
      by : (o : Option BookRow) → is_elsewhere name o ≡ is_some_and (λ one. not (bytes_eq one.node name)) o
      by None = refl
      by (Some one) = refl

  -- as it stands in the book on this node
  booked_same : (held : Held) → booked_at name (find (is_of held.id) t.book.rows) ≡ as_booked m node held
  booked_same held = subst (λ (n : List ℕ). booked_at name (find (is_of held.id) t.book.rows) ≡ booked n) (sym named) (by (find (is_of held.id) t.book.rows) (row_told m.life.book held.id) (found_alike held.id t.book.rows m.life.book same) refl)
    where
      seen : Option Row → Option Held
      seen r = option_map (λ one. record { id = one.id; size = one.size }) r

      held_at : Bool → Option Row → Option Held
      held_at b r = if b then seen r else None

      booked_if : Bool → BookRow → Option Held
      booked_if true one = Some (record { id = one.id; size = one.size })
      booked_if false one = None

      booked : List ℕ → Option Held
      booked n = held_at (lives_on m.life.book n held.id) (row_told m.life.book held.id)

      stands : (b : Bool) (one : BookRow) (r : Row) → bare_row one ≡ plain_row r → booked_if b one ≡ held_at b (Some r)
      stands true one r is = ap (λ (x : PlainRow). Some (record { id = x.id; size = x.size })) is
      stands false one r is = refl

      is_booked : (one : BookRow) (b : Bool) → bytes_eq one.node name ≡ b → booked_at name (Some one) ≡ booked_if b one
      is_booked one true e = rw e refl
      is_booked one false e = rw e refl

      off : (b : Bool) → None ≡ held_at b None
      off true = refl
      off false = refl

      by : (o : Option BookRow) (r : Option Row) → option_map bare_row o ≡ option_map plain_row r → find (is_of held.id) t.book.rows ≡ o
          → booked_at name o ≡ held_at (lives_on m.life.book name held.id) r
      by None None e is = off (lives_on m.life.book name held.id)
      by None (Some r) e is = cc
      by (Some one) None e is = cc
      by (Some one) (Some r) e is =
          let on : lives_on m.life.book name held.id ≡ bytes_eq one.node name = on_same held.id ∙ rw is refl in
          let alike_row : bare_row one ≡ plain_row r = cc in
          rw on (is_booked one (bytes_eq one.node name) refl ∙ stands (bytes_eq one.node name) one r alike_row)

  -- WHAT COUNTS, AND WHAT IS TAKEN

  running : row.running ≡ node.last.running
  running = ap (λ (x : PlainNode). x.last.running) alike

  capability : row.capability ≡ node.last.capability
  capability = ap (λ (x : PlainNode). x.last.capability) alike

  offered : capability_of t.book name ≡ node.capability
  offered = ap (λ (x : PlainNode). x.capability) alike

  wants_same : (held : Held) → is_wanted_in t.tree.apps held.id ≡ is_wanted m held.id
  wants_same held = ap (λ (r : Records). is_wanted_in r.apps held.id) (sym recorded) ∙ wanted_same m held.id

  -- of one that is wanted the tables and the judge agree whether it was kept when the life began
  reported_same : (held : Held) → is_wanted m held.id ≡ true → reported_in t held ≡ as_reported m held
  reported_same held current = by (row_of t.rows held.id.attempt.app) refl
    where
      by : (o : Option AppRow) → row_of t.rows held.id.attempt.app ≡ o → reported_in t held ≡ as_reported m held
      by None e =
          let none = know held.id.attempt.app e in
          absurd (let x : false ≡ true = rw none at (wants_same held ∙ current) in false≢true x)
      by (Some one) e =
          let first = firsts held.id.attempt one e in
          rw (e, epoch, first) refl

  -- one that counts may be taken by both
  may_same : (taken : List Held) (held : Held) → tables_may_take t name row.capability taken held ≡ may_take_told settings m node taken held
  may_same taken held = rw (pending held.id, wants_same held, elsewhere_same held.id, capability) refl

  both_take : (taken : List Held) (o : Option Held) → tables_with_counted t name row.capability taken o ≡ with_told settings m node taken o
  both_take taken None = refl
  both_take taken (Some held) = rw (may_same taken held) refl

  -- one that isn't wanted is taken by neither
  not_in_tables : (taken : List Held) (held : Held) → is_wanted m held.id ≡ false → (b : Bool) → tables_with_counted t name row.capability taken (if b then Some held else None) ≡ taken
  not_in_tables taken held over false = refl
  not_in_tables taken held over true = let none = wants_same held ∙ over in rw none (by (not (is_pending_in t held.id)) (not (is_held taken held.id)))
    where
      by : (a b : Bool) → (if a && (b && false) then taken ++ held ∷ [] else taken) ≡ taken
      by true true = refl
      by true false = refl
      by false b = refl

  not_in_life : (taken : List Held) (held : Held) → is_wanted m held.id ≡ false → (b : Bool) → with_told settings m node taken (if b then Some held else None) ≡ taken
  not_in_life taken held over false = refl
  not_in_life taken held over true = rw over (by (not (is_pending settings m held.id)) (not (is_held taken held.id)))
    where
      by : (a b : Bool) → (if a && (b && false) then taken ++ held ∷ [] else taken) ≡ taken
      by true true = refl
      by true false = refl
      by false b = refl

  reported_taken : (taken : List Held) (held : Held) (b : Bool) → is_wanted m held.id ≡ b → tables_with_counted t name row.capability taken (reported_in t held) ≡ with_told settings m node taken (as_reported m held)
  reported_taken taken held true e = ap (tables_with_counted t name row.capability taken) (reported_same held e) ∙ both_take taken (as_reported m held)
  reported_taken taken held false e =
      not_in_tables taken held e (nat_lt held.id.epoch t.epoch && was_first held.id.attempt (row_of t.rows held.id.attempt.app))
      ∙ sym (not_in_life taken held e (nat_lt held.id.epoch m.life.epoch && attempt_was_first m held.id.attempt))

  one_taken : (taken : List Held) (held : Held) → tables_with_counted t name row.capability taken (counted_in t name held) ≡ with_told settings m node taken (as_counted m node held)
  one_taken taken held = rw offered (by (is_some node.capability))
    where
      by : (b : Bool) → tables_with_counted t name row.capability taken (if b then booked_at name (find (is_of held.id) t.book.rows) else reported_in t held) ≡ with_told settings m node taken (if b then as_booked m node held else as_reported m held)
      by true = ap (tables_with_counted t name row.capability taken) (booked_same held) ∙ both_take taken (as_booked m node held)
      by false = reported_taken taken held (is_wanted m held.id) refl

  all_taken : (report taken : List Held)
      → fold (λ taken held. tables_with_counted t name row.capability taken (counted_in t name held)) taken report ≡ fold (λ taken held. with_told settings m node taken (as_counted m node held)) taken report
  all_taken [] taken = refl
  all_taken (held ∷ report) taken =
      ap (λ (l : List Held). fold (λ taken held. tables_with_counted t name row.capability taken (counted_in t name held)) l report) (one_taken taken held)
      ∙ all_taken report (with_told settings m node taken (as_counted m node held))

  -- the same are taken of the whole report
  pub taken_same : taken_in t name row ≡ taken_of settings m node
  taken_same = all_taken row.running [] ∙ ap (λ (report : List Held). fold (λ taken held. with_told settings m node taken (as_counted m node held)) [] report) running
