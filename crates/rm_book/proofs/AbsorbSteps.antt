-- The rows of a book after a report of a node is absorbed.
use Rattle.rm_book.proofs.Common.{◌≡◌, ℕ, ◌+◌, Bool, true, false, not, ◌&&◌, List, [], ◌∷◌, ◌++◌, length, filter, map, refl, sym, ap, ◌∙◌, arith, list_any, sum_by, or_parts, map-append, filter-append, BookRow, Running, Held, ContainerId, Resource, is_container, total_of, Fits, container_itself, same_container}
use Rattle.std.proofs.Common.{◌≤◌, true≢false}
use Rattle.std.proofs.lemmas.Map.Views.{any-filter_same}
use Rattle.rm_types.proofs.TestLemmas.{text_itself}
use Rattle.rm_book.specs.declared.node_table.NodeLoad.{NodeLoad}
use Rattle.rm_book.specs.Books.{AreLiving, AreOnce, BookOf, entering, is_of, book_row_taken, sizes_on, taken_rows, total_on, with_capability, book_with_taken}
use Rattle.rm_book.specs.Kept.{AreFresh, AreUsed, ShowsBook, entered_rows, nodes_shown}
use Rattle.rm_book.proofs.Batch.{entered_sizes, entered_taken}
use Rattle.rm_book.proofs.BookSteps.{seen, used_same}
use Rattle.rm_book.proofs.LeavingSteps.{staying}
use Rattle.rm_book.proofs.Rows.{living_filter, living_joined, sum_joined}
use Rattle.rm_book.proofs.TakenRows.{fresh_of, living_taken, running_stay, sizes_stay, taken_lawful}

module _ (all : List BookRow) (ended : List ContainerId) where
  -- those that ended and have rows
  abbrev gone_of : List ContainerId
  gone_of = filter (λ id. list_any (is_of id) all) ended

  -- a row's container is among them where it ended, and no other is
  gone_where : (id : ContainerId) (b : Bool) → list_any (is_of id) all ≡ b → list_any (λ one. is_container one id) gone_of ≡ (b && list_any (λ one. is_container one id) ended)
  gone_where id b has =
      any-filter_same (λ one. is_container one id) (λ one. list_any (is_of one) all) b
      (λ one e. ap (λ (k : ContainerId). list_any (is_of k) all) (same_container one id e) ∙ has) ended

  stay_known : (rows : List BookRow) → ((id : ContainerId) → list_any (is_of id) all ≡ false → list_any (is_of id) rows ≡ false) → staying gone_of rows ≡ staying ended rows
  stay_known [] sub = refl
  stay_known (row ∷ rows) sub = by (list_any (is_of row.id) all) refl (stay_known rows (λ id none. (or_parts (is_of id row) (list_any (is_of id) rows) (sub id none)).1))
    where
      same : list_any (λ one. is_container one row.id) gone_of ≡ list_any (λ one. is_container one row.id) ended → staying gone_of rows ≡ staying ended rows
          → staying gone_of (row ∷ rows) ≡ staying ended (row ∷ rows)
      same e rest = pick (list_any (λ one. is_container one row.id) ended) refl
        where
          pick : (b : Bool) → list_any (λ one. is_container one row.id) ended ≡ b → staying gone_of (row ∷ rows) ≡ staying ended (row ∷ rows)
          pick true f = let g = e ∙ f in rw (f, g) rest
          pick false f = let g = e ∙ f in rw (f, g) (ap (λ more. row ∷ more) rest)

      by : (b : Bool) → list_any (is_of row.id) all ≡ b → staying gone_of rows ≡ staying ended rows → staying gone_of (row ∷ rows) ≡ staying ended (row ∷ rows)
      by true has rest = same (gone_where row.id true has) rest
      by false has rest = absurd (true≢false (sym (container_itself row.id) ∙ (or_parts (is_of row.id row) (list_any (is_of row.id) rows) (sub row.id has)).0))

  -- what enters stays
  stay_new : (node : List ℕ) (added : ℕ) (taken : List Held)
      → staying gone_of (entered_rows Running added node (filter (λ held. not (list_any (is_of held.id) all)) taken)) ≡ entered_rows Running added node (filter (λ held. not (list_any (is_of held.id) all)) taken)
  stay_new node added [] = refl
  stay_new node added (held ∷ taken) = by (list_any (is_of held.id) all) refl (λ n. stay_new node n taken)
    where
      by : (b : Bool) → list_any (is_of held.id) all ≡ b
          → ((n : ℕ) → staying gone_of (entered_rows Running n node (filter (λ held. not (list_any (is_of held.id) all)) taken)) ≡ entered_rows Running n node (filter (λ held. not (list_any (is_of held.id) all)) taken))
          → staying gone_of (entered_rows Running added node (filter (λ held. not (list_any (is_of held.id) all)) (held ∷ taken)))
          ≡ entered_rows Running added node (filter (λ held. not (list_any (is_of held.id) all)) (held ∷ taken))
      by true has rest = rw has (rest added)
      by false has rest =
          let out = gone_where held.id false has in
          rw (has, out) (ap (λ more. record { id = held.id; node = node; size = held.size; state = Running; told = added + 1 } ∷ more) (rest (added + 1)))

module _ {loads : List (List ℕ × NodeLoad)} {rows : List BookRow} {added : ℕ} (kept : ShowsBook loads rows added)
    (node : List ℕ) (capability : Resource) (taken : List Held) (ended : List ContainerId) where
  abbrev book : BookOf
  book = seen loads rows added

  abbrev after : BookOf
  after = book_with_taken book node capability taken ended

  abbrev list : List Held
  list = entering book taken

  abbrev new_rows : List BookRow
  new_rows = entered_rows Running added node list

  abbrev joined : List BookRow
  joined = rows ++ new_rows

  abbrev gone : List ContainerId
  gone = gone_of rows ended

  -- what is left of them
  abbrev pub rows_left : List BookRow
  rows_left = staying gone joined

  -- what is left, and what has entered
  left_rows : staying gone joined ≡ staying ended rows ++ new_rows
  left_rows =
      filter-append (λ row. not (list_any (λ id. is_container id row.id) gone)) rows new_rows
      ∙ ap (λ l. l ++ staying gone new_rows) (stay_known rows ended rows (λ id none. none)) ∙ ap (λ l. staying ended rows ++ l) (stay_new rows ended node added taken)

  -- what is left where these rows entered and then those went
  pub left_after : {in_rows left : List BookRow} {held : List Held} {ids : List ContainerId} → in_rows ≡ rows ++ entered_rows Running added node held → held ≡ list
      → left ≡ staying ids in_rows → ids ≡ gone → left ≡ rows_left
  left_after {in_rows} {left} {held} {ids} entered is_list is_left is_gone =
      is_left ∙ ap (λ (ids : List ContainerId). staying ids in_rows) is_gone ∙ ap (staying gone) (entered ∙ ap (λ (l : List Held). rows ++ entered_rows Running added node l) is_list)

  rows_after : map (book_row_taken taken) (staying gone joined) ≡ after.rows
  rows_after =
      ap (map (book_row_taken taken)) left_rows ∙ map-append (book_row_taken taken) (staying ended rows) new_rows
      ∙ ap (λ l. map (book_row_taken taken) (staying ended rows) ++ map (book_row_taken taken) l) (entered_taken added node list)
      ∙ ap (λ l. map (book_row_taken taken) (staying ended rows) ++ l) (running_stay taken added node list)

  pub fresh_entering : AreOnce taken → AreFresh rows list
  fresh_entering once = fresh_of rows rows taken (λ id none. none) once

  pub living_left : AreLiving rows_left
  living_left =
      living_filter (λ row. not (list_any (λ id. is_container id row.id) gone)) joined
      (living_joined rows new_rows kept.book.living (rw (entered_taken added node list) (living_taken added node list)))

  part_within : (part : Resource → ℕ) → sum_by part (map (λ held. held.size) list) ≤ sum_by part (sizes_on node after.rows)
  part_within part =
      let parts = sum_joined part node (map (book_row_taken taken) (staying ended rows)) (taken_rows added node list) in
      let own : sizes_on node (taken_rows added node list) ≡ map (λ held. held.size) list =
      ap (sizes_on node) (sym (entered_taken added node list)) ∙ entered_sizes Running added node node list (text_itself node) in
      let sums = ap (sum_by part) own in
      omega (arith, parts, sums)

  -- what enters fits what the node offers
  pub entering_fits : Fits (total_on node after.rows) capability → Fits (total_of (map (λ held. held.size) list)) capability
  entering_fits fits = (omega (arith, fits.0, part_within (λ size. size.memory_mb)), omega (arith, fits.1, part_within (λ size. size.vcores)))

  module _ {left ran : List BookRow} (is_left : left ≡ rows_left) (is_ran : ran ≡ map (book_row_taken taken) left) where
    pub ran_after : ran ≡ after.rows
    ran_after = is_ran ∙ ap (map (book_row_taken taken)) is_left ∙ rows_after

    pub absorbed_kept : {new : List (List ℕ × NodeLoad)} {count : ℕ} → count ≡ added + length list → nodes_shown new ≡ with_capability node capability (nodes_shown loads) → AreUsed new left → AreOnce taken
        → Fits (total_on node after.rows) capability → ShowsBook new ran count
    absorbed_kept {new} counted seen_new used once fits = record {
      book = rw (ran_after, seen_new, counted) (taken_lawful book node capability taken ended kept.book once fits);
      used = used_same new left ran used (λ other. ap (sizes_on other) is_ran ∙ sizes_stay taken other left);
    }
