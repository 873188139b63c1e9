-- The book after an absorption is a book.
use Rattle.rm_book.proofs.Common.{◌≡◌, ℕ, ◌+◌, Bool, true, false, not, cond, List, [], ◌∷◌, ◌++◌, length, map, filter, refl, ◌∙◌, subst, append_assoc, append-nil, arith, list_any, sum_by, bytes_eq, or_parts, or_from, list_any-append, BookRow, Running, Held, ContainerId, Resource, is_container, Fits, container_back, same_text, is_held, inl, inr, cases_Bool}
use Rattle.rm_book.specs.Books.{BookRowsAreApart, AreLiving, AreOnce, is_living_state, BookOf, IsBook, TellUpTo, entering, is_of, book_row_taken, sizes_on, taken_rows, total_on, book_with_taken}
use Rattle.rm_book.specs.Kept.{AreFresh}
use Rattle.rm_book.proofs.Changes.{book_left}
use Rattle.rm_book.proofs.Lists.{any_filter}
use Rattle.rm_book.proofs.Nodes.{AllFit, capability_in-with_capability}
use Rattle.rm_book.proofs.Rows.{apart_push, living_joined, sum_joined, told_push}

-- the row of a container that was taken
abbrev row_of_held : ℕ → List ℕ → Held → BookRow
row_of_held told node held = record { id = held.id; node = node; size = held.size; state = Running; told = told }

-- rows that run already stay as they are
same_row : (b : Bool) (row : BookRow) → row.state ≡ Running → cond b (record row { state = Running }) row ≡ row
same_row true row e = rw e refl
same_row false row e = refl

pub running_stay : (taken : List Held) (added : ℕ) (node : List ℕ) (list : List Held) → map (book_row_taken taken) (taken_rows added node list) ≡ taken_rows added node list
running_stay taken added node [] = refl
running_stay taken added node (held ∷ list) = rw (same_row (is_held taken held.id) (row_of_held (added + 1) node held) refl, running_stay taken (added + 1) node list) refl

-- a row that runs from now on stands as it did
module _ (taken : List Held) where
  -- what a row that runs has as before
  part_stays : {A : Type 0} (part : BookRow → A) → ((row : BookRow) → part (record row { state = Running }) ≡ part row) → (row : BookRow) → part (book_row_taken taken row) ≡ part row
  part_stays part same row = by (is_held taken row.id)
    where
      by : (b : Bool) → part (cond b (record row { state = Running }) row) ≡ part row
      by true = same row
      by false = refl

  pub id_stays : (row : BookRow) → (book_row_taken taken row).id ≡ row.id
  id_stays = part_stays (λ (row : BookRow). row.id) (λ row. refl)

  told_stays : (row : BookRow) → (book_row_taken taken row).told ≡ row.told
  told_stays = part_stays (λ (row : BookRow). row.told) (λ row. refl)

  node_stays : (row : BookRow) → (book_row_taken taken row).node ≡ row.node
  node_stays = part_stays (λ (row : BookRow). row.node) (λ row. refl)

  size_stays : (row : BookRow) → (book_row_taken taken row).size ≡ row.size
  size_stays = part_stays (λ (row : BookRow). row.size) (λ row. refl)

  any_stays : (id : ContainerId) (rows : List BookRow) → list_any (is_of id) (map (book_row_taken taken) rows) ≡ list_any (is_of id) rows
  any_stays id [] = refl
  any_stays id (row ∷ rows) = rw (id_stays row, any_stays id rows) refl

  apart_stays : (rows : List BookRow) → BookRowsAreApart rows → BookRowsAreApart (map (book_row_taken taken) rows)
  apart_stays [] h = tt
  apart_stays (row ∷ rows) h = (rw (id_stays row, any_stays row.id rows) h.0, apart_stays rows h.1)

  told_order : (least added : ℕ) (rows : List BookRow) → TellUpTo least added rows → TellUpTo least added (map (book_row_taken taken) rows)
  told_order least added [] h = h
  told_order least added (row ∷ rows) h = (rw (told_stays row) h.0, rw (told_stays row) (told_order row.told added rows h.1))

  pub sizes_stay : (node : List ℕ) (rows : List BookRow) → sizes_on node (map (book_row_taken taken) rows) ≡ sizes_on node rows
  sizes_stay node [] = refl
  sizes_stay node (row ∷ rows) = elim (cases_Bool (bytes_eq row.node node)) [
    | inl e ↦ rw (node_stays row, e, size_stays row, sizes_stay node rows) refl
    | inr e ↦ rw (node_stays row, e) (sizes_stay node rows)
  ]

pub held_filter : (test : Held → Bool) (list : List Held) (id : ContainerId) → is_held list id ≡ false → is_held (filter test list) id ≡ false
held_filter test [] id h = refl
held_filter test (held ∷ list) id h =
    let parts = or_parts (is_container held.id id) (is_held list id) h in
    let rest = held_filter test list id parts.1 in
    elim (cases_Bool (test held)) [
      | inl e ↦ rw e (or_from (is_container held.id id) (is_held (filter test list) id) parts.0 rest)
      | inr e ↦ rw e rest
    ]

-- of what is taken once, that which has no row among more
pub fresh_of : (rows more : List BookRow) (list : List Held) → ((id : ContainerId) → list_any (is_of id) rows ≡ false → list_any (is_of id) more ≡ false) → AreOnce list
    → AreFresh more (filter (λ held. not (list_any (is_of held.id) rows)) list)
fresh_of rows more [] less once = tt
fresh_of rows more (held ∷ list) less once = elim (cases_Bool (list_any (is_of held.id) rows)) [
  | inl e ↦ rw e (fresh_of rows more list less once.1)
  | inr e ↦ rw e (less held.id e, held_filter (λ one. not (list_any (is_of one.id) rows)) list held.id once.0, fresh_of rows more list less once.1)
]

-- those that come after a first one are new where its row stands too
pub fresh_after : (rows : List BookRow) (one : BookRow) (held : Held) (list : List Held) → one.id ≡ held.id → is_held list held.id ≡ false → AreFresh rows list → AreFresh (rows ++ one ∷ []) list
fresh_after rows one held [] is apart new = tt
fresh_after rows one held (other ∷ list) is apart new =
    let parts = or_parts (is_container other.id held.id) (is_held list held.id) apart in
    let last : is_of other.id one ≡ false = rw is (container_back held.id other.id ∙ parts.0) in (
      list_any-append (is_of other.id) rows (one ∷ []) ∙ or_from (list_any (is_of other.id) rows) _ new.0 (or_from (is_of other.id one) false last refl),
      new.1,
      fresh_after rows one held list is parts.1 new.2,
    )

apart_joined : (rows : List BookRow) (added : ℕ) (node : List ℕ) (list : List Held) → BookRowsAreApart rows → AreFresh rows list → BookRowsAreApart (rows ++ taken_rows added node list)
apart_joined rows added node [] apart new = rw (append-nil rows) apart
apart_joined rows added node (held ∷ list) apart new =
    let one : BookRow = row_of_held (added + 1) node held in
    let rest = apart_joined (rows ++ one ∷ []) (added + 1) node list (apart_push rows one apart new.0) (fresh_after rows one held list refl new.1 new.2) in
    rw (append_assoc rows (one ∷ []) (taken_rows (added + 1) node list)) at rest

told_joined : (rows : List BookRow) (added : ℕ) (node : List ℕ) (list : List Held) → TellUpTo 0 added rows → TellUpTo 0 (added + length list) (rows ++ taken_rows added node list)
told_joined rows added node [] told = let none : added + 0 ≡ added = omega arith in rw (append-nil rows, none) told
told_joined rows added node (held ∷ list) told =
    let one : BookRow = row_of_held (added + 1) node held in
    let rest = told_joined (rows ++ one ∷ []) (added + 1) node list (told_push 0 added rows one refl told) in
    let count : added + 1 + length list ≡ added + length (held ∷ list) = omega arith in
    rw (append_assoc rows (one ∷ []) (taken_rows (added + 1) node list), count) at rest

none_elsewhere : (other node : List ℕ) (added : ℕ) (list : List Held) → bytes_eq node other ≡ false → sizes_on other (taken_rows added node list) ≡ []
none_elsewhere other node added [] apart = refl
none_elsewhere other node added (held ∷ list) apart = rw apart (none_elsewhere other node (added + 1) list apart)

-- what runs lives, and so does what enters
pub living_run : (taken : List Held) (rows : List BookRow) → AreLiving rows → AreLiving (map (book_row_taken taken) rows)
living_run taken [] h = tt
living_run taken (row ∷ rows) h = (by (is_held taken row.id), living_run taken rows h.1)
  where
    by : (b : Bool) → is_living_state (cond b (record row { state = Running }) row).state ≡ true
    by true = refl
    by false = h.0

pub living_taken : (added : ℕ) (node : List ℕ) (list : List Held) → AreLiving (taken_rows added node list)
living_taken added node [] = tt
living_taken added node (held ∷ list) = (refl, living_taken (added + 1) node list)

-- what stands on another node is no more than before
module _ (book : BookOf) (node : List ℕ) (capability : Resource) (taken : List Held) (ended : List ContainerId) (lawful : IsBook book) (once : AreOnce taken) where
  abbrev after : BookOf
  after = book_with_taken book node capability taken ended

  abbrev left : List BookRow
  left = filter (λ row. not (list_any (λ id. is_container id row.id) ended)) book.rows

  left_lawful : IsBook (record book { rows = left })
  left_lawful = book_left book (λ row. not (list_any (λ id. is_container id row.id) ended)) lawful

  part_elsewhere : (part : Resource → ℕ) (other : List ℕ) → bytes_eq node other ≡ false → sum_by part (sizes_on other after.rows) ≡ sum_by part (sizes_on other left)
  part_elsewhere part other apart =
      sum_joined part other (map (book_row_taken taken) left) (taken_rows book.added node (entering book taken))
      ∙ rw (sizes_stay taken other left, none_elsewhere other node book.added (entering book taken) apart) (omega arith)

  fit_elsewhere : Fits (total_on node after.rows) capability → AllFit after.rows after.nodes
  fit_elsewhere fits other = elim (cases_Bool (bytes_eq node other)) [
    | inl e ↦ rw (capability_in-with_capability node other capability book.nodes, e) (subst (λ (name : List ℕ). Fits (total_on name after.rows) capability) (same_text node other e) fits)
    | inr e ↦
        let m = part_elsewhere (λ size. size.memory_mb) other e in
        let c = part_elsewhere (λ size. size.vcores) other e in
        let h = left_lawful.fit other in
        rw (capability_in-with_capability node other capability book.nodes, e) (omega (arith, m, h.0), omega (arith, c, h.1))
  ]

  fewer : (id : ContainerId) → list_any (is_of id) book.rows ≡ false → list_any (is_of id) (map (book_row_taken taken) left) ≡ false
  fewer id none =
      any_stays taken id left ∙ any_filter (is_of id) (λ row. not (list_any (λ one. is_container one row.id) ended)) book.rows none

  pub taken_lawful : Fits (total_on node after.rows) capability → IsBook after
  taken_lawful fits = record {
    apart = apart_joined (map (book_row_taken taken) left) book.added node (entering book taken) (apart_stays taken left left_lawful.apart) (fresh_of book.rows (map (book_row_taken taken) left) taken fewer once);
    living = living_joined (map (book_row_taken taken) left) (taken_rows book.added node (entering book taken)) (living_run taken left left_lawful.living) (living_taken book.added node (entering book taken));
    told = told_joined (map (book_row_taken taken) left) book.added node (entering book taken) (told_order taken 0 book.added left left_lawful.told);
    fit = fit_elsewhere fits;
  }
