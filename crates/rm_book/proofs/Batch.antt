-- The rows of containers that enter together, as far as they came.
use Rattle.rm_book.proofs.Common.{◌≡◌, ℕ, ◌+◌, ◌<◌, true, false, not, List, [], ◌∷◌, ◌++◌, length, filter, map, take, drop, get_or, refl, sym, ap, subst, ◌∙◌, append_assoc, append-nil, arith, list_any, sum_by, bytes_eq, and_parts, take_more, map-append, sum_by-cons, BookRow, ContainerState, Granted, Running, Grant, Held, ContainerId, Resource, is_container, container_itself, same_text, is_held}
use Rattle.std.proofs.Common.{◌-◌, ◌≤◌}
use Rattle.std.proofs.lemmas.List.{drop_more, take-append-drop, length-take-le}
use Rattle.std.proofs.lemmas.List.Sums.{sum_by-append}
use Rattle.rm_book.specs.Books.{AreNew, are_grants_on, granted_rows, is_of, sizes_on, taken_rows}
use Rattle.rm_book.specs.Kept.{AreFresh, entered_rows, held_of}
use Rattle.rm_book.proofs.Splits.{filter_split}
use Rattle.rm_book.proofs.TakenRows.{fresh_after}

module _ (state : ContainerState) (node : List ℕ) where
  abbrev row_of_held : ℕ → Held → BookRow
  row_of_held told held = record { id = held.id; node = node; size = held.size; state = state; told = told }

  entered_append : (added : ℕ) (a b : List Held) → entered_rows state added node (a ++ b) ≡ entered_rows state added node a ++ entered_rows state (added + length a) node b
  entered_append added [] b = let none : added + 0 ≡ added = omega arith in ap (λ n. entered_rows state n node b) (sym none)
  entered_append added (held ∷ a) b =
      let count : added + 1 + length a ≡ added + length (held ∷ a) = omega arith in
      ap (λ more. row_of_held (added + 1) held ∷ more) (entered_append (added + 1) a b ∙ ap (λ n. entered_rows state (added + 1) node a ++ entered_rows state n node b) count)

  -- with one more
  pub entered_more : (added i : ℕ) (list : List Held) (d : Held) → i < length list
      → entered_rows state added node (take (i + 1) list) ≡ entered_rows state added node (take i list) ++ row_of_held (added + i + 1) (get_or list i d) ∷ []
  entered_more added i list d within =
      ap (entered_rows state added node) (take_more list i d within)
      ∙ entered_append added (take i list) (get_or list i d ∷ [])
      ∙ ap (λ n. entered_rows state added node (take i list) ++ row_of_held (added + n + 1) (get_or list i d) ∷ []) (length-take-le i list (omega (arith, within)))

  fresh_in : (added : ℕ) (rows : List BookRow) (front : List Held) (held : Held) (back : List Held) → AreFresh rows (front ++ held ∷ back)
      → list_any (is_of held.id) (rows ++ entered_rows state added node front) ≡ false
  fresh_in added rows [] held back new = rw (append-nil rows) new.0
  fresh_in added rows (one ∷ front) held back new =
      let row : BookRow = row_of_held (added + 1) one in
      let rest = fresh_in (added + 1) (rows ++ row ∷ []) front held back (fresh_after rows row one (front ++ held ∷ back) refl new.1 new.2) in
      rw (append_assoc rows (row ∷ []) (entered_rows state (added + 1) node front)) at rest

  -- the next has no row
  pub fresh_at : (added i : ℕ) (rows : List BookRow) (list : List Held) (d : Held) → i < length list → AreFresh rows list
      → list_any (is_of (get_or list i d).id) (rows ++ entered_rows state added node (take i list)) ≡ false
  fresh_at added i rows list d within new =
      let parts : list ≡ take i list ++ get_or list i d ∷ drop (i + 1) list = sym (take-append-drop i list) ∙ ap (λ more. take i list ++ more) (drop_more list i d within) in
      fresh_in added rows (take i list) (get_or list i d) (drop (i + 1) list) (subst (AreFresh rows) parts new)

  -- one more enters
  pub one_entered : (added i told : ℕ) (rows now new : List BookRow) (list : List Held) (d : Held) → i < length list → told ≡ added + i + 1
      → now ≡ rows ++ entered_rows state added node (take i list) → new ≡ now ++ row_of_held told (get_or list i d) ∷ []
      → new ≡ rows ++ entered_rows state added node (take (i + 1) list)
  one_entered added i told rows now new list d within counted so_far more =
      more
      ∙ ap (λ l. l ++ row_of_held told (get_or list i d) ∷ []) so_far
      ∙ append_assoc rows (entered_rows state added node (take i list)) (row_of_held told (get_or list i d) ∷ [])
      ∙ ap (λ n. rows ++ (entered_rows state added node (take i list) ++ row_of_held n (get_or list i d) ∷ [])) counted
      ∙ ap (λ l. rows ++ l) (sym (entered_more added i list d within))

  -- the last goes again
  pub last_gone : (added i : ℕ) (rows now : List BookRow) (list : List Held) (d : Held) → i < length list → AreFresh rows list
      → now ≡ rows ++ entered_rows state added node (take (i + 1) list)
      → filter (λ row. not (is_of (get_or list i d).id row)) now ≡ rows ++ entered_rows state added node (take i list)
  last_gone added i rows now list d within new so_far =
      let held : Held = get_or list i d in
      let front : List BookRow = rows ++ entered_rows state added node (take i list) in
      let row : BookRow = row_of_held (added + i + 1) held in
      let all : now ≡ front ++ row ∷ [] =
      so_far ∙ ap (λ more. rows ++ more) (entered_more added i list d within) ∙ sym (append_assoc rows (entered_rows state added node (take i list)) (row ∷ [])) in
      ap (filter (λ row. not (is_of held.id row))) all
      ∙ filter_split (is_of held.id) front row [] (fresh_at added i rows list d within new) (container_itself held.id) refl
      ∙ append-nil front

-- what an index past the end reads
abbrev pub no_held : Held
no_held = record { id = record { attempt = record { app = record { stamp = 0; number = 0 }; number = 0 }; epoch = 0; seq = 0 }; size = record { memory_mb = 0; vcores = 0 } }

-- of so many that entered the last goes again
pub last_undone : (state : ContainerState) (node : List ℕ) (added n : ℕ) (rows now new : List BookRow) (list : List Held) → n ≤ length list → 0 < n → AreFresh rows list
    → new ≡ filter (λ row. not (is_of (get_or list (n - 1) no_held).id row)) now → now ≡ rows ++ entered_rows state added node (take n list)
    → new ≡ rows ++ entered_rows state added node (take (n - 1) list)
last_undone state node added n rows now new list within some fresh gone so_far =
    let one_less : n ≡ n - 1 + 1 = omega (arith, some) in
    gone ∙ last_gone state node added (n - 1) rows now list no_held (omega (arith, within, some)) fresh (so_far ∙ ap (λ n. rows ++ entered_rows state added node (take n list)) one_less)

-- a sum so far, and one more, are within the whole
pub sum_within : (part : Resource → ℕ) (list : List Held) (i : ℕ) (d : Held) → i < length list
    → sum_by part (map (λ held. held.size) (take i list)) + part (get_or list i d).size ≤ sum_by part (map (λ held. held.size) list)
sum_within part list i d within =
    let size : Held → Resource = λ held. held.size in
    let whole : sum_by part (map size list) ≡ sum_by part (map size (take i list)) + sum_by part (map size (get_or list i d ∷ drop (i + 1) list)) =
    ap (λ l. sum_by part (map size l)) (sym (take-append-drop i list) ∙ ap (λ more. take i list ++ more) (drop_more list i d within))
    ∙ ap (sum_by part) (map-append size (take i list) (get_or list i d ∷ drop (i + 1) list)) ∙ sum_by-append part (map size (take i list)) (map size (get_or list i d ∷ drop (i + 1) list)) in
    omega (arith, whole, sum_by-cons part (get_or list i d).size (map size (drop (i + 1) list)))

-- with one more
pub sum_more : (part : Resource → ℕ) (list : List Held) (i : ℕ) (d : Held) → i < length list
    → sum_by part (map (λ held. held.size) (take (i + 1) list)) ≡ sum_by part (map (λ held. held.size) (take i list)) + part (get_or list i d).size
sum_more part list i d within =
    let size : Held → Resource = λ held. held.size in
    let parts : sum_by part (map size (take (i + 1) list)) ≡ sum_by part (map size (take i list)) + sum_by part (map size (get_or list i d ∷ [])) =
    ap (λ l. sum_by part (map size l)) (take_more list i d within)
    ∙ ap (sum_by part) (map-append size (take i list) (get_or list i d ∷ [])) ∙ sum_by-append part (map size (take i list)) (map size (get_or list i d ∷ [])) in
    omega (arith, parts, sum_by-cons part (get_or list i d).size [])

-- what enters as Running was taken, and what enters as Granted was granted
pub entered_taken : (added : ℕ) (node : List ℕ) (list : List Held) → entered_rows Running added node list ≡ taken_rows added node list
entered_taken added node [] = refl
entered_taken added node (held ∷ list) = ap (λ more. row_of_held Running node (added + 1) held ∷ more) (entered_taken (added + 1) node list)

pub entered_granted : (added : ℕ) (node : List ℕ) (grants : List Grant) → are_grants_on node grants ≡ true → entered_rows Granted added node (map held_of grants) ≡ granted_rows added grants
entered_granted added node [] on = refl
entered_granted added node (grant ∷ grants) on =
    let parts = and_parts (bytes_eq grant.node node) (are_grants_on node grants) on in
    ap (λ (name : List ℕ). row_of_held Granted name (added + 1) (held_of grant) ∷ entered_rows Granted (added + 1) node (map held_of grants)) (sym (same_text grant.node node parts.0))
    ∙ ap (λ more. row_of_held Granted grant.node (added + 1) (held_of grant) ∷ more) (entered_granted (added + 1) node grants parts.1)

any_held : (grants : List Grant) (id : ContainerId) → is_held (map held_of grants) id ≡ list_any (λ other. is_container other.id id) grants
any_held [] id = refl
any_held (grant ∷ grants) id = rw (any_held grants id) refl

pub fresh_grants : (rows : List BookRow) (grants : List Grant) → AreNew rows grants → AreFresh rows (map held_of grants)
fresh_grants rows [] new = tt
fresh_grants rows (grant ∷ grants) new = (new.0, any_held grants grant.id ∙ new.1, fresh_grants rows grants new.2)

-- the sizes of what enters stand on its node alone
pub entered_sizes : (state : ContainerState) (added : ℕ) (node other : List ℕ) (list : List Held) → bytes_eq node other ≡ true
    → sizes_on other (entered_rows state added node list) ≡ map (λ held. held.size) list
entered_sizes state added node other [] same = refl
entered_sizes state added node other (held ∷ list) same = rw same (ap (λ more. held.size ∷ more) (entered_sizes state (added + 1) node other list same))

pub entered_elsewhere : (state : ContainerState) (added : ℕ) (node other : List ℕ) (list : List Held) → bytes_eq node other ≡ false → sizes_on other (entered_rows state added node list) ≡ []
entered_elsewhere state added node other [] apart = refl
entered_elsewhere state added node other (held ∷ list) apart = rw apart (entered_elsewhere state (added + 1) node other list apart)
