-- What an absorption takes in any tables: it differs, and fits what the node offers.
use Rattle.std.proofs.Common.{◌≡◌, ◌≤◌, ℕ, ◌+◌, ◌-◌, List, [], ◌∷◌, ◌++◌, Bool, true, false, not, ◌&&◌, ◌||◌, nat_le, Option, None, Some, is_some, cond, filter, find, fold, map, refl, sym, ◌∙◌, ap, subst, arith}
use Rattle.std.specs.Prelude.{if◌then◌else◌}
use Rattle.std.specs.List.{list_any, sum_by}
use Rattle.std.specs.Str.{bytes_eq}
use Rattle.std.proofs.lemmas.Bool.{false≢true, or_from, or_parts, and_parts}
use Rattle.std.proofs.lemmas.Bool.Decides.{nat_tests}
use Rattle.std.proofs.lemmas.List.{map-append}
use Rattle.std.proofs.lemmas.List.Folds.{list_any-append}
use Rattle.std.proofs.lemmas.List.Sorted.{list_any-IsPermutation}
use Rattle.std.proofs.lemmas.List.Sums.{sum_by-append, sum_by-cons}
use Rattle.rm_types.specs.declared.containers.BookRow.{BookRow}
use Rattle.rm_types.specs.declared.containers.ContainerState.TheVariants.{Running}
use Rattle.rm_types.specs.declared.containers.Held.{Held}
use Rattle.rm_types.specs.declared.ids.ContainerId.{ContainerId}
use Rattle.rm_types.specs.declared.resources.Resource.{Resource}
use Rattle.rm_types.specs.Ids.{is_container}
use Rattle.rm_types.specs.Order.{Ascend}
use Rattle.rm_types.specs.Passes.{total_of}
use Rattle.rm_types.specs.Resources.{Fits, fits}
use Rattle.rm_types.proofs.IdLemmas.{container_back, same_container}
use Rattle.rm_book.specs.Books.{BookRowsAreApart, AreOnce, IsBook, capability_of, entering, is_of, book_row_taken, sizes_on, taken_rows, total_on, book_with_taken}
use Rattle.rm_types.specs.Containers.{is_held}
use Rattle.rm_tables.specs.declared.nodes.NodeRow.{NodeRow}
use Rattle.rm_tables.specs.declared.tables.Tables.{Tables}
use Rattle.rm_tables.specs.Absorbing.{booked_at, counted_in, is_elsewhere, is_pending_in, capability_left, tables_may_take, book_not_taken, reported_in, taken_in, tables_with_counted}
use Rattle.rm_tables.specs.Leaving.{is_wanted_in}
use Rattle.rm_sched.specs.CanWork.{CanAbsorb}

-- a test of each item, as facts
abbrev All : {X : Type 0} → (X → Type 0) → List X → Type 0
All P [] = Unit {0}
All P (x ∷ xs) = P x × All P xs

-- what is found is one of them
found_one : {X : Type 0} (P : X → Type 0) (p : X → Bool) (xs : List X) (x : X) → All P xs → find p xs ≡ Some x → P x
found_one P p [] x all e = cc
found_one P p (y ∷ xs) x all e = by (p y) refl (found_one P p xs x all.1)
  where
    by : (b : Bool) → p y ≡ b → (find p xs ≡ Some x → P x) → P x
    by true f rest =
        let is : Some y ≡ Some x = rw f at e in
        let same : y ≡ x = cc in
        subst P same all.0
    by false f rest = rest (rw f at e)

-- WHAT IS TAKEN, ONE AFTER THE OTHER

-- no two are of one container
pub once_more : (taken : List Held) (held : Held) → AreOnce taken → is_held taken held.id ≡ false → AreOnce (taken ++ held ∷ [])
once_more [] held once new = (refl, tt)
once_more (one ∷ taken) held once new =
    let parts = or_parts (is_container one.id held.id) (is_held taken held.id) new in
    let apart : is_container held.id one.id ≡ false = container_back held.id one.id ∙ parts.0 in (
      list_any-append (λ (other : Held). is_container other.id one.id) taken (held ∷ []) ∙ or_from (is_held taken one.id) _ once.0 (or_from (is_container held.id one.id) false apart refl),
      once_more taken held once.1 parts.1,
    )

-- how much of a part they take
abbrev taken_sum : (Resource → ℕ) → List Held → ℕ
taken_sum part taken = sum_by part (map (λ held. held.size) taken)

sum_end : (part : Resource → ℕ) (taken : List Held) (held : Held) → taken_sum part (taken ++ held ∷ []) ≡ taken_sum part taken + part held.size
sum_end part taken held =
    let split : taken_sum part (taken ++ held ∷ []) ≡ taken_sum part taken + sum_by part (held.size ∷ []) =
    ap (sum_by part) (map-append (λ (one : Held). one.size) taken (held ∷ [])) ∙ sum_by-append part (map (λ (one : Held). one.size) taken) (held.size ∷ []) in
    let last = sum_by-cons part held.size [] in
    omega (arith, split, last)

-- what fits beside them
fits_beside : (capability : Resource) (taken : List Held) (held : Held) → Fits (total_of (map (λ one. one.size) taken)) capability → fits held.size (capability_left capability taken) ≡ true
    → Fits (total_of (map (λ one. one.size) (taken ++ held ∷ []))) capability
fits_beside capability taken held so_far fit =
    let parts = and_parts (nat_le held.size.memory_mb (capability_left capability taken).memory_mb) (nat_le held.size.vcores (capability_left capability taken).vcores) fit in
    let memory : held.size.memory_mb ≤ capability.memory_mb - taken_sum (λ r. r.memory_mb) taken = let e = parts.0 in grind (arith, nat_tests) in
    let cores : held.size.vcores ≤ capability.vcores - taken_sum (λ r. r.vcores) taken = let e = parts.1 in grind (arith, nat_tests) in
    let first = sum_end (λ r. r.memory_mb) taken held in
    let second = sum_end (λ r. r.vcores) taken held in
    let old_memory : taken_sum (λ r. r.memory_mb) taken ≤ capability.memory_mb = so_far.0 in
    let old_cores : taken_sum (λ r. r.vcores) taken ≤ capability.vcores = so_far.1 in
    let new_memory : taken_sum (λ r. r.memory_mb) (taken ++ held ∷ []) ≤ capability.memory_mb = omega (arith, memory, first, old_memory) in
    let new_cores : taken_sum (λ r. r.vcores) (taken ++ held ∷ []) ≤ capability.vcores = omega (arith, cores, second, old_cores) in
    (new_memory, new_cores)

-- a container that is found on the node is no greater than what is taken
abbrev IsSized : List BookRow → List ℕ → Held → Type 0
IsSized rows name held = (row : BookRow) → find (is_of held.id) rows ≡ Some row → bytes_eq row.node name ≡ true → Fits row.size held.size

-- all of it
record IsTaken (rows : List BookRow) (name : List ℕ) (capability : Resource) (taken : List Held) : Type 0 where
  once : AreOnce taken
  fit : Fits (total_of (map (λ held. held.size) taken)) capability
  sized : All (IsSized rows name) taken

all_end : {X : Type 0} (P : X → Type 0) (xs : List X) (x : X) → All P xs → P x → All P (xs ++ x ∷ [])
all_end P [] x all own = (own, tt)
all_end P (y ∷ xs) x all own = (all.0, all_end P xs x all.1 own)

module _ (t : Tables) (name : List ℕ) (capability : Resource) where
  one_more : (taken : List Held) (held : Held) → IsSized t.book.rows name held → IsTaken t.book.rows name capability taken → (b : Bool) → tables_may_take t name capability taken held ≡ b
      → IsTaken t.book.rows name capability (if b then taken ++ held ∷ [] else taken)
  one_more taken held sized so_far false e = so_far
  one_more taken held sized so_far true e =
      let wanted : Bool = is_wanted_in t.tree.apps held.id in
      let here : Bool = not (is_elsewhere name (find (is_of held.id) t.book.rows)) in
      let pending : Bool = not (is_pending_in t held.id) in
      let zeroth = and_parts pending (not (is_held taken held.id) && (wanted && (here && fits held.size (capability_left capability taken)))) e in
      let first = and_parts (not (is_held taken held.id)) (wanted && (here && fits held.size (capability_left capability taken))) zeroth.1 in
      let second = and_parts wanted (here && fits held.size (capability_left capability taken)) first.1 in
      let third = and_parts here (fits held.size (capability_left capability taken)) second.1 in
      record {
        once = once_more taken held so_far.once (turned (is_held taken held.id) first.0);
        fit = fits_beside capability taken held so_far.fit third.1;
        sized = all_end (IsSized t.book.rows name) taken held so_far.sized sized;
      }
    where
      turned : (b : Bool) → not b ≡ true → b ≡ false
      turned true e = cc
      turned false e = refl

  -- a container that counts has the size that it has on the node
  abbrev IsSizedIf : Option Held → Type 0
  IsSizedIf None = Unit {0}
  IsSizedIf (Some held) = IsSized t.book.rows name held

  counted_more : (taken : List Held) (o : Option Held) → IsSizedIf o → IsTaken t.book.rows name capability taken → IsTaken t.book.rows name capability (tables_with_counted t name capability taken o)
  counted_more taken None sized so_far = so_far
  counted_more taken (Some held) sized so_far = one_more taken held sized so_far (tables_may_take t name capability taken held) refl

  all_taken : (report taken : List Held) → ((held : Held) → IsSizedIf (counted_in t name held)) → IsTaken t.book.rows name capability taken
      → IsTaken t.book.rows name capability (fold (λ so_far held. tables_with_counted t name capability so_far (counted_in t name held)) taken report)
  all_taken [] taken sized so_far = so_far
  all_taken (held ∷ report) taken sized so_far =
      all_taken report (tables_with_counted t name capability taken (counted_in t name held)) sized (counted_more taken (counted_in t name held) (sized held) so_far)

-- a row on a node has no size
abbrev IsBare : List ℕ → BookRow → Type 0
IsBare name row = bytes_eq row.node name ≡ true → Fits row.size (record { memory_mb = 0; vcores = 0 })

-- where a node offers nothing, what stands on it has no size
abbrev NoneStand : Tables → List ℕ → Type 0
NoneStand t name = capability_of t.book name ≡ None → All (IsBare name) t.book.rows

-- so all that counts has its size
counted_sized : (t : Tables) (name : List ℕ) (capability : Resource) → NoneStand t name → (held : Held) → IsSizedIf t name capability (counted_in t name held)
counted_sized t name capability none held = by (capability_of t.book name) refl
  where
    booked : (o : Option BookRow) → find (is_of held.id) t.book.rows ≡ o → IsSizedIf t name capability (booked_at name o)
    booked None e = tt
    booked (Some row) e = on (bytes_eq row.node name)
      where
        own : find (is_of row.id) t.book.rows ≡ Some row
        own = ap (λ (id : ContainerId). find (is_of id) t.book.rows) (found_id t.book.rows e) ∙ e
          where
            found_id : (rows : List BookRow) → find (is_of held.id) rows ≡ Some row → row.id ≡ held.id
            found_id [] f = cc
            found_id (one ∷ rows) f = at (is_of held.id one) refl (found_id rows)
              where
                at : (b : Bool) → is_of held.id one ≡ b → (find (is_of held.id) rows ≡ Some row → row.id ≡ held.id) → row.id ≡ held.id
                at true g rest =
                    let is : Some one ≡ Some row = rw g at f in
                    let same : one ≡ row = cc in
                    subst (λ (x : BookRow). x.id ≡ held.id) same (same_container one.id held.id g)
                at false g rest = rest (rw g at f)

        on : (b : Bool) → IsSizedIf t name capability (if b then Some (record { id = row.id; size = row.size }) else None)
        on false = tt
        on true = λ other f there. let is : Some row ≡ Some other = sym own ∙ f in let same : row ≡ other = cc in subst (λ (x : BookRow). Fits x.size row.size) same (omega arith, omega arith)

    reported : (b : Bool) → All (IsBare name) t.book.rows → IsSizedIf t name capability (if b then Some held else None)
    reported false stand = tt
    reported true stand = λ row f there. let size = found_one (IsBare name) (is_of held.id) t.book.rows row stand f there in (omega (arith, size.0), omega (arith, size.1))

    by : (o : Option Resource) → capability_of t.book name ≡ o → IsSizedIf t name capability (if is_some (capability_of t.book name) then booked_at name (find (is_of held.id) t.book.rows) else reported_in t held)
    by None e = rw e (reported _ (none e))
    by (Some own) e = rw e (booked (find (is_of held.id) t.book.rows) refl)

-- HOW MUCH STANDS THERE THEN

-- the sum of a part over the rows that pass a test
abbrev sum_if : (BookRow → Bool) → (Resource → ℕ) → List BookRow → ℕ
sum_if test part [] = 0
sum_if test part (row ∷ rows) = cond (test row) (part row.size) 0 + sum_if test part rows

-- the rows on a node
on_sum : (name : List ℕ) (part : Resource → ℕ) (rows : List BookRow) → sum_by part (sizes_on name rows) ≡ sum_if (λ row. bytes_eq row.node name) part rows
on_sum name part [] = refl
on_sum name part (row ∷ rows) = by (bytes_eq row.node name) refl (on_sum name part rows)
  where
    by : (b : Bool) → bytes_eq row.node name ≡ b → sum_by part (sizes_on name rows) ≡ sum_if (λ one. bytes_eq one.node name) part rows
        → sum_by part (sizes_on name (row ∷ rows)) ≡ sum_if (λ one. bytes_eq one.node name) part (row ∷ rows)
    by true e rest = let first = sum_by-cons part row.size (sizes_on name rows) in rw e (omega (arith, first, rest))
    by false e rest = rw e (omega (arith, rest))

-- the lesser of two sizes has no greater part
abbrev IsGrowing : (Resource → ℕ) → Type 0
IsGrowing part = (a b : Resource) → Fits a b → part a ≤ part b

module _ (name : List ℕ) (part : Resource → ℕ) where
  -- a row on the node of what was taken
  abbrev is_there : List Held → BookRow → Bool
  is_there taken row = bytes_eq row.node name && is_held taken row.id

  -- of one container there is at most what it takes
  none_of : (held : Held) (rows : List BookRow) → list_any (is_of held.id) rows ≡ false → sum_if (λ row. bytes_eq row.node name && is_container held.id row.id) part rows ≡ 0
  none_of held [] none = refl
  none_of held (row ∷ rows) none =
      let parts = or_parts (is_of held.id row) (list_any (is_of held.id) rows) none in
      let apart : is_container held.id row.id ≡ false = container_back held.id row.id ∙ parts.0 in
      let rest = none_of held rows parts.1 in
      by (bytes_eq row.node name) apart rest
    where
      by : (b : Bool) → is_container held.id row.id ≡ false → sum_if (λ one. bytes_eq one.node name && is_container held.id one.id) part rows ≡ 0
          → cond (b && is_container held.id row.id) (part row.size) 0 + sum_if (λ one. bytes_eq one.node name && is_container held.id one.id) part rows ≡ 0
      by true e rest = rw e (omega (arith, rest))
      by false e rest = omega (arith, rest)

  one_of : IsGrowing part → (held : Held) (rows : List BookRow) → BookRowsAreApart rows → IsSized rows name held → sum_if (λ row. bytes_eq row.node name && is_container held.id row.id) part rows ≤ part held.size
  one_of grows held [] apart sized = omega arith
  one_of grows held (row ∷ rows) apart sized = by (is_of held.id row) refl (one_of grows held rows apart.1)
    where
      by : (b : Bool) → is_of held.id row ≡ b → (IsSized rows name held → sum_if (λ one. bytes_eq one.node name && is_container held.id one.id) part rows ≤ part held.size)
          → sum_if (λ one. bytes_eq one.node name && is_container held.id one.id) part (row ∷ rows) ≤ part held.size
      by false e rest =
          let turned : is_container held.id row.id ≡ false = container_back held.id row.id ∙ e in
          let few = rest (λ one f there. sized one (rw e f) there) in
          at (bytes_eq row.node name) turned few
        where
          at : (c : Bool) → is_container held.id row.id ≡ false → sum_if (λ one. bytes_eq one.node name && is_container held.id one.id) part rows ≤ part held.size
              → cond (c && is_container held.id row.id) (part row.size) 0 + sum_if (λ one. bytes_eq one.node name && is_container held.id one.id) part rows ≤ part held.size
          at true g few = rw g (omega (arith, few))
          at false g few = omega (arith, few)
      by true e rest =
          let same : row.id ≡ held.id = same_container row.id held.id e in
          let none : sum_if (λ (one : BookRow). bytes_eq one.node name && is_container held.id one.id) part rows ≡ 0 = none_of held rows (subst (λ (id : ContainerId). list_any (is_of id) rows ≡ false) same apart.0) in
          let found : find (is_of held.id) (row ∷ rows) ≡ Some row = rw e refl in
          at (bytes_eq row.node name) (is_container held.id row.id) refl none found
        where
          at : (c d : Bool) → bytes_eq row.node name ≡ c → sum_if (λ (one : BookRow). bytes_eq one.node name && is_container held.id one.id) part rows ≡ 0 → find (is_of held.id) (row ∷ rows) ≡ Some row
              → cond (c && d) (part row.size) 0 + sum_if (λ (one : BookRow). bytes_eq one.node name && is_container held.id one.id) part rows ≤ part held.size
          at true true g none found = let size : part row.size ≤ part held.size = grows row.size held.size (sized row found g) in omega (arith, none, size)
          at true false g none found = omega (arith, none)
          at false d g none found = omega (arith, none)

  -- what is held of more containers
  split_or : (held : Held) (taken : List Held) (rows : List BookRow)
      → sum_if (is_there (held ∷ taken)) part rows ≤ sum_if (λ row. bytes_eq row.node name && is_container held.id row.id) part rows + sum_if (is_there taken) part rows
  split_or held taken [] = omega arith
  split_or held taken (row ∷ rows) = by (bytes_eq row.node name) (is_container held.id row.id) (is_held taken row.id) (split_or held taken rows)
    where
      by : (a b c : Bool) → sum_if (is_there (held ∷ taken)) part rows ≤ sum_if (λ one. bytes_eq one.node name && is_container held.id one.id) part rows + sum_if (is_there taken) part rows
          → cond (a && (b || c)) (part row.size) 0 + sum_if (is_there (held ∷ taken)) part rows
          ≤ (cond (a && b) (part row.size) 0 + sum_if (λ one. bytes_eq one.node name && is_container held.id one.id) part rows) + (cond (a && c) (part row.size) 0 + sum_if (is_there taken) part rows)
      by true true true rest = omega (arith, rest)
      by true true false rest = omega (arith, rest)
      by true false true rest = omega (arith, rest)
      by true false false rest = omega (arith, rest)
      by false b c rest = omega (arith, rest)

  none_held : (rows : List BookRow) → sum_if (is_there []) part rows ≡ 0
  none_held [] = refl
  none_held (row ∷ rows) = by (bytes_eq row.node name) (none_held rows)
    where
      by : (b : Bool) → sum_if (is_there []) part rows ≡ 0 → cond (b && false) (part row.size) 0 + sum_if (is_there []) part rows ≡ 0
      by true rest = omega (arith, rest)
      by false rest = omega (arith, rest)

  -- what stands there of what was taken, and what enters, are no more than what was taken
  all_of_taken : IsGrowing part → (rows : List BookRow) (taken : List Held) → BookRowsAreApart rows → All (IsSized rows name) taken
      → sum_if (is_there taken) part rows + taken_sum part (filter (λ held. not (list_any (is_of held.id) rows)) taken) ≤ taken_sum part taken
  all_of_taken grows rows [] apart sized = let none = none_held rows in omega (arith, none)
  all_of_taken grows rows (held ∷ taken) apart sized =
      let rest = all_of_taken grows rows taken apart sized.1 in
      let or = split_or held taken rows in
      let first = sum_by-cons part held.size (map (λ (one : Held). one.size) taken) in
      by (list_any (is_of held.id) rows) refl rest or first
    where
      by : (b : Bool) → list_any (is_of held.id) rows ≡ b → sum_if (is_there taken) part rows + taken_sum part (filter (λ one. not (list_any (is_of one.id) rows)) taken) ≤ taken_sum part taken
          → sum_if (is_there (held ∷ taken)) part rows ≤ sum_if (λ row. bytes_eq row.node name && is_container held.id row.id) part rows + sum_if (is_there taken) part rows
          → taken_sum part (held ∷ taken) ≡ part held.size + taken_sum part taken
          → sum_if (is_there (held ∷ taken)) part rows + taken_sum part (filter (λ one. not (list_any (is_of one.id) rows)) (held ∷ taken)) ≤ taken_sum part (held ∷ taken)
      by true e rest or first = let own = one_of grows held rows apart sized.0 in rw e (omega (arith, rest, or, first, own))
      by false e rest or first =
          let own = none_of held rows e in
          let enters = sum_by-cons part held.size (map (λ (one : Held). one.size) (filter (λ (one : Held). not (list_any (is_of one.id) rows)) taken)) in
          rw e (omega (arith, rest, or, first, own, enters))

  -- what enters
  entered_sum : (added : ℕ) (taken : List Held) → sum_if (λ row. bytes_eq row.node name) part (taken_rows added name taken) ≤ taken_sum part taken
  entered_sum added [] = omega arith
  entered_sum added (held ∷ taken) = let rest = entered_sum (added + 1) taken in let first = sum_by-cons part held.size (map (λ (one : Held). one.size) taken) in by (bytes_eq name name) rest first
    where
      by : (b : Bool) → sum_if (λ row. bytes_eq row.node name) part (taken_rows (added + 1) name taken) ≤ taken_sum part taken → taken_sum part (held ∷ taken) ≡ part held.size + taken_sum part taken
          → cond b (part held.size) 0 + sum_if (λ row. bytes_eq row.node name) part (taken_rows (added + 1) name taken) ≤ taken_sum part (held ∷ taken)
      by true rest first = omega (arith, rest, first)
      by false rest first = omega (arith, rest, first)

  sum_append : (test : BookRow → Bool) (xs ys : List BookRow) → sum_if test part (xs ++ ys) ≡ sum_if test part xs + sum_if test part ys
  sum_append test [] ys = omega arith
  sum_append test (row ∷ xs) ys = let rest = sum_append test xs ys in omega (arith, rest)

  -- what stays
  stayed_sum : (taken : List Held) (ended : List ContainerId) (rows : List BookRow)
      → All (λ row. bytes_eq row.node name ≡ true → is_held taken row.id ≡ false → list_any (λ id. is_container id row.id) ended ≡ true) rows
      → sum_if (λ row. bytes_eq row.node name) part (map (book_row_taken taken) (filter (λ row. not (list_any (λ id. is_container id row.id) ended)) rows)) ≤ sum_if (is_there taken) part rows
  stayed_sum taken ended [] all = omega arith
  stayed_sum taken ended (row ∷ rows) all = by (list_any (λ id. is_container id row.id) ended) refl (stayed_sum taken ended rows all.1)
    where
      stays : List BookRow
      stays = map (book_row_taken taken) (filter (λ one. not (list_any (λ id. is_container id one.id) ended)) rows)

      kept : (h : Bool) → cond (bytes_eq (cond h (record row { state = Running }) row).node name) (part (cond h (record row { state = Running }) row).size) 0 ≡ cond (bytes_eq row.node name) (part row.size) 0
      kept true = refl
      kept false = refl

      more : (a h : Bool) → (a ≡ true → h ≡ false → ⊥) → cond a (part row.size) 0 ≤ cond (a && h) (part row.size) 0
      more true true never = omega arith
      more true false never = absurd (never refl refl)
      more false h never = omega arith

      by : (b : Bool) → list_any (λ id. is_container id row.id) ended ≡ b → sum_if (λ one. bytes_eq one.node name) part stays ≤ sum_if (is_there taken) part rows
          → sum_if (λ one. bytes_eq one.node name) part (map (book_row_taken taken) (filter (λ one. not (list_any (λ id. is_container id one.id) ended)) (row ∷ rows))) ≤ sum_if (is_there taken) part (row ∷ rows)
      by true e rest = rw e (omega (arith, rest))
      by false e rest =
          let same = kept (is_held taken row.id) in
          let less = more (bytes_eq row.node name) (is_held taken row.id) (λ on none. false≢true (sym e ∙ all.0 on none)) in
          rw e (omega (arith, rest, same, less))

-- WHAT ENDS

-- the container is one of these
abbrev has : List ContainerId → ContainerId → Bool
has ids id = list_any (λ one. is_container one id) ids

module _ (name : List ℕ) (taken : List Held) where
  -- the containers on the node that aren't taken
  abbrev others : List BookRow → List ContainerId
  others rows = filter (λ id. not (is_held taken id)) (map (λ row. row.id) (filter (λ row. bytes_eq row.node name) rows))

  others_more : (row : BookRow) (rows : List BookRow) (id : ContainerId) → has (others rows) id ≡ true → has (others (row ∷ rows)) id ≡ true
  others_more row rows id there = by (bytes_eq row.node name) refl
    where
      or_true : (b : Bool) → (b || true) ≡ true
      or_true true = refl
      or_true false = refl

      at : (c : Bool) → not (is_held taken row.id) ≡ c → has (cond c (row.id ∷ others rows) (others rows)) id ≡ true
      at true f = rw there (or_true (is_container row.id id))
      at false f = there

      by : (b : Bool) → bytes_eq row.node name ≡ b → has (others (row ∷ rows)) id ≡ true
      by true e = rw e (at (not (is_held taken row.id)) refl)
      by false e = rw e there

  others_here : (row : BookRow) (rows : List BookRow) → bytes_eq row.node name ≡ true → is_held taken row.id ≡ false → has (others (row ∷ rows)) row.id ≡ true
  others_here row rows on none = let own : is_container row.id row.id ≡ true = grind (arith, nat_tests) in rw (on, none, own) refl

  all_others : (rows : List BookRow) → All (λ row. bytes_eq row.node name ≡ true → is_held taken row.id ≡ false → has (others rows) row.id ≡ true) rows
  all_others [] = tt
  all_others (row ∷ rows) = (others_here row rows, raised rows (all_others rows))
    where
      raised : (list : List BookRow) → All (λ one. bytes_eq one.node name ≡ true → is_held taken one.id ≡ false → has (others rows) one.id ≡ true) list
          → All (λ one. bytes_eq one.node name ≡ true → is_held taken one.id ≡ false → has (others (row ∷ rows)) one.id ≡ true) list
      raised [] all = tt
      raised (one ∷ list) all = ((λ on none. others_more row rows one.id (all.0 on none)), raised list all.1)

  all_end_then : (rows : List BookRow) (ended : List ContainerId) → Ascend (others rows) ended
      → All (λ row. bytes_eq row.node name ≡ true → is_held taken row.id ≡ false → list_any (λ id. is_container id row.id) ended ≡ true) rows
  all_end_then rows ended ends = by rows (all_others rows)
    where
      by : (list : List BookRow) → All (λ one. bytes_eq one.node name ≡ true → is_held taken one.id ≡ false → has (others rows) one.id ≡ true) list
          → All (λ row. bytes_eq row.node name ≡ true → is_held taken row.id ≡ false → list_any (λ id. is_container id row.id) ended ≡ true) list
      by [] all = tt
      by (one ∷ list) all = ((λ on none. sym (list_any-IsPermutation (λ (id : ContainerId). is_container id one.id) (others rows) ended ends.same) ∙ all.0 on none), by list all.1)

-- ALL OF IT

-- what stands on a node after its report is absorbed is no more than what was taken
absorbed_sum : (t : Tables) (name : List ℕ) (row : NodeRow) (taken : List Held) (ended : List ContainerId) (part : Resource → ℕ) → IsGrowing part → BookRowsAreApart t.book.rows → All (IsSized t.book.rows name) taken
    → Ascend (book_not_taken t.book name taken) ended → sum_by part (sizes_on name (book_with_taken t.book name row.capability taken ended).rows) ≤ taken_sum part taken
absorbed_sum t name row taken ended part grows apart sized ends =
    let stays : List BookRow = map (book_row_taken taken) (filter (λ one. not (list_any (λ id. is_container id one.id) ended)) t.book.rows) in
    let enters : List BookRow = taken_rows t.book.added name (entering t.book taken) in
    let whole = on_sum name part (stays ++ enters) in
    let both = sum_append name part (λ (one : BookRow). bytes_eq one.node name) stays enters in
    let first : sum_if (λ (one : BookRow). bytes_eq one.node name) part stays ≤ sum_if (is_there name part taken) part t.book.rows = stayed_sum name part taken ended t.book.rows (all_end_then name taken t.book.rows ended ends) in
    let second : sum_if (λ (one : BookRow). bytes_eq one.node name) part enters ≤ taken_sum part (entering t.book taken) = entered_sum name part t.book.added (entering t.book taken) in
    let all : sum_if (is_there name part taken) part t.book.rows + taken_sum part (entering t.book taken) ≤ taken_sum part taken = all_of_taken name part grows t.book.rows taken apart sized in
    omega (arith, whole, both, first, second, all)

-- a part of nothing is nothing
bare_rows : (name : List ℕ) (rows : List BookRow) → Fits (total_on name rows) (record { memory_mb = 0; vcores = 0 }) → All (IsBare name) rows
bare_rows name [] fit = tt
bare_rows name (row ∷ rows) fit = by (bytes_eq row.node name) refl (bare_rows name rows)
  where
    by : (b : Bool) → bytes_eq row.node name ≡ b → (Fits (total_on name rows) (record { memory_mb = 0; vcores = 0 }) → All (IsBare name) rows) → All (IsBare name) (row ∷ rows)
    by true e rest =
        let all : Fits (total_of (row.size ∷ sizes_on name rows)) (record { memory_mb = 0; vcores = 0 }) = rw e at fit in
        let memory = sum_by-cons (λ (r : Resource). r.memory_mb) row.size (sizes_on name rows) in
        let cores = sum_by-cons (λ (r : Resource). r.vcores) row.size (sizes_on name rows) in
        ((λ on. (omega (arith, all, memory), omega (arith, all, cores))), rest (omega (arith, all, memory), omega (arith, all, cores)))
    by false e rest = ((λ on. absurd (false≢true (sym e ∙ on))), rest (rw e at fit))

-- so it is in each book
none_stand : (t : Tables) (name : List ℕ) → IsBook t.book → NoneStand t name
none_stand t name book none = bare_rows name t.book.rows (let fit = book.fit name in rw none at fit)

taken_well : (t : Tables) (name : List ℕ) (row : NodeRow) → IsBook t.book → IsTaken t.book.rows name row.capability (taken_in t name row)
taken_well t name row book =
    all_taken t name row.capability row.running [] (counted_sized t name row.capability (none_stand t name book)) (record { once = tt; fit = (omega arith, omega arith); sized = tt })

-- the report of any node may be absorbed
pub absorbable : (t : Tables) → IsBook t.book → CanAbsorb t
absorbable t book = record {
  once = λ name row found. (taken_well t name row book).once;
  fit = λ name row ended found ends.
      let well = taken_well t name row book in
      let memory = absorbed_sum t name row (taken_in t name row) ended (λ r. r.memory_mb) (λ a b h. h.0) book.apart well.sized ends in
      let cores = absorbed_sum t name row (taken_in t name row) ended (λ r. r.vcores) (λ a b h. h.1) book.apart well.sized ends in
      let fit = well.fit in
      (omega (arith, memory, fit), omega (arith, cores, fit));
}
