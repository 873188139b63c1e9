-- What holds of the fields of a book after each call.
use Rattle.rm_book.proofs.Common.{◌≡◌, ℕ, ◌+◌, Bool, true, false, cond, List, [], ◌∷◌, ◌++◌, Option, None, Some, IfSome, filter, map, find, refl, sym, ap, subst, ◌∙◌, unwrap_or, arith, list_any, sum_by, lookup, option_map, bytes_eq, BookRow, ContainerState, Acquired, Running, Grant, Held, ContainerId, Resource, total_of, Fits, difference_of, same_container, Run, Tell, next_container_state, inl, inr, cases_Bool}
use Rattle.std.proofs.Common.{◌-◌}
use Rattle.rm_book.specs.declared.node_table.NodeLoad.{NodeLoad}
use Rattle.rm_book.specs.Books.{BookRowsAreApart, AreLiving, BookOf, TellUpTo, capability_in, capability_or_none, free_on, is_living_state, is_of, sizes_of, sizes_on, total_on}
use Rattle.rm_book.specs.Granted.{may_be_told}
use Rattle.rm_book.specs.Kept.{AreUsed, ShowsBook, IsSum, FitsCapability, entered_rows, held_of, nodes_shown, sum_with, used_in}
use Rattle.rm_book.proofs.Batch.{entered_elsewhere, entered_sizes}
use Rattle.rm_book.proofs.Changes.{acquires, book_left, fits_known, runs}
use Rattle.rm_book.proofs.Kept.{apart_changed}
use Rattle.rm_book.proofs.LeavingSteps.{stepped}
use Rattle.rm_book.proofs.Loads.{capability_shown}
use Rattle.rm_book.proofs.Rows.{sum_joined, sum_push}
use Rattle.rm_book.proofs.Splits.{map_none}

abbrev Loads : Type 0
Loads = List (List ℕ × NodeLoad)

-- the book that is seen
abbrev pub seen : Loads → List BookRow → ℕ → BookOf
seen loads rows added = record { rows = rows; nodes = nodes_shown loads; added = added }

resource_of_parts : (a b : Resource) → a.memory_mb ≡ b.memory_mb → a.vcores ≡ b.vcores → a ≡ b
resource_of_parts a b p q =
    let make : ℕ → ℕ → Resource = λ memory_mb vcores. record { memory_mb = memory_mb; vcores = vcores } in
    ap (λ (m : ℕ). make m a.vcores) p ∙ ap (make b.memory_mb) q

-- on each node stands what stood there, and on one so much more
pub record AreRaised (rows more : List BookRow) (node : List ℕ) (size : Resource) : Type 0 where
  pub memory : (other : List ℕ) → (total_on other more).memory_mb ≡ (total_on other rows).memory_mb + cond (bytes_eq node other) size.memory_mb 0
  pub cores : (other : List ℕ) → (total_on other more).vcores ≡ (total_on other rows).vcores + cond (bytes_eq node other) size.vcores 0

module _ {loads : Loads} {rows : List BookRow} {added : ℕ} (kept : ShowsBook loads rows added) where
  known : (node : List ℕ) (load : NodeLoad) → lookup (bytes_eq node) loads ≡ Some load → capability_in (nodes_shown loads) node ≡ Some load.capability
  known node load at = capability_shown node loads ∙ ap (option_map (λ one. one.capability)) at

  load_within : (node : List ℕ) (load : NodeLoad) → lookup (bytes_eq node) loads ≡ Some load → FitsCapability load
  load_within node load at =
      let u : IsSum load.used (total_on node rows) = rw at at (kept.used node) in
      let fits = fits_known (seen loads rows added) node load.capability kept.book (known node load at) in
      (omega (arith, u.0, fits.0), omega (arith, u.1, fits.1))

  -- what stands on a node fits it
  pub within_kept : (node : List ℕ) → IfSome (lookup (bytes_eq node) loads) FitsCapability
  within_kept node = by (lookup (bytes_eq node) loads) refl
    where
      by : (o : Option NodeLoad) → lookup (bytes_eq node) loads ≡ o → IfSome (lookup (bytes_eq node) loads) FitsCapability
      by None e = rw e tt
      by (Some load) e = rw e (load_within node load e)

  pub load_kept : (node : List ℕ) (load : NodeLoad) → Some load ≡ lookup (bytes_eq node) loads → FitsCapability load
  load_kept node load at = load_within node load (sym at)

  -- what is left of it
  pub free_kept : (node : List ℕ) (load : NodeLoad) (free : Resource) → Some load ≡ lookup (bytes_eq node) loads → free.memory_mb ≡ load.capability.memory_mb - load.used.memory_mb
      → free.vcores ≡ load.capability.vcores - load.used.vcores → Some free ≡ free_on (seen loads rows added) node
  free_kept node load free at m c =
      let u : IsSum load.used (total_on node rows) = rw (sym at) at (kept.used node) in
      let is : free ≡ difference_of load.capability (total_on node rows) =
      resource_of_parts free (difference_of load.capability (total_on node rows)) (m ∙ ap (λ n. load.capability.memory_mb - n) u.0) (c ∙ ap (λ n. load.capability.vcores - n) u.1) in
      ap Some is ∙ sym (ap (option_map (λ capability. difference_of capability (total_on node rows))) (known node load (sym at)))

  pub no_free : (node : List ℕ) → None ≡ lookup (bytes_eq node) loads → None ≡ free_on (seen loads rows added) node
  no_free node at =
      sym (ap (option_map (λ capability. difference_of capability (total_on node rows))) (capability_shown node loads ∙ ap (option_map (λ one. one.capability)) (sym at)))

  -- where no capability is set, nothing stands
  nothing : (node : List ℕ) → lookup (bytes_eq node) loads ≡ None → Fits (total_on node rows) (record { memory_mb = 0; vcores = 0 })
  nothing node at =
      subst (λ (o : Option Resource). Fits (total_on node rows) (unwrap_or o (record { memory_mb = 0; vcores = 0 })))
      (capability_shown node loads ∙ ap (option_map (λ one. one.capability)) at) (kept.book.fit node)

  -- what is said to stand on each node after more enters on one
  module _ (new : Loads) {more : List BookRow} {node : List ℕ} {size : Resource} (sums : AreRaised rows more node size) where
    pub used_raised : ((other : List ℕ) → lookup (bytes_eq other) new ≡ option_map (λ load. cond (bytes_eq node other) (record load { used = sum_with load.used size }) load) (lookup (bytes_eq other) loads))
        → AreUsed new more
    used_raised set other = by (lookup (bytes_eq other) loads) refl
      where
        raised : (load : NodeLoad) (b : Bool) → bytes_eq node other ≡ b → IsSum load.used (total_on other rows)
            → IsSum (cond b (record load { used = sum_with load.used size }) load).used (total_on other more)
        raised load true e u =
            let m = rw e at (sums.memory other) in
            let c = rw e at (sums.cores other) in
            (omega (arith, u.0, m), omega (arith, u.1, c))
        raised load false e u =
            let m = rw e at (sums.memory other) in
            let c = rw e at (sums.cores other) in
            (omega (arith, u.0, m), omega (arith, u.1, c))

        by : (o : Option NodeLoad) → lookup (bytes_eq other) loads ≡ o → IfSome (lookup (bytes_eq other) new) (λ load. IsSum load.used (total_on other more))
        by None e = let s = rw e at (set other) in rw s tt
        by (Some load) e =
            let s = rw e at (set other) in
            let u : IsSum load.used (total_on other rows) = rw e at (kept.used other) in
            rw s (raised load (bytes_eq node other) refl u)

    pub used_set : (capability : Resource)
        → ((other : List ℕ) → lookup (bytes_eq other) new ≡ cond (bytes_eq node other) (Some (record { capability = capability; used = sum_with (used_in (lookup (bytes_eq other) loads)) size })) (lookup (bytes_eq other) loads))
        → AreUsed new more
    used_set capability set other = by (bytes_eq node other) (lookup (bytes_eq other) loads) refl refl
      where
        by : (b : Bool) (o : Option NodeLoad) → bytes_eq node other ≡ b → lookup (bytes_eq other) loads ≡ o → IfSome (lookup (bytes_eq other) new) (λ load. IsSum load.used (total_on other more))
        by true None e f =
            let s = rw (e, f) at (set other) in
            let n = nothing other f in
            let m = rw e at (sums.memory other) in
            let c = rw e at (sums.cores other) in
            rw s (omega (arith, n.0, m), omega (arith, n.1, c))
        by true (Some load) e f =
            let s = rw (e, f) at (set other) in
            let u : IsSum load.used (total_on other rows) = rw f at (kept.used other) in
            let m = rw e at (sums.memory other) in
            let c = rw e at (sums.cores other) in
            rw s (omega (arith, u.0, m), omega (arith, u.1, c))
        by false None e f = let s = rw (e, f) at (set other) in rw s tt
        by false (Some load) e f =
            let s = rw (e, f) at (set other) in
            let u : IsSum load.used (total_on other rows) = rw f at (kept.used other) in
            let m = rw e at (sums.memory other) in
            let c = rw e at (sums.cores other) in
            rw s (omega (arith, u.0, m), omega (arith, u.1, c))

-- the sums with what enters on a node
sums_entered : (rows : List BookRow) (state : ContainerState) (added : ℕ) (node : List ℕ) (list : List Held) (part : Resource → ℕ) (other : List ℕ)
    → sum_by part (sizes_on other (rows ++ entered_rows state added node list)) ≡ sum_by part (sizes_on other rows) + cond (bytes_eq node other) (sum_by part (map (λ held. held.size) list)) 0
sums_entered rows state added node list part other = sum_joined part other rows (entered_rows state added node list) ∙ by (bytes_eq node other) refl
  where
    by : (b : Bool) → bytes_eq node other ≡ b → sum_by part (sizes_on other rows) + sum_by part (sizes_on other (entered_rows state added node list))
        ≡ sum_by part (sizes_on other rows) + cond (bytes_eq node other) (sum_by part (map (λ held. held.size) list)) 0
    by true e = rw (e, entered_sizes state added node other list e) refl
    by false e = rw (e, entered_elsewhere state added node other list e) refl

-- so it is where a list of containers entered on the node
pub raised_by_list : {rows more : List BookRow} {node : List ℕ} {size : Resource} (state : ContainerState) (added : ℕ) (list : List Held)
    → more ≡ rows ++ entered_rows state added node list → size ≡ total_of (map (λ held. held.size) list) → AreRaised rows more node size
raised_by_list {rows} {more} {node} {size} state added list entered total =
    let sums : AreRaised rows (rows ++ entered_rows state added node list) node (total_of (map (λ held. held.size) list)) = record {
      memory = sums_entered rows state added node list (λ one. one.memory_mb);
      cores = sums_entered rows state added node list (λ one. one.vcores);
    } in
    rw (entered, total) sums

-- where one row was added
pub raised_by_one : {rows more : List BookRow} (one : BookRow) → more ≡ rows ++ one ∷ [] → AreRaised rows more one.node one.size
raised_by_one {rows} {more} one added =
    let sums : AreRaised rows (rows ++ one ∷ []) one.node one.size = record {
      memory = λ other. sum_push (λ size. size.memory_mb) other rows one;
      cores = λ other. sum_push (λ size. size.vcores) other rows one;
    } in
    rw added sums

-- and where nothing entered
pub raised_by_none : (rows : List BookRow) (node : List ℕ) → AreRaised rows rows node (record { memory_mb = 0; vcores = 0 })
raised_by_none rows node = record {
  memory = λ other. no_more (bytes_eq node other) (total_on other rows).memory_mb;
  cores = λ other. no_more (bytes_eq node other) (total_on other rows).vcores;
}
  where
    no_more : (b : Bool) (n : ℕ) → n ≡ n + cond b 0 0
    no_more true n = omega arith
    no_more false n = omega arith

pub sizes_held : (grants : List Grant) → map (λ held. held.size) (map held_of grants) ≡ sizes_of grants
sizes_held [] = refl
sizes_held (grant ∷ grants) = ap (λ more. grant.size ∷ more) (sizes_held grants)

-- rows that stand where they stood
pub used_same : (loads : Loads) (rows same : List BookRow) → AreUsed loads rows → ((node : List ℕ) → sizes_on node same ≡ sizes_on node rows) → AreUsed loads same
used_same loads rows same used sizes node = subst (λ (l : List Resource). IfSome (lookup (bytes_eq node) loads) (λ load. IsSum load.used (total_of l))) (sym (sizes node)) (used node)

-- after rows left
pub left_kept : {loads new : Loads} {rows : List BookRow} {added : ℕ} (test : BookRow → Bool) {left : List BookRow} → ShowsBook loads rows added → nodes_shown new ≡ nodes_shown loads
    → left ≡ filter test rows → AreUsed new left → ShowsBook new left added
left_kept {loads} {new} {rows} {added} test kept same is used = record {
  book = rw (same, is) (book_left (seen loads rows added) test kept.book);
  used = used;
}

-- a container in another state
module _ (id : ContainerId) (state : ContainerState) where
  abbrev pub in_state : List BookRow → List BookRow
  in_state rows = map (λ row. cond (is_of id row) (record row { state = state }) row) rows

  living_in : is_living_state state ≡ true → (rows : List BookRow) → AreLiving rows → AreLiving (in_state rows)
  living_in lives [] living = tt
  living_in lives (row ∷ rows) living = (by (is_of id row), living_in lives rows living.1)
    where
      by : (b : Bool) → is_living_state (cond b (record row { state = state }) row).state ≡ true
      by true = lives
      by false = living.0

  told_in : (least added : ℕ) (rows : List BookRow) → TellUpTo least added rows → TellUpTo least added (in_state rows)
  told_in least added [] told = told
  told_in least added (row ∷ rows) told = by (is_of id row) (told_in row.told added rows told.1)
    where
      by : (b : Bool) → TellUpTo row.told added (in_state rows) → TellUpTo least added (cond b (record row { state = state }) row ∷ in_state rows)
      by true rest = (told.0, rest)
      by false rest = (told.0, rest)

  sizes_in : (node : List ℕ) (rows : List BookRow) → sizes_on node (in_state rows) ≡ sizes_on node rows
  sizes_in node [] = refl
  sizes_in node (row ∷ rows) = by (is_of id row) (bytes_eq row.node node) refl (sizes_in node rows)
    where
      by : (b t : Bool) → bytes_eq row.node node ≡ t → sizes_on node (in_state rows) ≡ sizes_on node rows
          → sizes_on node (cond b (record row { state = state }) row ∷ in_state rows) ≡ sizes_on node (row ∷ rows)
      by true true e rest = rw e (ap (λ more. row.size ∷ more) rest)
      by true false e rest = rw e rest
      by false true e rest = rw e (ap (λ more. row.size ∷ more) rest)
      by false false e rest = rw e rest

  state_kept : (loads : Loads) (rows : List BookRow) (added : ℕ) → is_living_state state ≡ true → ShowsBook loads rows added → ShowsBook loads (in_state rows) added
  state_kept loads rows added lives kept = record {
    book = record {
      apart = apart_changed id (λ row. record row { state = state }) (λ row. refl) rows kept.book.apart;
      living = living_in lives rows kept.book.living;
      told = told_in 0 added rows kept.book.told;
      fit = λ node. subst (λ (l : List Resource). Fits (total_of l) (capability_or_none (nodes_shown loads) node)) (sym (sizes_in node rows)) (kept.book.fit node);
    };
    used = used_same loads rows (in_state rows) kept.used (λ node. sizes_in node rows);
  }

ran_rows : (id : ContainerId) (rows : List BookRow) → AreLiving rows → stepped id rows ≡ in_state id Running rows
ran_rows id [] living = refl
ran_rows id (row ∷ rows) living = by (is_of id row) (ran_rows id rows living.1)
  where
    by : (b : Bool) → stepped id rows ≡ in_state id Running rows
        → cond b (record row { state = next_container_state row.state Run }) row ∷ stepped id rows ≡ cond b (record row { state = Running }) row ∷ in_state id Running rows
    by true rest = rw (runs row.state living.0) (ap (λ more. record row { state = Running } ∷ more) rest)
    by false rest = ap (λ more. row ∷ more) rest

-- the rows after somebody is told of a container
abbrev pub told_of : ContainerId → List BookRow → List BookRow
told_of id rows = map (λ row. cond (is_of id row) (record row { state = next_container_state row.state Tell }) row) rows

told_rows : (id : ContainerId) (rows : List BookRow) → BookRowsAreApart rows → IfSome (find (is_of id) rows) (λ row. may_be_told row.state ≡ true) → told_of id rows ≡ in_state id Acquired rows
told_rows id [] apart may = refl
told_rows id (row ∷ rows) apart may = elim (cases_Bool (is_of id row)) [
  | inl e ↦
      let may' : may_be_told row.state ≡ true = rw e at may in
      let none : list_any (is_of id) rows ≡ false = rw (same_container row.id id e) at apart.0 in
      rw (
        e,
        acquires row.state may',
        map_none (is_of id) (λ row. record row { state = next_container_state row.state Tell }) rows none,
        map_none (is_of id) (λ row. record row { state = Acquired }) rows none,
      ) refl
  | inr e ↦ rw e (ap (λ more. row ∷ more) (told_rows id rows apart.1 (rw e at may)))
]

-- after a container runs, and after somebody is told of it
pub ran_kept : {loads : Loads} {rows new : List BookRow} {added : ℕ} (id : ContainerId) → ShowsBook loads rows added → new ≡ stepped id rows → ShowsBook loads new added × (new ≡ in_state id Running rows)
ran_kept {loads} {rows} {new} {added} id kept is =
    let e : new ≡ in_state id Running rows = is ∙ ran_rows id rows kept.book.living in
    (subst (λ l. ShowsBook loads l added) (sym e) (state_kept id Running loads rows added refl kept), e)

pub told_kept : {loads : Loads} {rows new : List BookRow} {added : ℕ} (id : ContainerId) → ShowsBook loads rows added → IfSome (find (is_of id) rows) (λ row. may_be_told row.state ≡ true)
    → new ≡ told_of id rows → ShowsBook loads new added × (new ≡ in_state id Acquired rows)
told_kept {loads} {rows} {new} {added} id kept may is =
    let e : new ≡ in_state id Acquired rows = is ∙ told_rows id rows kept.book.apart may in
    (subst (λ l. ShowsBook loads l added) (sym e) (state_kept id Acquired loads rows added refl kept), e)
