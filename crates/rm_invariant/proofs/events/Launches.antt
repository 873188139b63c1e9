-- Where containers leave, what is to be launched of them goes at each node: by the tables, one by one and on the node where the book has it;
-- by the judge, at all nodes at once.
use Rattle.rm_invariant.proofs.Common.{◌≡◌, ℕ, List, [], ◌∷◌, Bool, true, false, not, Option, None, Some, filter, map, refl, sym, ◌∙◌, ap, subst, if◌then◌else◌, bytes_eq, false≢true, and_parts, BookRow, ContainerId, is_container, same_container, same_text, BookOf, without_rows, without_launches, has_container, Unlaunch, NodeRow, unlaunched_here, unlaunched_on, unlaunched, unlaunched_at, unlaunched_one, changed_row, node_row, with_node, is_on, PlainNode, SameNodes, bare_node, plain_node, found_each, other_row, own_row}
use Rattle.std.specs.Prelude.{option_map}
use Rattle.rm_types.proofs.IdLemmas.{container_back}
use Rattle.rm_book.specs.Books.{book_row}
use Rattle.rm_book.proofs.Lists.{all_filter}
use Rattle.rm_model.specs.Nodes.{judged_node as node_told}
use Rattle.rm_model.specs.State.{NodeState}
use Rattle.rm_tables.specs.Nodes.{row_without_launch}
use Rattle.rm_invariant.specs.events.Here.{LaunchesHere, are_containers_on}

-- LISTS OF LAUNCHES

-- these without one, and without those
abbrev pub without_one : ContainerId → List ContainerId → List ContainerId
without_one id launches = filter (λ one. not (is_container one id)) launches

abbrev pub without_these : List ContainerId → List ContainerId → List ContainerId
without_these ids launches = filter (λ one. not (has_container ids one)) launches

-- a container that stands elsewhere isn't among those that stand here
pub none_of : (book : BookOf) (name : List ℕ) (id : ContainerId) (launches : List ContainerId) → is_on name (book_row book id) ≡ false → are_containers_on book name launches ≡ true → without_one id launches ≡ launches
none_of book name id [] other here = refl
none_of book name id (one ∷ more) other here = by (is_container one id) refl parts.0 (none_of book name id more other parts.1)
  where
    parts : (is_on name (book_row book one) ≡ true) × (are_containers_on book name more ≡ true)
    parts = and_parts (is_on name (book_row book one)) (are_containers_on book name more) here

    by : (b : Bool) → is_container one id ≡ b → is_on name (book_row book one) ≡ true → without_one id more ≡ more → without_one id (one ∷ more) ≡ one ∷ more
    by true e on rest =
        let same : one ≡ id = same_container one id e in
        let there : is_on name (book_row book id) ≡ true = subst (λ (c : ContainerId). is_on name (book_row book c) ≡ true) same on in
        absurd (false≢true (sym other ∙ there))
    by false e on rest = rw e (ap (λ l. one ∷ l) rest)

-- one more is left out
pub without_more : (id : ContainerId) (ids launches : List ContainerId) → without_these ids (without_one id launches) ≡ without_these (id ∷ ids) launches
without_more id ids [] = refl
without_more id ids (one ∷ more) = by (is_container one id) refl (without_more id ids more)
  where
    by : (b : Bool) → is_container one id ≡ b → without_these ids (without_one id more) ≡ without_these (id ∷ ids) more → without_these ids (without_one id (one ∷ more)) ≡ without_these (id ∷ ids) (one ∷ more)
    by true e rest = let back : is_container id one ≡ true = container_back id one ∙ e in rw (e, back) rest
    by false e rest =
        let back : is_container id one ≡ false = container_back id one ∙ e in
        rw (e, back) (kept (has_container ids one) refl rest)
      where
        kept : (c : Bool) → has_container ids one ≡ c → without_these ids (without_one id more) ≡ without_these (id ∷ ids) more
            → filter (λ a. not (has_container ids a)) (one ∷ without_one id more) ≡ (if not (has_container ids one) then one ∷ without_these (id ∷ ids) more else without_these (id ∷ ids) more)
        kept true f rest = rw f rest
        kept false f rest = rw f (ap (λ l. one ∷ l) rest)

pub without_none : (launches : List ContainerId) → without_these [] launches ≡ launches
without_none [] = refl
without_none (one ∷ more) = ap (λ l. one ∷ l) (without_none more)

-- A NODE OF THE TABLES

-- a row without the launches of these
abbrev pub row_without : List ContainerId → NodeRow → NodeRow
row_without ids row = record row { launches = without_these ids row.launches }

module _ (book : BookOf) (q : List ℕ) where
  -- what it is to launch stands on it
  abbrev Here : List (List ℕ × NodeRow) → Type 0
  Here nodes = (row : NodeRow) → node_row nodes q ≡ Some row → are_containers_on book q row.launches ≡ true

  stays : (id : ContainerId) (nodes : List (List ℕ × NodeRow)) → is_on q (book_row book id) ≡ false → Here nodes → node_row nodes q ≡ option_map (row_without_launch id) (node_row nodes q)
  stays id nodes other here = by (node_row nodes q) here
    where
      by : (o : Option NodeRow) → ((row : NodeRow) → o ≡ Some row → are_containers_on book q row.launches ≡ true) → o ≡ option_map (row_without_launch id) o
      by None all = refl
      by (Some row) all = ap Some (sym (ap (λ (ids : List ContainerId). record row { launches = ids }) (none_of book q id row.launches other (all row refl))))

  -- one leaves
  one_left : (id : ContainerId) (nodes : List (List ℕ × NodeRow)) → Here nodes → node_row (unlaunched_one book nodes id) q ≡ option_map (row_without_launch id) (node_row nodes q)
  one_left id nodes here = by (book_row book id) refl
    where
      there : (row : BookRow) → book_row book id ≡ Some row → (b : Bool) → bytes_eq row.node q ≡ b → node_row (with_node (changed_row (Unlaunch id)) row.node nodes) q ≡ option_map (row_without_launch id) (node_row nodes q)
      there row e true f =
          subst (λ (n : List ℕ). node_row (with_node (changed_row (Unlaunch id)) row.node nodes) n ≡ option_map (row_without_launch id) (node_row nodes n)) (same_text row.node q f)
          (own_row (changed_row (Unlaunch id)) row.node nodes)
      there row e false f =
          let other : is_on q (book_row book id) ≡ false = rw e f in
          other_row (changed_row (Unlaunch id)) row.node q nodes f ∙ stays id nodes other here

      by : (o : Option BookRow) → book_row book id ≡ o → node_row (unlaunched_at o id nodes) q ≡ option_map (row_without_launch id) (node_row nodes q)
      by None e = let other : is_on q (book_row book id) ≡ false = rw e refl in stays id nodes other here
      by (Some row) e = there row e (bytes_eq row.node q) refl

  still_here : (id : ContainerId) (nodes : List (List ℕ × NodeRow)) → Here nodes → Here (unlaunched_one book nodes id)
  still_here id nodes here row found = by (node_row nodes q) refl (sym (one_left id nodes here) ∙ found)
    where
      by : (o : Option NodeRow) → node_row nodes q ≡ o → option_map (row_without_launch id) o ≡ Some row → are_containers_on book q row.launches ≡ true
      by None e is = cc
      by (Some old) e is =
          let same : row_without_launch id old ≡ row = cc in
          subst (λ (r : NodeRow). are_containers_on book q r.launches ≡ true) same (all_filter (λ one. is_on q (book_row book one)) (λ one. not (is_container one id)) old.launches (here old e))

  more_left : (id : ContainerId) (ids : List ContainerId) (o : Option NodeRow) → option_map (row_without ids) (option_map (row_without_launch id) o) ≡ option_map (row_without (id ∷ ids)) o
  more_left id ids None = refl
  more_left id ids (Some row) = ap (λ (l : List ContainerId). Some (record row { launches = l })) (without_more id ids row.launches)

  none_left : (o : Option NodeRow) → o ≡ option_map (row_without []) o
  none_left None = refl
  none_left (Some row) = ap (λ (l : List ContainerId). Some (record row { launches = l })) (sym (without_none row.launches))

  -- these leave, wherever they stand
  pub these_left : (ids : List ContainerId) (nodes : List (List ℕ × NodeRow)) → Here nodes → node_row (unlaunched book nodes ids) q ≡ option_map (row_without ids) (node_row nodes q)
  these_left [] nodes here = none_left (node_row nodes q)
  these_left (id ∷ ids) nodes here =
      these_left ids (unlaunched_one book nodes id) (still_here id nodes here) ∙ ap (option_map (row_without ids)) (one_left id nodes here) ∙ more_left id ids (node_row nodes q)

-- these leave, which all stand on a node
module _ (book : BookOf) (name : List ℕ) where
  one_here : (id : ContainerId) (nodes : List (List ℕ × NodeRow)) → is_on name (book_row book id) ≡ true → unlaunched_one book nodes id ≡ unlaunched_here name nodes id
  one_here id nodes on = by (book_row book id) refl
    where
      by : (o : Option BookRow) → book_row book id ≡ o → unlaunched_at o id nodes ≡ unlaunched_here name nodes id
      by None e = absurd (let x : false ≡ true = rw e at on in false≢true x)
      by (Some row) e = let at_ : bytes_eq row.node name ≡ true = rw e at on in ap (λ (n : List ℕ). with_node (changed_row (Unlaunch id)) n nodes) (same_text row.node name at_)

  pub all_here : (ids : List ContainerId) (nodes : List (List ℕ × NodeRow)) → are_containers_on book name ids ≡ true → unlaunched_on name nodes ids ≡ unlaunched book nodes ids
  all_here [] nodes on = refl
  all_here (id ∷ ids) nodes on =
      let parts = and_parts (is_on name (book_row book id)) (are_containers_on book name ids) on in
      all_here ids (unlaunched_here name nodes id) parts.1 ∙ sym (ap (λ (n : List (List ℕ × NodeRow)). unlaunched book n ids) (one_here id nodes parts.0))

-- BOTH SIDES

-- the tables and the judge have the same nodes again
pub launches_same : (book : BookOf) (nodes : List (List ℕ × NodeRow)) (told : List NodeState) (ids : List ContainerId) → SameNodes book nodes told → LaunchesHere book nodes
    → SameNodes (without_rows book ids) (unlaunched book nodes ids) (map (without_launches ids) told)
launches_same book nodes told ids same here = λ q.
    ap (option_map (bare_node book q)) (these_left book q ids nodes (here q)) ∙ alike q (node_row nodes q) (node_told told q) (same q) ∙ sym (ap (option_map plain_node) (found_each (without_launches ids) q told (λ one. refl)))
  where
    alike : (q : List ℕ) (r : Option NodeRow) (o : Option NodeState) → option_map (bare_node book q) r ≡ option_map plain_node o
        → option_map (bare_node book q) (option_map (row_without ids) r) ≡ option_map plain_node (option_map (without_launches ids) o)
    alike q None None e = refl
    alike q None (Some node) e = cc
    alike q (Some row) None e = cc
    alike q (Some row) (Some node) e =
        let is : bare_node book q row ≡ plain_node node = cc in
        ap (λ (x : PlainNode). Some (record x { launches = without_these ids x.launches })) is
