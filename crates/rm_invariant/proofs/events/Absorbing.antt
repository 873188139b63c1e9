-- The report of a node is absorbed: the tables agree with the judge's life again.
use Rattle.rm_invariant.proofs.Common.{◌≡◌, ℕ, ◌+◌, List, [], ◌∷◌, ◌++◌, Bool, true, false, not, ◌&&◌, Some, Option, map, filter, refl, sym, ◌∙◌, ap, subst, if◌then◌else◌, list_any, list_all, bytes_eq, map-append, and_parts, BookRow, Running, Held, ContainerId, Resource, is_container, text_itself, BookOf, capability_of, entering, has_row, book_row_taken, taken_rows, book_with_taken, without_rows, is_held, absorbed, absorbs, row_absorbed, is_living, leave, without_launches, has_app, has_container, Row, Scene, is_waiting_row, Absorb, NodeRow, Tables, absorbed_with, unlaunched_on, closings_of, unlaunched, changed_row, node_row, with_node, PlainNode, PlainRow, SameNodes, SameRows, bare_row, bare_node, plain_row, plain_node, tidied_same}
use Rattle.std.specs.Prelude.{option_map}
use Rattle.rm_types.specs.declared.containers.Cause.TheVariants.{Gone}
use Rattle.rm_book.proofs.Lists.{any_view, map_view}
use Rattle.rm_book.proofs.Nodes.{capability_in-with_capability}
use Rattle.rm_model.specs.Absorbing.{book_taken, row_taken as row_taken_told}
use Rattle.rm_model.specs.Nodes.{judged_node as node_told, with_judged_node as with_told}
use Rattle.rm_model.specs.State.{NodeState, Ready}
use Rattle.rm_states.specs.declared.node.states.NodeState.{NodeState as NodePhase}
use Rattle.rm_states.specs.declared.node.states.NodeState.TheVariants as states
use Rattle.rm_refinement.proofs.Nodes.{changed_same}
use Rattle.rm_invariant.proofs.masters.Leaving.{living_filter}
use Rattle.rm_invariant.specs.events.Refines.{Refines}
use Rattle.rm_invariant.specs.events.Here.{LaunchesHere, RowsKnow, are_containers_on}
use Rattle.rm_invariant.proofs.events.Ended.{closings_left, rows_left}
use Rattle.rm_invariant.proofs.events.Launches.{all_here, launches_same, row_without, these_left}
use Rattle.rm_invariant.proofs.events.Told.{masters_agree}
use Rattle.rm_invariant.specs.masters.Sound.{RecordsAreSound}

-- none of these was taken
abbrev pub none_taken : List ContainerId → List Held → Bool
none_taken ended taken = list_all (λ held. not (has_container ended held.id)) taken

-- CONTAINERS

-- what was taken runs
rows_run : (taken : List Held) (rows : List BookRow) (book : List Row) → SameRows rows book → SameRows (map (book_row_taken taken) rows) (map (row_taken_told taken) book)
rows_run taken rows book same =
    map_view bare_row (book_row_taken taken) change in_tables rows ∙ ap (map change) same ∙ sym (map_view plain_row (row_taken_told taken) change in_life book)
  where
    change : PlainRow → PlainRow
    change row = if is_held taken row.id then record row { state = Running } else row

    in_tables : (row : BookRow) → bare_row (book_row_taken taken row) ≡ change (bare_row row)
    in_tables row = by (is_held taken row.id) refl
      where
        by : (b : Bool) → is_held taken row.id ≡ b → bare_row (book_row_taken taken row) ≡ change (bare_row row)
        by true e = rw e refl
        by false e = rw e refl

    in_life : (row : Row) → plain_row (row_taken_told taken row) ≡ change (plain_row row)
    in_life row = by (is_held taken row.id) refl
      where
        by : (b : Bool) → is_held taken row.id ≡ b → plain_row (row_taken_told taken row) ≡ change (plain_row row)
        by true e = rw e refl
        by false e = rw e refl

-- what enters, enters alike
rows_enter : (added : ℕ) (name : List ℕ) (taken : List Held) → map bare_row (taken_rows added name taken) ≡ map plain_row (map (row_absorbed name) taken)
rows_enter added name [] = refl
rows_enter added name (held ∷ taken) = ap (λ l. record { id = held.id; node = name; size = held.size; state = Running } ∷ l) (rows_enter (added + 1) name taken)

-- and the same ones enter
same_enter : (book : BookOf) (told : List Row) (ended : List ContainerId) (taken : List Held) → SameRows book.rows told → none_taken ended taken ≡ true
    → entering book taken ≡ filter (λ held. not (is_living (filter (λ row. not (has_container ended row.id)) told) held.id)) taken
same_enter book told ended [] same none = refl
same_enter book told ended (held ∷ taken) same none = by (has_row book held.id) refl (same_enter book told ended taken same parts.1)
  where
    parts : (not (has_container ended held.id) ≡ true) × (none_taken ended taken ≡ true)
    parts = and_parts (not (has_container ended held.id)) (none_taken ended taken) none

    lives : has_row book held.id ≡ is_living told held.id
    lives =
        any_view bare_row (λ (row : PlainRow). is_container row.id held.id) book.rows
        ∙ ap (list_any (λ (row : PlainRow). is_container row.id held.id)) same
        ∙ sym (any_view plain_row (λ (row : PlainRow). is_container row.id held.id) told)

    and_true : (b : Bool) → (b && true) ≡ b
    and_true true = refl
    and_true false = refl

    still : is_living (filter (λ row. not (has_container ended row.id)) told) held.id ≡ has_row book held.id
    still = living_filter ended told held.id ∙ rw parts.0 (and_true (is_living told held.id)) ∙ sym lives

    by : (b : Bool) → has_row book held.id ≡ b → entering book taken ≡ filter (λ one. not (is_living (filter (λ row. not (has_container ended row.id)) told) one.id)) taken
        → entering book (held ∷ taken) ≡ filter (λ one. not (is_living (filter (λ row. not (has_container ended row.id)) told) one.id)) (held ∷ taken)
    by true e rest = let f = still ∙ e in rw (e, f) rest
    by false e rest = let f = still ∙ e in rw (e, f) (ap (λ l. held ∷ l) rest)

-- the same containers live again
pub rows_absorbed : (book : BookOf) (told : List Row) (name : List ℕ) (capability : Resource) (taken : List Held) (ended : List ContainerId) → SameRows book.rows told → none_taken ended taken ≡ true
    → SameRows (book_with_taken book name capability taken ended).rows (book_taken name taken (filter (λ row. not (has_container ended row.id)) told))
rows_absorbed book told name capability taken ended same none =
    let left : List Row = filter (λ row. not (has_container ended row.id)) told in
    let stay : List BookRow = filter (λ row. not (list_any (λ id. is_container id row.id) ended)) book.rows in
    map-append bare_row (map (book_row_taken taken) stay) (taken_rows book.added name (entering book taken))
    ∙ ap (λ l. l ++ map bare_row (taken_rows book.added name (entering book taken))) (rows_run taken stay left (rows_left book.rows told ended same))
    ∙ ap (λ l. map plain_row (map (row_taken_told taken) left) ++ l)
    (rows_enter book.added name (entering book taken) ∙ ap (λ (l : List Held). map plain_row (map (row_absorbed name) l)) (same_enter book told ended taken same none))
    ∙ sym (map-append plain_row (map (row_taken_told taken) left) (map (row_absorbed name) (filter (λ held. not (is_living left held.id)) taken)))

-- NODES

-- a node that waits
waiting_is : (s : NodePhase) → is_waiting_row s ≡ true → s ≡ states.Waiting
waiting_is states.Waiting e = refl
waiting_is _ e = cc

module _ (book : BookOf) (name : List ℕ) (row : NodeRow) (taken : List Held) (ended : List ContainerId) where
  abbrev now : BookOf
  now = book_with_taken book name row.capability taken ended

  others_offer : (q : List ℕ) → bytes_eq name q ≡ false → capability_of now q ≡ capability_of book q
  others_offer q other = capability_in-with_capability name q row.capability book.nodes ∙ rw other refl

  offers : capability_of now name ≡ Some row.capability
  offers = let own = text_itself name in capability_in-with_capability name name row.capability book.nodes ∙ rw own refl

  -- the same nodes are there again
  pub nodes_absorbed : is_waiting_row row.state ≡ true → (nodes : List (List ℕ × NodeRow)) (told : List NodeState) → SameNodes book nodes told → LaunchesHere book nodes → node_row nodes name ≡ Some row → are_containers_on book name ended ≡ true
      → SameNodes now (with_node (changed_row Absorb) name (unlaunched_on name nodes ended)) (with_told absorbed name (map (without_launches ended) told))
  nodes_absorbed waits nodes told same here found on =
      subst (λ (left : List (List ℕ × NodeRow)). SameNodes now (with_node (changed_row Absorb) name left) (with_told absorbed name (map (without_launches ended) told))) (sym (all_here book name ended nodes on))
      (changed_same (without_rows book ended) now name (changed_row Absorb) absorbed (unlaunched book nodes ended) (map (without_launches ended) told) (λ one. refl) others_offer
      (launches_same book nodes told ended same here) change)
    where
      change : (r : NodeRow) (node : NodeState) → node_row (unlaunched book nodes ended) name ≡ Some r → node_told (map (without_launches ended) told) name ≡ Some node
          → bare_node (without_rows book ended) name r ≡ plain_node node → bare_node now name (changed_row Absorb r) ≡ plain_node (absorbed node)
      change r node a b alike =
          let left : node_row (unlaunched book nodes ended) name ≡ Some (row_without ended row) = these_left book name ended nodes (here name) ∙ ap (option_map (row_without ended)) found in
          let own : row_without ended row ≡ r = let x = sym left ∙ a in cc in
          let offered : capability_of now name ≡ Some r.capability = offers ∙ ap (λ (one : NodeRow). Some one.capability) own in
          let waiting : r.state ≡ states.Waiting = ap (λ (one : NodeRow). one.state) (sym own) ∙ waiting_is row.state waits in
          ap (λ (c : Option Resource). record (bare_node now name (changed_row Absorb r)) { capability = c }) offered
          ∙ rw waiting (ap (λ (x : PlainNode). record x { phase = Ready; capability = Some x.last.capability }) alike)

-- ALL OF IT

module _ (m : Scene) (t : Tables) (recorded : m.records ≡ t.tree) (same : Refines m.life t) (know : RowsKnow t) (each : RecordsAreSound t.tree.apps) (here : LaunchesHere t.book t.nodes) (name : List ℕ) (row : NodeRow)
    (found : node_row t.nodes name ≡ Some row) (taken : List Held) (ended : List ContainerId) where
  -- the tables agree with the life after an absorption
  pub absorbed_agrees : is_waiting_row row.state ≡ true → are_containers_on t.book name ended ≡ true → none_taken ended taken ≡ true → Refines (absorbs m name taken ended) (absorbed_with name row.capability taken ended t)
  absorbed_agrees waits on none =
      record {
        rows = rows_absorbed t.book m.life.book name row.capability taken ended same.rows none;
        nodes =
            tidied_same (book_with_taken t.book name row.capability taken ended) (with_node (changed_row Absorb) name (unlaunched_on name t.nodes ended))
            (book_taken name taken (leave m Gone ended).book) (with_told absorbed name (leave m Gone ended).nodes)
            (nodes_absorbed t.book name row taken ended waits t.nodes m.life.nodes same.nodes here found on);
        asks = same.asks;
        closings = closings_left m t recorded same know each Gone ended;
        masters = λ attempt. masters_agree m.life.masters.registered m.life.granted (has_app m.life.apps.retired attempt.app) attempt (closings_of t.tree.apps Gone ended) t.rows (same.masters attempt);
      }
