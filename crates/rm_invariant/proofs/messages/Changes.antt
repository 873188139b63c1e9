-- The book holds after a node joins, changes or beats: what it offers stays, and the containers stand where they stood.
use Rattle.rm_invariant.proofs.Common.{◌≡◌, ℕ, List, [], ◌∷◌, ◌++◌, Bool, true, false, not, ◌&&◌, Option, None, Some, map, refl, ◌∙◌, ap, if◌then◌else◌, list_any, bytes_eq, Acquired, Running, ContainerId, Reply, is_attempt, is_container, ids_on, lives_on, is_granted, has_container, beaten, row_beaten, judged_node, with_judged_node, LifeState, Row}
use Rattle.std.specs.Prelude.{is_some, option_and_then, option_map}
use Rattle.rm_model.specs.State.{NodeState}
use Rattle.rm_refinement.proofs.Found.{KeepsName}
use Rattle.rm_invariant.specs.nodes.Book.{All, LivingRowsAreApart, AreLaunches, BookInvariant, IsAbsorbed, BookRowInvariant}
use Rattle.rm_invariant.proofs.nodes.Holds.{all_append, all_filter, all_map}
use Rattle.rm_invariant.proofs.nodes.Moved.{node_of-map}
use Rattle.rm_invariant.proofs.messages.Answered.{SameHeld}
use Rattle.rm_invariant.proofs.events.Entering.{all_weaker}

-- the book stands as it does
pub same_held : (rows : List Row) → SameHeld rows rows
same_held rows = record { held = λ q. refl; living = λ c. refl }

-- A NODE JOINS

found_more : (nodes more : List NodeState) (name : List ℕ) → IsAbsorbed nodes name → IsAbsorbed (nodes ++ more) name
found_more [] more name h = absurd (let x : false ≡ true = h in cc)
found_more (one ∷ nodes) more name h = by (bytes_eq one.name name) refl (found_more nodes more name)
  where
    by : (b : Bool) → bytes_eq one.name name ≡ b → (IsAbsorbed nodes name → IsAbsorbed (nodes ++ more) name) → IsAbsorbed (one ∷ (nodes ++ more)) name
    by true e rest = rw e (rw e at h)
    by false e rest = rw e (rest (rw e at h))

pub joined_holds : (life : LifeState) (node : NodeState) (more : ContainerId → Type 0) → node.launches ≡ [] → BookInvariant life more → BookInvariant (record life { nodes = life.nodes ++ node ∷ [] }) more
joined_holds life node more none h =
    let now : LifeState = record life { nodes = life.nodes ++ node ∷ [] } in
    record {
      apart = h.apart;
      rows = all_weaker (BookRowInvariant life more) (BookRowInvariant now more) (λ row k. (found_more life.nodes (node ∷ []) row.node k.0, k.1, k.2, k.3)) life.book h.rows;
      left = h.left;
      launches = all_append (AreLaunches life.book) life.nodes (node ∷ []) h.launches (rw none tt, tt);
    }

-- A NODE CHANGES

-- what the nodes offer stays
offers_stay : (f : NodeState → NodeState) → KeepsName f → ((node : NodeState) → (f node).capability ≡ node.capability) → (nodes : List NodeState) (name : List ℕ) → IsAbsorbed nodes name → IsAbsorbed (map f nodes) name
offers_stay f keeps offers nodes name h = rw (node_of-map f keeps nodes name) (by (judged_node nodes name) h)
  where
    by : (o : Option NodeState) → is_some (option_and_then (λ (node : NodeState). node.capability) o) ≡ true → is_some (option_and_then (λ (node : NodeState). node.capability) (option_map f o)) ≡ true
    by None h = h
    by (Some node) h = rw (offers node) h

-- a change of one node
abbrev at_node : (NodeState → NodeState) → List ℕ → NodeState → NodeState
at_node change name node = if bytes_eq node.name name then change node else node

at_node_named : (change : NodeState → NodeState) (name : List ℕ) → KeepsName change → KeepsName (at_node change name)
at_node_named change name keeps node = by (bytes_eq node.name name)
  where
    by : (b : Bool) → (if b then change node else node).name ≡ node.name
    by true = keeps node
    by false = refl

at_node_offers : (change : NodeState → NodeState) (name : List ℕ) → ((node : NodeState) → (change node).capability ≡ node.capability) → (node : NodeState) → (at_node change name node).capability ≡ node.capability
at_node_offers change name offers node = by (bytes_eq node.name name)
  where
    by : (b : Bool) → (if b then change node else node).capability ≡ node.capability
    by true = offers node
    by false = refl

at_node_launches : (P : NodeState → Type 0) (change : NodeState → NodeState) (name : List ℕ) → ((node : NodeState) → P node → P (change node)) → (node : NodeState) → P node → P (at_node change name node)
at_node_launches P change name keeps node h = by (bytes_eq node.name name)
  where
    by : (b : Bool) → P (if b then change node else node)
    by true = keeps node h
    by false = h

pub changed_holds : (life : LifeState) (change : NodeState → NodeState) (name : List ℕ) (more : ContainerId → Type 0) → KeepsName change → ((node : NodeState) → (change node).capability ≡ node.capability)
    → ((node : NodeState) → AreLaunches life.book node → AreLaunches life.book (change node)) → BookInvariant life more → BookInvariant (record life { nodes = with_judged_node change name life.nodes }) more
changed_holds life change name more keeps offers launches h =
    let now : LifeState = record life { nodes = with_judged_node change name life.nodes } in
    record {
      apart = h.apart;
      rows =
          all_weaker (BookRowInvariant life more) (BookRowInvariant now more)
          (λ row k. (offers_stay (at_node change name) (at_node_named change name keeps) (at_node_offers change name offers) life.nodes row.node k.0, k.1, k.2, k.3)) life.book h.rows;
      left = h.left;
      launches = all_map (AreLaunches life.book) (AreLaunches life.book) (at_node change name) (at_node_launches (AreLaunches life.book) change name launches) life.nodes h.launches;
    }

-- CONTAINERS CHANGE

-- the states and marks of containers change, which stand where they stood
module _ (change : Row → Row) (same_id : (row : Row) → (change row).id ≡ row.id) (same_node : (row : Row) → (change row).node ≡ row.node) where
  -- a test of containers and their nodes passes as before
  pub any_changed : (p : ContainerId → List ℕ → Bool) (rows : List Row) → list_any (λ row. p row.id row.node) (map change rows) ≡ list_any (λ row. p row.id row.node) rows
  any_changed p [] = refl
  any_changed p (row ∷ rows) = let a = same_id row in let b = same_node row in rw (a, b, any_changed p rows) refl

  pub rows_held : (rows : List Row) → SameHeld rows (map change rows)
  rows_held rows = record { held = λ q. any_changed (λ id node. is_attempt id.attempt q) rows; living = λ c. any_changed (λ id node. is_container id c) rows }

  apart_changed : (rows : List Row) → LivingRowsAreApart rows → LivingRowsAreApart (map change rows)
  apart_changed [] h = tt
  apart_changed (row ∷ rows) h = let a = same_id row in rw a (any_changed (λ id node. is_container id row.id) rows ∙ h.0, apart_changed rows h.1)

  launches_changed : (rows : List Row) (node : NodeState) → AreLaunches rows node → AreLaunches (map change rows) node
  launches_changed rows node h =
      all_weaker (λ id. lives_on rows node.name id ≡ true) (λ id. lives_on (map change rows) node.name id ≡ true)
      (λ id l. any_changed (λ one at_name. is_container one id && bytes_eq at_name node.name) rows ∙ l) node.launches h

  rows_changed : (life : LifeState) (more : ContainerId → Type 0) (rows : List Row) → All (BookRowInvariant life more) rows → All (BookRowInvariant (record life { book = map change life.book }) more) (map change rows)
  rows_changed life more [] h = tt
  rows_changed life more (row ∷ rows) h = let a = same_id row in let b = same_node row in (rw (a, b) (h.0.0, h.0.1, h.0.2, h.0.3), rows_changed life more rows h.1)

  pub rows_hold : (life : LifeState) (more : ContainerId → Type 0) → BookInvariant life more → BookInvariant (record life { book = map change life.book }) more
  rows_hold life more h =
      record {
        apart = apart_changed life.book h.apart;
        rows = rows_changed life more life.book h.rows;
        left = h.left;
        launches = all_weaker (AreLaunches life.book) (AreLaunches (map change life.book)) (launches_changed life.book) life.nodes h.launches;
      }

  -- the same stand on each node
  pub same_on : (rows : List Row) (name : List ℕ) → ids_on (map change rows) name ≡ ids_on rows name
  same_on [] name = refl
  same_on (row ∷ rows) name = by (bytes_eq row.node name) refl (ap (λ (n : List ℕ). bytes_eq n name) (same_node row)) (same_on rows name)
    where
      by : (b : Bool) → bytes_eq row.node name ≡ b → bytes_eq (change row).node name ≡ bytes_eq row.node name → ids_on (map change rows) name ≡ ids_on rows name → ids_on (map change (row ∷ rows)) name ≡ ids_on (row ∷ rows) name
      by true e f rest = let now = f ∙ e in let a = same_id row in rw (now, e, a, rest) refl
      by false e f rest = let now = f ∙ e in rw (now, e) rest

-- A NODE BEATS

module _ (name : List ℕ) (running launched : List ContainerId) where
  abbrev beat_row : Row → Row
  beat_row row = row_beaten name running launched row

  pub same_id : (row : Row) → (beat_row row).id ≡ row.id
  same_id row = by (not (bytes_eq row.node name)) (has_container running row.id) (has_container launched row.id && is_granted row.state)
    where
      by : (a b c : Bool) → (if a then row else (if b then record row { state = Running } else (if c then record row { state = Acquired } else row))).id ≡ row.id
      by true b c = refl
      by false true c = refl
      by false false true = refl
      by false false false = refl

  same_node : (row : Row) → (beat_row row).node ≡ row.node
  same_node row = by (not (bytes_eq row.node name)) (has_container running row.id) (has_container launched row.id && is_granted row.state)
    where
      by : (a b c : Bool) → (if a then row else (if b then record row { state = Running } else (if c then record row { state = Acquired } else row))).node ≡ row.node
      by true b c = refl
      by false true c = refl
      by false false true = refl
      by false false false = refl

  pub beaten_held : (rows : List Row) → SameHeld rows (map beat_row rows)
  beaten_held rows = rows_held beat_row same_id same_node rows

  -- and the node that beat was told
  pub beaten_holds : (life : LifeState) (done : List ContainerId) (reply : Reply) (more : ContainerId → Type 0) → BookInvariant life more
      → BookInvariant (record life { book = map beat_row life.book; nodes = with_judged_node (beaten launched done reply) name life.nodes }) more
  beaten_holds life done reply more h =
      changed_holds (record life { book = map beat_row life.book }) (beaten launched done reply) name more (λ node. refl) (λ node. refl)
      (λ node l. all_filter (λ id. lives_on (map beat_row life.book) node.name id ≡ true) (λ id. not (has_container launched id)) node.launches l)
      (rows_hold beat_row same_id same_node life more h)
