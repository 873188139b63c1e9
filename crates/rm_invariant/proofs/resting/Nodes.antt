-- Where no event of a node waits, nothing of it is left to work off.
use Rattle.rm_invariant.proofs.Common.{◌≡◌, ℕ, zero, suc, ◌<◌, List, [], ◌∷◌, length, get_or, Bool, true, false, Option, None, Some, map, refl, ◌∙◌, ap, arith, Contains, bytes_eq, text_itself, same_text, Row, ids_on, judged_node, ContainerId}
use Rattle.rm_model.specs.State.{NodeState}
use Rattle.rm_invariant.specs.nodes.Names.{NamesApart}
use Rattle.rm_invariant.specs.nodes.Invariant.{RegisteredInvariant, node_view, NodesInvariant}
use Rattle.rm_invariant.proofs.nodes.Moved.{KeepsName, node_of-map}

-- each node is found by its name
found_at : (nodes : List NodeState) (node : NodeState) (k : ℕ) → k < length nodes → get_or nodes k node ≡ node → (o : Option NodeState) → judged_node nodes node.name ≡ o → o ≡ None → ⊥
found_at [] node k lt is o f n = absurd (omega (arith, lt))
found_at (one ∷ nodes) node zero lt is o f n =
    let own : bytes_eq one.name node.name ≡ true = rw is (text_itself node.name) in
    let g : Some one ≡ None = rw own at (f ∙ n) in cc
found_at (one ∷ nodes) node (suc k) lt is o f n = by_test (bytes_eq one.name node.name) refl (found_at nodes node k (omega (arith, lt)) is)
  where
    by_test : (b : Bool) → bytes_eq one.name node.name ≡ b → ((o : Option NodeState) → judged_node nodes node.name ≡ o → o ≡ None → ⊥) → ⊥
    by_test true e rest = let g : Some one ≡ None = rw e at (f ∙ n) in cc
    by_test false e rest = let g : judged_node nodes node.name ≡ None = rw e at (f ∙ n) in rest None g refl

found_by_name : (nodes : List NodeState) → NamesApart nodes → (node : NodeState) (k : ℕ) → k < length nodes → get_or nodes k node ≡ node → judged_node nodes node.name ≡ Some node
found_by_name [] h node k lt is = absurd (omega (arith, lt))
found_by_name (one ∷ nodes) h node zero lt is =
    let own : bytes_eq one.name node.name ≡ true = rw is (text_itself node.name) in rw own (ap (λ (x : NodeState). Some x) is)
found_by_name (one ∷ nodes) h node (suc k) lt is = by_test (bytes_eq one.name node.name) refl (found_by_name nodes h.1 node k (omega (arith, lt)) is) (found_at nodes node k (omega (arith, lt)) is)
  where
    by_test : (b : Bool) → bytes_eq one.name node.name ≡ b → judged_node nodes node.name ≡ Some node → ((o : Option NodeState) → judged_node nodes node.name ≡ o → o ≡ None → ⊥) → judged_node (one ∷ nodes) node.name ≡ Some node
    by_test true e rest there =
        let none : judged_node nodes node.name ≡ None = rw (same_text one.name node.name e) at h.0 in absurd (there None none refl)
    by_test false e rest there = rw e rest

pub listed_found : (nodes : List NodeState) → NamesApart nodes → (node : NodeState) → Contains nodes node → judged_node nodes node.name ≡ Some node
listed_found nodes h node c = found_by_name nodes h node c.0 c.1 c.2

-- names stay apart
pub apart_map : (change : NodeState → NodeState) → KeepsName change → (nodes : List NodeState) → NamesApart nodes → NamesApart (map change nodes)
apart_map change k [] h = tt
apart_map change k (node ∷ nodes) h =
    let none : judged_node (map change nodes) node.name ≡ None = rw (node_of-map change k nodes node.name, h.0) refl in
    (rw (k node) none, apart_map change k nodes h.1)

-- item 7 of what is owed: with the scheduler's queue empty it is not
pub nothing_undone : (astray : ContainerId → Bool) (nodes : List NodeState) (book : List Row) → NamesApart nodes → NodesInvariant astray nodes book [] → (node : NodeState) → Contains nodes node → node.undone ≡ []
nothing_undone astray nodes book h good node c =
    let a : RegisteredInvariant (node_view astray node [] (ids_on book node.name)) = rw (listed_found nodes h node c) at (good node.name) in a.same
