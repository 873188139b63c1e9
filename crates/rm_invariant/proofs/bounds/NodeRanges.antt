-- The rows of nodes stay in their ranges.
use Rattle.rm_invariant.proofs.Common.{◌≡◌, ℕ, List, [], ◌∷◌, ◌++◌, Bool, true, false, ◌⊎◌, inl, inr, Option, None, Some, refl, sym, ◌∙◌, ap, subst, if◌then◌else◌, bytes_eq, Held, ContainerId, Reply, Resource, same_text, NodeChange, Absorb, Lose, Unlaunch, NodeRow, beaten_row, changed_row, node_row, ordered_row, registered_node_row, with_node, other_row, own_row, IsSize, IsList, IsHeld}
use Rattle.std.proofs.Common.{option_map}
use Rattle.rm_invariant.specs.bounds.InBounds.{AreNodes, IsNode}

-- the row of a node changes
pub nodes_with : (f : NodeRow → NodeRow) (name : List ℕ) (nodes : List (List ℕ × NodeRow)) → ((row : NodeRow) → node_row nodes name ≡ Some row → IsNode name row → IsNode name (f row)) → AreNodes nodes → AreNodes (with_node f name nodes)
nodes_with f name nodes keeps are = record { each = λ q row found. by q row (bytes_eq name q) refl found }
  where
    at : (o : Option NodeRow) (row : NodeRow) → node_row nodes name ≡ o → option_map f o ≡ Some row → IsNode name row
    at None row e is = cc
    at (Some one) row e is = let same : f one ≡ row = cc in subst (IsNode name) same (keeps one e (are.each name one e))

    by : (q : List ℕ) (row : NodeRow) (b : Bool) → bytes_eq name q ≡ b → node_row (with_node f name nodes) q ≡ Some row → IsNode q row
    by q row true e found =
        let same : name ≡ q = same_text name q e in
        let here : node_row (with_node f name nodes) name ≡ Some row = ap (node_row (with_node f name nodes)) same ∙ found in
        subst (λ (n : List ℕ). IsNode n row) same (at (node_row nodes name) row refl (sym (own_row f name nodes) ∙ here))
    by q row false e found = are.each q row (sym (other_row f name q nodes e) ∙ found)

-- by a change that keeps what it offers and reports
pub nodes_changed : (change : NodeChange) (name : List ℕ) (nodes : List (List ℕ × NodeRow)) → AreNodes nodes → AreNodes (with_node (changed_row change) name nodes)
nodes_changed Absorb name nodes are = nodes_with (changed_row Absorb) name nodes (λ row found own. record { named = own.named; size = own.size; running = own.running }) are
nodes_changed Lose name nodes are = nodes_with (changed_row Lose) name nodes (λ row found own. record { named = own.named; size = own.size; running = own.running }) are
nodes_changed (Unlaunch id) name nodes are = nodes_with (changed_row (Unlaunch id)) name nodes (λ row found own. record { named = own.named; size = own.size; running = own.running }) are

pub nodes_ordered : (container : ContainerId) (name : List ℕ) (nodes : List (List ℕ × NodeRow)) → AreNodes nodes → AreNodes (with_node (ordered_row container) name nodes)
nodes_ordered container name nodes are = nodes_with (ordered_row container) name nodes (λ row found own. record { named = own.named; size = own.size; running = own.running }) are

pub nodes_beaten : (id : ℕ) (reply : Reply) (name : List ℕ) (nodes : List (List ℕ × NodeRow)) → AreNodes nodes → AreNodes (with_node (beaten_row id reply) name nodes)
nodes_beaten id reply name nodes are = nodes_with (beaten_row id reply) name nodes (λ row found own. record { named = own.named; size = own.size; running = own.running }) are

-- and by a registration
pub nodes_registered : (turn : ℕ) (capability : Resource) (running : List Held) (reply : Reply) (name : List ℕ) (nodes : List (List ℕ × NodeRow)) → IsSize capability → IsList IsHeld running → AreNodes nodes
    → AreNodes (with_node (registered_node_row turn capability running reply) name nodes)
nodes_registered turn capability running reply name nodes size list are =
    nodes_with (registered_node_row turn capability running reply) name nodes (λ row found own. record { named = own.named; size = size; running = list }) are

-- the row of a node is one of the old ones, or is the new one
node_more : (name q : List ℕ) (new row : NodeRow) (nodes : List (List ℕ × NodeRow)) → node_row (nodes ++ (name, new) ∷ []) q ≡ Some row → (node_row nodes q ≡ Some row) ⊎ ((name ≡ q) × (new ≡ row))
node_more name q new row [] e = by (bytes_eq q name) refl e
  where
    by : (b : Bool) → bytes_eq q name ≡ b → (if b then Some new else None) ≡ Some row → (node_row [] q ≡ Some row) ⊎ ((name ≡ q) × (new ≡ row))
    by true f is = let same : new ≡ row = cc in inr (sym (same_text q name f), same)
    by false f is = cc
node_more name q new row (one ∷ nodes) e = by (bytes_eq q one.0) refl (node_more name q new row nodes)
  where
    by : (b : Bool) → bytes_eq q one.0 ≡ b → (node_row (nodes ++ (name, new) ∷ []) q ≡ Some row → (node_row nodes q ≡ Some row) ⊎ ((name ≡ q) × (new ≡ row)))
        → (node_row (one ∷ nodes) q ≡ Some row) ⊎ ((name ≡ q) × (new ≡ row))
    by true f rest = rw f (inl (rw f at e))
    by false f rest = rw f (rest (rw f at e))

pub nodes_put : (name : List ℕ) (new : NodeRow) (nodes : List (List ℕ × NodeRow)) → IsNode name new → AreNodes nodes → AreNodes (nodes ++ (name, new) ∷ [])
nodes_put name new nodes is are = record { each = λ q row found. by q row (node_more name q new row nodes found) }
  where
    by : (q : List ℕ) (row : NodeRow) → (node_row nodes q ≡ Some row) ⊎ ((name ≡ q) × (new ≡ row)) → IsNode q row
    by q row (inl old) = are.each q row old
    by q row (inr both) = subst (IsNode q) both.1 (subst (λ (n : List ℕ). IsNode n new) both.0 is)
