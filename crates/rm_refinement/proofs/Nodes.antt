-- Where the nodes of the tables and of the judge change alike, they are the same again.
use Rattle.std.proofs.Common.{◌≡◌, ℕ, List, [], ◌∷◌, ◌++◌, Bool, true, false, Option, None, Some, map, refl, sym, ◌∙◌, ap, subst}
use Rattle.std.specs.Prelude.{option_map}
use Rattle.std.specs.Str.{bytes_eq}
use Rattle.rm_types.specs.declared.resources.Resource.{Resource}
use Rattle.rm_types.proofs.TestLemmas.{same_text}
use Rattle.rm_book.specs.Books.{BookOf, capability_of}
use Rattle.rm_model.specs.State.{NodeState, Row}
use Rattle.rm_model.specs.Nodes.{judged_node as node_told, tidied_node, with_judged_node as with_told}
use Rattle.rm_tables.specs.declared.nodes.NodeRow.{NodeRow}
use Rattle.rm_tables.specs.Nodes.{node_row as node_in, with_node}
use Rattle.rm_refinement.specs.Agreement.{SameNodes, bare_node, plain_node}
use Rattle.rm_refinement.proofs.Found.{KeepsName, found_each, other_added, other_row, other_told, other_told_added, own_added, own_row, own_told, own_told_added}

-- one node changes, and with it what the book has it offer
pub changed_same : (book now : BookOf) (n : List ℕ) (f : NodeRow → NodeRow) (g : NodeState → NodeState) (rows : List (List ℕ × NodeRow)) (nodes : List NodeState) → KeepsName g
    → ((q : List ℕ) → bytes_eq n q ≡ false → capability_of now q ≡ capability_of book q) → SameNodes book rows nodes
    → ((row : NodeRow) (node : NodeState) → node_in rows n ≡ Some row → node_told nodes n ≡ Some node → bare_node book n row ≡ plain_node node → bare_node now n (f row) ≡ plain_node (g node))
    → SameNodes now (with_node f n rows) (with_told g n nodes)
changed_same book now n f g rows nodes keeps others same change = λ q. by q (bytes_eq n q) refl
  where
    own : (r : Option NodeRow) (o : Option NodeState) → node_in rows n ≡ r → node_told nodes n ≡ o → option_map (bare_node book n) r ≡ option_map plain_node o
        → option_map (bare_node now n) (option_map f r) ≡ option_map plain_node (option_map g o)
    own None None a b e = refl
    own None (Some node) a b e = cc
    own (Some row) None a b e = cc
    own (Some row) (Some node) a b e =
        let alike : bare_node book n row ≡ plain_node node = cc in
        ap Some (change row node a b alike)

    offers : (q : List ℕ) → capability_of now q ≡ capability_of book q → (r : Option NodeRow) → option_map (bare_node now q) r ≡ option_map (bare_node book q) r
    offers q e None = refl
    offers q e (Some row) = ap (λ (c : Option Resource). Some (record (bare_node book q row) { capability = c })) e

    by : (q : List ℕ) (b : Bool) → bytes_eq n q ≡ b → option_map (bare_node now q) (node_in (with_node f n rows) q) ≡ option_map plain_node (node_told (with_told g n nodes) q)
    by q true e =
        subst (λ (z : List ℕ). option_map (bare_node now z) (node_in (with_node f n rows) z) ≡ option_map plain_node (node_told (with_told g n nodes) z)) (same_text n q e)
        (ap (option_map (bare_node now n)) (own_row f n rows) ∙ own (node_in rows n) (node_told nodes n) refl refl (same n) ∙ sym (ap (option_map plain_node) (own_told g n nodes keeps)))
    by q false e =
        ap (option_map (bare_node now q)) (other_row f n q rows e) ∙ offers q (others q e) (node_in rows q) ∙ same q ∙ sym (ap (option_map plain_node) (other_told g n q nodes keeps e))

-- one node changes
pub with_same : (book : BookOf) (n : List ℕ) (f : NodeRow → NodeRow) (g : NodeState → NodeState) (rows : List (List ℕ × NodeRow)) (nodes : List NodeState) → KeepsName g → SameNodes book rows nodes
    → ((row : NodeRow) (node : NodeState) → node_in rows n ≡ Some row → node_told nodes n ≡ Some node → bare_node book n row ≡ plain_node node → bare_node book n (f row) ≡ plain_node (g node))
    → SameNodes book (with_node f n rows) (with_told g n nodes)
with_same book n f g rows nodes keeps same change = changed_same book book n f g rows nodes keeps (λ q other. refl) same change

-- a node joins
pub added_same : (book : BookOf) (n : List ℕ) (row : NodeRow) (node : NodeState) (rows : List (List ℕ × NodeRow)) (nodes : List NodeState) → node.name ≡ n → SameNodes book rows nodes
    → node_in rows n ≡ None → node_told nodes n ≡ None → bare_node book n row ≡ plain_node node → SameNodes book (rows ++ (n, row) ∷ []) (nodes ++ node ∷ [])
added_same book n row node rows nodes named same no_row no_node alike = λ q. by q (bytes_eq n q) refl
  where
    by : (q : List ℕ) (b : Bool) → bytes_eq n q ≡ b → option_map (bare_node book q) (node_in (rows ++ (n, row) ∷ []) q) ≡ option_map plain_node (node_told (nodes ++ node ∷ []) q)
    by q true e =
        subst (λ (z : List ℕ). option_map (bare_node book z) (node_in (rows ++ (n, row) ∷ []) z) ≡ option_map plain_node (node_told (nodes ++ node ∷ []) z)) (same_text n q e)
        (ap (option_map (bare_node book n)) (own_added n row rows no_row) ∙ ap Some alike ∙ sym (ap (option_map plain_node) (own_told_added n node nodes named no_node)))
    by q false e = ap (option_map (bare_node book q)) (other_added n q row rows e) ∙ same q ∙ sym (ap (option_map plain_node) (other_told_added n q node nodes named e))

-- what falls away at the nodes is nothing to the tables
pub tidied_same : (book : BookOf) (rows : List (List ℕ × NodeRow)) (left : List Row) (nodes : List NodeState) → SameNodes book rows nodes → SameNodes book rows (map (tidied_node left) nodes)
tidied_same book rows left nodes same = λ q. same q ∙ sym (ap (option_map plain_node) (found_each (tidied_node left) q nodes (λ one. refl)) ∙ still (node_told nodes q))
  where
    still : (o : Option NodeState) → option_map plain_node (option_map (tidied_node left) o) ≡ option_map plain_node o
    still None = refl
    still (Some node) = refl
