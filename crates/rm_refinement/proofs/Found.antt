-- A node that changes is found changed, and each other as it was: in the tables, and by the judge.
use Rattle.std.proofs.Common.{ap, ◌≡◌, ℕ, List, [], ◌∷◌, ◌++◌, Bool, true, false, Option, None, Some, map, refl, sym, ◌∙◌, subst}
use Rattle.std.specs.Prelude.{option_map}
use Rattle.std.specs.Map.{lookup, set_value}
use Rattle.std.specs.Str.{bytes_eq}
use Rattle.std.proofs.lemmas.Bool.{false≢true}
use Rattle.rm_types.proofs.TestLemmas.{text_itself, same_text}
use Rattle.rm_model.specs.State.{NodeState}
use Rattle.rm_model.specs.Nodes.{judged_node as node_told, with_judged_node as with_told}
use Rattle.rm_tables.specs.declared.nodes.NodeRow.{NodeRow}
use Rattle.rm_tables.specs.Nodes.{node_row as node_in, with_found, with_node}

-- names that differ, differ both ways
pub apart_names : (n q : List ℕ) → bytes_eq n q ≡ false → bytes_eq q n ≡ false
apart_names n q e = by (bytes_eq q n) refl
  where
    by : (b : Bool) → bytes_eq q n ≡ b → bytes_eq q n ≡ false
    by false f = f
    by true f = let g : bytes_eq n n ≡ false = subst (λ (z : List ℕ). bytes_eq n z ≡ false) (same_text q n f) e in absurd (false≢true (sym g ∙ text_itself n))

-- THE TABLES

own_set : (n : List ℕ) (rows : List (List ℕ × NodeRow)) (v w : NodeRow) → lookup (bytes_eq n) rows ≡ Some v → lookup (bytes_eq n) (set_value (bytes_eq n) rows w) ≡ Some w
own_set n [] v w found = cc
own_set n (one ∷ rows) v w found = by (bytes_eq n one.0) refl (λ f. own_set n rows v w f)
  where
    by : (b : Bool) → bytes_eq n one.0 ≡ b → (lookup (bytes_eq n) rows ≡ Some v → lookup (bytes_eq n) (set_value (bytes_eq n) rows w) ≡ Some w)
        → lookup (bytes_eq n) (set_value (bytes_eq n) (one ∷ rows) w) ≡ Some w
    by true e rest = rw (e, e) refl
    by false e rest = rw (e, e) (rest (rw e at found))

other_set : (n q : List ℕ) (rows : List (List ℕ × NodeRow)) (w : NodeRow) → bytes_eq n q ≡ false → lookup (bytes_eq q) (set_value (bytes_eq n) rows w) ≡ lookup (bytes_eq q) rows
other_set n q [] w apart = refl
other_set n q (one ∷ rows) w apart = by (bytes_eq n one.0) (bytes_eq q one.0) refl refl (other_set n q rows w apart)
  where
    by : (b c : Bool) → bytes_eq n one.0 ≡ b → bytes_eq q one.0 ≡ c → lookup (bytes_eq q) (set_value (bytes_eq n) rows w) ≡ lookup (bytes_eq q) rows
        → lookup (bytes_eq q) (set_value (bytes_eq n) (one ∷ rows) w) ≡ lookup (bytes_eq q) (one ∷ rows)
    by true true e f rest =
        let g : n ≡ q = same_text n one.0 e ∙ sym (same_text q one.0 f) in
        let h : bytes_eq n n ≡ false = subst (λ (z : List ℕ). bytes_eq n z ≡ false) (sym g) apart in
        absurd (false≢true (sym h ∙ text_itself n))
    by true false e f rest = rw (e, f) refl
    by false true e f rest = rw (e, f) refl
    by false false e f rest = rw (e, f) rest

pub own_row : (f : NodeRow → NodeRow) (n : List ℕ) (rows : List (List ℕ × NodeRow)) → node_in (with_node f n rows) n ≡ option_map f (node_in rows n)
own_row f n rows = by (node_in rows n) refl
  where
    by : (o : Option NodeRow) → node_in rows n ≡ o → node_in (with_found f n rows o) n ≡ option_map f o
    by None e = e
    by (Some row) e = own_set n rows row (f row) e

pub other_row : (f : NodeRow → NodeRow) (n q : List ℕ) (rows : List (List ℕ × NodeRow)) → bytes_eq n q ≡ false → node_in (with_node f n rows) q ≡ node_in rows q
other_row f n q rows apart = by (node_in rows n)
  where
    by : (o : Option NodeRow) → node_in (with_found f n rows o) q ≡ node_in rows q
    by None = refl
    by (Some row) = other_set n q rows (f row) apart

-- a row that is added is found where there was none, and no other
pub own_added : (n : List ℕ) (row : NodeRow) (rows : List (List ℕ × NodeRow)) → node_in rows n ≡ None → node_in (rows ++ (n, row) ∷ []) n ≡ Some row
own_added n row [] none = rw (text_itself n) refl
own_added n row (one ∷ rows) none = by (bytes_eq n one.0) refl (own_added n row rows)
  where
    by : (b : Bool) → bytes_eq n one.0 ≡ b → (node_in rows n ≡ None → node_in (rows ++ (n, row) ∷ []) n ≡ Some row) → node_in (one ∷ (rows ++ (n, row) ∷ [])) n ≡ Some row
    by true e rest = let h : Some one.1 ≡ None = rw e at none in cc
    by false e rest = rw e (rest (rw e at none))

pub other_added : (n q : List ℕ) (row : NodeRow) (rows : List (List ℕ × NodeRow)) → bytes_eq n q ≡ false → node_in (rows ++ (n, row) ∷ []) q ≡ node_in rows q
other_added n q row [] apart = rw (apart_names n q apart) refl
other_added n q row (one ∷ rows) apart = by (bytes_eq q one.0) refl (other_added n q row rows apart)
  where
    by : (b : Bool) → bytes_eq q one.0 ≡ b → node_in (rows ++ (n, row) ∷ []) q ≡ node_in rows q → node_in (one ∷ (rows ++ (n, row) ∷ [])) q ≡ node_in (one ∷ rows) q
    by true e rest = rw e refl
    by false e rest = rw e rest

-- THE JUDGE

abbrev pub KeepsName : (NodeState → NodeState) → Type 0
KeepsName g = (node : NodeState) → (g node).name ≡ node.name

pub own_told : (g : NodeState → NodeState) (n : List ℕ) (nodes : List NodeState) → KeepsName g → node_told (with_told g n nodes) n ≡ option_map g (node_told nodes n)
own_told g n [] keeps = refl
own_told g n (node ∷ nodes) keeps = by (bytes_eq node.name n) refl (own_told g n nodes keeps)
  where
    by : (b : Bool) → bytes_eq node.name n ≡ b → node_told (with_told g n nodes) n ≡ option_map g (node_told nodes n) → node_told (with_told g n (node ∷ nodes)) n ≡ option_map g (node_told (node ∷ nodes) n)
    by true e rest = rw (e, keeps node, e) refl
    by false e rest = rw (e, e) rest

pub other_told : (g : NodeState → NodeState) (n q : List ℕ) (nodes : List NodeState) → KeepsName g → bytes_eq n q ≡ false → node_told (with_told g n nodes) q ≡ node_told nodes q
other_told g n q [] keeps apart = refl
other_told g n q (node ∷ nodes) keeps apart = by (bytes_eq node.name n) (bytes_eq node.name q) refl refl (other_told g n q nodes keeps apart)
  where
    by : (b c : Bool) → bytes_eq node.name n ≡ b → bytes_eq node.name q ≡ c → node_told (with_told g n nodes) q ≡ node_told nodes q
        → node_told (with_told g n (node ∷ nodes)) q ≡ node_told (node ∷ nodes) q
    by true true e f rest =
        let h : bytes_eq node.name q ≡ false = rw (same_text node.name n e) apart in
        absurd (false≢true (sym h ∙ f))
    by true false e f rest = rw (e, keeps node, f) rest
    by false true e f rest = rw (e, f) refl
    by false false e f rest = rw (e, f) rest

pub own_told_added : (n : List ℕ) (node : NodeState) (nodes : List NodeState) → node.name ≡ n → node_told nodes n ≡ None → node_told (nodes ++ node ∷ []) n ≡ Some node
own_told_added n node [] named none = rw (named, text_itself n) refl
own_told_added n node (one ∷ nodes) named none = by (bytes_eq one.name n) refl (own_told_added n node nodes named)
  where
    by : (b : Bool) → bytes_eq one.name n ≡ b → (node_told nodes n ≡ None → node_told (nodes ++ node ∷ []) n ≡ Some node) → node_told (one ∷ (nodes ++ node ∷ [])) n ≡ Some node
    by true e rest = let h : Some one ≡ None = rw e at none in cc
    by false e rest = rw e (rest (rw e at none))

pub other_told_added : (n q : List ℕ) (node : NodeState) (nodes : List NodeState) → node.name ≡ n → bytes_eq n q ≡ false → node_told (nodes ++ node ∷ []) q ≡ node_told nodes q
other_told_added n q node [] named apart = rw (named, apart) refl
other_told_added n q node (one ∷ nodes) named apart = by (bytes_eq one.name q) refl (other_told_added n q node nodes named apart)
  where
    by : (b : Bool) → bytes_eq one.name q ≡ b → node_told (nodes ++ node ∷ []) q ≡ node_told nodes q → node_told (one ∷ (nodes ++ node ∷ [])) q ≡ node_told (one ∷ nodes) q
    by true e rest = rw e refl
    by false e rest = rw e rest

-- each node changes
pub found_each : (g : NodeState → NodeState) (q : List ℕ) (nodes : List NodeState) → KeepsName g → node_told (map g nodes) q ≡ option_map g (node_told nodes q)
found_each g q [] keeps = refl
found_each g q (node ∷ nodes) keeps = by (bytes_eq node.name q) refl (found_each g q nodes keeps)
  where
    by : (b : Bool) → bytes_eq node.name q ≡ b → node_told (map g nodes) q ≡ option_map g (node_told nodes q) → node_told (map g (node ∷ nodes)) q ≡ option_map g (node_told (node ∷ nodes) q)
    by true e rest =
        let f : bytes_eq (g node).name q ≡ true = ap (λ (n : List ℕ). bytes_eq n q) (keeps node) ∙ e in
        rw (f, e) refl
    by false e rest =
        let f : bytes_eq (g node).name q ≡ false = ap (λ (n : List ℕ). bytes_eq n q) (keeps node) ∙ e in
        rw (f, e) rest
