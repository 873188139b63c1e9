-- What stands on nodes, after one's load is changed.
use Rattle.rm_book.proofs.Common.{◌≡◌, ℕ, List, [], ◌∷◌, ◌++◌, None, Some, refl, sym, ap, ◌∙◌, lookup, set_value, option_map, bytes_eq, Resource, inl, inr, cases_Bool}
use Rattle.std.proofs.lemmas.Cmp.{nat_list_eq_equiv}
use Rattle.rm_book.specs.declared.node_table.NodeLoad.{NodeLoad}
use Rattle.rm_book.specs.Books.{capability_in, with_capability}
use Rattle.rm_book.specs.Kept.{nodes_shown}

abbrev Loads : Type 0
Loads = List (List ℕ × NodeLoad)

back : (a b : List ℕ) → bytes_eq a b ≡ bytes_eq b a
back a b = nat_list_eq_equiv.symm a b

-- what is set in the place of a load of the same capability isn't seen
pub shown_set : (node : List ℕ) (loads : Loads) (old new : NodeLoad) → lookup (bytes_eq node) loads ≡ Some old → new.capability ≡ old.capability
    → nodes_shown (set_value (bytes_eq node) loads new) ≡ nodes_shown loads
shown_set node [] old new at same = refl
shown_set node (load ∷ loads) old new at same = elim (cases_Bool (bytes_eq node load.0)) [
  | inl e ↦
      let is : load.1 ≡ old = let at' = rw e at at in cc in
      rw e (ap (λ (c : Resource). record { node = load.0; capability = c } ∷ nodes_shown loads) (same ∙ ap (λ (l : NodeLoad). l.capability) (sym is)))
  | inr e ↦
      let at' = rw e at at in
      rw e (ap (λ more. record { node = load.0; capability = load.1.capability } ∷ more) (shown_set node loads old new at' same))
]

-- what is set in another capability's place is
pub shown_offer : (node : List ℕ) (loads : Loads) (old new : NodeLoad) → lookup (bytes_eq node) loads ≡ Some old
    → nodes_shown (set_value (bytes_eq node) loads new) ≡ with_capability node new.capability (nodes_shown loads)
shown_offer node [] old new at = cc
shown_offer node (load ∷ loads) old new at = elim (cases_Bool (bytes_eq node load.0)) [
  | inl e ↦ rw (back load.0 node, e) refl
  | inr e ↦
      let at' = rw e at at in
      rw (back load.0 node, e) (ap (λ more. record { node = load.0; capability = load.1.capability } ∷ more) (shown_offer node loads old new at'))
]

pub shown_enter : (node : List ℕ) (loads : Loads) (new : NodeLoad) → lookup (bytes_eq node) loads ≡ None
    → nodes_shown (loads ++ (node, new) ∷ []) ≡ with_capability node new.capability (nodes_shown loads)
shown_enter node [] new none = refl
shown_enter node (load ∷ loads) new none = elim (cases_Bool (bytes_eq node load.0)) [
  | inl e ↦ let none' = rw e at none in cc
  | inr e ↦
      let none' = rw e at none in
      rw (back load.0 node, e) (ap (λ more. record { node = load.0; capability = load.1.capability } ∷ more) (shown_enter node loads new none'))
]

-- the capability that a book shows is the load's
pub capability_shown : (node : List ℕ) (loads : Loads) → capability_in (nodes_shown loads) node ≡ option_map (λ load. load.capability) (lookup (bytes_eq node) loads)
capability_shown node [] = refl
capability_shown node (load ∷ loads) = elim (cases_Bool (bytes_eq node load.0)) [
  | inl e ↦ rw (back load.0 node, e) refl
  | inr e ↦ rw (back load.0 node, e) (capability_shown node loads)
]
