-- What is inserted behind the copies of the slots that stand before it.
use Rattle.std.proofs.Common.{◌≡◌, Bool, false, List, [], ◌∷◌, ◌++◌, refl, ap, ◌∙◌}
use Rattle.std.specs.Cmp.{IsEquivalence}
use Rattle.std.specs.List.{AllByRecursion, IsDistinct}
use Rattle.std.specs.Map.{keys_of}
use Rattle.std.proofs.lemmas.Map.Keys.{IsDistinct-head, IsDistinct-tail}
use Rattle.indexmap.specs.IndexMap.{insert_entry}

module _ {K W : Type 0} {eq : K → K → Bool} (laws : IsEquivalence eq) where
  -- a slot's key is apart from each that comes later
  apart_later : (key : K) (before after : List (K × W)) (slot : K × W) → AllByRecursion (λ y. eq key y ≡ false) (keys_of (before ++ slot ∷ after)) → eq key slot.0 ≡ false
  apart_later key [] after slot a = a.0
  apart_later key (one ∷ before) after slot a = apart_later key before after slot a.1

  -- a slot goes behind those that stand before it, and what is left then stands behind it
  pub goes_last : (before after : List (K × W)) (slot : K × W) → IsDistinct eq (keys_of (before ++ slot ∷ after))
      → insert_entry eq before slot.0 slot.1 ++ after ≡ before ++ slot ∷ after
  goes_last [] after slot d = refl
  goes_last (one ∷ before) after slot d =
      let other : eq slot.0 one.0 ≡ false = laws.symm slot.0 one.0 ∙ apart_later one.0 before after slot (IsDistinct-head eq one.0 (keys_of (before ++ slot ∷ after)) d) in
      rw other (ap (λ more. one ∷ more) (goes_last before after slot (IsDistinct-tail eq one.0 (keys_of (before ++ slot ∷ after)) d)))
