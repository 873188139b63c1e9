-- What holds of each item of a list, where an item is added at its end or taken from its front.
use Rattle.std.proofs.Common.{◌≡◌, List, [], ◌∷◌, ◌++◌, All, subst, sym}
use Rattle.std.specs.Prelude.{Option, Some, None}
use Rattle.std.specs.Option.{option_to_list}
use Rattle.std.proofs.lemmas.List.Elements.{recursion_from_All, All-from_recursion, All-append}

pub all_pushed : {X : Type 0} (P : X → Type 0) → (xs ys : List X) (x : X) → ys ≡ xs ++ x ∷ [] → All P xs → P x → All P ys
all_pushed P xs ys x same all is = subst (All P) (sym same) (All-append P xs (x ∷ []) all (All-from_recursion P (x ∷ []) (is, tt)))

pub all_of_rest : {X : Type 0} (P : X → Type 0) → (first : Option X) (xs ys : List X) → xs ≡ option_to_list first ++ ys → All P xs → All P ys
all_of_rest P None xs ys same all = subst (All P) same all
all_of_rest P (Some x) xs ys same all = All-from_recursion P ys (recursion_from_All P (x ∷ ys) (subst (All P) same all)).1
