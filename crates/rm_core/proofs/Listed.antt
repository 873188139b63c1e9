-- Items of lists, and of references.
use Rattle.std.proofs.Common.{◌≡◌, ℕ, ◌+◌, List, [], ◌∷◌, ◌++◌, take, Option, None, Some, sym, ◌∙◌, ap, Bor}
use Rattle.std.specs.Prelude.{IfSome, slice_get}
use Rattle.std.specs.Option.{option_copied}
use Rattle.std.proofs.lemmas.List.{take_more}
use Rattle.std.proofs.lemmas.Option.{slice_get_within, get_or_from_slice_get}

-- one more item of a list
pub take_got : {X : Type 0} (xs : List X) (i : ℕ) (x : X) → slice_get xs i ≡ Some x → take (i + 1) xs ≡ take i xs ++ x ∷ []
take_got xs i x e = take_more xs i x (slice_get_within xs i x e) ∙ ap (λ y. take i xs ++ y ∷ []) (get_or_from_slice_get xs i x x e)

-- what holds of an item holds of what a reference to it points to
pub if_copied : {X : Type 0} (P : X → Type 0) (o : Option (Bor X)) (h : Option X) → option_copied o ≡ h → ((x : X) → h ≡ Some x → P x) → IfSome o (λ b. P b.now)
if_copied P None h e p = tt
if_copied P (Some b) h e p = p b.now (sym e)

-- a first item
pub first_of : {X : Type 0} (xs : List X) (x : X) → slice_get xs 0 ≡ Some x → (rest : List X) × (xs ≡ x ∷ rest)
first_of [] x e = cc
first_of (y ∷ xs) x e = let same : y ≡ x = cc in (xs, ap (λ z. z ∷ xs) same)
