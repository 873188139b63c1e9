-- Lists whose elements, or pairs of elements, have something.
use Rattle.rm_laws.proofs.Common.{◌≡◌, zero, suc, List, [], ◌∷◌, ◌++◌, Bool, true, false, cond, filter, refl, arith}
use Rattle.std.specs.Prelude.{All, AllPairs}

-- each element has it
abbrev pub Each : {X : Type 0} → (X → Type 0) → List X → Type 0
Each P [] = Unit {0}
Each P (x ∷ xs) = P x × Each P xs

-- each element has it with each later one
abbrev pub Pairs : {X : Type 0} → (X → X → Type 0) → List X → Type 0
Pairs R [] = Unit {0}
Pairs R (x ∷ xs) = Each (R x) xs × Pairs R xs

pub each-map : {X : Type 0} (P Q : X → Type 0) → ((x : X) → P x → Q x) → (xs : List X) → Each P xs → Each Q xs
each-map P Q h [] e = tt
each-map P Q h (x ∷ xs) e = (h x e.0, each-map P Q h xs e.1)

pub each-append : {X : Type 0} (P : X → Type 0) (xs ys : List X) → Each P xs → Each P ys → Each P (xs ++ ys)
each-append P [] ys a b = b
each-append P (x ∷ xs) ys a b = (a.0, each-append P xs ys a.1 b)

pub pairs-append : {X : Type 0} (R : X → X → Type 0) (xs ys : List X) → Pairs R xs → Pairs R ys → Each (λ x. Each (R x) ys) xs → Pairs R (xs ++ ys)
pairs-append R [] ys a b c = b
pairs-append R (x ∷ xs) ys a b c = (each-append (R x) xs ys a.0 c.0, pairs-append R xs ys a.1 b c.1)

-- what is left of a filter has it still, and has what the test says
pub each-filter : {X : Type 0} (P : X → Type 0) (q : X → Bool) (xs : List X) → Each P xs → Each P (filter q xs)
each-filter P q [] e = tt
each-filter P q (x ∷ xs) e = go (q x) (each-filter P q xs e.1)
  where
    go : (b : Bool) → Each P (filter q xs) → Each P (cond b (x ∷ filter q xs) (filter q xs))
    go true more = (e.0, more)
    go false more = more

pub each-passing : {X : Type 0} (P : X → Type 0) (q : X → Bool) → ((x : X) → q x ≡ true → P x) → (xs : List X) → Each P (filter q xs)
each-passing P q h [] = tt
each-passing P q h (x ∷ xs) = go (q x) refl (each-passing P q h xs)
  where
    go : (b : Bool) → q x ≡ b → Each P (filter q xs) → Each P (cond b (x ∷ filter q xs) (filter q xs))
    go true e more = (h x e, more)
    go false e more = more

pub each_all : {X : Type 0} (P : X → Type 0) (xs : List X) → Each P xs → All P xs
each_all P [] e k d below = absurd (omega (arith, below))
each_all P (x ∷ xs) e zero d below = e.0
each_all P (x ∷ xs) e (suc k) d below = each_all P xs e.1 k d (omega (arith, below))

pub pairs_all : {X : Type 0} (R : X → X → Type 0) (xs : List X) → Pairs R xs → AllPairs R xs
pairs_all R [] e i j d i<j below = absurd (omega (arith, below))
pairs_all R (x ∷ xs) e zero zero d i<j below = absurd (omega (arith, i<j))
pairs_all R (x ∷ xs) e zero (suc j) d i<j below = each_all (R x) xs e.0 j d (omega (arith, below))
pairs_all R (x ∷ xs) e (suc i) zero d i<j below = absurd (omega (arith, i<j))
pairs_all R (x ∷ xs) e (suc i) (suc j) d i<j below = pairs_all R xs e.1 i j d (omega (arith, i<j)) (omega (arith, below))
