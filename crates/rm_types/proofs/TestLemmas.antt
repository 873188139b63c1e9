-- What tests say of numbers, lists, texts, options and results.
use Rattle.std.proofs.Common.{◌≡◌, ◌≢◌, ℕ, ◌==◌, Bool, true, false, not, ◌&&◌, ◌||◌, List, [], ◌∷◌, ◌++◌, find, slice_get, Option, None, Some, is_some, is_none, Result, Ok, Err, OnOk, OnErr, refl, ap, subst, arith}
use Rattle.std.specs.List.{list_any}
use Rattle.std.specs.Str.{bytes_eq}
use Rattle.std.proofs.lemmas.Bool.{or_parts}
use Rattle.std.proofs.lemmas.Bool.Decides.{nat_tests}
use Rattle.std.proofs.lemmas.Slice.Eq.{bytes_eq-Decides}
use Rattle.rm_types.specs.Lists.{is_nil}

-- tests that are joined
pub and_first : (a b : Bool) → (a && b) ≡ true → a ≡ true
and_first true b h = refl
and_first false b h = h

pub and_false : (b : Bool) → (b && false) ≡ false
and_false true = refl
and_false false = refl

pub or_true : (b : Bool) → (b || true) ≡ true
or_true true = refl
or_true false = refl

-- a number is itself
pub number_itself : (n : ℕ) → (n == n) ≡ true
number_itself n = grind (arith, nat_tests)

-- a list without an item, and one with some
pub nil_is : {X : Type 0} (xs : List X) → is_nil xs ≡ true → xs ≡ []
nil_is [] e = refl
nil_is (x ∷ xs) e = cc

pub not_nil : {X : Type 0} (xs : List X) → not (is_nil xs) ≡ true → xs ≢ []
not_nil [] h = cc
not_nil (x ∷ xs) h = λ e. cc

pub never_nil : {X : Type 0} (xs : List X) (x : X) → xs ++ x ∷ [] ≢ []
never_nil [] x = λ h. cc
never_nil (y ∷ xs) x = λ h. cc

pub first_of : {X : Type 0} (xs : List X) (x : X) → slice_get xs 0 ≡ Some x → (more : List X) × (xs ≡ x ∷ more)
first_of [] x h = cc
first_of (one ∷ more) x h = let same : one ≡ x = cc in (more, ap (λ y. y ∷ more) same)

-- what is found passes the test, and nothing is found exactly where nothing passes
pub found_passes : {X : Type 0} (p : X → Bool) (xs : List X) (x : X) → find p xs ≡ Some x → p x ≡ true
found_passes p [] x found = cc
found_passes p (y ∷ xs) x found = by (p y) refl (found_passes p xs x)
  where
    by : (b : Bool) → p y ≡ b → (find p xs ≡ Some x → p x ≡ true) → p x ≡ true
    by true e rest =
        let there : Some y ≡ Some x = rw e at found in
        let is : y ≡ x = cc in
        subst (λ z. p z ≡ true) is e
    by false e rest = rest (rw e at found)

pub find_none : {X : Type 0} (p : X → Bool) (xs : List X) → list_any p xs ≡ false → find p xs ≡ None
find_none p [] h = refl
find_none p (x ∷ xs) h = let parts = or_parts (p x) (list_any p xs) h in rw parts.0 (find_none p xs parts.1)

pub is_some-find : {X : Type 0} (p : X → Bool) (xs : List X) → is_some (find p xs) ≡ list_any p xs
is_some-find p [] = refl
is_some-find p (x ∷ xs) = by (p x) refl (is_some-find p xs)
  where
    by : (b : Bool) → p x ≡ b → is_some (find p xs) ≡ list_any p xs → is_some (find p (x ∷ xs)) ≡ list_any p (x ∷ xs)
    by true e h = rw e refl
    by false e h = rw e h

-- texts that are the same by test are equal, each is itself, and those that differ, differ both ways
pub same_text : (a b : List ℕ) → bytes_eq a b ≡ true → a ≡ b
same_text a b h = (bytes_eq-Decides a b).0 h

pub text_itself : (a : List ℕ) → bytes_eq a a ≡ true
text_itself a = (bytes_eq-Decides a a).1 refl

-- an option by its test
pub none_from_is_some : {X : Type 0} (o : Option X) → is_some o ≡ false → o ≡ None
none_from_is_some None h = refl
none_from_is_some (Some x) h = cc

pub none_from_is_none : {X : Type 0} (o : Option X) → is_none o ≡ true → o ≡ None
none_from_is_none None h = refl
none_from_is_none (Some x) h = cc

-- what holds anyway holds of each result, and what follows from it where it is of this kind
pub on_ok : {A E : Type 0} {P : Type 0} (r : Result A E) → P → OnOk r P
on_ok (Ok x) p = p
on_ok (Err x) p = tt

pub on_err : {A E : Type 0} {P : Type 0} (r : Result A E) → P → OnErr r P
on_err (Ok x) p = tt
on_err (Err x) p = p

pub on_ok_map : {X E P Q : Type 0} (r : Result X E) → (P → Q) → OnOk r P → OnOk r Q
on_ok_map (Ok x) f p = f p
on_ok_map (Err e) f p = tt
