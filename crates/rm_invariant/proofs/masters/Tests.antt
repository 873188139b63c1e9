-- What two tests say together.
use Rattle.rm_invariant.proofs.Common.{◌≡◌, ◌&&◌, ◌||◌, List, [], ◌∷◌, ◌++◌, Bool, true, false, refl, list_any}
use Rattle.rm_invariant.specs.apps.View.{set_if}

pub and_right : (a b : Bool) → (a && b) ≡ true → b ≡ true
and_right true b e = e
and_right false b e = cc

-- where not both pass and the first does, the second doesn't
pub not_both : (a b : Bool) → (a && b) ≡ false → a ≡ true → b ≡ false
not_both true b e n = e
not_both false b e n = cc

pub or_false : (b : Bool) → (b || false) ≡ b
or_false true = refl
or_false false = refl

-- one of a list passes with one more at its end
pub any_end : {X : Type 0} (p : X → Bool) (xs : List X) (x : X) → list_any p (xs ++ x ∷ []) ≡ set_if (p x) (list_any p xs)
any_end p [] x = by (p x) refl
  where
    by : (b : Bool) → p x ≡ b → list_any p (x ∷ []) ≡ set_if b false
    by true e = rw e refl
    by false e = rw e refl
any_end p (y ∷ ys) x = by (p y) refl (any_end p ys x) (p x)
  where
    by : (b : Bool) → p y ≡ b → list_any p (ys ++ x ∷ []) ≡ set_if (p x) (list_any p ys) → (c : Bool) → list_any p ((y ∷ ys) ++ x ∷ []) ≡ set_if (p x) (list_any p (y ∷ ys))
    by true e h c = rw e (true_set (p x))
      where
        true_set : (b : Bool) → true ≡ set_if b true
        true_set true = refl
        true_set false = refl
    by false e h c = rw e h
