-- Lists that are kept by numbers.
use Rattle.rm_book.proofs.Common.{◌≡◌, ℕ, List, [], ◌∷◌, ◌++◌, Bool, true, false, ◌||◌, nat_lt, refl, ◌∙◌, ap, list_any, list_all, and_from, and_parts, inl, inr, cases_Bool}
use Rattle.rm_book.specs.AskLines.{put_by, sorted_by}

any_swap : (a b c : Bool) → (b || (a || c)) ≡ (a || (b || c))
any_swap true true c = refl
any_swap true false c = refl
any_swap false b c = refl

module _ {X : Type 0} (number : X → ℕ) where
  -- a test of all, and of one

  pub all_put : (p : X → Bool) (x : X) (ys : List X) → p x ≡ true → list_all p ys ≡ true → list_all p (put_by number x ys) ≡ true
  all_put p x [] h all = rw h refl
  all_put p x (y ∷ ys) h all = let parts = and_parts (p y) (list_all p ys) all in by (nat_lt (number y) (number x)) refl parts.0 parts.1 (all_put p x ys h parts.1)
    where
      by : (b : Bool) → nat_lt (number y) (number x) ≡ b → p y ≡ true → list_all p ys ≡ true → list_all p (put_by number x ys) ≡ true
          → list_all p (put_by number x (y ∷ ys)) ≡ true
      by true e first rest more = rw e (and_from (p y) _ first more)
      by false e first rest more = rw e (and_from (p x) _ h (and_from (p y) _ first rest))

  pub all_sorted : (p : X → Bool) (ys : List X) → list_all p ys ≡ true → list_all p (sorted_by number ys) ≡ true
  all_sorted p [] all = refl
  all_sorted p (y ∷ ys) all = let parts = and_parts (p y) (list_all p ys) all in all_put p y (sorted_by number ys) parts.0 (all_sorted p ys parts.1)

  pub any_put : (p : X → Bool) (x : X) (ys : List X) → list_any p (put_by number x ys) ≡ list_any p (x ∷ ys)
  any_put p x [] = refl
  any_put p x (y ∷ ys) = elim (cases_Bool (nat_lt (number y) (number x))) [
    | inl e ↦ rw (e, (any_put p x ys)) (any_swap (p x) (p y) (list_any p ys))
    | inr e ↦ rw e refl
  ]

  pub any_sorted : (p : X → Bool) (ys : List X) → list_any p (sorted_by number ys) ≡ list_any p ys
  any_sorted p [] = refl
  any_sorted p (y ∷ ys) = any_put p y (sorted_by number ys) ∙ ap (λ (b : Bool). p y || b) (any_sorted p ys)

  -- the greatest number goes to the end
  pub put_behind : (x : X) (ys : List X) → list_all (λ y. nat_lt (number y) (number x)) ys ≡ true → put_by number x ys ≡ ys ++ x ∷ []
  put_behind x [] all = refl
  put_behind x (y ∷ ys) all =
      let parts = and_parts (nat_lt (number y) (number x)) (list_all (λ (z : X). nat_lt (number z) (number x)) ys) all in
      rw parts.0 (ap (λ (l : List X). y ∷ l) (put_behind x ys parts.1))
