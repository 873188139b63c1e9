-- Lists that a test holds all of, and two views of one list.
use Rattle.rm_book.proofs.Common.{◌≡◌, Bool, true, false, List, [], ◌∷◌, map, filter, refl, ap, list_any, list_all, and_from, and_parts, inl, inr, cases_Bool}

module _ {X : Type 0} where
  pub all_more : (p q : X → Bool) → ((x : X) → p x ≡ true → q x ≡ true) → (xs : List X) → list_all p xs ≡ true → list_all q xs ≡ true
  all_more p q more [] h = refl
  all_more p q more (x ∷ xs) h =
      let parts = and_parts (p x) (list_all p xs) h in and_from (q x) (list_all q xs) (more x parts.0) (all_more p q more xs parts.1)

  -- those of a list that pass another test
  pub all_filter : (p test : X → Bool) (xs : List X) → list_all p xs ≡ true → list_all p (filter test xs) ≡ true
  all_filter p test [] h = refl
  all_filter p test (x ∷ xs) h = let parts = and_parts (p x) (list_all p xs) h in by (test x) refl parts.0 (all_filter p test xs parts.1)
    where
      by : (b : Bool) → test x ≡ b → p x ≡ true → list_all p (filter test xs) ≡ true → list_all p (filter test (x ∷ xs)) ≡ true
      by true e first rest = rw e (and_from (p x) _ first rest)
      by false e first rest = rw e rest

  -- those that pass the test itself
  pub filter_all : (test : X → Bool) (xs : List X) → list_all test (filter test xs) ≡ true
  filter_all test [] = refl
  filter_all test (x ∷ xs) = elim (cases_Bool (test x)) [
    | inl e ↦ rw e (and_from (test x) _ e (filter_all test xs))
    | inr e ↦ rw e (filter_all test xs)
  ]

  -- none of those that pass another test
  pub any_filter : (p test : X → Bool) (xs : List X) → list_any p xs ≡ false → list_any p (filter test xs) ≡ false
  any_filter p test [] h = refl
  any_filter p test (x ∷ xs) h = by (p x) (test x) refl refl (any_filter p test xs)
    where
      by : (a b : Bool) → p x ≡ a → test x ≡ b → (list_any p xs ≡ false → list_any p (filter test xs) ≡ false) → list_any p (filter test (x ∷ xs)) ≡ false
      by true b f e rest = absurd (let h' = rw f at h in cc)
      by false true f e rest = rw (e, f) (rest (rw f at h))
      by false false f e rest = rw e (rest (rw f at h))

module _ {X Y : Type 0} (f : X → Y) where
  pub all_map : (p : X → Bool) (q : Y → Bool) → ((x : X) → p x ≡ true → q (f x) ≡ true) → (xs : List X) → list_all p xs ≡ true → list_all q (map f xs) ≡ true
  all_map p q more [] h = refl
  all_map p q more (x ∷ xs) h = let parts = and_parts (p x) (list_all p xs) h in and_from (q (f x)) _ (more x parts.0) (all_map p q more xs parts.1)

  -- a test and a change that see the view alone
  pub filter_view : (q : Y → Bool) (xs : List X) → map f (filter (λ x. q (f x)) xs) ≡ filter q (map f xs)
  filter_view q [] = refl
  filter_view q (x ∷ xs) = elim (cases_Bool (q (f x))) [
    | inl e ↦ rw e (ap (λ l. f x ∷ l) (filter_view q xs))
    | inr e ↦ rw e (filter_view q xs)
  ]

  pub any_view : (q : Y → Bool) (xs : List X) → list_any (λ x. q (f x)) xs ≡ list_any q (map f xs)
  any_view q [] = refl
  any_view q (x ∷ xs) = rw (any_view q xs) refl

  pub map_view : (g : X → X) (k : Y → Y) → ((x : X) → f (g x) ≡ k (f x)) → (xs : List X) → map f (map g xs) ≡ map k (map f xs)
  map_view g k same [] = refl
  map_view g k same (x ∷ xs) = rw (same x) (ap (λ l. k (f x) ∷ l) (map_view g k same xs))
