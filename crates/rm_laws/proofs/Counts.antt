-- How many of a list pass a test.
use Rattle.rm_laws.proofs.Common.{◌≡◌, ℕ, ◌+◌, ◌≤◌, List, [], ◌∷◌, ◌++◌, Bool, true, false, ◌||◌, cond, map, filter, count_by, refl, ap, arith, list_any, sum_by-append}

module _ {X : Type 0} (p : X → Bool) where
  pub count_join : (xs ys : List X) → count_by p (xs ++ ys) ≡ count_by p xs + count_by p ys
  count_join xs ys = sum_by-append (λ (x : X). let n : ℕ = cond (p x) 1 0 in n) xs ys

  pub count_front : (x : X) (xs : List X) → count_by p (x ∷ xs) ≡ count_by p (x ∷ []) + count_by p xs
  count_front x xs = count_join (x ∷ []) xs

  pub count_one : (x : X) (b : Bool) → p x ≡ b → ◌≡◌ {A = ℕ} (count_by p (x ∷ [])) (cond b 1 0)
  count_one x true e = rw e refl
  count_one x false e = rw e refl

  pub count_none : (xs : List X) → list_any p xs ≡ false → count_by p xs ≡ 0
  count_none [] h = refl
  count_none (x ∷ xs) h = go (p x) refl (count_none xs) h
    where
      go : (b : Bool) → p x ≡ b → (list_any p xs ≡ false → count_by p xs ≡ 0) → (b || list_any p xs) ≡ false → count_by p (x ∷ xs) ≡ 0
      go true e more h = cc
      go false e more h = let f = count_front x xs in let o = count_one x false e in let m = more h in omega (arith, f, o, m)

  pub count_map : (g : X → X) → ((x : X) → p (g x) ≡ p x) → (xs : List X) → count_by p (map g xs) ≡ count_by p xs
  count_map g same [] = refl
  count_map g same (x ∷ xs) =
      let a = count_front (g x) (map g xs) in let b = count_front x xs in
      let c : count_by p (g x ∷ []) ≡ count_by p (x ∷ []) = ap (λ (t : Bool). let n : ℕ = 0 + cond t 1 0 in n) (same x) in
      let e = count_map g same xs in omega (arith, a, b, c, e)

  pub count_filter : (q : X → Bool) (xs : List X) → count_by p (filter q xs) ≤ count_by p xs
  count_filter q [] = omega arith
  count_filter q (x ∷ xs) = go (q x) (count_filter q xs)
    where
      go : (b : Bool) → count_by p (filter q xs) ≤ count_by p xs → count_by p (cond b (x ∷ filter q xs) (filter q xs)) ≤ count_by p (x ∷ xs)
      go true h = let a = count_front x (filter q xs) in let b = count_front x xs in omega (arith, a, b, h)
      go false h = let b = count_front x xs in omega (arith, b, h)
