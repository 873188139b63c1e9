-- The dots of a name from its last one on, and so its parents.
use Rattle.std.proofs.Common.{◌≡◌, ℕ, ◌+◌, ◌<◌, zero, suc, Bool, true, false, cond, eqb, List, [], ◌∷◌, ◌++◌, map, take, length, reverse, get_or, ◌⊎◌, refl, sym, ap, ◌∙◌, ⊎_elim, arith, inl, inr}
use Rattle.std.specs.List.{filter, range_with_len}
use Rattle.std.proofs.lemmas.Bool.{cond-true, cond-false, eq-eqb, ne_eqb, eqb-true, cases_eq, cases_Bool, false≢true}
use Rattle.std.proofs.lemmas.List.{reverse-append, get_or-take, take-take, length-take-le}
use Rattle.rm_types.specs.Rights.{parents_of}
use Rattle.rm_queues.specs.Paths.{IsParent}

-- the numbers below a bound, the greatest first
abbrev down : ℕ → List ℕ
down n = reverse (range_with_len 0 n)

range_more : (a n : ℕ) → range_with_len a (suc n) ≡ range_with_len a n ++ (a + n) ∷ []
range_more a zero = ap (λ x. x ∷ []) (omega arith)
range_more a (suc n) = ap (λ xs. a ∷ xs) (range_more (a + 1) n ∙ ap (λ x. range_with_len (a + 1) n ++ x ∷ []) (omega arith))

down_more : (n : ℕ) → down (suc n) ≡ n ∷ down n
down_more n = ap reverse (range_more 0 n) ∙ reverse-append (range_with_len 0 n) ((0 + n) ∷ []) ∙ ap (λ x. x ∷ down n) (omega arith)

-- one place less
filter_more : (test : ℕ → Bool) (n : ℕ) → filter test (down (suc n)) ≡ cond (test n) (n ∷ filter test (down n)) (filter test (down n))
filter_more test n = ap (filter test) (down_more n)

-- a place more, of one test and one value
same_front : (f g : ℕ → List ℕ) (n : ℕ) (xs ys : List ℕ) (c : Bool) → f n ≡ g n → map f xs ≡ map g ys → map f (cond c (n ∷ xs) xs) ≡ map g (cond c (n ∷ ys) ys)
same_front f g n xs ys true value rest = ap (λ x. x ∷ map f xs) value ∙ ap (λ zs. g n ∷ zs) rest
same_front f g n xs ys false value rest = rest

-- what is made of the places below a bound depends on the tests and values there alone
same_below : (f g : ℕ → List ℕ) (p q : ℕ → Bool) (n : ℕ) → ((k : ℕ) → k < n → p k ≡ q k) → ((k : ℕ) → k < n → f k ≡ g k)
    → map f (filter p (down n)) ≡ map g (filter q (down n))
same_below f g p q zero tests values = refl
same_below f g p q (suc n) tests values =
    ap (map f) (filter_more p n ∙ ap (λ t. cond t (n ∷ filter p (down n)) (filter p (down n))) (tests n (omega arith)))
    ∙ same_front f g n (filter p (down n)) (filter q (down n)) (q n) (values n (omega arith))
    (same_below f g p q n (λ k below. tests k (omega arith)) (λ k below. values k (omega arith)))
    ∙ sym (ap (map g) (filter_more q n))

-- no place passes
none_below : (p : ℕ → Bool) (n : ℕ) → ((k : ℕ) → k < n → p k ≡ false) → filter p (down n) ≡ []
none_below p zero none = refl
none_below p (suc n) none =
    filter_more p n ∙ cond-false (p n) (n ∷ filter p (down n)) (filter p (down n)) (none n (omega arith))
    ∙ none_below p n (λ k below. none k (omega arith))

-- the greatest place that passes comes first
greatest_below : (p : ℕ → Bool) (place n : ℕ) → place < n → p place ≡ true → ((k : ℕ) → place < k → k < n → p k ≡ false)
    → filter p (down n) ≡ place ∷ filter p (down place)
greatest_below p place zero within is none = absurd (omega arith)
greatest_below p place (suc n) within is none =
    ⊎_elim
    (λ same. filter_more p n ∙ cond-true (p n) (n ∷ filter p (down n)) (filter p (down n)) (ap p (sym same) ∙ is) ∙ ap (λ k. k ∷ filter p (down k)) (sym same))
    (λ apart.
    filter_more p n ∙ cond-false (p n) (n ∷ filter p (down n)) (filter p (down n)) (none n (omega (arith, apart)) (omega arith))
    ∙ greatest_below p place n (omega (arith, apart)) is (λ k above below. none k above (omega arith)))
    (cases_eq place n)

-- the byte at a place is a dot
abbrev is_dot : List ℕ → ℕ → Bool
is_dot name place = eqb (get_or name place 0) 46

-- a name without a dot has no parents
pub parents_of-none : (name : List ℕ) → ((k : ℕ) → k < length name → get_or name k 0 ≡ 46 → ⊥) → parents_of name ≡ []
parents_of-none name none =
    ap (map (λ place. take place name)) (none_below (is_dot name) (length name) (λ k below. ne_eqb (get_or name k 0) 46 (none k below)))

-- what stands before the last dot of a name is its nearest parent
pub IsParent-from_last_dot : (name : List ℕ) (dot : ℕ) → dot < length name → get_or name dot 0 ≡ 46
    → ((k : ℕ) → dot < k → k < length name → get_or name k 0 ≡ 46 → ⊥) → IsParent name (take dot name)
IsParent-from_last_dot name dot within is none = record {
  path =
      ap (map (λ place. take place name)) (greatest_below (is_dot name) dot (length name) within (eq-eqb (get_or name dot 0) 46 is) (λ k above below. ne_eqb (get_or name k 0) 46 (none k above below)))
      ∙ ap (λ names. take dot name ∷ names)
      (same_below (λ place. take place name) (λ place. take place (take dot name)) (is_dot name) (is_dot (take dot name)) dot
      (λ k below. ap (λ byte. eqb byte 46) (sym (get_or-take dot name k 0 below)))
      (λ k below. sym (take-take k dot name (omega arith)))
      ∙ ap (λ n. map (λ place. take place (take dot name)) (filter (is_dot (take dot name)) (down n))) (sym (length-take-le dot name (omega arith))));
  shorter = omega (arith, length-take-le dot name (omega arith));
}

-- the last place below a bound that passes, or that none does
data Last (p : ℕ → Bool) (n : ℕ) : Type 0 where
  AtNone : ((k : ℕ) → k < n → p k ≡ false) → Last p n
  AtPlace : (place : ℕ) → place < n → p place ≡ true → ((k : ℕ) → place < k → k < n → p k ≡ false) → Last p n

last_below : (p : ℕ → Bool) (n : ℕ) → Last p n
last_below p zero = AtNone (λ k below. absurd (omega arith))
last_below p (suc n) = ⊎_elim (λ is. AtPlace n (omega arith) is (λ k above below. absurd (omega arith))) (λ fails. earlier (last_below p n) fails) (cases_Bool (p n))
  where
    earlier : Last p n → p n ≡ false → Last p (suc n)
    earlier (AtNone none) fails = AtNone (λ k below. ⊎_elim (λ same. ap p same ∙ fails) (λ apart. none k (omega (arith, apart))) (cases_eq k n))
    earlier (AtPlace place within is none) fails =
        AtPlace place (omega arith) is (λ k above below. ⊎_elim (λ same. ap p same ∙ fails) (λ apart. none k above (omega (arith, apart))) (cases_eq k n))

-- a name has no parents, or a nearest one
pub parent_cases : (name : List ℕ) → (parents_of name ≡ []) ⊎ ((parent : List ℕ) × IsParent name parent)
parent_cases name = by_last (last_below (is_dot name) (length name))
  where
    by_last : Last (is_dot name) (length name) → (parents_of name ≡ []) ⊎ ((parent : List ℕ) × IsParent name parent)
    by_last (AtNone none) = inl (parents_of-none name (λ k below is. false≢true (sym (none k below) ∙ eq-eqb (get_or name k 0) 46 is)))
    by_last (AtPlace dot within is none) =
        inr (take dot name, IsParent-from_last_dot name dot within (eqb-true (get_or name dot 0) 46 is) (λ k above below e. false≢true (sym (none k above below) ∙ eq-eqb (get_or name k 0) 46 e)))
