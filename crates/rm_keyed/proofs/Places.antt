-- The places of keys, sorted and each once, are those of the list's order.
use Rattle.std.proofs.Common.{◌≡◌, ℕ, suc, ◌+◌, ◌<◌, Bool, true, false, ◌&&◌, ◌||◌, List, [], ◌∷◌, filter, Option, None, Some, refl, sym, ap, ◌∙◌, arith, eqb}
use Rattle.std.specs.Prelude.{position}
use Rattle.std.specs.BTreeMap.{is_at}
use Rattle.std.specs.Cmp.{IsEquivalence}
use Rattle.std.specs.declared.cmp.Ordering.TheVariants.{Less}
use Rattle.std.specs.List.{AllByRecursion, IsDistinct, cons_option, dedup, dedup_from, filter_map, list_any, position_from}
use Rattle.std.specs.List.Retain.{IsFiltered, DiffersFromLast}
use Rattle.std.specs.List.Sorted.{IsPermutation, IsSorted, IsStrictlySortedBy}
use Rattle.std.specs.Map.{keys_of}
use Rattle.std.specs.Ordering.{nat_cmp}
use Rattle.std.proofs.lemmas.Bool.{eqb-true}
use Rattle.std.proofs.lemmas.Bool.Decides.{nat_tests}
use Rattle.std.proofs.lemmas.Cmp.{nat_cmp_total}
use Rattle.std.proofs.lemmas.Iterator.Adapters.{position_from-zero}
use Rattle.std.proofs.lemmas.List.Filters.{dedup_is}
use Rattle.std.proofs.lemmas.List.Sorted.{list_any-IsPermutation}
use Rattle.std.proofs.lemmas.Map.Keys.{IsDistinct-head, IsDistinct-tail, IsStrictlyIncreasing-dedup, sorted_from_strictly_increasing}
use Rattle.std.proofs.lemmas.Map.Lookups.{btree_set_from_contains, exact_unsigned}
use Rattle.rm_keyed.specs.Slots.{key_at, live, places_of}

-- a number is among ascending ones as it is among those that `dedup` leaves
either_again : (a b : Bool) → (a || (a || b)) ≡ (a || b)
either_again true b = refl
either_again false b = refl

any_dedup_from : (n k : ℕ) (xs : List ℕ) → list_any (λ i. eqb n i) (dedup_from eqb k xs) ≡ (eqb n k || list_any (λ i. eqb n i) xs)
any_dedup_from n k [] = refl
any_dedup_from n k (x ∷ xs) = by (eqb x k) refl (λ one. any_dedup_from n one xs)
  where
    by : (b : Bool) → eqb x k ≡ b → ((one : ℕ) → list_any (λ i. eqb n i) (dedup_from eqb one xs) ≡ (eqb n one || list_any (λ i. eqb n i) xs))
        → list_any (λ i. eqb n i) (dedup_from eqb k (x ∷ xs)) ≡ (eqb n k || (eqb n x || list_any (λ i. eqb n i) xs))
    by true e rest =
        let same = eqb-true x k e in
        rw e (rest k ∙ sym (either_again (eqb n k) (list_any (λ i. eqb n i) xs)) ∙ ap (λ y. eqb n k || (eqb n y || list_any (λ i. eqb n i) xs)) (sym same))
    by false e rest = rw e (ap (λ b. eqb n k || b) (rest x))

any_dedup : (n : ℕ) (xs : List ℕ) → list_any (λ i. eqb n i) (dedup eqb xs) ≡ list_any (λ i. eqb n i) xs
any_dedup n [] = refl
any_dedup n (x ∷ xs) = any_dedup_from n x xs

-- the same by the order of numbers
at_same : (n i : ℕ) → is_at (nat_cmp n) i ≡ eqb n i
at_same n i = grind (arith, nat_tests)

any_at : (n : ℕ) (xs : List ℕ) → list_any (is_at (nat_cmp n)) xs ≡ list_any (λ i. eqb n i) xs
any_at n [] = refl
any_at n (x ∷ xs) = rw (at_same n x, any_at n xs) refl

-- ascending numbers are known by which there are
same_numbers : (xs ys : List ℕ) → IsStrictlySortedBy nat_cmp xs → IsStrictlySortedBy nat_cmp ys
    → ((n : ℕ) → list_any (λ i. eqb n i) xs ≡ list_any (λ i. eqb n i) ys) → xs ≡ ys
same_numbers xs ys s t same = btree_set_from_contains nat_cmp_total (record { keys = xs }) (record { keys = ys }) s t (λ n. any_at n xs ∙ same n ∙ sym (any_at n ys)) exact_unsigned

-- places ascend
module _ {X : Type 0} (test : X → Bool) where
  below_less : (a b : ℕ) → a < b → nat_cmp a b ≡ Less
  below_less a b h = grind (arith, nat_tests)

  all_later : (n before : ℕ) (xs : List X) → n < before → AllByRecursion (λ y. nat_cmp n y ≡ Less) (places_of before test xs)
  all_later n before [] h = tt
  all_later n before (x ∷ xs) h = by (test x) refl (all_later n (suc before) xs (omega (arith, h)))
    where
      by : (b : Bool) → test x ≡ b → AllByRecursion (λ y. nat_cmp n y ≡ Less) (places_of (suc before) test xs) → AllByRecursion (λ y. nat_cmp n y ≡ Less) (places_of before test (x ∷ xs))
      by true e rest = rw e (below_less n before h, rest)
      by false e rest = rw e rest

  places_ascend : (before : ℕ) (xs : List X) → IsStrictlySortedBy nat_cmp (places_of before test xs)
  unfolding IsStrictlySortedBy
  places_ascend before [] = tt
  places_ascend before (x ∷ xs) = by (test x) refl (places_ascend (suc before) xs)
    where
      by : (b : Bool) → test x ≡ b → IsStrictlySortedBy nat_cmp (places_of (suc before) test xs) → IsStrictlySortedBy nat_cmp (places_of before test (x ∷ xs))
      by true e rest = rw e (all_later before (suc before) xs (omega arith), rest)
      by false e rest = rw e rest

-- whether the one at a place, where so many stand before the first, passes a test
abbrev passes_at : {X : Type 0} → (X → Bool) → ℕ → ℕ → List X → Bool
passes_at test n before [] = false
passes_at test n before (x ∷ xs) = (eqb n before && test x) || passes_at test n (suc before) xs

-- that is whether its place is among the places
among_places : {X : Type 0} (test : X → Bool) (n before : ℕ) (xs : List X) → list_any (λ i. eqb n i) (places_of before test xs) ≡ passes_at test n before xs
among_places test n before [] = refl
among_places test n before (x ∷ xs) = by (test x) (eqb n before) refl refl (among_places test n (suc before) xs)
  where
    by : (b c : Bool) → test x ≡ b → eqb n before ≡ c → list_any (λ i. eqb n i) (places_of (suc before) test xs) ≡ passes_at test n (suc before) xs
        → list_any (λ i. eqb n i) (places_of before test (x ∷ xs)) ≡ passes_at test n before (x ∷ xs)
    by true true e f rest = rw (e, f) refl
    by true false e f rest = rw (e, f) rest
    by false true e f rest = rw (e, f) rest
    by false false e f rest = rw (e, f) rest

-- no one passes a test that fails at each
none_passes : {X : Type 0} (test : X → Bool) (n before : ℕ) (xs : List X) → AllByRecursion (λ y. test y ≡ false) xs → passes_at test n before xs ≡ false
none_passes test n before [] a = refl
none_passes test n before (x ∷ xs) a = rw (a.0, none_passes test n (suc before) xs a.1) (and_false (eqb n before))
  where
    and_false : (b : Bool) → ((b && false) || false) ≡ false
    and_false true = refl
    and_false false = refl

-- one of two tests
either_passes : {X : Type 0} (t u : X → Bool) (n before : ℕ) (xs : List X) → passes_at (λ x. t x || u x) n before xs ≡ (passes_at t n before xs || passes_at u n before xs)
either_passes t u n before [] = refl
either_passes t u n before (x ∷ xs) = rw (either_passes t u n (suc before) xs) (parts (eqb n before) (t x) (u x) (passes_at t n (suc before) xs) (passes_at u n (suc before) xs))
  where
    parts : (a b c p q : Bool) → ((a && (b || c)) || (p || q)) ≡ (((a && b) || p) || ((a && c) || q))
    parts true true c p q = refl
    parts true false true p q = or_true p
      where
        or_true : (p : Bool) → true ≡ (p || true)
        or_true true = refl
        or_true false = refl
    parts true false false p q = refl
    parts false b c p q = refl

never : {X : Type 0} (n before : ℕ) (xs : List X) → passes_at (λ x. false) n before xs ≡ false
never n before [] = refl
never n before (x ∷ xs) = rw (never n (suc before) xs) (and_false (eqb n before))
  where
    and_false : (b : Bool) → ((b && false) || false) ≡ false
    and_false true = refl
    and_false false = refl

-- a place that was found is this
abbrev is_found : ℕ → Option ℕ → Bool
is_found n None = false
is_found n (Some i) = eqb n i

module _ {K : Type 0} {eq : K → K → Bool} (laws : IsEquivalence eq) where
  others : (key : K) (keys : List K) (k : K) → eq key k ≡ true → AllByRecursion (λ y. eq k y ≡ false) keys → AllByRecursion (λ y. eq key y ≡ false) keys
  others key [] k e d = tt
  others key (y ∷ keys) k e d = (laws.congr key k y e ∙ d.0, others key keys k e d.1)

  -- a key is found at the place where it stands
  found_from : (key : K) (n before : ℕ) (keys : List K) → IsDistinct eq keys → is_found n (position_from (eq key) before keys) ≡ passes_at (eq key) n before keys
  found_from key n before [] d = refl
  found_from key n before (k ∷ keys) d = by (eq key k) refl (found_from key n (suc before) keys (IsDistinct-tail eq k keys d))
    where
      one : before + 1 ≡ suc before
      one = omega arith

      alone : (b : Bool) → b ≡ ((b && true) || false)
      alone true = refl
      alone false = refl

      past : (b : Bool) (c : Bool) → c ≡ ((b && false) || c)
      past true c = refl
      past false c = refl

      by : (b : Bool) → eq key k ≡ b → is_found n (position_from (eq key) (suc before) keys) ≡ passes_at (eq key) n (suc before) keys
          → is_found n (position_from (eq key) before (k ∷ keys)) ≡ passes_at (eq key) n before (k ∷ keys)
      by true e rest =
          let none = none_passes (eq key) n (suc before) keys (others key keys k e (IsDistinct-head eq k keys d)) in
          rw (e, none) (alone (eqb n before))
      by false e rest = rw (e, one) (rest ∙ past (eqb n before) (passes_at (eq key) n (suc before) keys))

  found_at : (key : K) (n : ℕ) (keys : List K) → IsDistinct eq keys → is_found n (position (eq key) keys) ≡ passes_at (eq key) n 0 keys
  found_at key n keys d = ap (is_found n) (position_from-zero (eq key) keys) ∙ found_from key n 0 keys d

  -- a place is among those of many keys where one of them stands there
  found_among : (n : ℕ) (wanted keys : List K) → IsDistinct eq keys
      → list_any (λ i. eqb n i) (filter_map (λ key. position (eq key) keys) wanted) ≡ passes_at (λ k. list_any (λ one. eq one k) wanted) n 0 keys
  found_among n [] keys d = sym (never n 0 keys)
  found_among n (key ∷ wanted) keys d =
      put_first (position (eq key) keys) (filter_map (λ key. position (eq key) keys) wanted)
      ∙ ap (λ b. b || list_any (λ i. eqb n i) (filter_map (λ key. position (eq key) keys) wanted)) (found_at key n keys d)
      ∙ ap (λ b. passes_at (eq key) n 0 keys || b) (found_among n wanted keys d)
      ∙ sym (either_passes (eq key) (λ k. list_any (λ one. eq one k) wanted) n 0 keys)
    where
      put_first : (found : Option ℕ) (more : List ℕ) → list_any (λ i. eqb n i) (cons_option found more) ≡ (is_found n found || list_any (λ i. eqb n i) more)
      put_first None more = refl
      put_first (Some i) more = refl

  -- the places of keys in the order of the list
  pub in_places : (wanted keys : List K) (found sorted left : List ℕ) → IsDistinct eq keys → found ≡ filter_map (λ key. position (eq key) keys) wanted
      → IsPermutation found sorted → IsSorted nat_cmp sorted → IsFiltered (DiffersFromLast eqb) [] sorted left
      → left ≡ places_of 0 (λ key. list_any (λ one. eq one key) wanted) keys
  in_places wanted keys found sorted left d is moved order once =
      let deduped = dedup_is eqb sorted left once in
      deduped
      ∙ same_numbers (dedup eqb sorted) (places_of 0 (λ key. list_any (λ one. eq one key) wanted) keys)
      (sorted_from_strictly_increasing (dedup eqb sorted) (IsStrictlyIncreasing-dedup sorted order))
      (places_ascend (λ key. list_any (λ one. eq one key) wanted) 0 keys)
      (λ n.
      any_dedup n sorted ∙ sym (list_any-IsPermutation (λ i. eqb n i) found sorted moved) ∙ ap (list_any (λ i. eqb n i)) is ∙ found_among n wanted keys d
      ∙ sym (among_places (λ key. list_any (λ one. eq one key) wanted) n 0 keys))

-- the keys at the places of those that pass a test, as far as they have values
module _ {K V : Type 0} (test : K → Bool) where
  placed_from : (f : ℕ → Option K) (before : ℕ) (slots : List (K × Option V)) → ((i : ℕ) → f (before + i) ≡ key_at slots i)
      → filter_map f (places_of before test (keys_of slots)) ≡ filter test (keys_of (live slots))
  placed_from f before [] same = refl
  placed_from f before ((key, v) ∷ slots) same = by (test key) v refl (ap f first ∙ same 0) (placed_from f (suc before) slots later)
    where
      first : before ≡ before + 0
      first = omega arith

      later : (i : ℕ) → f (suc before + i) ≡ key_at slots i
      later i = let next : suc before + i ≡ before + suc i = omega arith in ap f next ∙ same (suc i)

      by : (b : Bool) (v : Option V) → test key ≡ b → f before ≡ key_at ((key, v) ∷ slots) 0 → filter_map f (places_of (suc before) test (keys_of slots)) ≡ filter test (keys_of (live slots))
          → filter_map f (places_of before test (key ∷ keys_of slots)) ≡ filter test (keys_of (live ((key, v) ∷ slots)))
      by true None e at rest = rw (e, at) rest
      by true (Some w) e at rest = rw (e, at) (ap (λ more. key ∷ more) rest)
      by false None e at rest = rw e rest
      by false (Some w) e at rest = rw e rest

  pub keys_placed : (slots : List (K × Option V)) → filter_map (key_at slots) (places_of 0 test (keys_of slots)) ≡ filter test (keys_of (live slots))
  keys_placed slots = placed_from (key_at slots) 0 slots (λ i. (let none : 0 + i ≡ i = omega arith in ap (key_at slots) none))
