-- One more item at either end of a list, for a test that is counted; and lists put together.
use Rattle.rm_invariant.proofs.Common.{◌≡◌, ◌≤◌, ℕ, ◌+◌, suc, List, [], ◌∷◌, ◌++◌, Bool, true, false, refl, sym, ◌∙◌, arith, list_any, flat_map, sum_by-append, sum_by-cons}
use Rattle.std.proofs.Common.{cond, count_by}
use Rattle.rm_invariant.specs.apps.View.{one_if}

one_is : (b : Bool) (n : ℕ) → cond b 1 0 + n ≡ one_if b n
one_is true n = omega arith
one_is false n = omega arith

pub at_front : {X : Type 0} (p : X → Bool) (x : X) (xs : List X) → count_by p (x ∷ xs) ≡ one_if (p x) (count_by p xs)
at_front p x xs = sum_by-cons (λ y. cond (p y) 1 0) x xs ∙ one_is (p x) (count_by p xs)

pub at_end : {X : Type 0} (p : X → Bool) (xs : List X) (x : X) → count_by p (xs ++ x ∷ []) ≡ one_if (p x) (count_by p xs)
at_end p xs x =
    let e : count_by p (xs ++ x ∷ []) ≡ count_by p xs + count_by p (x ∷ []) = sum_by-append (λ y. cond (p y) 1 0) xs (x ∷ []) in
    let f : count_by p (x ∷ []) ≡ cond (p x) 1 0 + count_by p [] = sum_by-cons (λ y. cond (p y) 1 0) x [] in
    let g : count_by p (xs ++ x ∷ []) ≡ cond (p x) 1 0 + count_by p xs = omega (arith, e, f) in
    g ∙ one_is (p x) (count_by p xs)

none_more : {X : Type 0} (p r : X → Bool) → ((x : X) → r x ≡ true → p x ≡ true) → (x : X) (xs : List X) (b c : Bool) → p x ≡ b → r x ≡ c → count_by p (x ∷ xs) ≡ 0
    → (count_by p xs ≡ 0 → list_any r xs ≡ false) → list_any r (x ∷ xs) ≡ false
none_more p r under x xs b true e f n h =
    let own : p x ≡ true = under x f in
    let g : count_by p (x ∷ xs) ≡ suc (count_by p xs) = at_front p x xs ∙ rw own refl in
    absurd (omega (arith, g, n))
none_more p r under x xs true false e f n h =
    let g : count_by p (x ∷ xs) ≡ suc (count_by p xs) = at_front p x xs ∙ rw e refl in
    absurd (omega (arith, g, n))
none_more p r under x xs false false e f n h =
    let g : count_by p (x ∷ xs) ≡ count_by p xs = at_front p x xs ∙ rw e refl in
    rw f (h (sym g ∙ n))

-- where a test never passes, no stronger one does
pub none_under : {X : Type 0} (p r : X → Bool) → ((x : X) → r x ≡ true → p x ≡ true) → (xs : List X) → count_by p xs ≡ 0 → list_any r xs ≡ false
none_under p r under [] n = refl
none_under p r under (x ∷ xs) n = none_more p r under x xs (p x) (r x) refl refl n (none_under p r under xs)

some_more : {X : Type 0} (p : X → Bool) (x : X) (xs : List X) (b : Bool) → p x ≡ b → 1 ≤ count_by p (x ∷ xs) → (1 ≤ count_by p xs → list_any p xs ≡ true) → list_any p (x ∷ xs) ≡ true
some_more p x xs true e n h = rw e refl
some_more p x xs false e n h =
    let g : count_by p (x ∷ xs) ≡ count_by p xs = at_front p x xs ∙ rw e refl in
    rw e (h (omega (arith, g, n)))

-- where a test passes at least once, one passes
pub some_passes : {X : Type 0} (p : X → Bool) (xs : List X) → 1 ≤ count_by p xs → list_any p xs ≡ true
some_passes p [] n = absurd (omega (arith, n))
some_passes p (x ∷ xs) n = some_more p x xs (p x) refl n (some_passes p xs)

passes_more : {X : Type 0} (p : X → Bool) (x : X) (xs : List X) (b : Bool) → p x ≡ b → list_any p (x ∷ xs) ≡ true → (list_any p xs ≡ true → 1 ≤ count_by p xs) → 1 ≤ count_by p (x ∷ xs)
passes_more p x xs true e n h =
    let g : count_by p (x ∷ xs) ≡ suc (count_by p xs) = at_front p x xs ∙ rw e refl in
    omega (arith, g)
passes_more p x xs false e n h =
    let g : count_by p (x ∷ xs) ≡ count_by p xs = at_front p x xs ∙ rw e refl in
    let m = h (rw e at n) in
    omega (arith, g, m)

-- and the other way round
pub passes_once : {X : Type 0} (p : X → Bool) (xs : List X) → list_any p xs ≡ true → 1 ≤ count_by p xs
passes_once p [] n = cc
passes_once p (x ∷ xs) n = passes_more p x xs (p x) refl n (passes_once p xs)

fails_more : {X : Type 0} (p : X → Bool) (x : X) (xs : List X) (b : Bool) → p x ≡ b → list_any p (x ∷ xs) ≡ false → (list_any p xs ≡ false → count_by p xs ≡ 0) → count_by p (x ∷ xs) ≡ 0
fails_more p x xs true e n h = absurd (let f = rw e at n in cc)
fails_more p x xs false e n h =
    let g : count_by p (x ∷ xs) ≡ count_by p xs = at_front p x xs ∙ rw e refl in
    g ∙ h (rw e at n)

pub fails_never : {X : Type 0} (p : X → Bool) (xs : List X) → list_any p xs ≡ false → count_by p xs ≡ 0
fails_never p [] n = refl
fails_never p (x ∷ xs) n = fails_more p x xs (p x) refl n (fails_never p xs)

-- a test is counted over two lists, one behind the other
pub count_append : {X : Type 0} (p : X → Bool) (xs ys : List X) → count_by p (xs ++ ys) ≡ count_by p xs + count_by p ys
count_append p xs ys = sum_by-append (λ y. cond (p y) 1 0) xs ys

-- where a test passes in none of the lists, it passes in none of them put together
pub none_among : {X Y : Type 0} (items : X → List Y) (p : Y → Bool) → ((x : X) → count_by p (items x) ≡ 0) → (xs : List X) → count_by p (flat_map items xs) ≡ 0
none_among items p none [] = refl
none_among items p none (x ∷ xs) =
    let here = none x in
    let more = none_among items p none xs in
    let all = count_append p (items x) (flat_map items xs) in
    omega (arith, here, more, all)
