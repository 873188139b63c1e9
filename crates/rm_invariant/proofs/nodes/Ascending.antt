-- Lists in ascending order told by a relation: a permutation that is sorted. Nothing of a list is lost in one.
use Rattle.rm_invariant.proofs.Common.{◌≡◌, ℕ, zero, suc, ◌<◌, List, [], ◌∷◌, length, get_or, Bool, true, false, not, ◌||◌, filter, refl, subst, arith, Contains, false≢true, ContainerId, is_container, container_itself, same_container, has_container}
use Rattle.std.specs.Prelude.{IsPermutation}
use Rattle.std.proofs.lemmas.List.Sorted.{Contains-permutation}
use Rattle.rm_invariant.proofs.nodes.Lists.{all_go}
use Rattle.rm_invariant.proofs.nodes.Moved.{Contains-first, Contains-more}

has_contains : (xs : List ContainerId) (id : ContainerId) → has_container xs id ≡ true → Contains xs id
has_contains [] id h = absurd (false≢true h)
has_contains (x ∷ xs) id h = by_test (is_container x id) refl (has_contains xs id)
  where
    by_test : (b : Bool) → is_container x id ≡ b → (has_container xs id ≡ true → Contains xs id) → Contains (x ∷ xs) id
    by_test true e rest = subst (λ (y : ContainerId). Contains (x ∷ xs) y) (same_container x id e) (Contains-first x xs)
    by_test false e rest = Contains-more id x xs (rest (rw e at h))

contains_has : (xs : List ContainerId) (id : ContainerId) (k : ℕ) → k < length xs → get_or xs k id ≡ id → has_container xs id ≡ true
contains_has [] id k lt is = absurd (omega (arith, lt))
contains_has (x ∷ xs) id zero lt is =
    let e : is_container x id ≡ true = rw is (container_itself id) in rw e refl
contains_has (x ∷ xs) id (suc k) lt is = or_true (is_container x id) (contains_has xs id k (omega (arith, lt)) is)
  where
    or_true : (b : Bool) → has_container xs id ≡ true → (b || has_container xs id) ≡ true
    or_true true h = refl
    or_true false h = h

pub permuted_has : (xs ys : List ContainerId) (id : ContainerId) → IsPermutation xs ys → has_container xs id ≡ true → has_container ys id ≡ true
permuted_has xs ys id p h =
    let c = Contains-permutation xs ys id p (has_contains xs id h) in contains_has ys id c.0 c.1 c.2

-- where all leave, in whatever order, none is left
pub none_after_permuted : (on ids : List ContainerId) → IsPermutation on ids → filter (λ y. not (has_container ids y)) on ≡ []
none_after_permuted on ids p = all_go ids on (λ id h. permuted_has on ids id p h)
