-- How many of a size fit, and what they leave.
use Rattle.std.proofs.Common.{◌≡◌, ℕ, zero, suc, ◌*◌, ◌/◌, ◌<◌, ◌≤◌, min, Bool, true, false, nat_le, ◌⊎◌, inl, inr, refl, sym, ◌∙◌, arith}
use Rattle.std.proofs.Math.Nat.{le-div_iff_mul-le, mul-le-mul_left}
use Rattle.std.proofs.lemmas.Bool.{leb-true, le-leb, cases_lt, false≢true, and_parts}
use Rattle.rm_types.specs.declared.resources.Resource.{Resource}
use Rattle.rm_types.specs.Passes.{fitting, times}
use Rattle.rm_types.specs.Resources.{Fits, fits}
use Rattle.rm_sched.specs.fit.Conditions.{is_some_size}

-- the test of fit
fits_from : (a b : Resource) → Fits a b → fits a b ≡ true
fits_from a b h = rw (le-leb a.memory_mb b.memory_mb h.0, le-leb a.vcores b.vcores h.1) refl

fits_to : (a b : Resource) → fits a b ≡ true → Fits a b
fits_to a b h = let parts = and_parts (nat_le a.memory_mb b.memory_mb) (nat_le a.vcores b.vcores) h in (leb-true _ _ parts.0, leb-true _ _ parts.1)

-- a size that is something can be divided by
pub some_size : (size : Resource) → is_some_size size ≡ true → (1 ≤ size.memory_mb) × (1 ≤ size.vcores)
some_size size h = let parts = and_parts (nat_le 1 size.memory_mb) (nat_le 1 size.vcores) h in (leb-true _ _ parts.0, leb-true _ _ parts.1)

-- the greatest number that fits, by division
fitting_by : (count a b : ℕ) (size left : Resource) (t : Bool) → fits (times (suc count) size) left ≡ t → ((n : ℕ) → Fits (times n size) left → (n ≤ a) × (n ≤ b))
    → ((n : ℕ) → n ≤ a → n ≤ b → Fits (times n size) left) → fitting count size left ≡ min count (min a b) → fitting (suc count) size left ≡ min (suc count) (min a b)
fitting_by count a b size left true e to from rest = rw e (let bound = to (suc count) (fits_to _ _ e) in omega (arith, bound.0, bound.1))
fitting_by count a b size left false e to from rest = rw e (by_order (cases_lt count (min a b)))
  where
    by_order : (count < min a b) ⊎ (min a b ≤ count) → fitting count size left ≡ min (suc count) (min a b)
    by_order (inl less) = absurd (false≢true (sym e ∙ fits_from _ _ (from (suc count) (omega arith) (omega arith))))
    by_order (inr more) = rest ∙ omega (arith, more)

fitting_min : (count a b : ℕ) (size left : Resource) → ((n : ℕ) → Fits (times n size) left → (n ≤ a) × (n ≤ b))
    → ((n : ℕ) → n ≤ a → n ≤ b → Fits (times n size) left) → fitting count size left ≡ min count (min a b)
fitting_min zero a b size left to from = omega arith
fitting_min (suc count) a b size left to from = fitting_by count a b size left _ refl to from (fitting_min count a b size left to from)

pub fitting_is : (count : ℕ) (size left : Resource) → is_some_size size ≡ true
    → min (min count (left.memory_mb / size.memory_mb)) (left.vcores / size.vcores) ≡ fitting count size left
fitting_is count size left some =
    let there = some_size size some in
    let same = fitting_min count (left.memory_mb / size.memory_mb) (left.vcores / size.vcores) size left
    (λ n h. ((le-div_iff_mul-le there.0).1 h.0, (le-div_iff_mul-le there.1).1 h.1))
    (λ n h k. ((le-div_iff_mul-le there.0).0 h, (le-div_iff_mul-le there.1).0 k)) in
    omega (arith, same)

-- so many do fit
fits_by : (count : ℕ) (size left : Resource) (t : Bool) → fits (times (suc count) size) left ≡ t → Fits (times (fitting count size left) size) left
    → Fits (times (fitting (suc count) size left) size) left
fits_by count size left true e rest = rw e (fits_to _ _ e)
fits_by count size left false e rest = rw e rest

pub fitting_fits : (count : ℕ) (size left : Resource) → Fits (times (fitting count size left) size) left
fitting_fits zero size left = (omega arith, omega arith)
fitting_fits (suc count) size left = fits_by count size left _ refl (fitting_fits count size left)

-- as many as fit are at most the cores that are left
pub fitting_cores : (count : ℕ) (size left : Resource) → is_some_size size ≡ true → fitting count size left ≤ fitting count size left * size.vcores
fitting_cores count size left some = le-mul_cores (fitting count size left) size.vcores (some_size size some).1
  where
    le-mul_cores : (n k : ℕ) → 1 ≤ k → n ≤ n * k
    le-mul_cores n k h = let more : n * 1 ≤ n * k = mul-le-mul_left n h in omega (arith, more)
