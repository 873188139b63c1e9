-- A completion that is inserted at the point up to which none is later stands where it is put.
use Rattle.std.proofs.Common.{◌≡◌, ◌≤◌, ◌<◌, ℕ, zero, suc, List, [], ◌∷◌, true, false, length, get_or, nat_le, refl, ap, arith}
use Rattle.std.specs.List.{insert}
use Rattle.rm_tables.specs.declared.completed.Completion.{Completion}
use Rattle.rm_tables.specs.Completed.{put_completion}

pub inserted : (one : Completion) (xs : List Completion) (place : ℕ) → place ≤ length xs
    → ((k : ℕ) (d : Completion) → k < place → nat_le (get_or xs k d).order one.order ≡ true)
    → ((k : ℕ) (d : Completion) → place ≤ k → k < length xs → nat_le (get_or xs k d).order one.order ≡ false)
    → insert xs place one ≡ put_completion one xs
inserted one [] zero within before behind = refl
inserted one [] (suc place) within before behind = absurd (omega (arith, within))
inserted one (x ∷ xs) zero within before behind = let later : nat_le x.order one.order ≡ false = behind 0 x (omega arith) (omega arith) in rw later refl
inserted one (x ∷ xs) (suc place) within before behind =
    let first : nat_le x.order one.order ≡ true = before 0 x (omega arith) in
    let rest = inserted one xs place (omega (arith, within)) (λ k d lt. before (suc k) d (omega (arith, lt))) (λ k d ge lt. behind (suc k) d (omega (arith, ge)) (omega (arith, lt))) in
    rw first (ap (λ ys. x ∷ ys) rest)
