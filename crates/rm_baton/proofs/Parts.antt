-- The parts of all passes, while they are taken from one pass and given to another.
use Rattle.std.proofs.Common.{◌≡◌, ◌≢◌, ℕ, ◌+◌, ◌≤◌, zero, suc, List, [], ◌∷◌, ◌++◌, set, sym, ap, arith}
use mathlib.Core.Option.{some, some-ne-none, some-injective}
use lib.ListN.{get_elem?}
use Rattle.rm_baton.specs.declared.carries.Known.{Known}
use Rattle.rm_baton.specs.Rule.{parts_of}

module _ {Run T : Type 0} where
  -- the parts after a change of one pass
  pub parts_of-set : (views : List (Known Run T)) (pass : ℕ) (v w : Known Run T) → get_elem? views pass ≡ some v → parts_of (set views pass w) + v.parts ≡ parts_of views + w.parts
  parts_of-set [] pass v w at = absurd (some-ne-none v (sym at))
  parts_of-set (u ∷ views) zero v w at = let same = ap (λ (k : Known Run T). k.parts) (some-injective u v at) in omega arith
  parts_of-set (u ∷ views) (suc pass) v w at = let rest = parts_of-set views pass v w at in omega arith

  pub parts_of-append : (views : List (Known Run T)) (w : Known Run T) → parts_of (views ++ w ∷ []) ≡ parts_of views + w.parts
  parts_of-append [] w = omega arith
  parts_of-append (u ∷ views) w = let rest = parts_of-append views w in omega arith

  -- no pass has more than all have
  pub part_of : (views : List (Known Run T)) (pass : ℕ) (v : Known Run T) → get_elem? views pass ≡ some v → v.parts ≤ parts_of views
  part_of [] pass v at = absurd (some-ne-none v (sym at))
  part_of (u ∷ views) zero v at = let same = ap (λ (k : Known Run T). k.parts) (some-injective u v at) in omega arith
  part_of (u ∷ views) (suc pass) v at = let rest = part_of views pass v at in omega arith

  -- nor have two together
  pub parts_of_two : (views : List (Known Run T)) (pass other : ℕ) (v w : Known Run T) → other ≢ pass → get_elem? views pass ≡ some v → get_elem? views other ≡ some w → v.parts + w.parts ≤ parts_of views
  parts_of_two [] pass other v w apart at there = absurd (some-ne-none v (sym at))
  parts_of_two (u ∷ views) zero zero v w apart at there = absurd (apart (λ i. zero))
  parts_of_two (u ∷ views) zero (suc other) v w apart at there =
      let same = ap (λ (k : Known Run T). k.parts) (some-injective u v at) in let rest = part_of views other w there in omega arith
  parts_of_two (u ∷ views) (suc pass) zero v w apart at there =
      let same = ap (λ (k : Known Run T). k.parts) (some-injective u w there) in let rest = part_of views pass v at in omega arith
  parts_of_two (u ∷ views) (suc pass) (suc other) v w apart at there =
      let rest = parts_of_two views pass other v w (λ e. apart (ap suc e)) at there in omega arith
