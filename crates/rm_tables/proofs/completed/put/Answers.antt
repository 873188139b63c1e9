use Rattle.std.proofs.Common.{◌≡◌, ◌≤◌, ℕ, List, nat_le, true, false, sym, ◌∙◌, subst, arith, rules}
use Rattle.std.specs.List.Sorted.{IsNonDecreasingBy, IsPartitionPoint}
use Rattle.std.proofs.lemmas.Bool.Decides.{nat_tests}
use Rattle.std.proofs.lemmas.List.Sorted.{IsNonDecreasingBy-insert, IsPartitionPoint-from_clause, IsPartitionedBy-leb}
use Rattle.rm_tables.specs.declared.completed.Completion.{Completion}
use Rattle.rm_tables.proofs.Inserted.{inserted}
use Rattle.rm_tables.proofs.completed.put.Goals as goal

-- the place is the one up to which none is later
point : (c : goal.In_ok-insert) → IsPartitionPoint (λ (y : Completion). nat_le y.order c.args.one.order ≡ true) (λ y. nat_le y.order c.args.one.order ≡ false) c.args.completions.now.items c.partition_point-place.result
point c =
    IsPartitionPoint-from_clause (λ (y : Completion). nat_le y.order c.args.one.order) c.args.completions.now.items c.partition_point-place.result
    (rw c.deref.ensures.value at c.partition_point-place.ensures.partitioned) (IsPartitionedBy-leb (λ (y : Completion). y.order) c.args.completions.now.items c.args.one.order c.requires.sorted)
    (λ a r q k. search rules)

pub returns-clause-put : goal.returns-clause-put
returns-clause-put c =
    let at = point c in
    c.in_ok-insert.ensures.items
    ∙ inserted c.args.one c.args.completions.now.items c.partition_point-place.result (rw c.deref.ensures.value at c.partition_point-place.ensures.bound)
    (λ k d lt. at.0 k d (omega arith) lt) (λ k d ge lt. at.1 k d ge lt)

at_most : (a b : ℕ) → nat_le a b ≡ true → a ≤ b
at_most a b e = grind (arith, nat_tests)

above : (a b : ℕ) → nat_le a b ≡ false → b ≤ a
above a b e = grind (arith, nat_tests)

pub returns-clause-sorted : goal.returns-clause-sorted
returns-clause-sorted c =
    let at = point c in
    subst (λ (ys : List Completion). IsNonDecreasingBy (λ y. y.order) ys) (sym c.in_ok-insert.ensures.items)
    (IsNonDecreasingBy-insert (λ (y : Completion). y.order) c.args.completions.now.items c.partition_point-place.result c.args.one c.requires.sorted (rw c.deref.ensures.value at c.partition_point-place.ensures.bound)
    (λ k d lt. at_most _ _ (at.0 k d (omega arith) lt)) (λ k d ge lt. above _ _ (at.1 k d ge lt)))
