use Rattle.std.proofs.Common.{◌≡◌, take}
use Rattle.std.specs.List.Sorted.{IsNonDecreasingBy}
use Rattle.rm_tables.specs.Completed.{completions_in}
use Rattle.rm_tables.proofs.completed.completions_in.Given as goal

abbrev pub invariant-records : goal.invariant-records
invariant-records l = record { put : l.completions.items ≡ completions_in (take l.place l.tree.apps); sorted : IsNonDecreasingBy (λ one. one.order) l.completions.items }
