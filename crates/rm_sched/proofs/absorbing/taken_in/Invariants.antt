use Rattle.std.proofs.Common.{◌≡◌, [], fold, take}
use Rattle.rm_tables.specs.Absorbing.{counted_in, tables_with_counted}
use Rattle.rm_sched.proofs.absorbing.taken_in.Given as goal

abbrev pub invariant-running : goal.invariant-running
invariant-running l =
    l.taken ≡ fold (λ taken held. tables_with_counted l.t l.name l.row.capability taken (counted_in l.t l.name held)) [] (take l.held-index l.held-items)
