use Rattle.std.proofs.Common.{◌≡◌, take}
use Rattle.rm_tables.specs.Absorbing.{capability_left}
use Rattle.rm_sched.proofs.absorbing.left_beside.Given as goal

abbrev pub invariant-taken : goal.invariant-taken
invariant-taken l = l.left ≡ capability_left l.initial.left (take l.held-index l.taken)
