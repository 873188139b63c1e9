use Rattle.std.specs.List.{AllAdjacentBelow}
use Rattle.rm_core.specs.Ends.{IsUp}
use Rattle.rm_core.proofs.ends.are_in_step.Given as goal

abbrev pub invariant-ends : goal.invariant-ends
invariant-ends l = AllAdjacentBelow IsUp l.ends l.place
