use Rattle.std.proofs.Common.{◌≡◌, length}
use Rattle.rm_sched.specs.ClosingLists.{with_lists}
use Rattle.rm_sched.proofs.closing_lists.set_lists.Given as goal

abbrev pub invariant-lists : goal.invariant-lists
invariant-lists l = with_lists l.lists l.rows ≡ with_lists l.initial.lists l.initial.rows

abbrev pub decreases-lists : goal.decreases-lists
decreases-lists l = length l.lists
