use Rattle.std.proofs.Common.{◌≡◌, take}
use Rattle.rm_tables.specs.Leaving.{closed_in}
use Rattle.rm_sched.specs.ClosingLists.{with_lists}
use Rattle.rm_sched.proofs.closing_lists.closing_lists.Given as goal

abbrev pub invariant-closings : goal.invariant-closings
invariant-closings l = with_lists l.lists l.rows ≡ closed_in l.rows (take l.closing-index l.closings)
