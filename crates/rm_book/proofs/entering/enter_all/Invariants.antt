use Rattle.rm_book.proofs.Common.{◌≡◌, ◌++◌, length, take}
use Rattle.std.proofs.Common.{◌≤◌}
use Rattle.rm_book.specs.Kept.{entered_rows}
use Rattle.rm_book.proofs.entering.enter_all.Given as goal

abbrev pub invariant-undo : goal.invariant-undo
invariant-undo g l = record {
  within : l.entered ≤ length l.list;
  rows : l.rows ≡ l.fn.rows ++ entered_rows l.fn.state l.added l.node (take l.entered l.list);
}

abbrev pub decreases-undo : goal.decreases-undo
decreases-undo g l = l.entered
