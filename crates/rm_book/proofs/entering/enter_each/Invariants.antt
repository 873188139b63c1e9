use Rattle.rm_book.proofs.Common.{◌≡◌, ◌+◌, ◌++◌, take}
use Rattle.rm_book.specs.Kept.{entered_rows}
use Rattle.rm_book.proofs.entering.enter_each.Given as goal

abbrev pub invariant-list : goal.invariant-list
invariant-list l = record {
  told : l.told ≡ l.added + l.place;
  rows : l.rows ≡ l.initial.rows ++ entered_rows l.state l.added l.node (take l.place l.list);
}
