use Rattle.rm_book.proofs.Common.{◌≡◌, ◌+◌, drop}
use Rattle.rm_book.specs.ManyAsks.{lines_after}
use Rattle.rm_book.proofs.many.lines_after.Given as goal

abbrev pub invariant-asks : goal.invariant-asks
invariant-asks l = record {
  order : l.order ≡ l.asked + l.ask-index;
  after : lines_after (drop l.ask-index l.asks) l.order l.after.items ≡ lines_after l.asks l.asked l.lines;
}
