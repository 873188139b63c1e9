use Rattle.rm_book.proofs.Common.{sym, ap, ◌∙◌, List, arith, Ask}
use Rattle.std.proofs.lemmas.List.{drop_all}
use Rattle.rm_book.specs.ManyAsks.{lines_after}
use Rattle.rm_book.proofs.ManyAsks.{step}
use Rattle.rm_book.proofs.many.lines_after.Goals as goal

pub asks-preserved : goal.asks-preserved
asks-preserved c = record {
  order = omega (arith, c.asks.invariant.order);
  after = step c.args.asks.now c.asks.ask-index _ c.asks.order c.asks.after.items c.set_line.new.lines.items _ c.asks-test.true c.in_ok-set_line.ensures.ok c.asks.invariant.after;
}

pub returns : goal.returns
returns c =
    ap (λ (more : List Ask). lines_after more c.asks.order c.asks.after.items) (sym (drop_all c.asks.ask-index c.args.asks.now (omega (arith, c.asks-test.false)))) ∙ c.asks.invariant.after
