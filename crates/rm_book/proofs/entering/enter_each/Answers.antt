use Rattle.rm_book.proofs.Common.{◌+◌, sym, ◌∙◌, arith}
use Rattle.rm_book.proofs.Batch.{fresh_at, one_entered}
use Rattle.rm_book.proofs.GroupSteps.{at_ok}
use Rattle.rm_book.proofs.entering.enter_each.Goals as goal

pub add-requires : goal.add-requires
add-requires c =
    rw c.list.invariant.rows (fresh_at c.args.state c.args.node.now c.args.added c.list.place c.args.rows.now c.args.list.now _ c.list-test.true c.requires.new)

pub list-preserved : goal.list-preserved
list-preserved c = record {
  told = omega (arith, c.list.invariant.told);
  rows =
      one_entered c.args.state c.args.node.now c.args.added c.list.place (c.list.told + 1) c.args.rows.now c.list.rows c.add.new.self c.args.list.now _ c.list-test.true
      (omega (arith, c.list.invariant.told)) c.list.invariant.rows (at_ok c.add.result (sym c.is_err.ensures.value ∙ c.if-is_err.false) c.add.ensures.ok);
}
