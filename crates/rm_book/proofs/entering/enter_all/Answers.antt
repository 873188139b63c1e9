use Rattle.rm_book.proofs.Common.{arith}
use Rattle.rm_book.proofs.Batch.{last_undone}
use Rattle.rm_book.proofs.entering.enter_all.Goals as goal

pub undo-preserved-in-undo : goal.undo-preserved-in-undo
undo-preserved-in-undo g c = record {
  within = omega (arith, c.undo.invariant.within);
  rows = last_undone c.args.state c.args.node.now c.args.added c.undo.entered c.args.rows.now c.undo.rows c.remove.new.self c.args.list.now c.undo.invariant.within c.undo-test.true c.requires.new
      c.remove.ensures.rest c.undo.invariant.rows;
}

pub undo-preserved : goal.undo-preserved
undo-preserved g c = record {
  within = omega (arith, c.undo.invariant.within);
  rows = last_undone c.args.state c.args.node.now c.args.added c.undo.entered c.args.rows.now c.undo.rows c.remove.new.self c.args.list.now c.undo.invariant.within c.undo-test.true c.requires.new
      c.remove.ensures.rest c.undo.invariant.rows;
}
