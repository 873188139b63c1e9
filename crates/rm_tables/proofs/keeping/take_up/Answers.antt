use Rattle.rm_tables.proofs.FirstOp.{first_fits}
use Rattle.rm_tables.proofs.keeping.take_up.Goals as goal

pub record-requires : goal.record-requires
record-requires c = first_fits c.args.t.now.tree c.args.t.now.awaiting c.in-Some.op.now c.in-Some.ensures.first c.requires.fits
