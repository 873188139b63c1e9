use Rattle.rm_sched.proofs.fit.Counting.{fitting_is}
use Rattle.rm_sched.proofs.fit.turns.fitting.Goals as goal

pub returns : goal.returns
returns c = rw (c.min-2.ensures, c.min.ensures) (fitting_is c.args.count c.args.size c.args.left c.requires)
