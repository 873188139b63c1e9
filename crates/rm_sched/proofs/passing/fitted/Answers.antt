use Rattle.rm_sched.proofs.Granting.{early_is}
use Rattle.rm_sched.proofs.passing.fitted.Goals as goal

pub first_fit-requires-clause-sequences : goal.first_fit-requires-clause-sequences
first_fit-requires-clause-sequences c = rw c.in_ok-order.ensures (early_is c.args.t.now c.requires.pass)
