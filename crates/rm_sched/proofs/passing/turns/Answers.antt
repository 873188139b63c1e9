use Rattle.std.proofs.Common.{◌∙◌}
use Rattle.rm_sched.proofs.Turned.{all_turned}
use Rattle.rm_sched.proofs.passing.turns.Goals as goal

pub returns : goal.returns
returns c = rw (all_turned c.args.t.now c.as_slice.result.now c.len-apart.ensures.apart (c.as_slice.ensures ∙ c.in_ok-kept.ensures)) at c.turns_of.ensures
