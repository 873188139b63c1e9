use Rattle.rm_conditions.proofs.Apart.{turns_apart}
use Rattle.rm_conditions.proofs.turns.law_apart.Goals as goal

pub returns : goal.returns
returns c = turns_apart c.args.t.now.rows c.args.t.now.asks c.args.t.now.tree.apps c.len-records.ensures.apart
