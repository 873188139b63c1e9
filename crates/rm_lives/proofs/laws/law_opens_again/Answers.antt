use Rattle.rm_lives.proofs.Onward.{opens_again}
use Rattle.rm_lives.proofs.laws.law_opens_again.Goals as goal

pub returns : goal.returns
returns c = opens_again c.args.opening.now c.args.log.now
