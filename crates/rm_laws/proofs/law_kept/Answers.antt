use Rattle.rm_laws.proofs.Recorded.{kept_stays}
use Rattle.rm_laws.proofs.law_kept.Goals as goal

pub returns : goal.returns
returns c = record { law = λ p. kept_stays c.args.opening.now c.args.log.now p }
