use Rattle.rm_laws.proofs.WithoutKeep.{without_keep}
use Rattle.rm_laws.proofs.law_without_keep.Goals as goal

pub returns : goal.returns
returns c = record { law = without_keep c.args.opening.now c.args.log.now }
