use Rattle.rm_laws.proofs.WithoutRecovery.{without_recovery}
use Rattle.rm_laws.proofs.law_without_recovery.Goals as goal

pub returns : goal.returns
returns c = record { law = without_recovery c.args.settings.now c.args.opening.now c.args.log.now }
