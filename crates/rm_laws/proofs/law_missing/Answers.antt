use Rattle.rm_laws.proofs.Missing.{missing_falls}
use Rattle.rm_laws.proofs.law_missing.Goals as goal

pub returns : goal.returns
returns c = record { law = missing_falls c.args.settings.now c.args.opening.now c.args.log.now c.requires.whole c.requires.lawful.allowed }
