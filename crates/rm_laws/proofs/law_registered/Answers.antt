use Rattle.rm_laws.proofs.Registered.{registered_are_kept}
use Rattle.rm_laws.proofs.law_registered.Goals as goal

pub returns : goal.returns
returns c = record { law = registered_are_kept c.args.settings.now c.args.opening.now c.args.log.now c.requires.lawful.allowed }
