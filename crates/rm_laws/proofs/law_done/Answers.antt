use Rattle.rm_laws.proofs.Done.{ends_are_told}
use Rattle.rm_laws.proofs.law_done.Goals as goal

pub returns : goal.returns
returns c = record { law = ends_are_told c.args.settings.now c.args.opening.now c.args.log.now c.requires.whole c.requires.lawful.allowed }
