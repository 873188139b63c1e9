use Rattle.rm_laws.proofs.Lives.{lives_differ}
use Rattle.rm_laws.proofs.law_lives.Goals as goal

pub returns : goal.returns
returns c = record { law = lives_differ c.args.settings.now c.args.opening.now c.args.log.now c.requires.lawful.allowed }
