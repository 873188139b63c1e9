use Rattle.rm_laws.proofs.Cleans.{cleans_strangers}
use Rattle.rm_laws.proofs.law_cleans.Goals as goal

pub returns : goal.returns
returns c = record { law = cleans_strangers c.args.settings.now c.args.opening.now c.args.log.now c.requires.lawful.allowed }
