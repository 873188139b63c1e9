use Rattle.rm_laws.proofs.Released.{released_stay}
use Rattle.rm_laws.proofs.law_released.Goals as goal

pub returns : goal.returns
returns c = record { law = released_stay c.args.settings.now c.args.opening.now c.args.log.now c.requires.lawful.allowed }
