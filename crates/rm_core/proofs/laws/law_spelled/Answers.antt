use Rattle.rm_core.proofs.Spelling.{spelled_lawful}
use Rattle.rm_core.proofs.laws.law_spelled.Goals as goal

pub returns : goal.returns
returns c = λ opening k. spelled_lawful c.args.core.now.settings opening c.args.core.now.log (c.log.ensures.allowed opening k)
