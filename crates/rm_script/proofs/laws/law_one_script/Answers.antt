use Rattle.rm_script.proofs.Answered.{one_script}
use Rattle.rm_script.proofs.laws.law_one_script.Goals as goal

pub returns : goal.returns
returns c = one_script
