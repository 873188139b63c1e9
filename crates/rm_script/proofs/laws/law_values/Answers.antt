use Rattle.rm_script.proofs.Values.{told_values}
use Rattle.rm_script.proofs.laws.law_values.Goals as goal

pub returns : goal.returns
returns c = told_values
