use Rattle.rm_script.proofs.Running.{one_text, one_sent}
use Rattle.rm_script.proofs.laws.law_one_line.Goals as goal

pub returns-clause-line : goal.returns-clause-line
returns-clause-line c = one_text

pub returns-clause-message : goal.returns-clause-message
returns-clause-message c = one_sent
