use Rattle.rm_lines.proofs.Feeds.{are_lines, only_lines}
use Rattle.rm_script.proofs.laws.law_lines.Goals as goal

pub returns-clause-lines : goal.returns-clause-lines
returns-clause-lines c = are_lines

pub returns-clause-only : goal.returns-clause-only
returns-clause-only c = only_lines
