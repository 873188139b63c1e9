use Rattle.rm_lines.proofs.Feeds.{first_line, only_line}
use Rattle.rm_lines.proofs.lines.cut_line.Goals as goal

pub returns-in-Some-clause-lines : goal.returns-in-Some-clause-lines
returns-in-Some-clause-lines c = λ some. first_line c.args.bytes.now c.in-Some.halves.0.now c.in-Some.halves.1.now c.in-Some.ensures.halves

pub returns-in-None-clause-lines : goal.returns-in-None-clause-lines
returns-in-None-clause-lines c = λ some. only_line c.args.bytes.now some (c.halves.ensures.none c.in-None.is)
