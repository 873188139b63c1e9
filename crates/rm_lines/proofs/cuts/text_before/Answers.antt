use Rattle.std.proofs.Common.{sym}
use Rattle.rm_lines.proofs.Splits.{before_end_is, before_none}
use Rattle.rm_lines.proofs.cuts.text_before.Goals as goal

pub returns-in-Some-clause-before : goal.returns-in-Some-clause-before
returns-in-Some-clause-before c = before_end_is c.args.end.now c.args.text.now c.in-Some.rest.now (sym c.in-Some.ensures)

pub returns-in-None-clause-none : goal.returns-in-None-clause-none
returns-in-None-clause-none c = λ rest same. before_none c.args.end.now c.args.text.now rest (sym c.in-None.ensures) same
