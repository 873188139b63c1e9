use Rattle.std.proofs.Common.{sym}
use Rattle.rm_lines.proofs.Splits.{after_label_is}
use Rattle.rm_lines.proofs.Splits.{behind_none}
use Rattle.rm_lines.proofs.cuts.text_behind.Goals as goal

pub returns-in-Some-clause-behind : goal.returns-in-Some-clause-behind
returns-in-Some-clause-behind c = after_label_is c.args.name.now c.args.text.now c.in-Some.rest.now (sym c.in-Some.ensures)

pub returns-in-None-clause-none : goal.returns-in-None-clause-none
returns-in-None-clause-none c = λ rest same. behind_none c.args.name.now c.args.text.now rest (sym c.in-None.ensures) same
