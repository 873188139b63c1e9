use Rattle.std.proofs.Common.{sym, ◌∙◌}
use Rattle.rm_lines.proofs.Splits.{cut_found, none_found}
use Rattle.rm_lines.proofs.cuts.halves.Goals as goal

pub returns-in-Some-clause-halves : goal.returns-in-Some-clause-halves
returns-in-Some-clause-halves c = cut_found c.args.byte c.args.text.now c.in-Some.place (sym c.place_of.ensures ∙ c.in-Some.is)

pub returns-in-None-clause-none : goal.returns-in-None-clause-none
returns-in-None-clause-none c = λ e. none_found c.args.byte c.args.text.now (sym c.place_of.ensures ∙ c.in-None.is)
