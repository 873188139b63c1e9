use Rattle.std.proofs.Common.{sym, ◌∙◌}
use Rattle.rm_lines.proofs.Decimals.{number_read, number_none}
use Rattle.rm_lines.proofs.numbers.long_number.Goals as goal

pub returns-in-Some : goal.returns-in-Some
returns-in-Some c = number_read c.args.least c.args.greatest c.args.word.now c.in-Some.number (sym c.number_in.ensures ∙ c.in-Some.is)

pub returns-in-None : goal.returns-in-None
returns-in-None c = number_none c.args.least c.args.greatest c.args.word.now c.ranges.greatest.fits (sym c.number_in.ensures ∙ c.in-None.is)
