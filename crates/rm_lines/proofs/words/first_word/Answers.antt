use Rattle.rm_page.proofs.Bytes.{cut_last}
use Rattle.rm_lines.proofs.Splits.{word_cut}
use Rattle.rm_lines.proofs.words.first_word.Goals as goal

pub returns-in-Some : goal.returns-in-Some
returns-in-Some c = word_cut c.args.line.now c.in-Some.first.now c.in-Some.after.now c.in-Some.ensures.halves

pub returns-in-None : goal.returns-in-None
returns-in-None c = cut_last 32 c.args.line.now (c.halves.ensures.none c.in-None.is)
