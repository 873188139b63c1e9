use Rattle.std.proofs.Common.{◌∷◌, ap, sym, ◌∙◌}
use Rattle.rm_page.proofs.Bytes.{cut_last}
use Rattle.rm_lines.proofs.Splits.{word_cut}
use Rattle.rm_lines.proofs.words.Words.word.Goals as goal

pub returns-in-Some-clause-word : goal.returns-in-Some-clause-word
returns-in-Some-clause-word c = c.in_ok-rest.ensures.rest ∙ word_cut c.in_ok-rest.rest.now c.in-Some.word.now c.in-Some.after.now c.in-Some.ensures.halves

pub returns-in-None-clause-word : goal.returns-in-None-clause-word
returns-in-None-clause-word c = c.in_ok-rest.ensures.rest ∙ cut_last 32 c.in_ok-rest.rest.now (c.halves.ensures.none c.in-None.is) ∙ ap (λ left. c.in_ok-rest.rest.now ∷ left) (sym c.rest.ensures.left)
