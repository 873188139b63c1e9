use Rattle.rm_page.proofs.Joining.{joined}
use Rattle.rm_page.proofs.writing.Lines.blown_line.Goals as goal

pub returns : goal.returns
returns c = simp (c.in_ok-text.ensures, c.from.ensures, c.in_ok-number_field.ensures, joined)
