use Rattle.rm_page.proofs.Joining.{joined}
use Rattle.rm_page.proofs.writing.Lines.epoch_op.Goals as goal

pub returns : goal.returns
returns c = simp (c.in_ok-number_field-2.ensures, c.from.ensures, c.in_ok-number_field.ensures, joined)
