use Rattle.rm_page.proofs.Joining.{joined}
use Rattle.rm_page.proofs.writing.Lines.attempt_end_op.Goals as goal

pub returns : goal.returns
returns c = simp (c.bytes.ensures, c.in_ok-text_field-2.ensures, c.how_text.ensures, c.in_ok-text_field.ensures, c.in_ok-attempt.ensures, c.in_ok-text.ensures, joined)
