use Rattle.rm_page.proofs.Joining.{joined}
use Rattle.rm_page.proofs.writing.Lines.attempt_op.Goals as goal

pub returns : goal.returns
returns c = simp (c.bytes.ensures, c.in_ok-text_field.ensures, c.in_ok-container.ensures, c.in_ok-text-2.ensures, c.in_ok-attempt.ensures, c.in_ok-text.ensures, joined)
