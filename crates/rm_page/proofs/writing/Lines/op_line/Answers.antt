use Rattle.rm_page.proofs.Joining.{joined}
use Rattle.rm_page.proofs.writing.Lines.op_line.Goals as goal

pub returns : goal.returns
returns c = simp (c.in_ok-text-2.ensures, c.in_ok-op.ensures, c.in_ok-text.ensures, joined)
