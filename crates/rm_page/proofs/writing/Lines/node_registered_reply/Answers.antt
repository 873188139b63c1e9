use Rattle.rm_page.proofs.Joining.{joined}
use Rattle.rm_page.proofs.writing.Lines.node_registered_reply.Goals as goal

pub returns : goal.returns
returns c = simp (c.from-2.ensures, c.in_ok-number_field-2.ensures, c.from.ensures, c.in_ok-number_field.ensures, joined)
