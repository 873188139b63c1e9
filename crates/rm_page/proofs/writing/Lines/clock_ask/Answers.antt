use Rattle.rm_page.proofs.Joining.{joined}
use Rattle.rm_page.proofs.writing.Lines.clock_ask.Goals as goal

pub returns-in_ok-text_field-in-ExpireNode : goal.returns-in_ok-text_field-in-ExpireNode
returns-in_ok-text_field-in-ExpireNode c = simp (c.in-ExpireNode.is, c.in_ok-text_field-in-ExpireNode.ensures, c.bytes.ensures, joined)

pub returns-in_ok-attempt-in-ExpireMaster : goal.returns-in_ok-attempt-in-ExpireMaster
returns-in_ok-attempt-in-ExpireMaster c = simp (c.in-ExpireMaster.is, c.in_ok-attempt-in-ExpireMaster.ensures, c.in_ok-text-in-ExpireMaster.ensures, joined)
