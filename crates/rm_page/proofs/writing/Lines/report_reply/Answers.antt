use Rattle.std.proofs.lemmas.List.{append_assoc, append-nil}
use Rattle.rm_page.proofs.writing.Lines.report_reply.Goals as goal

pub returns : goal.returns
returns c = rw (c.in_ok-text_field-5.ensures, c.in_ok-number_field-2.ensures, c.in_ok-number_field.ensures, c.in_ok-text_field-4.ensures, c.in_ok-text_field-3.ensures, c.in_ok-text_field-2.ensures, c.in_ok-text_field.ensures) (simp (c.bytes-4.ensures, c.from-2.ensures, c.from.ensures, c.bytes-3.ensures, c.bytes-2.ensures, c.bytes.ensures, c.state_text.ensures, append_assoc, append-nil))
