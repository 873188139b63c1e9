use Rattle.std.proofs.Common.{sym, ◌∙◌}
use Rattle.rm_script.proofs.OneLine.{fine_text, fine_test, message_found}
use Rattle.rm_script.proofs.lines.read_message.Goals as goal

pub returns-then-not-is_line_text : goal.returns-then-not-is_line_text
returns-then-not-is_line_text c = λ message is. absurd (let fine = c.is_line_text.ensures ∙ fine_test c.args.line.now is.limits in let no = c.if-not-is_line_text.true in cc)

pub returns : goal.returns
returns c =
    message_found c.message_said.result c.args.line.now (fine_text c.args.line.now (sym c.is_line_text.ensures ∙ c.if-not-is_line_text.false)) (rw c.of.ensures at c.message_said.ensures)
