use Rattle.std.proofs.Common.{sym, ◌∙◌}
use Rattle.rm_script.proofs.OneLine.{fine_text, fine_test, pieces_found}
use Rattle.rm_script.proofs.lines.line_of.Goals as goal

pub returns-then-not-is_line_text : goal.returns-then-not-is_line_text
returns-then-not-is_line_text c = λ line is. absurd (let fine = c.is_line_text.ensures ∙ fine_test c.args.text.now is.fine in let no = c.if-not-is_line_text.true in cc)

pub returns : goal.returns
returns c =
    pieces_found c.line_said.result c.args.text.now (fine_text c.args.text.now (sym c.is_line_text.ensures ∙ c.if-not-is_line_text.false)) (sym c.is_skipped.ensures ∙ c.if-is_skipped.false)
    (rw c.of.ensures at c.line_said.ensures)
