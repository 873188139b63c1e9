use Rattle.std.proofs.Common.{◌≡◌, [], length, sym, ◌∙◌}
use Rattle.std.proofs.lemmas.Bool.{eqb-true}
use Rattle.std.proofs.lemmas.List.{nil_from_length}
use Rattle.rm_lines.proofs.Modify.{modify_not}
use Rattle.rm_lines.proofs.submissions.modify.Goals as goal

pub returns-then-is_empty-2 : goal.returns-then-is_empty-2
returns-then-is_empty-2 c =
    let zero : length c.bytes.result.now ≡ 0 = eqb-true (length c.bytes.result.now) 0 (sym c.is_empty-2.ensures ∙ c.if-is_empty-2.true) in
    let none : c.in_ok-text.text ≡ [] = sym c.bytes.ensures ∙ nil_from_length c.bytes.result.now zero in
    λ value is. modify_not c.args.words c.in_ok-text.text (λ e. absurd (let t = c.is_empty.ensures.1 e in let f = c.if-is_empty.false in cc)) none c.in_ok-text.ensures value is
