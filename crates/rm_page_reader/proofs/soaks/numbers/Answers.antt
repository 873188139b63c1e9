use Rattle.rm_lines.proofs.Parts.{heads, left_same, none_there}
use Rattle.rm_page_reader.proofs.soaks.numbers.Goals as goal

pub returns-in_err-field-3 : goal.returns-in_err-field-3
returns-in_err-field-3 c =
    none_there c.from_residual-in_err-field-3.result c.in_err-field-3.field-0.0 _ c.from_residual-in_err-field-3.ensures.1
    (λ soak of. c.in_err-field-3.ensures.none _ _ (left_same c.in_ok-field-2.ensures.field (left_same c.in_ok-field.ensures.field (left_same c.in_ok-word.ensures.word (heads of.same).1))))

pub returns-in_err-field-4 : goal.returns-in_err-field-4
returns-in_err-field-4 c =
    none_there c.from_residual-in_err-field-4.result c.in_err-field-4.field-0.0 _ c.from_residual-in_err-field-4.ensures.1
    (λ soak of. c.in_err-field-4.ensures.none _ _ (left_same c.in_ok-field-3.ensures.field (left_same c.in_ok-field-2.ensures.field (left_same c.in_ok-field.ensures.field (left_same c.in_ok-word.ensures.word (heads of.same).1)))))

pub returns-in_err-field-5 : goal.returns-in_err-field-5
returns-in_err-field-5 c =
    none_there c.from_residual-in_err-field-5.result c.in_err-field-5.field-0.0 _ c.from_residual-in_err-field-5.ensures.1
    (λ soak of. c.in_err-field-5.ensures.none _ _ (left_same c.in_ok-field-4.ensures.field (left_same c.in_ok-field-3.ensures.field (left_same c.in_ok-field-2.ensures.field (left_same c.in_ok-field.ensures.field (left_same c.in_ok-word.ensures.word (heads of.same).1))))))
