use Rattle.rm_lines.specs.Results.{IsOf}
use Rattle.rm_lines.specs.Submissions.{IsKeepAndModify, keep_and_modify_pieces}
use Rattle.rm_lines.proofs.Parts.{left_same, none_there, stops}
use Rattle.rm_lines.proofs.submissions.submission.Goals as goal

pub returns-in_err-field-5 : goal.returns-in_err-field-5
returns-in_err-field-5 c =
    none_there c.from_residual-in_err-field-5.result c.in_err-field-5.field-0.0 _ c.from_residual-in_err-field-5.ensures.1
    (λ s of. c.in_err-field-5.ensures.none _ _ (left_same c.in_ok-field-4.ensures.field (left_same c.in_ok-field-3.ensures.field (left_same c.in_ok-field-2.ensures.field (left_same c.in_ok-field.ensures.field of.0.same)))))

pub returns-in_err-keep : goal.returns-in_err-keep
returns-in_err-keep c =
    stops c.from_residual-in_err-keep.result c.in_err-keep.field-0.0 _ (IsOf keep_and_modify_pieces IsKeepAndModify c.field-5.new.self) c.from_residual-in_err-keep.ensures.1 c.in_err-keep.ensures
    (λ s of.
    let left = left_same c.in_ok-field-5.ensures.field (left_same c.in_ok-field-4.ensures.field (left_same c.in_ok-field-3.ensures.field (left_same c.in_ok-field-2.ensures.field (left_same c.in_ok-field.ensures.field of.0.same)))) in
    ((s.keep, s.modify), record { same = left; fits = of.0.fits.modify }))
