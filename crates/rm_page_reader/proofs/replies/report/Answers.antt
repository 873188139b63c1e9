use Rattle.std.proofs.Common.{ℕ, List, ◌++◌}
use Rattle.std.specs.Prelude.{codes}
use Rattle.rm_types.specs.declared.texts.TextKind.TheVariants.{Note}
use Rattle.rm_types.specs.Ranges.{IsText}
use Rattle.rm_page.proofs.Bytes.{cut}
use Rattle.rm_lines.specs.Results.{IsOf}
use Rattle.rm_lines.proofs.Parts.{left_same, none_there, stops}
use Rattle.rm_page_reader.proofs.replies.report.Goals as goal

pub returns-in_err-field-5 : goal.returns-in_err-field-5
returns-in_err-field-5 c =
    none_there c.from_residual-in_err-field-5.result c.in_err-field-5.field-0.0 _ c.from_residual-in_err-field-5.ensures.1
    (λ report of. c.in_err-field-5.ensures.none _ _ (left_same c.in_ok-field-4.ensures.field (left_same c.in_ok-field-3.ensures.field (left_same c.in_ok-field-2.ensures.field (left_same c.in_ok-field.ensures.field of.same)))))

pub returns-in_err-text : goal.returns-in_err-text
returns-in_err-text c =
    stops c.from_residual-in_err-text.result c.in_err-text.field-0.0 _ (IsOf (λ (text : List ℕ). cut 32 (codes "text=" ++ text)) (IsText Note) c.field-6.new.self) c.from_residual-in_err-text.ensures.1 c.in_err-text.ensures
    (λ report of. (report.text, record { same = left_same c.in_ok-field-6.ensures.field (left_same c.in_ok-field-5.ensures.field (left_same c.in_ok-field-4.ensures.field (left_same c.in_ok-field-3.ensures.field (left_same c.in_ok-field-2.ensures.field (left_same c.in_ok-field.ensures.field of.same))))); fits = of.fits.text }))
