use Rattle.std.specs.Prelude.{codes}
use Rattle.rm_types.specs.declared.texts.TextKind.TheVariants.{AclText}
use Rattle.rm_types.specs.Ranges.{IsText}
use Rattle.rm_page.proofs.ReadOperations.{last_pieces}
use Rattle.rm_lines.specs.Results.{IsOf}
use Rattle.rm_lines.proofs.Parts.{stops}
use Rattle.rm_lines.proofs.Modify.{is_taken, modify_left}
use Rattle.rm_lines.proofs.submissions.keep_and_modify.Goals as goal

pub returns-in_err-modify : goal.returns-in_err-modify
returns-in_err-modify c =
    let keep = c.takes-keep.result in
    let left = c.takes-keep.new.self in
    let taken = is_taken keep c.args.words left c.takes-keep.ensures.taken c.takes-keep.ensures.not_taken in
    stops c.from_residual.result c.in_err-modify.field-0.0 _ (IsOf (last_pieces (codes "modify=")) (IsText AclText) left) c.from_residual.ensures.1 c.in_err-modify.ensures
    (λ said of. (said.1, modify_left keep c.args.words left said taken of))
