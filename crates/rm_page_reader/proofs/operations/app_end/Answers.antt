use Rattle.std.proofs.Common.{ℕ, List, ◌++◌}
use Rattle.std.specs.Prelude.{codes}
use Rattle.rm_types.specs.declared.texts.TextKind.TheVariants.{Note}
use Rattle.rm_types.specs.Ranges.{IsText, IsAppId}
use Rattle.rm_formats.specs.IdTexts.{app_text}
use Rattle.rm_page.proofs.Bytes.{cut}
use Rattle.rm_lines.specs.Results.{IsOf}
use Rattle.rm_lines.proofs.Parts.{left_same, stops, stops_word}
use Rattle.rm_page_reader.proofs.OpParts.{app_end_parts}
use Rattle.rm_page_reader.proofs.operations.app_end.Goals as goal

pub returns-in_err-id : goal.returns-in_err-id
returns-in_err-id c =
    stops_word c.from_residual-in_err-id.result c.in_err-id.field-0.0 _ app_text IsAppId c.args.words _ _ c.from_residual-in_err-id.ensures.1 c.in_ok-word.ensures.word c.in_err-id.ensures
    (λ op of. let parts = app_end_parts c.args.words op of in (parts.id, _, parts.same, parts.id_is))

pub returns-in_err-text : goal.returns-in_err-text
returns-in_err-text c =
    stops c.from_residual-in_err-text.result c.in_err-text.field-0.0 _ (IsOf (λ (text : List ℕ). cut 32 (codes "text=" ++ text)) (IsText Note) c.word-2.new.self) c.from_residual-in_err-text.ensures.1 c.in_err-text.ensures
    (λ op of. let parts = app_end_parts c.args.words op of in (parts.text, record { same = left_same c.in_ok-word-2.ensures.word (left_same c.in_ok-word.ensures.word parts.same); fits = parts.text_is }))
