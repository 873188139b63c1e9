use Rattle.rm_types.specs.Ranges.{IsAppId}
use Rattle.rm_formats.specs.IdTexts.{app_text}
use Rattle.rm_lines.proofs.Parts.{stops_word}
use Rattle.rm_page_reader.proofs.OpParts.{app_parts}
use Rattle.rm_page_reader.proofs.operations.app.Goals as goal

pub returns-in_err-id : goal.returns-in_err-id
returns-in_err-id c =
    stops_word c.from_residual-in_err-id.result c.in_err-id.field-0.0 _ app_text IsAppId c.args.words _ _ c.from_residual-in_err-id.ensures.1 c.in_ok-word.ensures.word c.in_err-id.ensures
    (λ op of. let parts = app_parts c.args.words op of in (parts.id, _, parts.same, parts.id_is))
