use Rattle.rm_types.specs.Ranges.{IsAppId}
use Rattle.rm_formats.specs.IdTexts.{app_text}
use Rattle.rm_lines.proofs.Parts.{stops_word}
use Rattle.rm_page_reader.proofs.EntryParts.{accepted_parts}
use Rattle.rm_page_reader.proofs.entries.accepted.Goals as goal

pub returns-in_err-app : goal.returns-in_err-app
returns-in_err-app c =
    stops_word c.from_residual-in_err-app.result c.in_err-app.field-0.0 _ app_text IsAppId c.args.words _ _ c.from_residual-in_err-app.ensures.1 c.in_ok-word.ensures.word c.in_err-app.ensures (accepted_parts c.args.words)
