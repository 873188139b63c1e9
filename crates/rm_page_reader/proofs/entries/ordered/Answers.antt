use Rattle.rm_types.specs.Ranges.{IsContainerId}
use Rattle.rm_formats.specs.IdTexts.{container_text}
use Rattle.rm_lines.proofs.Parts.{stops_word}
use Rattle.rm_page_reader.proofs.EntryParts.{ordered_parts}
use Rattle.rm_page_reader.proofs.entries.ordered.Goals as goal

pub returns-in_err-container : goal.returns-in_err-container
returns-in_err-container c =
    stops_word c.from_residual-in_err-container.result c.in_err-container.field-0.0 _ container_text IsContainerId c.args.words _ _ c.from_residual-in_err-container.ensures.1 c.in_ok-word.ensures.word c.in_err-container.ensures
    (λ entry of. let parts = ordered_parts c.args.words entry of in (parts.container, _, parts.same, parts.container_is))
