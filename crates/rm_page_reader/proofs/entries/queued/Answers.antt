use Rattle.rm_types.specs.Ranges.{IsAttemptId}
use Rattle.rm_formats.specs.IdTexts.{attempt_text}
use Rattle.rm_lines.proofs.Parts.{stops_word}
use Rattle.rm_page_reader.proofs.EntryParts.{queued_parts}
use Rattle.rm_page_reader.proofs.entries.queued.Goals as goal

pub returns-in_err-attempt : goal.returns-in_err-attempt
returns-in_err-attempt c =
    stops_word c.from_residual-in_err-attempt.result c.in_err-attempt.field-0.0 _ attempt_text IsAttemptId c.args.words _ _ c.from_residual-in_err-attempt.ensures.1 c.in_ok-word.ensures.word c.in_err-attempt.ensures (queued_parts c.args.words)
