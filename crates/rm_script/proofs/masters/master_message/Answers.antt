use Rattle.std.proofs.Common.{◌∷◌}
use Rattle.std.specs.Prelude.{codes}
use Rattle.rm_types.specs.Ranges.{IsAttemptId}
use Rattle.rm_formats.specs.IdTexts.{attempt_text}
use Rattle.rm_lines.specs.Results.{IsOf}
use Rattle.rm_lines.proofs.Parts.{stops}
use Rattle.rm_script.specs.Messages.{IsScriptMessage}
use Rattle.rm_script.specs.Pieces.{said_pieces}
use Rattle.rm_script.proofs.Asks.{attempt_said}
use Rattle.rm_script.proofs.masters.master_message.Goals as goal

pub returns-in_err-attempt : goal.returns-in_err-attempt
returns-in_err-attempt c =
    stops c.from_residual-in_err-attempt.result c.in_err-attempt.field-0.0 (IsOf said_pieces IsScriptMessage (codes "master" ∷ c.args.words)) (IsOf attempt_text IsAttemptId c.in_ok-word.field-0.now)
    c.from_residual-in_err-attempt.ensures.1 c.in_err-attempt.ensures (λ message is. attempt_said c.in_ok-word.field-0.now c.args.words c.word.new.self message c.in_ok-word.ensures.word is)
