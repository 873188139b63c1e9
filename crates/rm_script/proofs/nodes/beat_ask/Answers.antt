use Rattle.std.specs.Prelude.{codes}
use Rattle.rm_types.specs.Messages.{IsHeld}
use Rattle.rm_types.specs.Ranges.{IsContainerId}
use Rattle.rm_formats.specs.IdTexts.{container_text}
use Rattle.rm_formats.specs.Wording.{held_text}
use Rattle.rm_lines.proofs.Parts.{stops}
use Rattle.rm_script.proofs.Asks.{beaten_said}
use Rattle.rm_script.proofs.Listing.{SayTwo}
use Rattle.rm_script.proofs.nodes.beat_ask.Goals as goal

pub returns-in_err-running : goal.returns-in_err-running
returns-in_err-running c =
    stops c.from_residual-in_err-running.result c.in_err-running.field-0.0 _ (SayTwo held_text IsHeld container_text IsContainerId (codes "running=") (codes "done=") c.word.new.self) c.from_residual-in_err-running.ensures.1 c.in_err-running.ensures
    (λ ask is. beaten_said c.in_ok-word.field-0.now c.args.words c.word.new.self ask c.in_ok-word.ensures.word is)
