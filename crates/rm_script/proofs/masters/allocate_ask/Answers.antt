use Rattle.std.specs.Prelude.{codes}
use Rattle.rm_types.specs.Messages.{IsAsk}
use Rattle.rm_types.specs.Ranges.{IsContainerId}
use Rattle.rm_formats.specs.IdTexts.{container_text}
use Rattle.rm_formats.specs.Wording.{ask_text}
use Rattle.rm_lines.proofs.Parts.{stops}
use Rattle.rm_script.proofs.Asks.{allocated_said}
use Rattle.rm_script.proofs.Listing.{SayTwo}
use Rattle.rm_script.proofs.masters.allocate_ask.Goals as goal

pub returns-in_err-asks : goal.returns-in_err-asks
returns-in_err-asks c =
    stops c.from_residual-in_err-asks.result c.in_err-asks.field-0.0 _ (SayTwo ask_text IsAsk container_text IsContainerId (codes "ask=") (codes "release=") c.word.new.self) c.from_residual-in_err-asks.ensures.1 c.in_err-asks.ensures
    (λ ask is. allocated_said c.in_ok-word.field-0.now c.args.words c.word.new.self ask c.in_ok-word.ensures.word is)
