use Rattle.std.proofs.Common.{◌∷◌}
use Rattle.std.specs.Prelude.{codes}
use Rattle.rm_types.specs.Ranges.{IsAppId}
use Rattle.rm_formats.specs.IdTexts.{app_text}
use Rattle.rm_lines.specs.Results.{IsOf}
use Rattle.rm_lines.proofs.Parts.{stops}
use Rattle.rm_script.specs.Messages.{IsScriptClientAsk}
use Rattle.rm_script.specs.Pieces.{client_pieces}
use Rattle.rm_script.proofs.Asks.{app_said}
use Rattle.rm_script.proofs.clients.submit_ask.Goals as goal

pub returns-in_err-id : goal.returns-in_err-id
returns-in_err-id c =
    stops c.from_residual-in_err-id.result c.in_err-id.field-0.0 (IsOf client_pieces (IsScriptClientAsk c.args.user.now) (codes "submit" ∷ c.args.words)) (IsOf app_text IsAppId c.in_ok-word.field-0.now)
    c.from_residual-in_err-id.ensures.1 c.in_err-id.ensures (λ ask is. app_said c.args.user.now (codes "submit") c.in_ok-word.field-0.now c.args.words c.word.new.self ask c.in_ok-word.ensures.word is)
