use Rattle.std.proofs.Common.{sym, ap, ◌∙◌}
use Rattle.std.specs.Prelude.{codes}
use Rattle.std.specs.Str.{bytes_eq}
use Rattle.rm_lines.proofs.Parts.{at_word}
use Rattle.rm_script.specs.Messages.{IsScriptClientAsk}
use Rattle.rm_script.specs.Pieces.{client_pieces}
use Rattle.rm_script.proofs.clients.ask_by.Goals as goal

pub returns-then-eq : goal.returns-then-eq
returns-then-eq c =
    at_word client_pieces (IsScriptClientAsk c.args.user.now) c.new_ask.result c.args.verb.now (codes "new") c.args.words (c.new_ask.ensures c.args.user.now) (ap (bytes_eq c.args.verb.now) (sym c.as_bytes.ensures.value) ∙ sym c.if-eq.ensures)

pub returns-then-eq-3 : goal.returns-then-eq-3
returns-then-eq-3 c =
    at_word client_pieces (IsScriptClientAsk c.args.user.now) c.report_ask.result c.args.verb.now (codes "report") c.args.words (c.report_ask.ensures c.args.user.now) (ap (bytes_eq c.args.verb.now) (sym c.as_bytes-else-eq-2.ensures.value) ∙ sym c.if-eq-3.ensures)

pub returns-then-eq-4 : goal.returns-then-eq-4
returns-then-eq-4 c =
    at_word client_pieces (IsScriptClientAsk c.args.user.now) c.kill_ask.result c.args.verb.now (codes "kill") c.args.words (c.kill_ask.ensures c.args.user.now) (ap (bytes_eq c.args.verb.now) (sym c.as_bytes-else-eq-3.ensures.value) ∙ sym c.if-eq-4.ensures)
