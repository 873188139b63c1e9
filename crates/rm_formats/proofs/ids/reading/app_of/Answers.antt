use Rattle.std.proofs.Common.{[], ◌++◌, ap, sym, ◌∙◌}
use Rattle.std.specs.Prelude.{codes}
use Rattle.rm_formats.specs.ids.Fronts.{IsAppText}
use Rattle.rm_formats.specs.ids.Steps.{AreFields, Refuses}
use Rattle.rm_formats.specs.ids.Spelling.{app_parts, app_then}
use Rattle.rm_formats.proofs.ids.Passing.{passed_on}
use Rattle.rm_formats.proofs.ids.Refusals.{fields_have_text, behind_word, within_word}
use Rattle.rm_formats.proofs.ids.Texts.{app_refuses, app_spelled}
use Rattle.rm_formats.proofs.ids.reading.app_of.Goals as goal

pub returns-in_err-rest-clause-stop : goal.returns-in_err-rest-clause-stop
returns-in_err-rest-clause-stop c =
    passed_on (λ stop. Refuses IsAppText c.args.bytes.now stop.left) c.in_err-rest.field-0.0 c.from_residual.result c.from_residual.ensures.1
    (app_refuses c.args.bytes.now c.in_err-rest.field-0.0.left
    (within_word (AreFields app_parts) (codes "application") c.args.bytes.now c.in_err-rest.field-0.0.left (fields_have_text app_parts) c.in_err-rest.ensures.stop))

pub returns-in_err-id-clause-stop : goal.returns-in_err-id-clause-stop
returns-in_err-id-clause-stop c =
    passed_on (λ stop. Refuses IsAppText c.args.bytes.now stop.left) c.in_err-id.field-0.0 c.from_residual-in_err-id.result c.from_residual-in_err-id.ensures.1
    (app_refuses c.args.bytes.now c.in_err-id.field-0.0.left
    (behind_word (AreFields app_parts) (codes "application") c.args.bytes.now c.in_ok-rest.rest.now c.in_err-id.field-0.0.left c.in_ok-rest.ensures.read (c.in_err-id.ensures.stop [])))

pub returns-in_err-end_at-clause-stop : goal.returns-in_err-end_at-clause-stop
returns-in_err-end_at-clause-stop c =
    passed_on (λ stop. Refuses IsAppText c.args.bytes.now stop.left) c.in_err-end_at.field-0.0 c.from_residual-in_err-end_at.result c.from_residual-in_err-end_at.ensures.1
    (app_refuses c.args.bytes.now c.in_err-end_at.field-0.0.left
    (behind_word (AreFields app_parts) (codes "application") c.args.bytes.now c.in_ok-rest.rest.now c.in_err-end_at.field-0.0.left c.in_ok-rest.ensures.read
    (c.in_ok-id.ensures.passes [] c.in_err-end_at.field-0.0.left c.in_err-end_at.ensures)))

pub returns-clause-read : goal.returns-clause-read
returns-clause-read c =
    (c.in_ok-id.ensures.within, c.in_ok-rest.ensures.read ∙ ap (λ t. codes "application" ++ t) (c.in_ok-id.ensures.read ∙ ap (app_then c.in_ok-id.id) c.in_ok-end_at.ensures) ∙ sym (app_spelled c.in_ok-id.id c.in_ok-id.ensures.within))
