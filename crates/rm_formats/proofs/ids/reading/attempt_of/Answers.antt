use Rattle.std.proofs.Common.{◌≡◌, [], ◌∷◌, ◌++◌, ap, sym, ◌∙◌}
use Rattle.std.specs.Prelude.{codes}
use Rattle.rm_types.specs.declared.ids.AttemptId.{AttemptId}
use Rattle.rm_formats.specs.IdTexts.{padded}
use Rattle.rm_types.specs.Ranges.{IsAttemptId}
use Rattle.rm_formats.specs.declared.ids.parts.Part.TheVariants.{AttemptNumber}
use Rattle.rm_formats.specs.ids.Fronts.{IsAttemptText}
use Rattle.rm_formats.specs.ids.Steps.{AreFields, Refuses}
use Rattle.rm_formats.specs.ids.Spelling.{app_then}
use Rattle.rm_formats.proofs.ids.Passing.{passed_on}
use Rattle.rm_formats.proofs.ids.Refusals.{fields_have_text, behind_word, within_word}
use Rattle.rm_formats.proofs.ids.Texts.{attempt_parts, attempt_refuses, attempt_spelled}
use Rattle.rm_formats.proofs.ids.reading.attempt_of.Goals as goal

pub returns-in_err-rest-clause-stop : goal.returns-in_err-rest-clause-stop
returns-in_err-rest-clause-stop c =
    passed_on (λ stop. Refuses IsAttemptText c.args.bytes.now stop.left) c.in_err-rest.field-0.0 c.from_residual.result c.from_residual.ensures.1
    (attempt_refuses c.args.bytes.now c.in_err-rest.field-0.0.left
    (within_word (AreFields attempt_parts) (codes "appattempt") c.args.bytes.now c.in_err-rest.field-0.0.left (fields_have_text attempt_parts) c.in_err-rest.ensures.stop))

pub returns-in_err-app-clause-stop : goal.returns-in_err-app-clause-stop
returns-in_err-app-clause-stop c =
    passed_on (λ stop. Refuses IsAttemptText c.args.bytes.now stop.left) c.in_err-app.field-0.0 c.from_residual-in_err-app.result c.from_residual-in_err-app.ensures.1
    (attempt_refuses c.args.bytes.now c.in_err-app.field-0.0.left
    (behind_word (AreFields attempt_parts) (codes "appattempt") c.args.bytes.now c.in_ok-rest.rest.now c.in_err-app.field-0.0.left c.in_ok-rest.ensures.read
    (c.in_err-app.ensures.stop (AttemptNumber ∷ []))))

pub returns-in_err-number-clause-stop : goal.returns-in_err-number-clause-stop
returns-in_err-number-clause-stop c =
    passed_on (λ stop. Refuses IsAttemptText c.args.bytes.now stop.left) c.in_err-number.field-0.0 c.from_residual-in_err-number.result c.from_residual-in_err-number.ensures.1
    (attempt_refuses c.args.bytes.now c.in_err-number.field-0.0.left
    (behind_word (AreFields attempt_parts) (codes "appattempt") c.args.bytes.now c.in_ok-rest.rest.now c.in_err-number.field-0.0.left c.in_ok-rest.ensures.read
    (c.in_ok-app.ensures.passes (AttemptNumber ∷ []) c.in_err-number.field-0.0.left (c.in_err-number.ensures.stop []))))

pub returns-in_err-end_at-clause-stop : goal.returns-in_err-end_at-clause-stop
returns-in_err-end_at-clause-stop c =
    passed_on (λ stop. Refuses IsAttemptText c.args.bytes.now stop.left) c.in_err-end_at.field-0.0 c.from_residual-in_err-end_at.result c.from_residual-in_err-end_at.ensures.1
    (attempt_refuses c.args.bytes.now c.in_err-end_at.field-0.0.left
    (behind_word (AreFields attempt_parts) (codes "appattempt") c.args.bytes.now c.in_ok-rest.rest.now c.in_err-end_at.field-0.0.left c.in_ok-rest.ensures.read
    (c.in_ok-app.ensures.passes (AttemptNumber ∷ []) c.in_err-end_at.field-0.0.left
    (c.in_ok-number.ensures.passes [] c.in_err-end_at.field-0.0.left c.in_err-end_at.ensures))))

pub returns-clause-read : goal.returns-clause-read
returns-clause-read c =
    let id : AttemptId = record { app = c.in_ok-app.app; number = c.in_ok-number.number } in
    let is : IsAttemptId id = record { app = c.in_ok-app.ensures.within; number = c.in_ok-number.ensures.within } in
    let behind : c.in_ok-app.rest.now ≡ codes "_" ++ (padded 6 c.in_ok-number.number ++ []) =
    c.in_ok-number.ensures.read ∙ ap (λ t. codes "_" ++ (padded 6 c.in_ok-number.number ++ t)) c.in_ok-end_at.ensures in
    (is, c.in_ok-rest.ensures.read ∙ ap (λ t. codes "appattempt" ++ t) (c.in_ok-app.ensures.read ∙ ap (app_then c.in_ok-app.app) behind) ∙ sym (attempt_spelled id is))
