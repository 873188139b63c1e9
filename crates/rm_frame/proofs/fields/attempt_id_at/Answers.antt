use Rattle.std.proofs.Common.{◌∷◌, []}
use Rattle.rm_frame.specs.Fields.{number_field, app_id_fields, attempt_id_fields}
use Rattle.rm_frame.proofs.Faults.{stops_first, stops_then, passes_on}
use Rattle.rm_frame.proofs.fields.attempt_id_at.Goals as goal

pub returns-in_err-app-clause-bad : goal.returns-in_err-app-clause-bad
returns-in_err-app-clause-bad c =
    passes_on attempt_id_fields c.args.bytes.now c.in_err-app.field-0.0 c.from_residual.result c.from_residual.ensures.1
    (λ left is. stops_first app_id_fields (number_field ∷ []) c.args.bytes.now left (c.in_err-app.ensures.bad left is))

pub returns-in_err-number-clause-bad : goal.returns-in_err-number-clause-bad
returns-in_err-number-clause-bad c =
    passes_on attempt_id_fields c.args.bytes.now c.in_err-number.field-0.0 c.from_residual-in_err-number.result c.from_residual-in_err-number.ensures.1
    (λ left is. stops_then app_id_fields (number_field ∷ []) c.args.bytes.now _ c.in_ok-app.rest.now left c.in_ok-app.ensures.read
    (c.in_err-number.ensures.bad left is))
