use Rattle.std.proofs.Common.{◌∷◌, []}
use Rattle.rm_frame.specs.Fields.{stamp_field, number_field, app_id_fields}
use Rattle.rm_frame.proofs.Faults.{stops_first, stops_then, passes_on}
use Rattle.rm_frame.proofs.fields.app_id_at.Goals as goal

pub returns-in_err-stamp-clause-bad : goal.returns-in_err-stamp-clause-bad
returns-in_err-stamp-clause-bad c =
    passes_on app_id_fields c.args.bytes.now c.in_err-stamp.field-0.0 c.from_residual.result c.from_residual.ensures.1
    (λ left is. stops_first (stamp_field ∷ []) (number_field ∷ []) c.args.bytes.now left (c.in_err-stamp.ensures.bad left is))

pub returns-in_err-number-clause-bad : goal.returns-in_err-number-clause-bad
returns-in_err-number-clause-bad c =
    passes_on app_id_fields c.args.bytes.now c.in_err-number.field-0.0 c.from_residual-in_err-number.result c.from_residual-in_err-number.ensures.1
    (λ left is. stops_then (stamp_field ∷ []) (number_field ∷ []) c.args.bytes.now _ c.in_ok-stamp.rest.now left c.in_ok-stamp.ensures.read
    (c.in_err-number.ensures.bad left is))
