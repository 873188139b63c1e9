use Rattle.rm_formats.specs.declared.codes.TheConstants.{ATTEMPT_END_CODE}
use Rattle.rm_frame.specs.Fields.{attempt_id_fields, end_fields, fields_of}
use Rattle.rm_frame.proofs.Faults.{stops_first, stops_then, passes_on}
use Rattle.rm_frame.proofs.decoding.attempt_end_at.Goals as goal

pub returns-in_err-id-clause-bad : goal.returns-in_err-id-clause-bad
returns-in_err-id-clause-bad c =
    passes_on (fields_of ATTEMPT_END_CODE) c.args.bytes.now c.in_err-id.field-0.0 c.from_residual.result c.from_residual.ensures.1
    (λ left is. stops_first attempt_id_fields end_fields c.args.bytes.now left (c.in_err-id.ensures.bad left is))

pub returns-in_err-how-clause-bad : goal.returns-in_err-how-clause-bad
returns-in_err-how-clause-bad c =
    passes_on (fields_of ATTEMPT_END_CODE) c.args.bytes.now c.in_err-how.field-0.0 c.from_residual-in_err-how.result c.from_residual-in_err-how.ensures.1
    (λ left is. stops_then attempt_id_fields end_fields c.args.bytes.now _ c.in_ok-id.rest.now left c.in_ok-id.ensures.read
    (c.in_err-how.ensures.bad left is))
