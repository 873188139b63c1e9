use Rattle.rm_formats.specs.declared.codes.TheConstants.{APP_CODE}
use Rattle.std.proofs.Common.{true}
use Rattle.rm_frame.specs.Fields.{app_id_fields, submission_fields, fields_of}
use Rattle.rm_frame.proofs.Faults.{stops_first, stops_then, passes_on}
use Rattle.rm_frame.proofs.decoding.app_at.Goals as goal

pub returns-in_err-id-clause-bad : goal.returns-in_err-id-clause-bad
returns-in_err-id-clause-bad c =
    passes_on (fields_of APP_CODE) c.args.bytes.now c.in_err-id.field-0.0 c.from_residual.result c.from_residual.ensures.1
    (λ left is. stops_first app_id_fields (submission_fields true) c.args.bytes.now left (c.in_err-id.ensures.bad left is))

pub returns-in_err-submission-clause-bad : goal.returns-in_err-submission-clause-bad
returns-in_err-submission-clause-bad c =
    passes_on (fields_of APP_CODE) c.args.bytes.now c.in_err-submission.field-0.0 c.from_residual-in_err-submission.result c.from_residual-in_err-submission.ensures.1
    (λ left is. stops_then app_id_fields (submission_fields true) c.args.bytes.now _ c.in_ok-id.rest.now left c.in_ok-id.ensures.read
    (c.in_err-submission.ensures.bad left is))
