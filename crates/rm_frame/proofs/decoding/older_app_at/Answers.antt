use Rattle.std.proofs.Common.{ℕ, List, ◌∷◌, ◌++◌, refl, ap, false}
use Rattle.rm_formats.specs.declared.codes.TheConstants.{OLDER_APP_CODE}
use Rattle.rm_formats.specs.Frames.{app_id_frame, older_submission_frame, older}
use Rattle.rm_frame.specs.Fields.{app_id_fields, submission_fields, fields_of}
use Rattle.rm_frame.proofs.Faults.{reads_then, stops_first, stops_then, passes_on}
use Rattle.rm_frame.proofs.decoding.older_app_at.Goals as goal

pub returns-in_err-id-clause-bad : goal.returns-in_err-id-clause-bad
returns-in_err-id-clause-bad c =
    passes_on (fields_of OLDER_APP_CODE) c.args.bytes.now c.in_err-id.field-0.0 c.from_residual.result c.from_residual.ensures.1
    (λ left is. stops_first app_id_fields (submission_fields false) c.args.bytes.now left (c.in_err-id.ensures.bad left is))

pub returns-in_err-submission-clause-bad : goal.returns-in_err-submission-clause-bad
returns-in_err-submission-clause-bad c =
    passes_on (fields_of OLDER_APP_CODE) c.args.bytes.now c.in_err-submission.field-0.0 c.from_residual-in_err-submission.result c.from_residual-in_err-submission.ensures.1
    (λ left is. stops_then app_id_fields (submission_fields false) c.args.bytes.now _ c.in_ok-id.rest.now left c.in_ok-id.ensures.read
    (c.in_err-submission.ensures.bad left is))

pub returns-clause-read : goal.returns-clause-read
returns-clause-read c =
    let id = c.in_ok-id.id in
    let submission = c.in_ok-submission.submission in
    record {
      can = (c.in_ok-id.ensures.within, c.in_ok-submission.ensures.within);
      front = OLDER_APP_CODE ∷ (app_id_frame id ++ older_submission_frame submission);
      reads = older id submission refl (c.in_ok-submission.ensures.unkept refl) refl;
      parts = ap (λ (l : List ℕ). OLDER_APP_CODE ∷ l) (reads_then app_id_fields (submission_fields false) c.args.bytes.now (app_id_frame id) c.in_ok-id.rest.now (older_submission_frame submission) c.in_ok-submission.rest.now c.in_ok-id.ensures.read c.in_ok-submission.ensures.read).parts;
    }
