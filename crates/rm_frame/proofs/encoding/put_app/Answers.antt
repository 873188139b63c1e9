use Rattle.std.proofs.Common.{◌∷◌, [], ◌++◌}
use Rattle.rm_formats.specs.Frames.{app_id_frame, submission_frame}
use Rattle.rm_formats.specs.declared.codes.TheConstants.{APP_CODE}
use Rattle.rm_frame.proofs.Appends.{appends}
use Rattle.rm_frame.proofs.encoding.put_app.Goals as goal

pub returns : goal.returns
returns c =
    appends c.args.out.now.items c.put_kind.new.out.items c.put_submission.new.out.items (APP_CODE ∷ []) ((app_id_frame c.args.id) ++ (submission_frame c.args.submission.now)) c.in_ok-put_kind.ensures
    (appends c.put_kind.new.out.items c.put_app_id.new.out.items c.put_submission.new.out.items (app_id_frame c.args.id) (submission_frame c.args.submission.now) c.in_ok-put_app_id.ensures c.in_ok-put_submission.ensures)
