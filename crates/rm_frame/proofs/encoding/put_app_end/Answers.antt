use Rattle.std.proofs.Common.{◌∷◌, [], ◌++◌}
use Rattle.rm_formats.specs.Frames.{text_frame, app_id_frame, how_code}
use Rattle.rm_formats.specs.declared.codes.TheConstants.{APP_END_CODE}
use Rattle.rm_frame.proofs.Appends.{appends}
use Rattle.rm_frame.proofs.encoding.put_app_end.Goals as goal

pub returns : goal.returns
returns c =
    appends c.args.out.now.items c.put_kind.new.out.items c.put_end.new.out.items (APP_END_CODE ∷ []) (app_id_frame c.args.id ++ (how_code c.args.how ∷ text_frame c.args.text.now)) c.in_ok-put_kind.ensures
    (appends c.put_kind.new.out.items c.put_app_id.new.out.items c.put_end.new.out.items (app_id_frame c.args.id) (how_code c.args.how ∷ text_frame c.args.text.now) c.in_ok-put_app_id.ensures c.in_ok-put_end.ensures)
