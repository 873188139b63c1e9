use Rattle.std.proofs.Common.{◌∷◌, [], ◌++◌}
use Rattle.std.specs.Int.{to_be_bytes, w32, w64}
use Rattle.rm_formats.specs.Frames.{text_frame, attempt_id_frame}
use Rattle.rm_formats.specs.declared.codes.TheConstants.{ATTEMPT_CODE}
use Rattle.rm_frame.proofs.Appends.{appends}
use Rattle.rm_frame.proofs.encoding.put_attempt.Goals as goal

pub returns : goal.returns
returns c =
    appends c.args.out.now.items c.put_kind.new.out.items c.put_text.new.out.items (ATTEMPT_CODE ∷ []) ((attempt_id_frame c.args.id) ++ ((to_be_bytes w32 c.args.master.epoch) ++ ((to_be_bytes w64 c.args.master.seq) ++ (text_frame c.args.node.now)))) c.in_ok-put_kind.ensures
    (appends c.put_kind.new.out.items c.put_attempt_id.new.out.items c.put_text.new.out.items (attempt_id_frame c.args.id) ((to_be_bytes w32 c.args.master.epoch) ++ ((to_be_bytes w64 c.args.master.seq) ++ (text_frame c.args.node.now))) c.in_ok-put_attempt_id.ensures
    (appends c.put_attempt_id.new.out.items c.put_u32.new.out.items c.put_text.new.out.items (to_be_bytes w32 c.args.master.epoch) ((to_be_bytes w64 c.args.master.seq) ++ (text_frame c.args.node.now)) c.in_ok-put_u32.ensures
    (appends c.put_u32.new.out.items c.put_u64.new.out.items c.put_text.new.out.items (to_be_bytes w64 c.args.master.seq) (text_frame c.args.node.now) c.in_ok-put_u64.ensures c.in_ok-put_text.ensures)))
