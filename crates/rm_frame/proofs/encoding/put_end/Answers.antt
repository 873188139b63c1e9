use Rattle.std.proofs.Common.{ℕ, ◌∷◌, [], ◌++◌, ap, ◌∙◌}
use Rattle.rm_formats.specs.Frames.{text_frame, how_code}
use Rattle.rm_frame.proofs.Appends.{appends}
use Rattle.rm_frame.proofs.encoding.put_end.Goals as goal

pub returns : goal.returns
returns c =
    appends c.args.out.now.items c.push.new.self.items c.put_text.new.out.items (how_code c.args.how ∷ []) (text_frame c.args.text.now)
    (c.in_ok-push.ensures.items ∙ ap (λ (code : ℕ). c.args.out.now.items ++ code ∷ []) c.how_code.ensures) c.in_ok-put_text.ensures
