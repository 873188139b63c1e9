use Rattle.std.proofs.Common.{sym, ◌∙◌}
use Rattle.rm_lines.proofs.Splits.{no_word}
use Rattle.rm_lines.proofs.words.Words.is_empty.Goals as goal

pub returns : goal.returns
returns c =
    let both = no_word (λ text. text.now) c.self.inside.rest c.is_none.result c.is_none.ensures in
    (λ t. sym c.self.view_is ∙ both.0 t, λ e. both.1 (c.self.view_is ∙ e))
