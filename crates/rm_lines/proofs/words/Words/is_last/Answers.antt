use Rattle.std.proofs.Common.{[], sym, ap, ◌∙◌}
use Rattle.std.specs.Option.{option_map_or}
use Rattle.rm_page.proofs.Bytes.{cut}
use Rattle.rm_lines.proofs.Splits.{last_word}
use Rattle.rm_lines.proofs.words.Words.is_last.Goals as goal

pub returns-in-Some : goal.returns-in-Some
returns-in-Some c =
    last_word (λ text. text.now) c.args.self.now c.first_word.result.0.now c.first_word.result.1 c.is_none.result c.is_none.ensures
    (sym c.self.view_is ∙ ap (λ rest. option_map_or (λ one. cut 32 one.now) rest []) c.in-Some.is ∙ c.first_word.ensures)
