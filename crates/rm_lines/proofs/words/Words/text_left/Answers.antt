use Rattle.std.proofs.Common.{[], sym, ap, ◌∙◌}
use Rattle.std.specs.Option.{option_map_or}
use Rattle.rm_formats.specs.Wording.{spaced}
use Rattle.rm_page.proofs.Bytes.{cut, join_cut}
use Rattle.rm_lines.proofs.words.Words.text_left.Goals as goal

pub returns-in-Some : goal.returns-in-Some
returns-in-Some c =
    sym (join_cut 32 c.in-Some.rest.now) ∙ ap spaced (sym (ap (λ rest. option_map_or (λ one. cut 32 one.now) rest []) c.in-Some.is) ∙ c.self.view_is)
