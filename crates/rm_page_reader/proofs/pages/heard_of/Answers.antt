use Rattle.std.proofs.Common.{not, rules}
use Rattle.std.proofs.lemmas.Fn.{filter_same}
use Rattle.rm_page.specs.Shown.{is_silent}
use Rattle.rm_page_reader.proofs.pages.heard_of.Goals as goal

pub returns : goal.returns
returns c = filter_same _ (λ entry. not (is_silent entry)) _ (λ x b q t. search rules) _ _ c.retain.ensures
