use Rattle.std.proofs.Common.{◌∙◌, ap, map, string_bytes}
use Rattle.std.proofs.lemmas.Result.{IfOk-weaker}
use Rattle.rm_types.specs.Lists.{unless_empty}
use Rattle.rm_words.proofs.Names.{are_all, have_flags}
use Rattle.rm_words.proofs.reading.read_names.Goals as goal

pub read_words-requires : goal.read_words-requires
read_words-requires c = have_flags (map string_bytes c.args.words.now) c.requires

pub returns : goal.returns
returns c = IfOk-weaker c.read_words.result _ _ (λ matches held. held.named ∙ ap unless_empty (are_all (map string_bytes c.args.words.now) c.requires)) c.read_words.ensures
