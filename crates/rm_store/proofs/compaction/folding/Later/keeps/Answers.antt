use Rattle.rm_store.proofs.Common.{not, ap, ◌∙◌}
use Rattle.rm_store.proofs.compaction.folding.Later.keeps.Goals as goal

pub returns : goal.returns
returns c = λ later is. ap not (c.contains.ensures ∙ is.removed c.args.id)
