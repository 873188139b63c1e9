use Rattle.rm_store.proofs.compaction.Ordering.{alike}
use Rattle.rm_store.proofs.compaction.laws.law_alike.Goals as goal

pub returns : goal.returns
returns c = alike
