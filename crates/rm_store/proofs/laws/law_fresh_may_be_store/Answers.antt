use Rattle.rm_store.proofs.Owned.{fresh}
use Rattle.rm_store.proofs.laws.law_fresh_may_be_store.Goals as goal

pub returns : goal.returns
returns c = fresh
