use Rattle.rm_store.proofs.Each.{one_record_each}
use Rattle.rm_store.proofs.laws.law_one_record_each.Goals as goal

pub returns : goal.returns
returns c = one_record_each
