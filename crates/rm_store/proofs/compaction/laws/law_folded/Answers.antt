use Rattle.rm_store.proofs.compaction.Folded.{folded_amounts, folded_none_stray, folded_again}
use Rattle.rm_store.proofs.compaction.laws.law_folded.Goals as goal

pub returns-clause-amounts : goal.returns-clause-amounts
returns-clause-amounts c = folded_amounts

pub returns-clause-none_stray : goal.returns-clause-none_stray
returns-clause-none_stray c = folded_none_stray

pub returns-clause-again : goal.returns-clause-again
returns-clause-again c = folded_again
