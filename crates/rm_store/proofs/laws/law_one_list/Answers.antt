use Rattle.rm_store.proofs.Framed.{one_content}
use Rattle.rm_store.proofs.Faultless.{one_left}
use Rattle.rm_store.proofs.laws.law_one_list.Goals as goal

pub returns : goal.returns
returns c = record { content = one_content; left = one_left }
