use Rattle.rm_store.proofs.Framed.{holds_alike}
use Rattle.rm_store.proofs.laws.law_holds_alike.Goals as goal

pub returns : goal.returns
returns c = holds_alike
