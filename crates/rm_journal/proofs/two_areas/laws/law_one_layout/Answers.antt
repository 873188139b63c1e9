use Rattle.rm_journal.proofs.two_areas.Unique.{one_layout}
use Rattle.rm_journal.proofs.two_areas.laws.law_one_layout.Goals as goal

pub returns : goal.returns
returns c = one_layout
