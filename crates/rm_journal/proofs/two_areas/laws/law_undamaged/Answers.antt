use Rattle.rm_journal.proofs.two_areas.Unique.{held_undamaged}
use Rattle.rm_journal.proofs.two_areas.laws.law_undamaged.Goals as goal

pub returns : goal.returns
returns c = held_undamaged
