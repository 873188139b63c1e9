use Rattle.std.proofs.Common.{true, false}
use Rattle.rm_journal.proofs.walk.Walk.start.Goals as goal

pub returns-in_default-clause-kept : goal.returns-in_default-clause-kept
returns-in_default-clause-kept g c = g.met.D.Disk.keeps_on true false _ _ _ c.in_ok-sync.ensures.kept (g.met.D.Disk.keeps_same false _)
