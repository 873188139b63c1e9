use Rattle.rm_store.proofs.Owned.{quiet_own, fallen_own}
use Rattle.rm_store.proofs.laws.law_stays_own.Goals as goal

pub returns-clause-quiet : goal.returns-clause-quiet
returns-clause-quiet g c = quiet_own (g.D.Disk.view c.args.before.now) (g.D.Disk.view c.args.after.now)

pub returns-clause-fallen : goal.returns-clause-fallen
returns-clause-fallen g c = fallen_own (g.D.Disk.view c.args.before.now) (g.D.Disk.view c.args.after.now)
