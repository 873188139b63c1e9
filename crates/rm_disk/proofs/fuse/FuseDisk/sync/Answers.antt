use Rattle.std.proofs.Common.{ap}
use Rattle.rm_disk.proofs.Fuses.{refusal_quiet}
use Rattle.rm_disk.proofs.fuse.FuseDisk.sync.Goals as goal

pub returns-then-refuses-clause-quiet : goal.returns-then-refuses-clause-quiet
returns-then-refuses-clause-quiet g c =
    rw (ap (λ f. f.inner) c.if-refuses.ensures.refused) (refusal_quiet (g.D.Disk.view c.args.self.now.inner) c.args.self.now.refused c.refuses.new.self.refused c.refuses.ensures.later)
