use Rattle.std.proofs.Common.{length, ap}
use Rattle.rm_disk.proofs.Fuses.{refusal_quiet}
use Rattle.rm_disk.proofs.Views.{quiet_writes}
use Rattle.rm_disk.proofs.fuse.FuseDisk.write.Goals as goal

pub returns-then-refuses-clause-in_range : goal.returns-then-refuses-clause-in_range
returns-then-refuses-clause-in_range g c =
    rw (ap (λ f. f.inner) c.if-refuses.ensures.refused) (quiet_writes c.args.at (length c.args.bytes.now) _ _ (refusal_quiet (g.D.Disk.view c.args.self.now.inner) c.args.self.now.refused c.refuses.new.self.refused c.refuses.ensures.later))
