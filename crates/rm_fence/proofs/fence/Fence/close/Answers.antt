use Rattle.rm_fence.proofs.Stands.{image_may}
use Rattle.rm_fence.proofs.fence.Fence.close.Goals as goal

pub returns-clause-claims : goal.returns-clause-claims
returns-clause-claims g c =
    let disk = c.self.inside.disk in
    rw (← c.self.view_is) (image_may (g.D.Disk.view disk) c.self.inside.journal c.self.inside.newest (record { sizes = g.met.D.Disk.image_size disk; reads = g.met.D.Disk.as_it_reads disk }) c.self.invariant)
