use Rattle.std.proofs.Common.{◌≡◌, false, subst}
use Rattle.rm_disk.specs.Fuse.{Fused}
use Rattle.rm_lives.proofs.Starting.{unopened}
use Rattle.rm_main.proofs.modes.listing.list_store.Goals as goal

pub returns-in-Ok-clause-lasts : goal.returns-in-Ok-clause-lasts
returns-in-Ok-clause-lasts g c = λ ok bytes told image left.
    let same : c.close.result ≡ c.in-Ok.store.disk = c.close.ensures in
    c.in-Ok.ensures.images bytes (rw c.disarm.ensures told) image (subst (λ (d : Fused _). (g.D.Disk.view d.inner).images image) same left)

pub returns-in-Err-clause-stopped : goal.returns-in-Err-clause-stopped
returns-in-Err-clause-stopped g c =
    rw c.stop_at_open.ensures
    (unopened g.D.Disk.view (g.D.Disk.keeps false) g.D.Disk.faulted g.met.D.Disk.faulted_counts c.args.disk c.disarm.new.self c.in-Err.field-0.disk c.disarm.ensures c.in-Err.field-0.why c.in-Err.ensures.errors c.in-Err.ensures.why c.in-Err.ensures.fault c.in-Err.ensures.kept)
