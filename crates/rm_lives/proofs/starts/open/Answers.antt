use Rattle.rm_lives.proofs.Common.{true, false}
use Rattle.rm_lives.proofs.Starting.{opened, unopened}
use Rattle.rm_lives.proofs.starts.open.Goals as goal

pub returns-in-Ok-clause-opened : goal.returns-in-Ok-clause-opened
returns-in-Ok-clause-opened g c =
    let store = c.in-Ok.opened.0 in
    opened g.D.Disk.view (g.D.Disk.keeps true) c.args.disk c.disarm.new.self store c.in-Ok.opened.1 c.in-Ok.opened.2 c.disarm.ensures
    c.in-Ok.ensures.sound c.in-Ok.ensures.unbroken c.in-Ok.ensures.read c.in-Ok.ensures.content c.in-Ok.ensures.images c.in-Ok.ensures.quiet c.in-Ok.ensures.kept

pub returns-in-Err-clause-why : goal.returns-in-Err-clause-why
returns-in-Err-clause-why g c =
    rw c.stop_at_open.ensures
    (unopened g.D.Disk.view (g.D.Disk.keeps false) g.D.Disk.faulted g.met.D.Disk.faulted_counts c.args.disk c.disarm.new.self c.in-Err.field-0.disk c.disarm.ensures c.in-Err.field-0.why c.in-Err.ensures.errors c.in-Err.ensures.why c.in-Err.ensures.fault c.in-Err.ensures.kept)
