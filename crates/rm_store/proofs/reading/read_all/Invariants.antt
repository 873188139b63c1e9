use Rattle.rm_store.proofs.Common.{◌-◌, true}
use Rattle.rm_store.proofs.SoFar.{ReadSoFar}
use Rattle.rm_store.proofs.reading.read_all.Given as goal

abbrev pub invariant-payloads : goal.invariant-payloads
invariant-payloads g l = record {
  read : ReadSoFar (g.D.Disk.view l.fn.disk) (g.D.Disk.view l.disk) l.reading l.tree l.ops;
  kept : g.D.Disk.keeps true l.fn.disk l.disk;
}

abbrev pub decreases-payloads : goal.decreases-payloads
decreases-payloads g l = l.reading.walk.end - l.reading.walk.gate
