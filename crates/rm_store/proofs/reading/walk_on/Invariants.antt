use Rattle.rm_store.proofs.Common.{◌≡◌, ◌-◌, true, IfTold, IsQuiet}
use Rattle.rm_journal.specs.two_areas.Reading.{IsReading}
use Rattle.rm_store.specs.Reading.{WalkedOn}
use Rattle.rm_store.proofs.reading.walk_on.Given as goal

abbrev pub invariant-payloads : goal.invariant-payloads
invariant-payloads g l = record {
  reading : IsReading (g.D.Disk.view l.disk) l.reading;
  others : l.reading ≡ record l.fn.reading { walk = l.reading.walk };
  walked : IfTold (g.D.Disk.view l.fn.disk) (WalkedOn l.fn.reading.walk l.reading.walk);
  quiet : IsQuiet (g.D.Disk.view l.fn.disk) (g.D.Disk.view l.disk);
  kept : g.D.Disk.keeps true l.fn.disk l.disk;
}

abbrev pub decreases-payloads : goal.decreases-payloads
decreases-payloads g l = l.reading.walk.end - l.reading.walk.gate
