use Rattle.rm_lives.proofs.Common.{[], true, List, Op, seen, stands}
use Rattle.std.proofs.Common.{◌≡◌}
use Rattle.rm_desk.specs.Runs.{moves_left}
use Rattle.rm_lives.specs.Goes.{ExtendsRun}
use Rattle.rm_lives.specs.Keeping.{FuseStays, Serves, StoresOn}
use Rattle.rm_plain.specs.Schedule.{IsAt, order_of}
use Rattle.rm_plain.proofs.lives.run_life.Given as goal

abbrev pub invariant-moves : goal.invariant-moves
invariant-moves g l = record {
  standing : stands l.d.core ≡ true;
  serves : Serves g.D.Disk.view l.d l.store;
  at : IsAt l.schedule l.d.core.log;
  whole : l.schedule.whole ≡ l.fn.schedule.whole;
  goes : ExtendsRun (order_of l.fn.schedule) [] l.fn.d l.d;
  stores : (opening : List Op) → StoresOn opening l.fn.d l.d (seen g.D.Disk.view l.fn.store.disk) (seen g.D.Disk.view l.store.disk);
  fuse : FuseStays g.D.Disk.view l.fn.store.disk l.store.disk;
}

abbrev pub decreases-moves : goal.decreases-moves
decreases-moves g l = moves_left l.d
