use Rattle.rm_lives.proofs.Common.{◌≢◌, ◌⊎◌, [], true, None, List, Op, close_left, seen, stands}
use Rattle.std.proofs.Common.{◌≡◌}
use Rattle.rm_core.specs.Words.{has_rest}
use Rattle.rm_desk.specs.Runs.{moves_left}
use Rattle.rm_plain.specs.Feeding.{by_policy}
use Rattle.rm_lives.specs.Goes.{ExtendsRun}
use Rattle.rm_lives.specs.Keeping.{FuseStays, Serves, StoresOn}
use Rattle.rm_plain.proofs.feeding.work_off.Given as goal

abbrev pub invariant-moves : goal.invariant-moves
invariant-moves g l = record {
  standing : stands l.d.core ≡ true;
  closes : (close_left l.d.place.segments ≢ None) ⊎ has_rest l.d.core;
  serves : Serves g.D.Disk.view l.d l.store;
  goes : ExtendsRun by_policy [] l.fn.d l.d;
  stores : (opening : List Op) → StoresOn opening l.fn.d l.d (seen g.D.Disk.view l.fn.store.disk) (seen g.D.Disk.view l.store.disk);
  fuse : FuseStays g.D.Disk.view l.fn.store.disk l.store.disk;
}

abbrev pub decreases-moves : goal.decreases-moves
decreases-moves g l = moves_left l.d
