use Rattle.std.proofs.Common.{◌≢◌, length, []}
use Rattle.rm_store.specs.Store.{seen}
use Rattle.rm_lives.specs.Keeping.{IsKeptOn}
use Rattle.rm_lives.specs.Starts.{IsAtEase, Lives}
use Rattle.rm_workers.specs.AnyOrder.{any_order}
use Rattle.rm_workers.proofs.runs.later_lives.Given as goal

abbrev pub invariant-lives : goal.invariant-lives
invariant-lives g l = record {
  some : l.desk.core.log ≢ [];
  at_ease : IsAtEase l.disk;
  lived : Lives any_order g.D.Disk.view (λ opening. Unit {0}) (λ opening. IsKeptOn opening l.fn.d.core.log (seen g.D.Disk.view l.fn.disk)) l.fn.d l.desk l.fn.disk l.disk;
}

abbrev pub decreases-lives : goal.decreases-lives
decreases-lives g l = length l.desk.place.lives
