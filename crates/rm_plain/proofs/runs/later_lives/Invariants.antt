use Rattle.rm_lives.proofs.Common.{◌≢◌, [], true, seen, stands}
use Rattle.std.proofs.Common.{◌≡◌, length}
use Rattle.rm_lives.specs.Keeping.{IsKeptOn}
use Rattle.rm_plain.specs.Schedule.{IsAt, course_left, order_of}
use Rattle.rm_lives.specs.Starts.{IsAtEase, Lives}
use Rattle.rm_plain.proofs.runs.later_lives.Given as goal

abbrev pub invariant-lives : goal.invariant-lives
invariant-lives g l = record {
  some : l.d.core.log ≢ [];
  at_ease : IsAtEase l.disk;
  at : IsAt l.schedule l.d.core.log;
  used : stands l.d.core ≡ true → course_left l.schedule ≡ [];
  whole : l.schedule.whole ≡ l.fn.schedule.whole;
  lived : Lives (order_of l.fn.schedule) g.D.Disk.view (λ opening. Unit {0}) (λ opening. IsKeptOn opening l.fn.d.core.log (seen g.D.Disk.view l.fn.disk)) l.fn.d l.d l.fn.disk l.disk;
}

abbrev pub decreases-lives : goal.decreases-lives
decreases-lives g l = length l.d.place.lives
