use Rattle.std.proofs.Common.{length}
use Rattle.std.specs.Vec.Iter.{into_iter_items}
use Rattle.rm_desk.specs.Scripts.{AllLive}
use Rattle.rm_plain.specs.GrowingRuns.{IsGrowing}
use Rattle.run_tests.proofs.feeding_tests.run_lives.Given as goal

-- the run can go on, and what is left can be lived
abbrev pub invariant-lives : goal.invariant-lives
invariant-lives g l = record { growing : IsGrowing g.D.Disk.view l.run; left : AllLive (into_iter_items l.left) }

abbrev pub decreases-lives : goal.decreases-lives
decreases-lives g l = length (into_iter_items l.left)
