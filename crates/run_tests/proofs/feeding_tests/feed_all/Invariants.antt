use Rattle.std.proofs.Common.{length}
use Rattle.std.specs.Vec.Iter.{into_iter_items}
use Rattle.rm_desk.specs.Scripts.{CanFollow}
use Rattle.rm_plain.specs.GrowingRuns.{IsGrowing}
use Rattle.run_tests.proofs.feeding_tests.feed_all.Given as goal

-- the run can be fed on, and what is left can follow
abbrev pub invariant-segments : goal.invariant-segments
invariant-segments g l = record { growing : IsGrowing g.D.Disk.view l.run; left : CanFollow (into_iter_items l.left) }

abbrev pub decreases-segments : goal.decreases-segments
decreases-segments g l = length (into_iter_items l.left)
