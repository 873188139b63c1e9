use Rattle.std.specs.Prelude.{◌≡◌, ◌≤◌, ◌+◌, ◌^◌, length}
use Rattle.rm_plain.specs.Schedule.{course_left, steps_from}
use Rattle.rm_plain.proofs.schedule.Schedule.skip.Given as goal

abbrev pub invariant-skipped : goal.invariant-skipped
invariant-skipped l = record {
  left : steps_from l.place l.rest ≡ course_left l.fn.self;
  within : l.place + length l.rest ≤ 2 ^ 63;
}

abbrev pub decreases-skipped : goal.decreases-skipped
decreases-skipped l = length l.rest
