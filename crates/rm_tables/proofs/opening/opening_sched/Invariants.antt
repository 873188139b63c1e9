use Rattle.std.proofs.Common.{◌≡◌, take}
use Rattle.std.specs.List.{flat_map}
use Rattle.rm_tables.specs.Opening.{sched_of}
use Rattle.rm_tables.proofs.opening.opening_sched.Given as goal

abbrev pub invariant-records : goal.invariant-records
invariant-records l = l.queue ≡ flat_map sched_of (take l.place l.tree.apps)
