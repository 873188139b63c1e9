use Rattle.std.proofs.Common.{◌≡◌, take}
use Rattle.rm_sched.specs.Turns.{turns_of}
use Rattle.rm_sched.proofs.passing.turns_of.Given as goal

abbrev pub invariant-records : goal.invariant-records
invariant-records l = l.turns ≡ turns_of l.t (take l.id-index l.ids)
