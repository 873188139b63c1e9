use Rattle.std.proofs.Common.{◌≡◌, take}
use Rattle.rm_tables.specs.Leaving.{unlaunched}
use Rattle.rm_sched.proofs.leaving.unlaunch_all.Given as goal

abbrev pub invariant-ids : goal.invariant-ids
invariant-ids l = l.nodes ≡ unlaunched l.book l.initial.nodes (take l.id-index l.ids)
