use Rattle.std.proofs.Common.{◌≡◌, take}
use Rattle.rm_tables.specs.Absorbing.{unlaunched_on}
use Rattle.rm_sched.proofs.absorbing.unlaunch_on.Given as goal

abbrev pub invariant-ids : goal.invariant-ids
invariant-ids l = l.nodes ≡ unlaunched_on l.name l.initial.nodes (take l.id-index l.ids)
