use Rattle.std.proofs.Common.{◌≡◌, take}
use Rattle.rm_tables.specs.Leaving.{losts_of}
use Rattle.rm_sched.proofs.leaving.losts_of.Given as goal

abbrev pub invariant-ids : goal.invariant-ids
invariant-ids l = l.losts ≡ losts_of l.tree.apps (take l.id-index l.ids)
