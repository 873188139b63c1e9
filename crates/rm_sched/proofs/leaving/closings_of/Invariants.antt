use Rattle.std.proofs.Common.{◌≡◌, take}
use Rattle.rm_tables.specs.Leaving.{closings_of}
use Rattle.rm_sched.proofs.leaving.closings_of.Given as goal

abbrev pub invariant-ids : goal.invariant-ids
invariant-ids l = l.closings ≡ closings_of l.tree.apps l.cause (take l.id-index l.ids)
