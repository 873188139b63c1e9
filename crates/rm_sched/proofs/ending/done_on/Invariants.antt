use Rattle.std.proofs.Common.{◌≡◌, [], fold, take}
use Rattle.rm_tables.specs.SchedEvents.{ends_as_done}
use Rattle.rm_tables.proofs.Once.{take_one}
use Rattle.rm_sched.proofs.ending.done_on.Given as goal

abbrev pub invariant-list : goal.invariant-list
invariant-list l = l.ids ≡ fold (take_one (ends_as_done l.name l.t)) [] (take l.id-index l.list)
