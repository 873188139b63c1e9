use Rattle.std.proofs.Common.{◌≡◌, [], fold, take}
use Rattle.rm_tables.specs.SchedEvents.{is_released}
use Rattle.rm_tables.proofs.Once.{take_one}
use Rattle.rm_sched.proofs.ending.released_of.Given as goal

abbrev pub invariant-list : goal.invariant-list
invariant-list l = l.ids ≡ fold (take_one (is_released l.attempt l.t)) [] (take l.id-index l.list)
