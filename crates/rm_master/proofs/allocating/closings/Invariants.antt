use Rattle.std.proofs.Common.{◌≡◌, take}
use Rattle.rm_master.specs.Told.{closings_told}
use Rattle.rm_master.proofs.allocating.closings.Given as goal

abbrev pub invariant-all : goal.invariant-all
invariant-all l = l.closings ≡ closings_told l.attempt (take l.one-index l.all)
