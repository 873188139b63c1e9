use Rattle.std.proofs.Common.{inl, refl}
use Rattle.rm_plain.proofs.growing_run.GrowingRun.new.Goals as goal

pub returns-clause-unbegun : goal.returns-clause-unbegun
returns-clause-unbegun g c = inl (record { empty = c.in-Ok.ensures.log; nothing = c.new-3.ensures; same = refl; along = rw c.new.ensures at c.in-Ok.ensures.run })
