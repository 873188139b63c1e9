-- The pass is as it was until the value is taken.
use Rattle.std.proofs.Common.{◌≡◌}
use Rattle.rm_baton.specs.Passes.{IsPassOf}
use Rattle.rm_baton.specs.Views.{view}
use Rattle.rm_workers.proofs.holds.wait_for.Given as goal

abbrev pub invariant-holds : goal.invariant-holds
invariant-holds g l = IsPassOf l.baton l.mine × (view l.mine ≡ view l.fn.pass)
