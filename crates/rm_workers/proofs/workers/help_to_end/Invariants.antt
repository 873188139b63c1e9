-- The pass goes on, without the baton between two holds.
use Rattle.rm_baton.specs.Passes.{IsPassOf}
use Rattle.rm_baton.specs.Views.{view}
use Rattle.rm_workers.specs.Work.{IsHelper}
use Rattle.rm_workers.proofs.workers.help_to_end.Given as goal

abbrev pub invariant-holds : goal.invariant-holds
invariant-holds g l = IsPassOf l.baton l.pass × IsHelper (view l.pass)
