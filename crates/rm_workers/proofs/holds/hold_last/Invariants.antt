-- What the store's worker knew when it ended lasts.
use Rattle.rm_baton.specs.Passes.{IsPassOf}
use Rattle.rm_baton.specs.Views.{view}
use Rattle.rm_workers.specs.Turns.{EndFact}
use Rattle.rm_workers.specs.Work.{Knows}
use Rattle.rm_workers.proofs.holds.hold_last.Given as goal

abbrev pub invariant-holds : goal.invariant-holds
invariant-holds g l = IsPassOf l.baton l.mine × Knows (EndFact g.D.Disk.view g.S.Since.began l.store l.fn.end) (view l.mine)
