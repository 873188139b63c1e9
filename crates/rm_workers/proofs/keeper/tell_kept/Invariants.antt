-- What the store's worker knew when it had written lasts.
use Rattle.rm_baton.specs.Passes.{IsPassOf}
use Rattle.rm_baton.specs.Views.{view}
use Rattle.rm_workers.specs.Work.{Knows, Wrote}
use Rattle.rm_workers.proofs.keeper.tell_kept.Given as goal

abbrev pub invariant-holds : goal.invariant-holds
invariant-holds g l = IsPassOf l.baton l.mine × Knows (Wrote g.D.Disk.view g.S.Since.began l.store l.op) (view l.mine)
