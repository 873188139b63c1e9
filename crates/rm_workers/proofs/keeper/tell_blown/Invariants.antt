-- What the store's worker knew when the fuse had refused the write lasts.
use Rattle.rm_baton.specs.Passes.{IsPassOf}
use Rattle.rm_baton.specs.Views.{view}
use Rattle.rm_workers.specs.Work.{Knows, Refused}
use Rattle.rm_workers.proofs.keeper.tell_blown.Given as goal

abbrev pub invariant-holds : goal.invariant-holds
invariant-holds g l = IsPassOf l.baton l.mine × Knows (Refused g.D.Disk.view g.S.Since.began l.store l.fn.passed) (view l.mine)
