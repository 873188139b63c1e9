-- Between two turns the store serves the life.
use Rattle.rm_baton.specs.Passes.{IsPassOf}
use Rattle.rm_baton.specs.Views.{view}
use Rattle.rm_workers.specs.Work.{Knows, Serving}
use Rattle.rm_workers.proofs.keeper.keep_to_end.Given as goal

abbrev pub invariant-turns : goal.invariant-turns
invariant-turns g l = IsPassOf l.baton l.pass × Knows (Serving g.D.Disk.view g.S.Since.began l.store) (view l.pass)
