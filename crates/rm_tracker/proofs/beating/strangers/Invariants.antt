use Rattle.std.proofs.Common.{◌≡◌, [], fold, take, not}
use Rattle.rm_model.specs.NodeReplies.{reported}
use Rattle.rm_tables.proofs.Once.{take_one}
use Rattle.rm_tracker.specs.Told.{lives_at}
use Rattle.rm_tracker.proofs.beating.strangers.Given as goal

abbrev pub invariant-running : goal.invariant-running
invariant-running l = l.ids ≡ fold (take_one (λ id. not (lives_at l.book l.name id))) [] (reported (take l.held-index l.running))
