use Rattle.std.proofs.Common.{◌≡◌, take}
use Rattle.rm_types.specs.declared.containers.ContainerState.TheVariants.{Running}
use Rattle.rm_model.specs.NodeReplies.{reported}
use Rattle.rm_tracker.specs.Answers.{brought_all, is_row_on}
use Rattle.rm_tracker.proofs.beating.run_all.Given as goal

abbrev pub invariant-running : goal.invariant-running
invariant-running l = l.book ≡ brought_all (is_row_on l.name) Running l.initial.book (reported (take l.held-index l.running))
