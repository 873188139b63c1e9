use Rattle.std.proofs.Common.{◌≡◌, take}
use Rattle.rm_types.specs.declared.containers.ContainerState.TheVariants.{Acquired}
use Rattle.rm_tracker.specs.Answers.{brought_all, is_untold_row}
use Rattle.rm_tracker.proofs.beating.acquire_all.Given as goal

abbrev pub invariant-launched : goal.invariant-launched
invariant-launched l = l.book ≡ brought_all (is_untold_row l.name) Acquired l.initial.book (take l.id-index l.launched)
