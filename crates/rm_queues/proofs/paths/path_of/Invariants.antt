use Rattle.std.proofs.Common.{◌≡◌, ◌++◌}
use Rattle.std.specs.Option.{option_copied}
use Rattle.rm_types.specs.Rights.{path_of}
use Rattle.rm_queues.proofs.Steps.{path_from, steps_left}
use Rattle.rm_queues.proofs.paths.path_of.Given as goal

-- the names so far and the path from the next on are the whole path
abbrev pub invariant-loop-next : goal.invariant-loop-next
invariant-loop-next l = l.names ++ path_from (option_copied l.next) ≡ path_of l.fn.name

abbrev pub decreases-loop-next : goal.decreases-loop-next
decreases-loop-next l = steps_left (option_copied l.next)
