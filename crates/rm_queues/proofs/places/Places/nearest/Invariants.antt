use Rattle.std.proofs.Common.{◌≡◌}
use Rattle.std.specs.Option.{option_copied}
use Rattle.rm_types.specs.Rights.{path_of}
use Rattle.rm_queues.specs.Places.{first_known_place}
use Rattle.rm_queues.proofs.Steps.{path_from, steps_left}
use Rattle.rm_queues.proofs.places.Places.nearest.Given as goal

-- the first place along the rest of the path is the first along the whole
abbrev pub invariant-loop-next : goal.invariant-loop-next
invariant-loop-next l = first_known_place l.self (path_from (option_copied l.next)) ≡ first_known_place l.self (path_of l.fn.name)

abbrev pub decreases-loop-next : goal.decreases-loop-next
decreases-loop-next l = steps_left (option_copied l.next)
