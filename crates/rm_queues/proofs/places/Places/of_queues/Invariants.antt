use Rattle.std.proofs.Common.{take}
use Rattle.rm_queues.specs.Places.{AreFirstPlaces}
use Rattle.rm_queues.proofs.places.Places.of_queues.Given as goal

-- the places of the items so far are known
abbrev pub invariant-loop-place : goal.invariant-loop-place
invariant-loop-place l = AreFirstPlaces (λ queue. queue.name) (take l.place l.queues) l.places
