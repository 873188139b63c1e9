use Rattle.std.proofs.Common.{take}
use Rattle.rm_queues.specs.Places.{AreFirstPlaces}
use Rattle.rm_queues.proofs.places.Places.of_users.Given as goal

-- the places of the items so far are known
abbrev pub invariant-loop-place : goal.invariant-loop-place
invariant-loop-place l = AreFirstPlaces (λ one. one.user) (take l.place l.groups) l.places
