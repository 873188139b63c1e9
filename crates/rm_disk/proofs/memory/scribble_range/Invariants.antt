use Rattle.std.proofs.Common.{◌≡◌, ◌+◌, ◌*◌, ◌%◌}
use Rattle.rm_disk.specs.Memory.{is_within, renewed}
use Rattle.rm_disk.proofs.memory.scribble_range.Given as goal

abbrev pub invariant-places : goal.invariant-places
invariant-places l = l.into.items ≡ renewed (is_within l.first l.place) (λ place. (167 * l.image + place) % 256) l.initial.into.items
