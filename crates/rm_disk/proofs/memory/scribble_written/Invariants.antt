use Rattle.std.proofs.Common.{◌≡◌, ◌+◌, ◌*◌, ◌%◌, take}
use Rattle.rm_disk.specs.Memory.{is_written, renewed}
use Rattle.rm_disk.proofs.memory.scribble_written.Given as goal

abbrev pub invariant-calls : goal.invariant-calls
invariant-calls l = l.into.items ≡ renewed (is_written (take l.call-index l.calls)) (λ place. (167 * l.image + place) % 256) l.initial.into.items
