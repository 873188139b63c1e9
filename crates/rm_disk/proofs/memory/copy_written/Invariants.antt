use Rattle.std.proofs.Common.{◌≡◌, take, slice_index}
use Rattle.rm_disk.specs.Memory.{is_written, renewed}
use Rattle.rm_disk.proofs.memory.copy_written.Given as goal

abbrev pub invariant-calls : goal.invariant-calls
invariant-calls l = l.into.items ≡ renewed (is_written (take l.call-index l.calls)) (slice_index l.from) l.initial.into.items
