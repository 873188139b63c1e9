use Rattle.std.proofs.Common.{◌≡◌, ◌+◌, ◌≤◌, ◌++◌, length, take}
use Rattle.std.specs.VecDeque.{deque_len, deque_capacity}
use Rattle.rm_types.proofs.queues.Queue.push_all.Given as goal

abbrev pub invariant-loop-item : goal.invariant-loop-item
invariant-loop-item g l =
    (l.self-inside.line.items ≡ l.initial.self-inside.line.items ++ take l.item-index l.items)
    × (deque_len l.self-inside.line + length l.items ≤ deque_capacity l.self-inside.line + l.item-index)
