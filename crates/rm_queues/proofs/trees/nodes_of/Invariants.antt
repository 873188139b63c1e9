use Rattle.std.proofs.Common.{◌≡◌, map, take}
use Rattle.rm_queues.specs.Trees.{queue_node}
use Rattle.rm_queues.proofs.trees.nodes_of.Given as goal

-- the nodes of the queues so far
abbrev pub invariant-loop-queue : goal.invariant-loop-queue
invariant-loop-queue l = l.nodes.items ≡ map (queue_node l.queues) (take l.queue-index l.queues)
