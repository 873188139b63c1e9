use Rattle.std.proofs.Common.{◌≡◌, drop, take}
use Rattle.rm_cluster.specs.Queues.{all_follow}
use Rattle.rm_cluster.proofs.queues.is_tree.Given as goal

-- what is left to be seen is seen behind the queues so far
abbrev pub invariant-queues : goal.invariant-queues
invariant-queues l = record {
  left : all_follow (take l.place l.queues) (drop l.place l.queues) ≡ all_follow (take 1 l.queues) (drop 1 l.queues);
}
