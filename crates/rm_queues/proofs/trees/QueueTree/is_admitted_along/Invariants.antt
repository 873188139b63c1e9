use Rattle.std.proofs.Common.{◌≡◌, option_and_then}
use Rattle.std.specs.List.{slice_get}
use Rattle.rm_types.specs.Rights.{path_of}
use Rattle.rm_queues.specs.Trees.{path_admits}
use Rattle.rm_queues.proofs.Walks.{IsPlaceNext, name_left, admits_in}
use Rattle.rm_queues.proofs.trees.QueueTree.is_admitted_along.Given as goal

-- the path of the next queue says what the whole path says
abbrev pub invariant-loop-next : goal.invariant-loop-next
invariant-loop-next l = record {
  place : IsPlaceNext l.self.queues l.next;
  same : path_admits l.op l.self l.user (option_and_then (slice_get l.self.queues) l.next) ≡ admits_in l.op l.self l.user (path_of l.queue);
}

abbrev pub decreases-loop-next : goal.decreases-loop-next
decreases-loop-next l = name_left l.self.queues l.next
