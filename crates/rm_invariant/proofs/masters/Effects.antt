-- What each primitive does to the marks of a container, once: an event or an operation is taken from the front of its list, or put at its end.
use Rattle.rm_invariant.proofs.Common.{◌≡◌, List, [], ◌∷◌, ◌++◌, drop, refl, ContainerId, Op, MainEvent, SchedEvent, Tables, main_popped, History}
use Rattle.rm_invariant.specs.apps.View.{is_launch}
use Rattle.rm_invariant.proofs.apps.Counts.{at_end, at_front}
use Rattle.rm_invariant.specs.masters.View.{is_expiry, is_finish, is_granting, is_losing, is_attempt_removal, is_saving, container_view_main, container_view, container_view_op, container_view_sched}

module _ (h : History) (t : Tables) (c : ContainerId) where
  -- of the main queue
  pub main_taken : (e : MainEvent) (rest : List MainEvent) → t.main ≡ e ∷ rest → container_view h t c ≡ container_view_main c e (container_view h (main_popped t) c)
  main_taken e rest is =
      rw (is, at_front (is_granting c) e rest, at_front (is_losing c) e rest, at_front (is_launch c.attempt) e rest, at_front (is_expiry c) e rest, at_front (is_finish c) e rest) refl

  pub main_posted : (e : MainEvent) → container_view h (record t { main = t.main ++ e ∷ [] }) c ≡ container_view_main c e (container_view h t c)
  main_posted e =
      rw (at_end (is_granting c) t.main e, at_end (is_losing c) t.main e, at_end (is_launch c.attempt) t.main e, at_end (is_expiry c) t.main e, at_end (is_finish c) t.main e) refl

  -- of the scheduler's
  pub sched_taken : (e : SchedEvent) (rest : List SchedEvent) → t.sched ≡ e ∷ rest → container_view h t c ≡ container_view_sched c e (container_view h (record t { sched = drop 1 t.sched }) c)
  sched_taken e rest is = rw (is, at_front (is_attempt_removal c) e rest) refl

  pub sched_posted : (e : SchedEvent) → container_view h (record t { sched = t.sched ++ e ∷ [] }) c ≡ container_view_sched c e (container_view h t c)
  sched_posted e = rw (at_end (is_attempt_removal c) t.sched e) refl

  -- of the operations that await
  pub op_taken : (op : Op) (rest : List Op) → t.awaiting ≡ op ∷ rest → container_view h t c ≡ container_view_op c op (container_view h (record t { awaiting = drop 1 t.awaiting }) c)
  op_taken op rest is = rw (is, at_front (is_saving c) op rest) refl

  pub op_issued : (op : Op) → container_view h (record t { awaiting = t.awaiting ++ op ∷ [] }) c ≡ container_view_op c op (container_view h t c)
  op_issued op = rw (at_end (is_saving c) t.awaiting op) refl
