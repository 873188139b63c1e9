-- What each primitive does to the counts and to the view of an attempt, once: an event or an operation is taken from the front of its list,
-- or put at its end.
use Rattle.rm_invariant.proofs.Common.{◌≡◌, List, [], ◌∷◌, ◌++◌, drop, refl, AttemptId, Op, MainEvent, SchedEvent, Tables, History, is_app_op, is_app_end_op}
use Rattle.rm_invariant.specs.apps.View.{view, main_view, sched_view, op_view, counts, main_more, sched_more, op_more, is_start, is_save, is_add, is_accept, is_kill, is_done, is_grant, is_launch, is_queueing, is_attempt_op_of, is_attempt_end_op_of, is_own_op}
use Rattle.rm_model.specs.Facts.{is_remove_op}
use Rattle.rm_invariant.proofs.apps.Counts.{at_front, at_end}

module _ (h : History) (t : Tables) (q : AttemptId) where
  -- an event is taken from the front of the main queue
  pub main_front : (e : MainEvent) (rest : List MainEvent) → t.main ≡ e ∷ rest → counts h t q ≡ main_more q e (counts h (record t { main = drop 1 t.main }) q)
  main_front e rest is =
      rw (is, at_front (is_start q.app) e rest, at_front (is_save q.app) e rest, at_front (is_accept q.app) e rest, at_front (is_kill q.app) e rest, at_front (is_done q.app) e rest, at_front (is_grant q) e rest, at_front (is_launch q) e rest) refl

  -- and put at its end
  pub main_end : (e : MainEvent) → counts h (record t { main = t.main ++ e ∷ [] }) q ≡ main_more q e (counts h t q)
  main_end e =
      rw (at_end (is_start q.app) t.main e, at_end (is_save q.app) t.main e, at_end (is_accept q.app) t.main e, at_end (is_kill q.app) t.main e, at_end (is_done q.app) t.main e, at_end (is_grant q) t.main e, at_end (is_launch q) t.main e) refl

  pub sched_front : (e : SchedEvent) (rest : List SchedEvent) → t.sched ≡ e ∷ rest → counts h t q ≡ sched_more q e (counts h (record t { sched = drop 1 t.sched }) q)
  sched_front e rest is = rw (is, at_front (is_add q.app) e rest, at_front (is_queueing q) e rest) refl

  pub sched_end : (e : SchedEvent) → counts h (record t { sched = t.sched ++ e ∷ [] }) q ≡ sched_more q e (counts h t q)
  sched_end e = rw (at_end (is_add q.app) t.sched e, at_end (is_queueing q) t.sched e) refl

  pub op_front : (op : Op) (rest : List Op) → t.awaiting ≡ op ∷ rest → counts h t q ≡ op_more q op (counts h (record t { awaiting = drop 1 t.awaiting }) q)
  op_front op rest is =
      rw (is, at_front (is_app_op q.app) op rest, at_front (is_attempt_op_of q.app) op rest, at_front (is_attempt_end_op_of q.app) op rest, at_front (is_own_op q) op rest, at_front (is_app_end_op q.app) op rest, at_front (is_remove_op q.app) op rest) refl

  pub op_end : (op : Op) → counts h (record t { awaiting = t.awaiting ++ op ∷ [] }) q ≡ op_more q op (counts h t q)
  op_end op =
      rw (at_end (is_app_op q.app) t.awaiting op, at_end (is_attempt_op_of q.app) t.awaiting op, at_end (is_attempt_end_op_of q.app) t.awaiting op, at_end (is_own_op q) t.awaiting op, at_end (is_app_end_op q.app) t.awaiting op, at_end (is_remove_op q.app) t.awaiting op) refl

module _ (h : History) (t : Tables) (q : AttemptId) where
  pub main_taken : (e : MainEvent) (rest : List MainEvent) → t.main ≡ e ∷ rest → view h t q ≡ main_view q e (view h (record t { main = drop 1 t.main }) q)
  main_taken e rest is = rw (main_front h t q e rest is) refl

  pub main_posted : (e : MainEvent) → view h (record t { main = t.main ++ e ∷ [] }) q ≡ main_view q e (view h t q)
  main_posted e = rw (main_end h t q e) refl

  pub sched_taken : (e : SchedEvent) (rest : List SchedEvent) → t.sched ≡ e ∷ rest → view h t q ≡ sched_view q e (view h (record t { sched = drop 1 t.sched }) q)
  sched_taken e rest is = rw (sched_front h t q e rest is) refl

  pub sched_posted : (e : SchedEvent) → view h (record t { sched = t.sched ++ e ∷ [] }) q ≡ sched_view q e (view h t q)
  sched_posted e = rw (sched_end h t q e) refl

  pub op_taken : (op : Op) (rest : List Op) → t.awaiting ≡ op ∷ rest → view h t q ≡ op_view q op (view h (record t { awaiting = drop 1 t.awaiting }) q)
  op_taken op rest is = rw (op_front h t q op rest is) refl

  pub op_issued : (op : Op) → view h (record t { awaiting = t.awaiting ++ op ∷ [] }) q ≡ op_view q op (view h t q)
  op_issued op = rw (op_end h t q op) refl
