-- The events of the scheduler's queue in an open life, each as a whole step: AppAdded and AttemptAdded.
use Rattle.rm_invariant.proofs.Common.{◌≡◌, inr, ℕ, ◌&&◌, suc, List, ◌∷◌, ◌++◌, Bool, true, false, not, Option, None, Some, refl, ◌∙◌, ap, subst, arith, list_any, nat_tests, or_right, AskOf, Entry, Quiet, AppId, AttemptId, AppRecord, Settings, is_app, is_attempt, record_of, app_itself, AsksOf, is_app_end_op, is_attempt_op, AppState, SchedEvent, AppRow, Current, Tables, found_in, sched_popped, sched_worked, row_of, master_asked, History, abstract_scene, ContainerId, sched_quiet, sched_step}
use Rattle.std.proofs.Common.{◌==◌, is_some, option_map}
use Rattle.rm_types.specs.declared.entries.Entry.TheVariants.{Queued}
use Rattle.rm_types.specs.declared.messages.Lane.TheVariants.{Sched as SchedLane}
use Rattle.rm_model.specs.Changes.{master_ask}
use Rattle.rm_model.specs.Rules.{MayQueue}
use Rattle.rm_states.specs.declared.attempt.states.AttemptState.TheVariants as attempts
use Rattle.rm_tables.specs.declared.events.MainEvent.TheVariants as mains
use Rattle.rm_tables.specs.declared.events.SchedEvent.TheVariants as scheds
use Rattle.rm_tables.specs.SchedEvents.{added_by}
use Rattle.rm_invariant.specs.apps.View.{View, view, counts, main_view, sched_view, one_if, is_ask, is_attempt_op_of}
use Rattle.rm_invariant.specs.apps.Invariant.{RowInvariant, StateInvariant, ActiveInvariant, AllHaveEnded, MayFollowInView, is_active, ops_of}
use Rattle.rm_invariant.specs.Step.{AppsInvariant, Step}
use Rattle.rm_invariant.proofs.apps.Counts.{at_end, none_under}
use Rattle.rm_invariant.proofs.apps.Effects.{sched_taken, main_posted}
use Rattle.rm_invariant.proofs.apps.Keeping.{step_own, unchanged}
use Rattle.rm_invariant.proofs.apps.Own.{active_row, add_more, accept_more}
use Rattle.rm_invariant.proofs.masters.Granted.{under_app}
use Rattle.rm_invariant.specs.events.SchedOutcomes.{HasNothingToDo, IsNotScheduled, SchedOutcome}
use Rattle.rm_invariant.specs.events.SchedOutcomes as outcomes
use Rattle.rm_invariant.proofs.events.SchedOutcomes.{sched_outcome}

-- what they do to the facts of their own application
module _ (settings : Settings) (q : AttemptId) (v : View) where
  added_state : (s : AppState) (row : AppRow) → StateInvariant settings q s row (add_more v)
      → StateInvariant settings q s row (accept_more v)
  added_state s row says = grind arith

  added_says : (row : Option AppRow) → RowInvariant settings q row (add_more v) → RowInvariant settings q row (accept_more v)
  added_says None good = grind arith
  added_says (Some row) good =
      let known = good.0 in
      (record { wish = known.wish; pending = known.pending; stays = known.stays; one_kill = known.one_kill; killed = known.killed }, added_state row.state row good.1)

-- AttemptAdded
abbrev with_queueing : AttemptId → AttemptId → View → View
with_queueing id q v = record v { count = record v.count { queueings = one_if (id.number == q.number) v.count.queueings } }

module _ (settings : Settings) (q : AttemptId) (id : AttemptId) (v : View) where
  queued_says : (row : AppRow) (current : Current) → row.current ≡ Some current → is_active row.state ≡ true → current.state ≡ attempts.Scheduled → current.number ≡ id.number → (b : Bool) → (id.number == q.number) ≡ b
      → RowInvariant settings q (Some row) (record v { count = record v.count { queueings = one_if b v.count.queueings } }) → RowInvariant settings q (Some row) (record v { count = record v.count { asks = one_if b v.count.asks } })
  queued_says row current is a s n b e good =
      let known = good.0 in
      let active = active_row settings q row (record v { count = record v.count { queueings = one_if b v.count.queueings } }) a good in
      let says : ActiveInvariant settings q (Some current) row.wish (record v { count = record v.count { queueings = one_if b v.count.queueings } }) = rw is at active.current in
      let same : (current.number == q.number) ≡ b = ap (λ x. x == q.number) n ∙ e in
      by b same good says
    where
      by : (b : Bool) → (current.number == q.number) ≡ b → RowInvariant settings q (Some row) (record v { count = record v.count { queueings = one_if b v.count.queueings } })
          → ActiveInvariant settings q (Some current) row.wish (record v { count = record v.count { queueings = one_if b v.count.queueings } }) → RowInvariant settings q (Some row) (record v { count = record v.count { asks = one_if b v.count.asks } })
      by true same good says = let known = good.0 in rw is (grind (arith, nat_tests))
      by false same good says = good

  -- where the attempt isn't scheduled it may go
  quiet_state : (s : AppState) (row : AppRow) (c : Option Current) → row.current ≡ c → IsNotScheduled id.number c → (b : Bool) → (id.number == q.number) ≡ b
      → StateInvariant settings q s row (record v { count = record v.count { queueings = one_if b v.count.queueings } }) → StateInvariant settings q s row v
  quiet_state s row None is not false e says = says
  quiet_state s row None is not true e says = grind (arith, nat_tests)
  quiet_state s row (Some current) is not false e says = says
  quiet_state s row (Some current) is not true e says = grind (arith, nat_tests)

  quiet_row : (row : Option AppRow) → ((one : AppRow) → row ≡ Some one → IsNotScheduled id.number one.current) → (b : Bool) → (id.number == q.number) ≡ b
      → RowInvariant settings q row (record v { count = record v.count { queueings = one_if b v.count.queueings } }) → RowInvariant settings q row v
  quiet_row None not false e good = good
  quiet_row None not true e good = grind arith
  quiet_row (Some row) not b e good =
      let known = good.0 in
      (record { wish = known.wish; pending = known.pending; stays = known.stays; one_kill = known.one_kill; killed = known.killed }, quiet_state row.state row row.current refl (not row refl) b e good.1)

-- what is said of an attempt that may be queued
pub record MayQueueIt (settings : Settings) (id : AttemptId) (v : View) : Type 0 where
  pub stopped : AllHaveEnded v.found
  pub follows : MayFollowInView settings id.number v
  pub none_await : ops_of v.count ≡ 0
  pub none_ask : v.count.asks ≡ 0
  pub not_held : v.held ≡ false

module _ (settings : Settings) (id : AttemptId) (v : View) (row : AppRow) (current : Current) (is : row.current ≡ Some current) (s : current.state ≡ attempts.Scheduled) (n : (current.number == id.number) ≡ true) where
  abbrev queued_more : View
  queued_more = record v { count = record v.count { queueings = suc v.count.queueings } }

  scheduled_active : (state : AppState) → StateInvariant settings id state row queued_more → is_active state ≡ true
  scheduled_active state says = grind arith

  pub queued_facts : RowInvariant settings id (Some row) queued_more → (is_active row.state ≡ true) × MayQueueIt settings id v
  queued_facts good =
      let a = scheduled_active row.state good.1 in
      let active = active_row settings id row queued_more a good in
      let says : ActiveInvariant settings id (Some current) row.wish queued_more = rw is at active.current in
      let same : current.number ≡ id.number = grind (arith, nat_tests) in
      (a, record { stopped = grind arith; follows = rw (← same) (grind arith); none_await = grind arith; none_ask = grind (arith, nat_tests); not_held = grind (arith, nat_tests) })

pub queue_lawful : (settings : Settings) (h : History) (t : Tables) (id : AttemptId) → t.is_open ≡ true → MayQueueIt settings id (view h t id) → MayQueue settings (abstract_scene h t) id
queue_lawful settings h t id open_ may =
    let none = may.none_await in
    let stopped = may.stopped in
    let ended : list_any (is_app_end_op id.app) t.awaiting ≡ false = none_under (is_app_end_op id.app) (is_app_end_op id.app) (λ op e. e) t.awaiting (omega (arith, none)) in
    record {
      opened = open_;
      known = or_right _ (is_some (record_of t.tree.apps id.app)) stopped.0;
      next = let n = may.follows.0 in rw (← n) refl;
      no_end = rw (ended, stopped.1) refl;
      ended = stopped.2;
      not_issued = none_under (is_attempt_op_of id.app) (is_attempt_op id) (under_app id) t.awaiting (omega (arith, none));
      not_asked = none_under (is_ask id) (is_ask id) (λ one e. e) h.asks may.none_ask;
      not_granted = may.not_held;
      follows = may.follows.1;
    }

and_true : (b : Bool) → (b && true) ≡ b
and_true true = refl
and_true false = refl

pub found_some : (found : Option AppRecord) → is_some found ≡ true → (one : AppRecord) × (found ≡ Some one)
found_some None e = cc
found_some (Some one) e = (one, refl)

-- what is said of a row is said of it as it is left
row_left : (settings : Settings) (q : AttemptId) (v : View) (row : Option AppRow) → RowInvariant settings q row v → RowInvariant settings q (option_map (λ r. r) row) v
row_left settings q v None says = says
row_left settings q v (Some row) says = says

-- AppAdded
module _ (settings : Settings) (h : History) (t : Tables) (k : AppsInvariant settings h t) (id : AppId) (rest : List SchedEvent) (front : t.sched ≡ scheds.AppAdded id ∷ rest) where
  pub added_steps : Step settings h t (sched_worked (added_by id t)).0 h (sched_worked (added_by id t)).1
  added_steps =
      step_own settings h h t (sched_worked (added_by id t)).1 k (Quiet SchedLane) id (row_of t.rows id) (λ r. r) (view h (sched_popped t)) (λ q v. sched_view q (scheds.AppAdded id) v) (λ q v. main_view q (mains.AppAccepted id) v) (λ q v. add_more v) (λ q v. accept_more v)
      (inr refl) refl k.recorded k.is_open refl (unchanged t.rows id) (λ q. sched_taken h t q (scheds.AppAdded id) rest front) (λ q. main_posted h (sched_popped t) q (mains.AppAccepted id))
      (λ q v other. rw other refl) (λ q v other. rw other refl) (λ q v same. rw same refl) (λ q v same. rw same refl) (λ q same says. row_left settings q (accept_more (view h (sched_popped t) q)) (row_of t.rows id) (added_says settings q (view h (sched_popped t) q) (row_of t.rows id) says))

-- AttemptAdded
module _ (settings : Settings) (h : History) (t : Tables) (k : AppsInvariant settings h t) (id : AttemptId) (rest : List SchedEvent) (front : t.sched ≡ scheds.AttemptAdded id ∷ rest) where
  abbrev gone : Tables
  gone = sched_popped t

  -- what the event does: nothing but the asks changes
  pub record QueuedStep (done : Entry × Tables) : Type 0 where
    pub asks : List AsksOf
    pub asked : List AskOf
    pub is : done.1 ≡ record t { asks = asks }
    pub step : Step settings h t done.0 (record h { asks = asked }) (sched_popped done.1)

  idle_step : Step settings h t (Quiet SchedLane) h gone → QueuedStep (Quiet SchedLane, t)
  idle_step step = record { asks = t.asks; asked = h.asks; is = refl; step = step }

  with_queueing_is : (q : AttemptId) (v : View) → is_app id.app q.app ≡ true → sched_view q (scheds.AttemptAdded id) v ≡ with_queueing id q v
  with_queueing_is q v same = rw same refl

  queued_idle : (list : List ContainerId) → HasNothingToDo (scheds.AttemptAdded id) list t → QueuedStep (sched_quiet t)
  queued_idle list nothing =
      idle_step (step_own settings h h t gone k (Quiet SchedLane) id.app (row_of t.rows id.app) (λ r. r) (view h gone) (λ q v. sched_view q (scheds.AttemptAdded id) v) (λ q v. v) (λ q v. with_queueing id q v) (λ q v. v)
      (inr refl) refl k.recorded k.is_open refl (unchanged t.rows id.app) (λ q. sched_taken h t q (scheds.AttemptAdded id) rest front) (λ q. refl)
      (λ q v other. rw other refl) (λ q v other. refl) with_queueing_is (λ q v same. refl) (λ q same says. row_left settings q (view h gone q) (row_of t.rows id.app) (quiet_row settings q id (view h gone q) (row_of t.rows id.app) nothing (id.number == q.number) refl says)))

  queued_now : (row : AppRow) → row_of t.rows id.app ≡ Some row → (current : Current) → row.current ≡ Some current → current.state ≡ attempts.Scheduled → (current.number == id.number) ≡ true
      → QueuedStep (Queued id, record t { asks = master_asked id (found_in t id.app) t.asks })
  queued_now row found current is s n =
      let here : RowInvariant settings id (Some row) (view h t id) = rw found at (k.all id) in
      let self : sched_view id (scheds.AttemptAdded id) (view h gone id) ≡ record (view h gone id) { count = record (counts h gone id) { queueings = suc (counts h gone id).queueings } } = rw (app_itself id.app, same_number id.number) refl in
      let good = subst (λ (v : View). RowInvariant settings id (Some row) v) (sched_taken h t id (scheds.AttemptAdded id) rest front ∙ self) here in
      let facts = queued_facts settings id (view h gone id) row current is s n good in
      let some = found_some (record_of t.tree.apps id.app) facts.1.stopped.0 in
      let number : current.number ≡ id.number = grind (arith, nat_tests) in
      asking_step (master_asked id (found_in t id.app) t.asks) (h.asks ++ master_ask id (option_map (λ one. one.submission) (found_in t id.app)))
      (step_own settings h (record h { asks = h.asks ++ master_ask id (option_map (λ one. one.submission) (found_in t id.app)) }) t (record gone { asks = master_asked id (found_in t id.app) t.asks }) k (Queued id) id.app (Some row) (λ r. r) (view h gone)
      (λ q v. sched_view q (scheds.AttemptAdded id) v) (λ q v. record v { count = record v.count { asks = one_if (is_attempt id q && true) v.count.asks } }) (λ q v. with_queueing id q v) (λ q v. record v { count = record v.count { asks = one_if (id.number == q.number) v.count.asks } })
      (queue_lawful settings h gone id k.is_open facts.1) (rw (k.recorded, some.1) refl) k.recorded k.is_open found (unchanged t.rows id.app) (λ q. sched_taken h t q (scheds.AttemptAdded id) rest front)
      (λ q. rw some.1 (rw (at_end (is_ask q) h.asks (record { attempt = id; ask = record { priority = 0; count = 1; size = some.0.submission.master } })) refl))
      (λ q v other. rw other refl) (λ q v other. rw other refl) with_queueing_is (λ q v same. rw (same, and_true (id.number == q.number)) refl)
      (λ q same says. queued_says settings q id (view h gone q) row current is facts.0 s number (id.number == q.number) refl says))
    where
      asking_step : (asks : List AsksOf) (asked : List AskOf) → Step settings h t (Queued id) (record h { asks = asked }) (record gone { asks = asks })
          → QueuedStep (Queued id, record t { asks = asks })
      asking_step asks asked step = record { asks = asks; asked = asked; is = refl; step = step }

      same_number : (n : ℕ) → (n == n) ≡ true
      same_number n = grind (arith, nat_tests)

  pub queued_steps : (list : List ContainerId) → QueuedStep (sched_step (scheds.AttemptAdded id) list t)
  queued_steps list = by (sched_step (scheds.AttemptAdded id) list t) (sched_outcome t list (scheds.AttemptAdded id))
    where
      by : (done : Entry × Tables) → SchedOutcome t list (scheds.AttemptAdded id) done → QueuedStep done
      by done (outcomes.idles e nothing) = queued_idle list nothing
      by done (outcomes.asks one row current is state number) = queued_now row is.found current is.is state number
      by done (outcomes.ends e cause one ids is) = cc
