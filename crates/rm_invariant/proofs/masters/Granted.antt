-- MasterGranted, as a whole step: the attempt is issued with its master, where that stands still, and else waits for another one.
use Rattle.rm_invariant.proofs.Common.{◌≡◌, inl, inr, ℕ, ◌&&◌, suc, List, ◌∷◌, Bool, true, false, Option, None, Some, refl, sym, ◌∙◌, ap, subst, arith, list_any, nat_tests, or_right, Entry, Issued, Quiet, AttemptId, ContainerId, Op, Settings, is_app, is_attempt, is_container, record_of, and_first, container_itself, same_container, is_living, is_app_end_op, is_attempt_op, AttemptState, MainEvent, AppRow, Current, Tables, grant_of_state, grant_of_row, grant_of_place, grant_of_current, is_master_of, main_step, node_at, with_attempt_requeued, changed, main_popped, main_quiet, main_worked, row_of, with_row, SameRows, History, abstract_scene}
use Rattle.std.proofs.Common.{◌≢◌, ◌==◌, is_some}
use Rattle.rm_types.specs.declared.messages.Lane.TheVariants.{Main as MainLane}
use Rattle.rm_types.specs.declared.operations.Op.TheVariants as ops
use Rattle.rm_model.specs.Issuing.{MayIssueAttempt}
use Rattle.rm_states.specs.declared.attempt.states.AttemptState.TheVariants as attempts
use Rattle.rm_tables.specs.MainEvents.{with_attempt_issued}
use Rattle.rm_tables.specs.declared.events.MainEvent.TheVariants as mains
use Rattle.rm_tables.specs.declared.events.SchedEvent.TheVariants as scheds
use Rattle.rm_tables.specs.declared.changes.RowChange.TheVariants as of_app
use Rattle.rm_tables.specs.declared.changes.AttemptChange.TheVariants as of_attempt
use Rattle.rm_invariant.specs.Step.{AppsInvariant}
use Rattle.rm_invariant.specs.apps.Invariant.{RowInvariant, is_active}
use Rattle.rm_invariant.specs.apps.View.{counts, is_attempt_op_of, one_if, op_view, sched_view, view}
use Rattle.rm_invariant.proofs.apps.Counts.{none_under}
use Rattle.rm_invariant.proofs.apps.Found.{row_changed}
use Rattle.rm_invariant.proofs.apps.Effects as views
use Rattle.rm_invariant.proofs.apps.Deciding.{Unsaved, unsaved_facts}
use Rattle.rm_invariant.specs.masters.Invariant.{ContainersInvariant, ContainerByNumber, ContainerByState, ContainerInvariant}
use Rattle.rm_invariant.specs.masters.Preserves.{PreservesContainers, PreservesContainersTo}
use Rattle.rm_invariant.specs.masters.View.{ContainerView, container_view_main, container_view, container_view_op}
use Rattle.rm_invariant.proofs.masters.Stepping.{IsEventOf, IsMarkOf, joins_own}
use Rattle.rm_invariant.proofs.masters.Marking.{MayGo, event_goes, granted_marks, requeued_marks}
use Rattle.rm_invariant.proofs.masters.Held.{IsOnNode, absent, mine_same, node_told, none_held, same_node, stands}
use Rattle.rm_invariant.proofs.masters.Saying.{active_of, granted_requeues, granted_saves}
use Rattle.rm_invariant.proofs.masters.Quieting.{granted_goes, joins_quiet}
use Rattle.rm_invariant.proofs.masters.Effects.{main_taken, op_issued, sched_posted}
use Rattle.rm_invariant.proofs.masters.Tests.{and_right, not_both, or_false}

pub under_app : (id : AttemptId) (op : Op) → is_attempt_op id op ≡ true → is_attempt_op_of id.app op ≡ true
under_app id (ops.Attempt one master node) e = grind (arith, nat_tests)
under_app id _ e = cc

-- why the Attempt may be issued
pub issue_lawful : (settings : Settings) (h : History) (t : Tables) (c : ContainerId) (node : List ℕ) (row : AppRow) (current : Current) → t.is_open ≡ true → current.number ≡ c.attempt.number
    → Unsaved settings row current (view h t c.attempt) → IsOnNode h.book c node → MayIssueAttempt (abstract_scene h t) c.attempt c node
issue_lawful settings h t c node row current open_ number facts place =
    let none = facts.may.none_awaits in
    let stopped = facts.may.stopped in
    let follows = facts.follows.0 in
    let n : c.attempt.number ≡ _ = sym number ∙ follows in
    let ended : list_any (is_app_end_op c.attempt.app) t.awaiting ≡ false = none_under (is_app_end_op c.attempt.app) (is_app_end_op c.attempt.app) (λ op e. e) t.awaiting (omega (arith, none)) in
    record {
      opened = open_;
      known = or_right _ (is_some (record_of t.tree.apps c.attempt.app)) stopped.0;
      next = rw (← n) refl;
      no_end = rw (ended, stopped.1) refl;
      not_issued = none_under (is_attempt_op_of c.attempt.app) (is_attempt_op c.attempt) (under_app c.attempt) t.awaiting (omega (arith, none));
      of_it = refl;
      living = place.on;
    }

module _ (settings : Settings) (h : History) (t : Tables) (k : AppsInvariant settings h t) (all : ContainersInvariant h t) (agree : SameRows t.book.rows h.book) (c : ContainerId) (rest : List MainEvent) (front : t.main ≡ mains.MasterGranted c ∷ rest) where
  abbrev event : MainEvent
  event = mains.MasterGranted c

  event_of : IsEventOf event c.attempt.app
  event_of q n other = rw other refl

  event_mark : IsMarkOf event c.attempt.app
  event_mark d v other = rw other refl

  -- what the event comes to
  abbrev GrantedSteps : Entry × Tables → Type 0
  GrantedSteps done = PreservesContainersTo settings h t (main_worked done)

  module _ (row : AppRow) (found : row_of t.rows c.attempt.app ≡ Some row) (current : Current) (is : row.current ≡ Some current) (st : current.state ≡ attempts.Granted)
      (n : (current.number == c.attempt.number) ≡ true) (m : is_master_of c current.master ≡ true) where
    number : current.number ≡ c.attempt.number
    number = grind (arith, nat_tests)

    good_here : RowInvariant settings c.attempt (Some row) (view h t c.attempt)
    good_here = rw found at (k.all c.attempt)

    goes : is_active row.state ≡ true
    goes = active_of settings c.attempt row (view h t c.attempt) current is (rw st refl) good_here

    issued_step : (node : List ℕ) → node_told h.book c ≡ Some node → PreservesContainers settings h t (Issued (ops.Attempt c.attempt c node)) h (main_popped (with_attempt_issued c node t))
    issued_step node place =
        let standing = stands h.book c node place in
        joins_own settings h t k all event rest front (Issued (ops.Attempt c.attempt c node)) h (main_popped (with_attempt_issued c node t)) c.attempt.app row (changed (of_app.OfAttempt of_attempt.Issue))
        (issue_lawful settings h t c node row current k.is_open number (unsaved_facts settings c.attempt row current (view h t c.attempt) is goes attempts.Granted st (inr refl) good_here) standing)
        refl k.recorded k.is_open (λ q. row_changed (changed (of_app.OfAttempt of_attempt.Issue)) c.attempt.app q t.rows) found
        (λ q v. op_view q (ops.Attempt c.attempt c node) v) (λ q. views.op_issued h (record (main_popped t) { rows = with_row (changed (of_app.OfAttempt of_attempt.Issue)) c.attempt.app t.rows }) q (ops.Attempt c.attempt c node)) event_of (λ q v other. rw other refl)
        (λ q same says.
        let before : RowInvariant settings q (Some row) (record (view h (main_popped t) q) { count = record (counts h (main_popped t) q) { grants = one_if (c.attempt.number == q.number) (counts h (main_popped t) q).grants } }) = rw same at says in
        rw (same, or_false (c.attempt.number == q.number)) (granted_saves settings q row current (view h (main_popped t) q) is goes st (c.attempt.number == q.number) (ap (λ n. n == q.number) number) before))
        (λ d v. container_view_op d (ops.Attempt c.attempt c node) v) (λ d. op_issued h (record (main_popped t) { rows = with_row (changed (of_app.OfAttempt of_attempt.Issue)) c.attempt.app t.rows }) d (ops.Attempt c.attempt c node)) event_mark (λ d v other. rw other refl)
        (λ d same says. granted_marks d row current (container_view h (main_popped t) d) is st (is_container c d) (current.number == d.attempt.number) refl (is_master_of d current.master) refl
        (λ b o. rw (← mine_same c d current.master m o) standing.living)
        (is_container c d) (λ b o. not_mine d o) (λ b. not_here d b) says) (λ d v says. says)
      where
        not_mine : (d : ContainerId) → is_master_of d current.master ≡ false → is_container c d ≡ false
        not_mine d o = by (is_container c d) refl
          where
            by : (b : Bool) → is_container c d ≡ b → b ≡ false
            by true e = absurd (let x = same_container c d e in let y : is_master_of d current.master ≡ true = rw (← x) m in cc)
            by false e = refl

        not_here : (d : ContainerId) → (current.number == d.attempt.number) ≡ false → is_container c d ≡ false
        not_here d o = by (is_container c d) refl
          where
            by : (b : Bool) → is_container c d ≡ b → b ≡ false
            by true e = absurd (let x = same_container c d e in let y : (current.number == d.attempt.number) ≡ true = rw (← x) n in cc)
            by false e = refl

    -- the master is gone, so nothing of the attempt is in the book
    none_living : node_told h.book c ≡ None → (d : ContainerId) → is_attempt d.attempt c.attempt ≡ true → is_living h.book d ≡ false
    none_living gone d own =
        let e : d.attempt ≡ c.attempt = grind (arith, nat_tests) in
        let at_row : row_of t.rows d.attempt.app ≡ Some row = rw e found in
        let says : ContainerInvariant d (Some row) (container_view h t d) = rw at_row at (all d).0 in
        let here : (current.number == d.attempt.number) ≡ true = rw e n in
        let x : ContainerByNumber d (current.number == d.attempt.number) current (container_view h t d) = rw is at says.1 in
        let y : ContainerByState d current.state current.lost (is_master_of d current.master) (container_view h t d) = rw here at x in
        let z : ContainerByState d attempts.Granted current.lost (is_master_of d current.master) (container_view h t d) = rw st at y in
        by (is_master_of d current.master) refl z
      where
        by : (b : Bool) → is_master_of d current.master ≡ b → ContainerByState d attempts.Granted current.lost b (container_view h t d) → is_living h.book d ≡ false
        by true o z = rw (← mine_same c d current.master m o) (absent h.book c gone)
        by false o z = z.1

    requeued_step : node_told h.book c ≡ None → PreservesContainers settings h t (Quiet MainLane) h (main_popped (with_attempt_requeued c.attempt t))
    requeued_step gone =
        joins_own settings h t k all event rest front (Quiet MainLane) h (main_popped (with_attempt_requeued c.attempt t)) c.attempt.app row (changed (of_app.OfAttempt of_attempt.Requeue))
        (inl refl) refl k.recorded k.is_open (λ q. row_changed (changed (of_app.OfAttempt of_attempt.Requeue)) c.attempt.app q t.rows) found
        (λ q v. sched_view q (scheds.AttemptAdded c.attempt) v) (λ q. views.sched_posted h (record (main_popped t) { rows = with_row (changed (of_app.OfAttempt of_attempt.Requeue)) c.attempt.app t.rows }) q (scheds.AttemptAdded c.attempt)) event_of (λ q v other. rw other refl)
        (λ q same says.
        let before : RowInvariant settings q (Some row) (record (view h (main_popped t) q) { count = record (counts h (main_popped t) q) { grants = one_if (c.attempt.number == q.number) (counts h (main_popped t) q).grants } }) = rw same at says in
        rw same (granted_requeues settings q row current (view h (main_popped t) q) is goes st (c.attempt.number == q.number) (ap (λ n. n == q.number) number) (λ b. free q same b) before))
        (λ d v. v) (λ d. sched_posted h (record (main_popped t) { rows = with_row (changed (of_app.OfAttempt of_attempt.Requeue)) c.attempt.app t.rows }) d (scheds.AttemptAdded c.attempt)) event_mark (λ d v other. refl)
        (λ d same says. requeued_marks d row current (container_view h (main_popped t) d) is st (is_container c d) (current.number == d.attempt.number) refl (is_master_of d current.master) refl
        (λ b o. rw (← mine_same c d current.master m o) (absent h.book c gone))
        (λ b o. rw (← mine_same c d current.master m o) (container_itself c)) says) (λ d v says. says)
      where
        free : (q : AttemptId) → is_app c.attempt.app q.app ≡ true → (c.attempt.number == q.number) ≡ true → list_any (λ row. is_attempt row.id.attempt q) h.book ≡ false
        free q a b = none_held h.book q (λ d own. none_living gone d (let x : is_attempt d.attempt c.attempt ≡ true = grind (arith, nat_tests) in x))

    granted_step : (place : Option (List ℕ)) → node_at t.book c ≡ place → GrantedSteps (grant_of_place place c t)
    granted_step (Some node) e = record { next = h; joins = issued_step node (sym (same_node t.book h.book c agree) ∙ e) }
    granted_step None e = record { next = h; joins = requeued_step (sym (same_node t.book h.book c agree) ∙ e) }

  -- where the attempt isn't granted with it, nothing is to be done
  abbrev IsNotIt : Option AppRow → Type 0
  IsNotIt row = (one : AppRow) (current : Current) → row ≡ Some one → one.current ≡ Some current → current.state ≡ attempts.Granted → ((current.number == c.attempt.number) && is_master_of c current.master) ≡ false

  quiet_joins : (row : Option AppRow) → row_of t.rows c.attempt.app ≡ row → IsNotIt row → PreservesContainers settings h t (Quiet MainLane) h (main_popped t)
  quiet_joins row found not_it =
      joins_quiet settings h t k all event rest front c.attempt.app row found event_of event_mark
      (λ q same says. granted_goes settings q (view h (main_popped t) q) row (c.attempt.number == q.number) (λ b. other q b) (rw same at says))
      (λ d same says. event_goes d (container_view h (main_popped t) d) (is_container c d) false false false false row (λ one current is at_ n. may d one current is at_ n current.state refl (is_master_of d current.master) refl) says)
    where
      other : (q : AttemptId) → (c.attempt.number == q.number) ≡ true → (one : AppRow) (current : Current) → row ≡ Some one → one.current ≡ Some current → (current.number == q.number) ≡ true → current.state ≢ attempts.Granted
      other q b one current is at_ n st =
          let same : (current.number == c.attempt.number) ≡ true = grind (arith, nat_tests) in
          let not_mine : is_master_of c current.master ≡ false = not_both (current.number == c.attempt.number) (is_master_of c current.master) (not_it one current is at_ st) same in
          let here : row_of t.rows c.attempt.app ≡ Some one = found ∙ is in
          let says : ContainerInvariant c (Some one) (container_view h t c) = rw here at (all c).0 in
          let now : ContainerInvariant c (Some one) (container_view_main c event (container_view h (main_popped t) c)) = subst (λ (v : ContainerView). ContainerInvariant c (Some one) v) (main_taken h t c event rest front) says in
          let x : ContainerByNumber c (current.number == c.attempt.number) current (container_view_main c event (container_view h (main_popped t) c)) = rw at_ at now.1 in
          let y : ContainerByState c current.state current.lost (is_master_of c current.master) (container_view_main c event (container_view h (main_popped t) c)) = rw same at x in
          let z : ContainerByState c attempts.Granted current.lost false (container_view_main c event (container_view h (main_popped t) c)) = rw (st, not_mine) at y in
          let none = z.3 in
          let self = container_itself c in
          let w : suc (container_view h (main_popped t) c).grants ≡ 0 = rw self at none in
          absurd (omega (arith, w))

      may : (d : ContainerId) (one : AppRow) (current : Current) → row ≡ Some one → one.current ≡ Some current → (current.number == d.attempt.number) ≡ true → (s : AttemptState) → current.state ≡ s → (m : Bool) → is_master_of d current.master ≡ m
          → MayGo s m (is_container c d) false false false false (container_view h (main_popped t) d).finishing
      may d one current is at_ n attempts.Granted st m o = λ e. by (is_container c d) refl e
        where
          by : (b : Bool) → is_container c d ≡ b → m ≡ true → b ≡ false
          by true x e =
              let y = same_container c d x in
              let here : (current.number == c.attempt.number) ≡ true = rw y n in
              let z = not_both (current.number == c.attempt.number) (is_master_of c current.master) (not_it one current is at_ st) here in
              absurd (let w : is_master_of d current.master ≡ false = rw (← y) z in cc)
          by false x e = refl
      may d one current is at_ n attempts.Saving st m o = λ e. refl
      may d one current is at_ n attempts.Live st m o = (λ e. refl, refl, refl, λ f. refl)
      may d one current is at_ n attempts.Registered st m o = (λ e. refl, refl, refl, λ f. refl)
      may d one current is at_ n attempts.Finishing st m o = (λ e. refl, refl, refl, λ f. refl)
      may d one current is at_ n _ st m o = tt

  quiet_step : (row : Option AppRow) → row_of t.rows c.attempt.app ≡ row → IsNotIt row → GrantedSteps (main_quiet t)
  quiet_step row found not_it =
      record { next = h; joins = quiet_joins row found not_it }

  granted_cases : (row : Option AppRow) → row_of t.rows c.attempt.app ≡ row → GrantedSteps (grant_of_row row c t)
  granted_cases None found = quiet_step None found (λ one current is at_ st. cc)
  granted_cases (Some row) found = with_current row.current refl
    where
      not_granted : (current : Current) → row.current ≡ Some current → (s : AttemptState) → current.state ≡ s → s ≢ attempts.Granted → GrantedSteps (main_quiet t)
      not_granted current is s st n = quiet_step (Some row) found (λ one other x y z. absurd (let u : one ≡ row = cc in let w : Some other ≡ Some current = sym y ∙ ap (λ (r : AppRow). r.current) u ∙ is in let a : other ≡ current = cc in n (sym st ∙ ap (λ (r : Current). r.state) (sym a) ∙ z)))

      at_state : (current : Current) → row.current ≡ Some current → (s : AttemptState) → current.state ≡ s → (b : Bool) → ((current.number == c.attempt.number) && is_master_of c current.master) ≡ b → GrantedSteps (grant_of_state s b c t)
      at_state current is attempts.Granted st true e = granted_step row found current is st (and_first (current.number == c.attempt.number) (is_master_of c current.master) e) (and_right (current.number == c.attempt.number) (is_master_of c current.master) e) (node_at t.book c) refl
      at_state current is attempts.Granted st false e = quiet_step (Some row) found (λ one other x y z. let u : one ≡ row = cc in let w : Some other ≡ Some current = sym y ∙ ap (λ (r : AppRow). r.current) u ∙ is in let a : other ≡ current = cc in rw a e)
      at_state current is attempts.Scheduled st b e = not_granted current is attempts.Scheduled st (λ u. cc)
      at_state current is attempts.Saving st b e = not_granted current is attempts.Saving st (λ u. cc)
      at_state current is attempts.Live st b e = not_granted current is attempts.Live st (λ u. cc)
      at_state current is attempts.Registered st b e = not_granted current is attempts.Registered st (λ u. cc)
      at_state current is attempts.Finishing st b e = not_granted current is attempts.Finishing st (λ u. cc)
      at_state current is attempts.Ending st b e = not_granted current is attempts.Ending st (λ u. cc)
      at_state current is attempts.Ended st b e = not_granted current is attempts.Ended st (λ u. cc)
      at_state current is attempts.Dropped st b e = not_granted current is attempts.Dropped st (λ u. cc)

      with_current : (o : Option Current) → row.current ≡ o → GrantedSteps (grant_of_current o c t)
      with_current None is = quiet_step (Some row) found (λ one current x y z. absurd (let u : one ≡ row = cc in let w : Some current ≡ None = sym y ∙ ap (λ (r : AppRow). r.current) u ∙ is in cc))
      with_current (Some current) is = at_state current is current.state refl ((current.number == c.attempt.number) && is_master_of c current.master) refl

  -- MasterGranted, for every row and state
  pub granted_joins : PreservesContainersTo settings h t (main_worked (main_step (mains.MasterGranted c) t))
  granted_joins = granted_cases (row_of t.rows c.attempt.app) refl
