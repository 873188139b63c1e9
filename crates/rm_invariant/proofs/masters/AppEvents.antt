-- The events of applications, each as a whole step that keeps what holds of containers too: AppStart, AppSaved, AppAccepted, AppKill,
-- AttemptDone and Retire of the main queue, and AppAdded, AttemptAdded and AttemptRecovered of the scheduler's.
use Rattle.rm_invariant.proofs.Common.{◌≡◌, ◌⊎◌, inl, inr, ℕ, ◌+◌, suc, List, [], ◌∷◌, ◌++◌, Bool, true, false, Option, None, Some, drop, length, refl, sym, ◌∙◌, subst, Entry, Accepted, Issued, Quiet, AppId, AttemptId, ContainerId, Submission, How, Settings, is_app, record_of, same_app, attempts_in, MayIssueApp, killed_text, after, AppState, AttemptState, RowChange, MainEvent, SchedEvent, AppRow, Current, Tables, killed_state, changed, accept_of_row, accept_of_state, decision_of_end, decision_of_attempt_state, decision_of_row, decision_of_current, end_with, kill_of_attempt_state, kill_of_row, kill_of_state, attempt_kill, last_end_in, save_of_row, save_of_state, main_step, schedules, app_changed, app_ends, ends_app, found_in, main_popped, main_quiet, main_worked, next_in, sched_popped, sched_worked, row_of, with_row, sched_step, History, live_state, abstract_scene}
use Rattle.std.proofs.Common.{◌≢◌, ◌==◌}
use Rattle.rm_types.specs.declared.messages.Lane.TheVariants.{Main as MainLane, Sched as SchedLane}
use Rattle.rm_types.specs.declared.containers.Cause.TheVariants as causes
use Rattle.rm_types.specs.declared.operations.How.TheVariants as ways
use Rattle.rm_types.specs.declared.operations.Op.TheVariants as ops
use Rattle.rm_states.specs.declared.app.states.AppState.TheVariants as apps
use Rattle.rm_states.specs.declared.attempt.states.AttemptState.TheVariants as attempts
use Rattle.rm_tables.specs.SchedEvents.{added_by}
use Rattle.rm_tables.specs.declared.changes.RowChange.TheVariants as of_app
use Rattle.rm_tables.specs.declared.events.MainEvent.TheVariants as mains
use Rattle.rm_tables.specs.declared.events.SchedEvent.TheVariants as scheds
use Rattle.rm_invariant.specs.apps.Invariant.{RowInvariant, StateInvariant, is_active}
use Rattle.rm_invariant.specs.Step.{AppsInvariant, Step}
use Rattle.rm_invariant.specs.apps.View.{View, view}
use Rattle.rm_invariant.proofs.apps.Events.{accepted_idle, accepted_none, accepted_now, accepting, quiet, saved_in_state, saved_none, retire_idle, started}
use Rattle.rm_invariant.proofs.apps.Queueing.{added_steps, queued_steps}
use Rattle.rm_invariant.proofs.apps.Own.{saved_quiet}
use Rattle.rm_invariant.proofs.apps.Found.{row_changed}
use Rattle.rm_invariant.proofs.apps.Acting.{ending}
use Rattle.rm_invariant.proofs.apps.Ending.{SomeStep, done_steps, kill_steps, saved_wished_steps}
use Rattle.rm_invariant.specs.masters.Invariant.{ContainersInvariant, ContainerByNumber, ContainerByCurrent, ContainerInvariant}
use Rattle.rm_invariant.specs.masters.Preserves.{PreservesContainers, PreservesContainersTo}
use Rattle.rm_invariant.specs.masters.View.{ContainerView, container_view_main, container_view, container_view_sched}
use Rattle.rm_invariant.specs.masters.Sound.{RecordsAreSound}
use Rattle.rm_invariant.proofs.masters.Ends.{Alive}
use Rattle.rm_invariant.proofs.masters.Others.{accepted_marks, over_marks, over_none, retried_marks, same_marks}
use Rattle.rm_invariant.proofs.masters.Stepping.{joins_with, marks_stay, marks_still}
use Rattle.rm_invariant.proofs.masters.Effects.{main_taken, op_issued, sched_posted, main_posted, sched_taken}
use Rattle.rm_invariant.proofs.masters.Removed.{none_joins}

-- an application that was saved has no attempt
alone_by : (settings : Settings) (q : AttemptId) (row : AppRow) (v : View) → row.state ≡ apps.Submitted → RowInvariant settings q (Some row) v → row.current ≡ None
alone_by settings q row v is good = let says = subst (λ (s : AppState). StateInvariant settings q s row v) is good.1 in says.3

-- and so has one whose App isn't issued
new_alone : (settings : Settings) (q : AttemptId) (row : AppRow) (v : View) → row.state ≡ apps.New → RowInvariant settings q (Some row) v → row.current ≡ None
new_alone settings q row v is good = let says = subst (λ (s : AppState). StateInvariant settings q s row v) is good.1 in says.0.no_attempt

-- an application is killed whose attempt lives: the end of that is issued
kill_marks : (c : ContainerId) (row : AppRow) (v : ContainerView) (current : Current) → row.current ≡ Some current → Alive current.state → ContainerInvariant c (Some row) v → ContainerInvariant c (Some (changed of_app.Kill row)) v
kill_marks c row v current is st good =
    let says : ContainerByNumber c (current.number == c.attempt.number) current v = rw is at good.1 in
    (good.0, rw is (by current.state refl st (current.number == c.attempt.number) says))
  where
    by : (s : AttemptState) → current.state ≡ s → Alive s → (b : Bool) → ContainerByNumber c b current v → ContainerByNumber c b (record current { state = killed_state current.state }) v
    by s e st false says = says
    by s e (inl x) true says = rw (e, x) tt
    by s e (inr (inl x)) true says = rw (e, x) tt
    by s e (inr (inr x)) true says = rw (e, x) tt

-- the kill waits for what becomes of its attempt
later_state : (s : AttemptState) → (s ≡ attempts.Saving) ⊎ (s ≡ attempts.Ending) ⊎ (s ≡ attempts.Ended) → killed_state s ≡ s
later_state s (inl e) = rw e refl
later_state s (inr (inl e)) = rw e refl
later_state s (inr (inr e)) = rw e refl

later_marks : (c : ContainerId) (row : AppRow) (v : ContainerView) (current : Current) → row.current ≡ Some current → (current.state ≡ attempts.Saving) ⊎ (current.state ≡ attempts.Ending) ⊎ (current.state ≡ attempts.Ended)
    → ContainerInvariant c (Some row) v → ContainerInvariant c (Some (changed of_app.Kill row)) v
later_marks c row v current is which good =
    let same = later_state current.state which in
    let says : ContainerByCurrent c (Some current) v = rw is at good.1 in
    (good.0, rw (is, same) says)

module _ (settings : Settings) (h : History) (t : Tables) (k : AppsInvariant settings h t) (all : ContainersInvariant h t) where
  -- an event of the main queue that no container counts is taken
  module _ (e : MainEvent) (rest : List MainEvent) (front : t.main ≡ e ∷ rest) (idle : (c : ContainerId) (v : ContainerView) → container_view_main c e v ≡ v) where
    was : (c : ContainerId) → container_view h (main_popped t) c ≡ container_view h t c
    was c = sym (main_taken h t c e rest front ∙ idle c (container_view h (main_popped t) c))

    popped_marks : ContainersInvariant h (main_popped t)
    popped_marks = marks_stay h h t (main_popped t) refl was all

    -- nothing is to be done
    quiet_joins : (g : History) → Step settings h t (Quiet MainLane) g (main_popped t) → PreservesContainers settings h t (Quiet MainLane) g (main_popped t)
    quiet_joins g step = joins_with settings h t (Quiet MainLane) g (main_popped t) step h refl popped_marks

    -- the end of the application is issued
    ends_joins : (id : AppId) (row : AppRow) → row_of t.rows id ≡ Some row → (how : How) (text : List ℕ) → ((c : ContainerId) → ContainerInvariant c (Some row) (container_view h t c) → ContainerInvariant c (Some (changed of_app.End row)) (container_view h t c))
        → SomeStep settings h t (main_worked (ends_app id how text t)) → PreservesContainersTo settings h t (main_worked (ends_app id how text t))
    ends_joins id row found how text own some =
        record {
          next = some.next;
          joins =
              joins_with settings h t (Issued (ops.AppEnd id how text)) some.next (main_popped (app_ends id how text t)) some.step (ending h t id) (rw k.recorded refl)
              (marks_still h (ending h t id) t (main_popped (app_ends id how text t)) id (changed of_app.End) row (λ q. row_changed (changed of_app.End) id q t.rows) found
              (λ c. op_issued (ending h t id) (record (main_popped t) { rows = (app_ends id how text t).rows; asks = (app_ends id how text t).asks }) c (ops.AppEnd id how text) ∙ was c)
              (λ c same says. own c says) all);
        }

    -- an attempt of it is scheduled
    schedules_joins : (id : AttemptId) (entry : Entry) (other : History) → after (live_state h t) entry ≡ live_state other (main_popped (schedules id t))
        → ((c : ContainerId) → container_view other (main_popped (schedules id t)) c ≡ container_view h (main_popped (schedules id t)) c)
        → (row : AppRow) → row_of t.rows id.app ≡ Some row
        → ((c : ContainerId) → is_app id.app c.attempt.app ≡ true → ContainerInvariant c (Some row) (container_view h t c) → ContainerInvariant c (Some (changed (of_app.Schedule id.number) row)) (container_view h t c))
        → SomeStep settings h t (entry, main_popped (schedules id t)) → PreservesContainersTo settings h t (entry, main_popped (schedules id t))
    schedules_joins id entry other same alike row found own some =
        record {
          next = some.next;
          joins =
              joins_with settings h t entry some.next (main_popped (schedules id t)) some.step other same
              (marks_still h other t (main_popped (schedules id t)) id.app (changed (of_app.Schedule id.number)) row (λ q. row_changed (changed (of_app.Schedule id.number)) id.app q t.rows) found
              (λ c. alike c ∙ sched_posted h (record (main_popped t) { rows = (schedules id t).rows }) c (scheds.AttemptAdded id) ∙ was c) own all);
        }

    -- its row changes, and an operation of it or of its attempt is issued that saves no attempt, or none is
    changes_joins : (id : AppId) (row : AppRow) → row_of t.rows id ≡ Some row → (change : RowChange) → ((c : ContainerId) → ContainerInvariant c (Some row) (container_view h t c) → ContainerInvariant c (Some (changed change row)) (container_view h t c))
        → SomeStep settings h t (Quiet MainLane, main_popped (app_changed change id t)) → PreservesContainersTo settings h t (Quiet MainLane, main_popped (app_changed change id t))
    changes_joins id row found change own some =
        record {
          next = some.next;
          joins =
              joins_with settings h t (Quiet MainLane) some.next (main_popped (app_changed change id t)) some.step h refl
              (marks_still h h t (main_popped (app_changed change id t)) id (changed change) row (λ q. row_changed (changed change) id q t.rows) found was (λ c same says. own c says) all);
        }

  -- AppKill
  module _ (id : AppId) (rest : List MainEvent) (front : t.main ≡ mains.AppKill id ∷ rest) where
    -- what an event of a kill comes to, and what of that is known
    abbrev KillJoins : Entry × Tables → Type 0
    KillJoins done = PreservesContainersTo settings h t (main_worked done)

    abbrev KillSteps : Entry × Tables → Type 0
    KillSteps done = SomeStep settings h t (main_worked done)

    kill_nothing : KillSteps (main_quiet t) → KillJoins (main_quiet t)
    kill_nothing some = record { next = some.next; joins = quiet_joins (mains.AppKill id) rest front (λ c v. refl) some.next some.step }

    module _ (row : AppRow) (found : row_of t.rows id ≡ Some row) where
      kill_living : (current : Current) → row.current ≡ Some current → Alive current.state → KillSteps (attempt_kill (record { app = id; number = current.number }) t) → KillJoins (attempt_kill (record { app = id; number = current.number }) t)
      kill_living current is st some =
          record {
            next = some.next;
            joins =
                joins_with settings h t (Issued (ops.AttemptEnd (record { app = id; number = current.number }) ways.Killed killed_text)) some.next (main_popped (attempt_kill (record { app = id; number = current.number }) t).1) some.step h refl
                (marks_still h h t (main_popped (attempt_kill (record { app = id; number = current.number }) t).1) id (changed of_app.Kill) row (λ q. row_changed (changed of_app.Kill) id q t.rows) found
                (λ c. op_issued h (record (main_popped t) { rows = with_row (changed of_app.Kill) id t.rows }) c (ops.AttemptEnd (record { app = id; number = current.number }) ways.Killed killed_text) ∙ was (mains.AppKill id) rest front (λ c v. refl) c)
                (λ c same says. kill_marks c row (container_view h t c) current is st says) all);
          }

      kill_current : (current : Current) → row.current ≡ Some current → (s : AttemptState) → current.state ≡ s → KillSteps (kill_of_attempt_state s (record { app = id; number = current.number }) t) → KillJoins (kill_of_attempt_state s (record { app = id; number = current.number }) t)
      kill_current current is attempts.Scheduled e some =
          ends_joins (mains.AppKill id) rest front (λ c v. refl) id row found ways.Killed killed_text (λ c says. over_marks c row (container_view h t c) current is attempts.Scheduled e (inl refl) (current.number == c.attempt.number) refl says) some
      kill_current current is attempts.Granted e some =
          ends_joins (mains.AppKill id) rest front (λ c v. refl) id row found ways.Killed killed_text (λ c says. over_marks c row (container_view h t c) current is attempts.Granted e (inr (inl refl)) (current.number == c.attempt.number) refl says) some
      kill_current current is attempts.Saving e some = changes_joins (mains.AppKill id) rest front (λ c v. refl) id row found of_app.Kill (λ c says. later_marks c row (container_view h t c) current is (inl e) says) some
      kill_current current is attempts.Ending e some = changes_joins (mains.AppKill id) rest front (λ c v. refl) id row found of_app.Kill (λ c says. later_marks c row (container_view h t c) current is (inr (inl e)) says) some
      kill_current current is attempts.Ended e some = changes_joins (mains.AppKill id) rest front (λ c v. refl) id row found of_app.Kill (λ c says. later_marks c row (container_view h t c) current is (inr (inr e)) says) some
      kill_current current is attempts.Live e some = kill_living current is (inl e) some
      kill_current current is attempts.Registered e some = kill_living current is (inr (inl e)) some
      kill_current current is attempts.Finishing e some = kill_living current is (inr (inr e)) some
      kill_current current is attempts.Dropped e some = kill_nothing some

      kill_some : (s : AppState) → row.state ≡ s → (c : Option Current) → row.current ≡ c → KillSteps (kill_of_state s c id t) → KillJoins (kill_of_state s c id t)
      kill_some apps.Submitted st c is some =
          let zero : AttemptId = record { app = id; number = 0 } in
          let alone = alone_by settings zero row (view h t zero) st (rw found at (k.all zero)) in
          ends_joins (mains.AppKill id) rest front (λ c v. refl) id row found ways.Killed killed_text (λ c says. over_none c row (container_view h t c) alone says) some
      kill_some apps.Accepted st (Some current) is some = kill_current current is current.state refl some
      kill_some apps.Running st (Some current) is some = kill_current current is current.state refl some
      kill_some apps.Killing st (Some current) is some = kill_current current is current.state refl some
      kill_some _ st _ is some = kill_nothing some

    kill_cases : (row : Option AppRow) → row_of t.rows id ≡ row → KillJoins (kill_of_row row id t)
    kill_cases None found = kill_nothing (kill_steps settings h t k id rest front None found)
    kill_cases (Some row) found = kill_some row found row.state refl row.current refl (kill_steps settings h t k id rest front (Some row) found)

    -- AppKill, for every row and state
    pub kill_joins : PreservesContainersTo settings h t (main_worked (main_step (mains.AppKill id) t))
    kill_joins = kill_cases (row_of t.rows id) refl

  -- AttemptDone
  module _ (set : settings ≡ t.settings) (a : AttemptId) (rest : List MainEvent) (front : t.main ≡ mains.AttemptDone a ∷ rest) where
    -- what the end of an attempt comes to, and what of that is known
    abbrev DoneJoins : Entry × Tables → Type 0
    DoneJoins done = PreservesContainersTo settings h t (main_worked done)

    abbrev DoneSteps : Entry × Tables → Type 0
    DoneSteps done = SomeStep settings h t (main_worked done)

    done_nothing : DoneSteps (main_quiet t) → DoneJoins (main_quiet t)
    done_nothing some = record { next = some.next; joins = quiet_joins (mains.AttemptDone a) rest front (λ c v. refl) some.next some.step }

    module _ (row : AppRow) (found : row_of t.rows a.app ≡ Some row) (current : Current) (is : row.current ≡ Some current) (active : is_active row.state ≡ true) where
      -- what the facts of the application are read at
      abbrev zero : AttemptId
      zero = record { app = a.app; number = 0 }

      decided_joins : current.state ≡ attempts.Ended → (end : Option (How × List ℕ)) → DoneSteps (decision_of_end end a.app t) → DoneJoins (decision_of_end end a.app t)
      decided_joins e (Some end) some =
          ends_joins (mains.AttemptDone a) rest front (λ c v. refl) a.app row found end.0 end.1 (λ c says. over_marks c row (container_view h t c) current is attempts.Ended e (inr (inr refl)) (current.number == c.attempt.number) refl says) some
      decided_joins e None some =
          schedules_joins (mains.AttemptDone a) rest front (λ c v. refl) (next_in t a.app) (Quiet MainLane) h refl (λ c. refl) row found
          (λ c same says.
          let here : a.app ≡ c.attempt.app = same_app a.app c.attempt.app same in
          let number_is : (length (attempts_in (record_of t.tree.apps a.app)) + 1) ≡ (length (attempts_in (record_of t.tree.apps c.attempt.app)) + 1) = rw here refl in
          rw number_is (retried_marks c row (container_view h t c) current is e (current.number == c.attempt.number) ((length (attempts_in (record_of t.tree.apps c.attempt.app)) + 1) == c.attempt.number) refl refl says)) some

      done_current : (s : AttemptState) → current.state ≡ s → DoneSteps (decision_of_attempt_state s row.wish a.app t) → DoneJoins (decision_of_attempt_state s row.wish a.app t)
      done_current attempts.Ended e some = decided_joins e (end_with t.settings row.wish (found_in t a.app) (last_end_in (found_in t a.app))) some
      done_current _ e some = done_nothing some

    done_some : (row : AppRow) → row_of t.rows a.app ≡ Some row → (s : AppState) → row.state ≡ s → (c : Option Current) → row.current ≡ c → DoneSteps (decision_of_current s c row.wish a.app t) → DoneJoins (decision_of_current s c row.wish a.app t)
    done_some row found apps.Accepted st (Some current) is some = done_current row found current is (rw st refl) current.state refl some
    done_some row found apps.Running st (Some current) is some = done_current row found current is (rw st refl) current.state refl some
    done_some row found apps.Killing st (Some current) is some = done_current row found current is (rw st refl) current.state refl some
    done_some row found apps.New st (Some current) is some = done_nothing some
    done_some row found apps.NewSaving st (Some current) is some = done_nothing some
    done_some row found apps.Submitted st (Some current) is some = done_nothing some
    done_some row found apps.FinalSaving st (Some current) is some = done_nothing some
    done_some row found apps.Finished st (Some current) is some = done_nothing some
    done_some row found apps.Failed st (Some current) is some = done_nothing some
    done_some row found apps.Killed st (Some current) is some = done_nothing some
    done_some row found s st None is some = done_nothing some

    done_cases : (row : Option AppRow) → row_of t.rows a.app ≡ row → DoneJoins (decision_of_row row a.app t)
    done_cases None found = done_nothing (done_steps settings h t k set a rest front None found)
    done_cases (Some row) found = done_some row found row.state refl row.current refl (done_steps settings h t k set a rest front (Some row) found)

    -- AttemptDone, for every row and state
    pub done_joins : PreservesContainersTo settings h t (main_worked (main_step (mains.AttemptDone a) t))
    done_joins = done_cases (row_of t.rows a.app) refl

  -- AppSaved
  module _ (id : AppId) (rest : List MainEvent) (front : t.main ≡ mains.AppSaved id ∷ rest) where
    -- what an application that was saved comes to
    abbrev SavedJoins : Entry × Tables → Type 0
    SavedJoins done = PreservesContainersTo settings h t (main_worked done)

    saved_nothing : Step settings h t (Quiet MainLane) h (main_popped t) → SavedJoins (main_quiet t)
    saved_nothing step = record { next = h; joins = quiet_joins (mains.AppSaved id) rest front (λ c v. refl) h step }

    -- no client wished to kill it: the scheduler is to know it
    saved_known : Step settings h t (Quiet MainLane) h (record t { main = drop 1 t.main; sched = t.sched ++ scheds.AppAdded id ∷ [] }) → SavedJoins (save_of_state apps.Submitted false id t)
    saved_known step =
        record {
          next = h;
          joins =
              joins_with settings h t (Quiet MainLane) h (record t { main = drop 1 t.main; sched = t.sched ++ scheds.AppAdded id ∷ [] }) step h refl
              (marks_stay h h t (record t { main = drop 1 t.main; sched = t.sched ++ scheds.AppAdded id ∷ [] }) refl (λ c. sched_posted h (main_popped t) c (scheds.AppAdded id) ∙ was (mains.AppSaved id) rest front (λ c v. refl) c) all);
        }

    saved_idle : (row : AppRow) → row_of t.rows id ≡ Some row → row.state ≢ apps.Submitted → SavedJoins (main_quiet t)
    saved_idle row found not =
        saved_nothing
        (quiet settings h t k id rest (mains.AppSaved id) (λ v. record v { count = record v.count { saves = suc v.count.saves } }) front (Some row) found (λ q v o. rw o refl) (λ q v same. rw same refl)
        (λ q says. saved_quiet settings q row (view h (main_popped t) q) not says))

    saved_wish : (row : AppRow) → row_of t.rows id ≡ Some row → row.state ≡ apps.Submitted → (w : Bool) → row.wish ≡ w → SavedJoins (save_of_state apps.Submitted w id t)
    saved_wish row found st true w =
        let zero : AttemptId = record { app = id; number = 0 } in
        let alone = alone_by settings zero row (view h t zero) st (rw found at (k.all zero)) in
        ends_joins (mains.AppSaved id) rest front (λ c v. refl) id row found ways.Killed killed_text (λ c says. over_none c row (container_view h t c) alone says) (saved_wished_steps settings h t k id rest front row found st w)
    saved_wish row found st false w = saved_known (saved_in_state settings h t k id rest front row found w apps.Submitted st)

    saved_some : (row : AppRow) → row_of t.rows id ≡ Some row → (s : AppState) → row.state ≡ s → SavedJoins (save_of_state s row.wish id t)
    saved_some row found apps.Submitted st = saved_wish row found st row.wish refl
    saved_some row found _ st = saved_idle row found (rw st (λ u. cc))

    saved_cases : (row : Option AppRow) → row_of t.rows id ≡ row → SavedJoins (save_of_row row id t)
    saved_cases None found = saved_nothing (saved_none settings h t k id rest front found)
    saved_cases (Some row) found = saved_some row found row.state refl

    -- AppSaved, for every row and state
    pub saved_joins : PreservesContainersTo settings h t (main_worked (main_step (mains.AppSaved id) t))
    saved_joins = saved_cases (row_of t.rows id) refl

  -- AppAccepted
  module _ (id : AppId) (rest : List MainEvent) (front : t.main ≡ mains.AppAccepted id ∷ rest) where
    -- its first attempt
    abbrev first_attempt : AttemptId
    first_attempt = record { app = id; number = 1 }

    -- what one that is accepted comes to
    abbrev AcceptedJoins : Entry × Tables → Type 0
    AcceptedJoins done = PreservesContainersTo settings h t (main_worked done)

    accepted_nothing : Step settings h t (Quiet MainLane) h (main_popped t) → AcceptedJoins (main_quiet t)
    accepted_nothing step = record { next = h; joins = quiet_joins (mains.AppAccepted id) rest front (λ c v. refl) h step }

    accepted_some : (row : AppRow) → row_of t.rows id ≡ Some row → (s : AppState) → row.state ≡ s → AcceptedJoins (accept_of_state s id t)
    accepted_some row found apps.Submitted st =
        let zero : AttemptId = record { app = id; number = 0 } in
        let alone = alone_by settings zero row (view h t zero) st (rw found at (k.all zero)) in
        schedules_joins (mains.AppAccepted id) rest front (λ c v. refl) first_attempt (Accepted id) (accepting settings h t k id rest front) refl (λ c. refl) row found
        (λ c same says. accepted_marks c row (container_view h t c) alone says) (record { next = accepting settings h t k id rest front; step = accepted_now settings h t k id rest front row found st })
    accepted_some row found _ st = accepted_nothing (accepted_idle settings h t k id rest front row found (rw st (λ u. cc)))

    accepted_cases : (row : Option AppRow) → row_of t.rows id ≡ row → AcceptedJoins (accept_of_row row id t)
    accepted_cases None found = accepted_nothing (accepted_none settings h t k id rest front found)
    accepted_cases (Some row) found = accepted_some row found row.state refl

    -- AppAccepted, for every row and state
    pub accepted_joins : PreservesContainersTo settings h t (main_worked (main_step (mains.AppAccepted id) t))
    accepted_joins = accepted_cases (row_of t.rows id) refl

  -- AppStart, of an application whose App may be issued
  module _ (id : AppId) (rest : List MainEvent) (front : t.main ≡ mains.AppStart id ∷ rest) where
    pub started_joins : (row : AppRow) → row_of t.rows id ≡ Some row → row.state ≡ apps.New → (s : Submission) → MayIssueApp (abstract_scene h t) id s
        → PreservesContainers settings h t (Issued (ops.App id s)) h (record t { main = drop 1 t.main; rows = with_row (changed of_app.Issue) id t.rows; awaiting = t.awaiting ++ ops.App id s ∷ [] })
    started_joins row found st s may =
        let zero : AttemptId = record { app = id; number = 0 } in
        let alone = new_alone settings zero row (view h t zero) st (rw found at (k.all zero)) in
        joins_with settings h t (Issued (ops.App id s)) h (record t { main = drop 1 t.main; rows = with_row (changed of_app.Issue) id t.rows; awaiting = t.awaiting ++ ops.App id s ∷ [] })
        (started settings h t k id rest front row found st s may) h refl
        (marks_still h h t (record t { main = drop 1 t.main; rows = with_row (changed of_app.Issue) id t.rows; awaiting = t.awaiting ++ ops.App id s ∷ [] }) id (changed of_app.Issue) row (λ q. row_changed (changed of_app.Issue) id q t.rows) found
        (λ c. op_issued h (record (main_popped t) { rows = with_row (changed of_app.Issue) id t.rows }) c (ops.App id s) ∙ was (mains.AppStart id) rest front (λ c v. refl) c)
        (λ c same says. same_marks c row (container_view h t c) (changed of_app.Issue row) (rw alone refl) says) all)

  -- Retire, where nothing is to be removed, and where the application that completed first is
  module _ (rest : List MainEvent) (front : t.main ≡ mains.Retire ∷ rest) where
    pub retire_idle_joins : PreservesContainers settings h t (Quiet MainLane) h (main_popped t)
    retire_idle_joins = quiet_joins mains.Retire rest front (λ c v. refl) h (retire_idle settings h t k rest front)

    pub retire_joins : (id : AppId) (more : List AppId) → Step settings h t (Issued (ops.Remove id)) h (record t { ended = more; awaiting = t.awaiting ++ ops.Remove id ∷ []; main = drop 1 t.main ++ mains.Retire ∷ [] })
        → PreservesContainers settings h t (Issued (ops.Remove id)) h (record t { ended = more; awaiting = t.awaiting ++ ops.Remove id ∷ []; main = drop 1 t.main ++ mains.Retire ∷ [] })
    retire_joins id more step =
        joins_with settings h t (Issued (ops.Remove id)) h (record t { ended = more; awaiting = t.awaiting ++ ops.Remove id ∷ []; main = drop 1 t.main ++ mains.Retire ∷ [] }) step h refl
        (marks_stay h h t (record t { ended = more; awaiting = t.awaiting ++ ops.Remove id ∷ []; main = drop 1 t.main ++ mains.Retire ∷ [] }) refl
        (λ c. main_posted h (record (main_popped t) { ended = more; awaiting = t.awaiting ++ ops.Remove id ∷ [] }) c mains.Retire ∙ op_issued h (record (main_popped t) { ended = more }) c (ops.Remove id) ∙ was mains.Retire rest front (λ c v. refl) c) all)

  -- an event of the scheduler's queue that no container counts is taken
  was_sched : (e : SchedEvent) (rest : List SchedEvent) → t.sched ≡ e ∷ rest → ((c : ContainerId) (v : ContainerView) → container_view_sched c e v ≡ v) → (c : ContainerId) → container_view h (sched_popped t) c ≡ container_view h t c
  was_sched e rest front idle c = sym (sched_taken h t c e rest front ∙ idle c (container_view h (sched_popped t) c))

  -- AppAdded
  pub added_joins : (id : AppId) (rest : List SchedEvent) → t.sched ≡ scheds.AppAdded id ∷ rest → (list : List ContainerId) → PreservesContainersTo settings h t (sched_worked (sched_step (scheds.AppAdded id) list t))
  added_joins id rest front list =
      record {
        next = h;
        joins =
            joins_with settings h t (Quiet SchedLane) h (sched_worked (added_by id t)).1 (added_steps settings h t k id rest front) h refl
            (marks_stay h h t (sched_worked (added_by id t)).1 refl (λ c. main_posted h (sched_popped t) c (mains.AppAccepted id) ∙ was_sched (scheds.AppAdded id) rest front (λ c v. refl) c) all);
      }

  -- AttemptAdded
  pub queued_joins : (id : AttemptId) (rest : List SchedEvent) → t.sched ≡ scheds.AttemptAdded id ∷ rest → (list : List ContainerId) → PreservesContainersTo settings h t (sched_worked (sched_step (scheds.AttemptAdded id) list t))
  queued_joins id rest front list =
      let queued = queued_steps settings h t k id rest front list in
      record {
        next = record h { asks = queued.asked };
        joins =
            record {
              step = queued.step;
              marks =
                  subst (λ (next : Tables). ContainersInvariant (record h { asks = queued.asked }) (sched_popped next)) (sym queued.is)
                  (marks_stay h (record h { asks = queued.asked }) t (sched_popped (record t { asks = queued.asks })) refl (was_sched (scheds.AttemptAdded id) rest front (λ c v. refl)) all);
            };
      }

  -- AttemptRecovered
  pub recovered_joins : RecordsAreSound t.tree.apps → (id : AttemptId) (rest : List SchedEvent) → t.sched ≡ scheds.AttemptRecovered id ∷ rest → (list : List ContainerId)
      → PreservesContainersTo settings h t (sched_worked (sched_step (scheds.AttemptRecovered id) list t))
  recovered_joins each id rest front list =
      record { next = h; joins = none_joins settings h t k all each (scheds.AttemptRecovered id) rest front (λ q v. refl) causes.Attempt (Quiet SchedLane) (inr refl) refl (λ c x l. cc) }
