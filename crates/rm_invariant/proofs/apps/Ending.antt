-- The events of the main queue that end applications, each as a whole step: AppSaved where a kill is wished, AppKill and AttemptDone.
use Rattle.rm_invariant.proofs.Common.{◌≡◌, ◌⊎◌, inl, inr, ℕ, ◌+◌, suc, List, ◌∷◌, true, false, Option, None, Some, length, refl, ◌∙◌, ap, subst, arith, Entry, Issued, Quiet, AppId, AttemptId, How, Settings, record_of, same_app, app_itself, attempts_in, last_end, EndsFor, killed_text, AppState, AttemptState, MainEvent, AppRow, Current, Tables, app_changed, ends_app, found_in, main_popped, main_quiet, main_worked, next_in, schedules, changed, decision_of_end, decision_of_attempt_state, decision_of_row, decision_of_current, end_with, kill_of_attempt_state, kill_of_row, kill_of_state, attempt_kill, last_end_in, save_of_state, row_of, with_row, History, abstract_scene}
use Rattle.std.proofs.Common.{◌≢◌, ◌==◌}
use Rattle.rm_types.specs.declared.messages.Lane.TheVariants.{Main as MainLane}
use Rattle.rm_types.specs.declared.operations.How.TheVariants as ways
use Rattle.rm_types.specs.declared.operations.Op.TheVariants as ops
use Rattle.rm_states.specs.declared.app.states.AppState.TheVariants as apps
use Rattle.rm_states.specs.declared.attempt.states.AttemptState.TheVariants as attempts
use Rattle.rm_tables.specs.declared.changes.RowChange.TheVariants as of_app
use Rattle.rm_tables.specs.declared.events.MainEvent.TheVariants as mains
use Rattle.rm_tables.specs.declared.events.SchedEvent.TheVariants as scheds
use Rattle.rm_invariant.specs.apps.View.{View, view, main_view, sched_view, op_view, one_if}
use Rattle.rm_invariant.specs.apps.Invariant.{RowInvariant, ActiveInvariant, is_active}
use Rattle.rm_invariant.specs.Step.{AppsInvariant, Step}
use Rattle.rm_invariant.proofs.apps.Effects.{main_taken, op_issued, sched_posted}
use Rattle.rm_invariant.proofs.apps.Events.{quiet}
use Rattle.rm_invariant.proofs.apps.Found.{row_changed}
use Rattle.rm_invariant.proofs.apps.Keeping.{step_own}
use Rattle.rm_invariant.proofs.apps.Own.{active_row}
use Rattle.rm_invariant.proofs.apps.Acting.{app_end_own, ending}
use Rattle.rm_invariant.proofs.apps.AtStates.{done_ends, done_quiet, done_retries, done_unended, done_unknown, kill_later, kill_living, kill_submitted, kill_unsaved, killed_quiet, killed_unknown, saved_wished}
use Rattle.rm_invariant.proofs.apps.Deciding.{attempt_end_lawful, done_facts, end_same, killed_end, living_facts, retry_facts, submitted_facts, unfinished, unsaved_facts}

-- a step of an event, which goes to some history
pub record SomeStep (settings : Settings) (h : History) (t : Tables) (done : Entry × Tables) : Type 0 where
  pub next : History
  pub step : Step settings h t done.0 next done.1

-- AppSaved of an application whose kill is wished: it ends
module _ (settings : Settings) (h : History) (t : Tables) (k : AppsInvariant settings h t) (id : AppId) (rest : List MainEvent) (front : t.main ≡ mains.AppSaved id ∷ rest) where
  abbrev save_more : View → View
  save_more v = record v { count = record v.count { saves = suc v.count.saves } }

  abbrev saved_at : AttemptId
  saved_at = record { app = id; number = 0 }

  pub saved_wished_steps : (row : AppRow) → row_of t.rows id ≡ Some row → row.state ≡ apps.Submitted → row.wish ≡ true → SomeStep settings h t (main_worked (save_of_state apps.Submitted true id t))
  saved_wished_steps row found is wish =
      let facts = submitted_facts settings saved_at row (view h t saved_at) is (rw found at (k.all saved_at)) in
      let wished = facts.wished ∙ wish in
      let first = facts.first in
      record {
        next = ending h t id;
        step =
            app_end_own settings h t k id rest (mains.AppSaved id) front row save_more found (λ q v o. rw o refl) (λ q v same. rw same refl) facts.may ways.Killed killed_text (rw (first, wished) refl)
            (λ q same says. saved_wished settings q row (view h (main_popped t) q) is ((length (attempts_in (record_of t.tree.apps q.app)) + 1) == q.number) says);
      }

-- AppKill
module _ (settings : Settings) (h : History) (t : Tables) (k : AppsInvariant settings h t) (id : AppId) (rest : List MainEvent) (front : t.main ≡ mains.AppKill id ∷ rest) where
  abbrev kill_more : View → View
  kill_more v = record v { count = record v.count { kills = suc v.count.kills } }

  abbrev at_zero : AttemptId
  at_zero = record { app = id; number = 0 }

  abbrev KillSteps : Entry × Tables → Type 0
  KillSteps done = SomeStep settings h t (main_worked done)

  kill_nothing : (row : Option AppRow) → row_of t.rows id ≡ row → ((q : AttemptId) → RowInvariant settings q row (kill_more (view h (main_popped t) q)) → RowInvariant settings q row (view h (main_popped t) q)) → KillSteps (main_quiet t)
  kill_nothing row found own =
      record { next = h; step = quiet settings h t k id rest (mains.AppKill id) kill_more front row found (λ q v o. rw o refl) (λ q v same. rw same refl) own }

  -- the event says that a client wished it
  kill_is_wished : (row : AppRow) → row_of t.rows id ≡ Some row → row.wish ≡ true
  kill_is_wished row found =
      let good : RowInvariant settings at_zero (Some row) (view h t at_zero) = rw found at (k.all at_zero) in
      let own : main_view at_zero (mains.AppKill id) (view h (main_popped t) at_zero) ≡ kill_more (view h (main_popped t) at_zero) = rw (app_itself id) refl in
      let says = subst (λ (v : View). RowInvariant settings at_zero (Some row) v) (main_taken h t at_zero (mains.AppKill id) rest front ∙ own) good in
      says.0.killed (omega arith)

  module _ (row : AppRow) (found : row_of t.rows id ≡ Some row) where
    good_at : RowInvariant settings at_zero (Some row) (view h t at_zero)
    good_at = rw found at (k.all at_zero)

    kill_idle : row.state ≢ apps.Submitted → is_active row.state ≡ false → KillSteps (main_quiet t)
    kill_idle not idle = kill_nothing (Some row) found (λ q says. killed_quiet settings q row (view h (main_popped t) q) not idle says)

    module _ (current : Current) (is : row.current ≡ Some current) (a : is_active row.state ≡ true) where
      abbrev attempt : AttemptId
      attempt = record { app = id; number = current.number }

      unsaved_step : (s : AttemptState) → current.state ≡ s → (s ≡ attempts.Scheduled) ⊎ (s ≡ attempts.Granted) → KillSteps (ends_app id ways.Killed killed_text t)
      unsaved_step s e which =
          let facts = unsaved_facts settings at_zero row current (view h t at_zero) is a s e which good_at in
          record {
            next = ending h t id;
            step =
                app_end_own settings h t k id rest (mains.AppKill id) front row kill_more found (λ q v o. rw o refl) (λ q v same. rw same refl) facts.may ways.Killed killed_text
                (killed_end settings (abstract_scene h t) id (last_end (abstract_scene h t) id) (facts.wished ∙ kill_is_wished row found) (unfinished settings current.number (view h t at_zero) facts.follows))
                (λ q same says. kill_unsaved settings q row current (view h (main_popped t) q) is a s e which ((length (attempts_in (record_of t.tree.apps q.app)) + 1) == q.number) (current.number == q.number) refl refl says);
          }

      living_step : (s : AttemptState) → current.state ≡ s → (s ≡ attempts.Live) ⊎ (s ≡ attempts.Registered) ⊎ (s ≡ attempts.Finishing) → KillSteps (attempt_kill attempt t)
      living_step s e which =
          let facts = living_facts settings at_zero row current (view h t at_zero) is a s e which good_at in
          record {
            next = h;
            step =
                step_own settings h h t (main_popped (attempt_kill attempt t).1) k (Issued (ops.AttemptEnd attempt ways.Killed killed_text)) id (Some row) (changed of_app.Kill) (view h (main_popped t))
                (λ q v. main_view q (mains.AppKill id) v) (λ q v. op_view q (ops.AttemptEnd attempt ways.Killed killed_text) v) (λ q v. kill_more v)
                (λ q v. record v { count = record v.count { attempt_ends = suc v.count.attempt_ends; own_ops = one_if (current.number == q.number) v.count.own_ops } })
                (attempt_end_lawful h t at_zero settings k.is_open current.number facts.may ways.Killed killed_text (EndsFor.killed (facts.wished ∙ kill_is_wished row found) refl refl)) refl k.recorded k.is_open found
                (λ q. row_changed (changed of_app.Kill) id q t.rows) (λ q. main_taken h t q (mains.AppKill id) rest front)
                (λ q. op_issued h (record (main_popped t) { rows = with_row (changed of_app.Kill) id t.rows }) q (ops.AttemptEnd attempt ways.Killed killed_text))
                (λ q v o. rw o refl) (λ q v o. rw o refl) (λ q v same. rw same refl) (λ q v same. rw same refl)
                (λ q same says. kill_living settings q row current (view h (main_popped t) q) is a s e which (current.number == q.number) refl says);
          }

      later_step : (s : AttemptState) → current.state ≡ s → (s ≡ attempts.Saving) ⊎ (s ≡ attempts.Ending) ⊎ (s ≡ attempts.Ended) → KillSteps (Quiet MainLane, app_changed of_app.Kill id t)
      later_step s e which =
          record {
            next = h;
            step =
                step_own settings h h t (main_popped (app_changed of_app.Kill id t)) k (Quiet MainLane) id (Some row) (changed of_app.Kill) (view h (main_popped t))
                (λ q v. main_view q (mains.AppKill id) v) (λ q v. v) (λ q v. kill_more v) (λ q v. v) (inl refl) refl k.recorded k.is_open found
                (λ q. row_changed (changed of_app.Kill) id q t.rows) (λ q. main_taken h t q (mains.AppKill id) rest front) (λ q. refl)
                (λ q v o. rw o refl) (λ q v o. refl) (λ q v same. rw same refl) (λ q v same. refl)
                (λ q same says. kill_later settings q row current (view h (main_popped t) q) is a s e which (current.number == q.number) refl says);
          }

      dropped_step : current.state ≡ attempts.Dropped → KillSteps (main_quiet t)
      dropped_step e =
          let active = active_row settings at_zero row (view h t at_zero) a good_at in
          let says : ActiveInvariant settings at_zero (Some current) row.wish (view h t at_zero) = rw is at active.current in
          absurd (let x = rw e at says in x.0)

      kill_current : (s : AttemptState) → current.state ≡ s → KillSteps (kill_of_attempt_state s attempt t)
      kill_current attempts.Scheduled e = unsaved_step attempts.Scheduled e (inl refl)
      kill_current attempts.Granted e = unsaved_step attempts.Granted e (inr refl)
      kill_current attempts.Saving e = later_step attempts.Saving e (inl refl)
      kill_current attempts.Live e = living_step attempts.Live e (inl refl)
      kill_current attempts.Registered e = living_step attempts.Registered e (inr (inl refl))
      kill_current attempts.Finishing e = living_step attempts.Finishing e (inr (inr refl))
      kill_current attempts.Ending e = later_step attempts.Ending e (inr (inl refl))
      kill_current attempts.Ended e = later_step attempts.Ended e (inr (inr refl))
      kill_current attempts.Dropped e = dropped_step e

    no_current : row.current ≡ None → is_active row.state ≡ true → KillSteps (main_quiet t)
    no_current none a =
        let active = active_row settings at_zero row (view h t at_zero) a good_at in
        absurd (rw none at active.current)

    kill_saved : row.state ≡ apps.Submitted → KillSteps (ends_app id ways.Killed killed_text t)
    kill_saved is =
        let facts = submitted_facts settings at_zero row (view h t at_zero) is good_at in
        let first = facts.first in
        let wished = facts.wished ∙ kill_is_wished row found in
        record {
          next = ending h t id;
          step =
              app_end_own settings h t k id rest (mains.AppKill id) front row kill_more found (λ q v o. rw o refl) (λ q v same. rw same refl) facts.may ways.Killed killed_text (rw (first, wished) refl)
              (λ q same says. kill_submitted settings q row (view h (main_popped t) q) is ((length (attempts_in (record_of t.tree.apps q.app)) + 1) == q.number) says);
        }

    kill_some : (s : AppState) → row.state ≡ s → (c : Option Current) → row.current ≡ c → KillSteps (kill_of_state s c id t)
    kill_some apps.Submitted is c e = kill_saved is
    kill_some apps.Accepted is None e = no_current e (rw is refl)
    kill_some apps.Accepted is (Some current) e = kill_current current e (rw is refl) current.state refl
    kill_some apps.Running is None e = no_current e (rw is refl)
    kill_some apps.Running is (Some current) e = kill_current current e (rw is refl) current.state refl
    kill_some apps.Killing is None e = no_current e (rw is refl)
    kill_some apps.Killing is (Some current) e = kill_current current e (rw is refl) current.state refl
    kill_some _ is c e = kill_idle (rw is (λ u. cc)) (rw is refl)

  pub kill_steps : (row : Option AppRow) → row_of t.rows id ≡ row → KillSteps (kill_of_row row id t)
  kill_steps None found = kill_nothing None found (λ q says. killed_unknown settings q (view h (main_popped t) q) says)
  kill_steps (Some row) found = kill_some row found row.state refl row.current refl

-- AttemptDone
module _ (settings : Settings) (h : History) (t : Tables) (k : AppsInvariant settings h t) (set : settings ≡ t.settings) (a : AttemptId) (rest : List MainEvent) (front : t.main ≡ mains.AttemptDone a ∷ rest) where
  abbrev done_more : View → View
  done_more v = record v { count = record v.count { dones = suc v.count.dones } }

  abbrev zero_of : AttemptId
  zero_of = record { app = a.app; number = 0 }

  abbrev following : AttemptId
  following = next_in t a.app

  abbrev DoneSteps : Entry × Tables → Type 0
  DoneSteps done = SomeStep settings h t (main_worked done)

  done_nothing : (row : Option AppRow) → row_of t.rows a.app ≡ row → ((q : AttemptId) → RowInvariant settings q row (done_more (view h (main_popped t) q)) → RowInvariant settings q row (view h (main_popped t) q)) → DoneSteps (main_quiet t)
  done_nothing row found own =
      record { next = h; step = quiet settings h t k a.app rest (mains.AttemptDone a) done_more front row found (λ q v o. rw o refl) (λ q v same. rw same refl) own }

  module _ (row : AppRow) (found : row_of t.rows a.app ≡ Some row) where
    done_good : RowInvariant settings zero_of (Some row) (view h t zero_of)
    done_good = rw found at (k.all zero_of)

    done_idle : is_active row.state ≡ false → DoneSteps (main_quiet t)
    done_idle idle = done_nothing (Some row) found (λ q says. done_quiet settings q row (view h (main_popped t) q) idle says)

    module _ (current : Current) (is : row.current ≡ Some current) (active : is_active row.state ≡ true) where
      done_other : current.state ≢ attempts.Ended → DoneSteps (main_quiet t)
      done_other not = done_nothing (Some row) found (λ q says. done_unended settings q row (view h (main_popped t) q) current is not says)

      decided_step : current.state ≡ attempts.Ended → (end : Option (How × List ℕ)) → end_with settings row.wish (found_in t a.app) (last_end_in (found_in t a.app)) ≡ end → DoneSteps (decision_of_end end a.app t)
      decided_step e (Some end) by =
          let facts = done_facts settings zero_of row current (view h t zero_of) is active e done_good in
          record {
            next = ending h t a.app;
            step =
                app_end_own settings h t k a.app rest (mains.AttemptDone a) front row done_more found (λ q v o. rw o refl) (λ q v same. rw same refl) facts.may end.0 end.1
                (end_same settings (abstract_scene h t) a.app row.wish (last_end (abstract_scene h t) a.app) facts.wished ∙ by)
                (λ q same says. done_ends settings q row current (view h (main_popped t) q) is active e ((length (attempts_in (record_of t.tree.apps q.app)) + 1) == q.number) (current.number == q.number) refl says);
          }
      decided_step e None by =
          let facts = done_facts settings zero_of row current (view h t zero_of) is active e done_good in
          let may = retry_facts settings row (view h t zero_of) facts by in
          record {
            next = h;
            step =
                step_own settings h h t (main_popped (schedules following t)) k (Quiet MainLane) a.app (Some row) (changed (of_app.Schedule following.number)) (view h (main_popped t))
                (λ q v. main_view q (mains.AttemptDone a) v) (λ q v. sched_view q (scheds.AttemptAdded following) v) (λ q v. done_more v)
                (λ q v. record v { count = record v.count { queueings = one_if (following.number == q.number) v.count.queueings } })
                (inl refl) refl k.recorded k.is_open found (λ q. row_changed (changed (of_app.Schedule following.number)) a.app q t.rows) (λ q. main_taken h t q (mains.AttemptDone a) rest front)
                (λ q. sched_posted h (record (main_popped t) { rows = with_row (changed (of_app.Schedule following.number)) a.app t.rows }) q (scheds.AttemptAdded following))
                (λ q v o. rw o refl) (λ q v o. rw o refl) (λ q v same. rw same refl) (λ q v same. rw same refl)
                (λ q same says.
                let here : a.app ≡ q.app = same_app a.app q.app same in
                let failed = may.failed in
                let below = may.below in
                rw here (done_retries settings q row current (view h (main_popped t) q) is active e may.no_wish (rw here at failed) (rw here at below) ((length (attempts_in (record_of t.tree.apps q.app)) + 1) == q.number) (current.number == q.number) refl refl says));
          }

      done_current : (s : AttemptState) → current.state ≡ s → DoneSteps (decision_of_attempt_state s row.wish a.app t)
      done_current attempts.Ended e =
          decided_step e (end_with t.settings row.wish (found_in t a.app) (last_end_in (found_in t a.app))) (ap (λ (s : Settings). end_with s row.wish (found_in t a.app) (last_end_in (found_in t a.app))) set)
      done_current _ e = done_other (rw e (λ u. cc))

    done_alone : row.current ≡ None → is_active row.state ≡ true → DoneSteps (main_quiet t)
    done_alone none active =
        let facts = active_row settings zero_of row (view h t zero_of) active done_good in
        absurd (rw none at facts.current)

    done_some : (s : AppState) → row.state ≡ s → (c : Option Current) → row.current ≡ c → DoneSteps (decision_of_current s c row.wish a.app t)
    done_some apps.Accepted is None e = done_alone e (rw is refl)
    done_some apps.Accepted is (Some current) e = done_current current e (rw is refl) current.state refl
    done_some apps.Running is None e = done_alone e (rw is refl)
    done_some apps.Running is (Some current) e = done_current current e (rw is refl) current.state refl
    done_some apps.Killing is None e = done_alone e (rw is refl)
    done_some apps.Killing is (Some current) e = done_current current e (rw is refl) current.state refl
    done_some apps.New is None e = done_idle (rw is refl)
    done_some apps.New is (Some current) e = done_idle (rw is refl)
    done_some apps.NewSaving is None e = done_idle (rw is refl)
    done_some apps.NewSaving is (Some current) e = done_idle (rw is refl)
    done_some apps.Submitted is None e = done_idle (rw is refl)
    done_some apps.Submitted is (Some current) e = done_idle (rw is refl)
    done_some apps.FinalSaving is None e = done_idle (rw is refl)
    done_some apps.FinalSaving is (Some current) e = done_idle (rw is refl)
    done_some apps.Finished is None e = done_idle (rw is refl)
    done_some apps.Finished is (Some current) e = done_idle (rw is refl)
    done_some apps.Failed is None e = done_idle (rw is refl)
    done_some apps.Failed is (Some current) e = done_idle (rw is refl)
    done_some apps.Killed is None e = done_idle (rw is refl)
    done_some apps.Killed is (Some current) e = done_idle (rw is refl)

  pub done_steps : (row : Option AppRow) → row_of t.rows a.app ≡ row → DoneSteps (decision_of_row row a.app t)
  done_steps None found = done_nothing None found (λ q says. done_unknown settings q (view h (main_popped t) q) says)
  done_steps (Some row) found = done_some row found row.state refl row.current refl
