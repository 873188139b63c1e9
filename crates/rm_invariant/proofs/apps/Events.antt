-- The events of the main queue's front in an open life, each as a whole step: AppSaved, AppAccepted, AppStart and Retire.
use Rattle.rm_invariant.proofs.Common.{◌≡◌, inl, List, [], ◌∷◌, ◌++◌, true, false, Option, None, Some, drop, refl, subst, arith, list_any, Entry, Issued, Accepted, Quiet, AppId, AttemptId, Submission, Settings, is_app, attempts_in, is_app_end_op, MayIssueApp, AppState, MainEvent, AppRow, Tables, main_popped, main_worked, changed, save_of_state, row_of, with_row, History, abstract_scene}
use Rattle.std.proofs.Common.{◌≢◌, ◌==◌}
use Rattle.rm_types.specs.declared.messages.Lane.TheVariants.{Main as MainLane}
use Rattle.rm_types.specs.declared.operations.Op.TheVariants as ops
use Rattle.rm_model.specs.Rules.{MayAccept}
use Rattle.rm_states.specs.declared.app.states.AppState.TheVariants as apps
use Rattle.rm_tables.specs.declared.changes.RowChange.TheVariants as of_app
use Rattle.rm_tables.specs.declared.events.MainEvent.TheVariants as mains
use Rattle.rm_tables.specs.declared.events.SchedEvent.TheVariants as scheds
use Rattle.rm_invariant.specs.apps.View.{View, view, main_view, sched_view, op_view, one_if, set_if}
use Rattle.rm_invariant.specs.apps.Invariant.{AllHaveEnded, RowInvariant, StateInvariant, ops_of}
use Rattle.rm_invariant.specs.Step.{AppsInvariant, Step}
use Rattle.rm_invariant.proofs.apps.Counts.{none_under}
use Rattle.rm_invariant.proofs.apps.Effects.{main_taken, sched_posted, sched_end, op_issued}
use Rattle.rm_invariant.proofs.apps.Found.{row_changed, has_end}
use Rattle.rm_invariant.proofs.apps.Keeping.{step_own, unchanged}
use Rattle.rm_invariant.proofs.apps.Own.{save_more, add_more, accept_more, start_more, app_more, saved_plain, saved_quiet, saved_unknown, accept_submitted, accepted_quiet, accepted_unknown, start_new}

-- what an application's facts are read at
abbrev pub at : AppId → AttemptId
at id = record { app = id; number = 0 }

-- what is said of an application that was saved and isn't accepted
pub record SubmittedSays (row : AppRow) (v : View) : Type 0 where
  pub stopped : AllHaveEnded v.found
  pub none_awaits : ops_of v.count ≡ 0
  pub first : attempts_in v.found ≡ []
  pub not_accepted : v.accepted ≡ false

submitted_says : (settings : Settings) (q : AttemptId) (row : AppRow) (v : View) → row.state ≡ apps.Submitted → RowInvariant settings q (Some row) v → SubmittedSays row v
submitted_says settings q row v is good =
    let says = subst (λ (state : AppState). StateInvariant settings q state row v) is good.1 in
    record { stopped = says.0; none_awaits = says.6; first = says.1; not_accepted = says.4 }

accept_lawful : (h : History) (t : Tables) (id : AppId) (row : AppRow) → t.is_open ≡ true → SubmittedSays row (view h t (at id)) → MayAccept (abstract_scene h t) id
accept_lawful h t id row o says =
    let none = says.none_awaits in
    let stopped = says.stopped in
    let ended : list_any (is_app_end_op id) t.awaiting ≡ false = none_under (is_app_end_op id) (is_app_end_op id) (λ op e. e) t.awaiting (omega (arith, none)) in
    record { opened = o; kept = stopped.0; no_attempt = says.first; no_end = rw (ended, stopped.1) refl; once = says.not_accepted }

module _ (settings : Settings) (h : History) (t : Tables) (k : AppsInvariant settings h t) (id : AppId) (rest : List MainEvent) where
  -- an event of the application has nothing to do
  pub quiet : (e : MainEvent) (more : View → View) → t.main ≡ e ∷ rest → (row : Option AppRow) → row_of t.rows id ≡ row
      → ((q : AttemptId) (v : View) → is_app id q.app ≡ false → main_view q e v ≡ v) → ((q : AttemptId) (v : View) → is_app id q.app ≡ true → main_view q e v ≡ more v)
      → ((q : AttemptId) → RowInvariant settings q row (more (view h (main_popped t) q)) → RowInvariant settings q row (view h (main_popped t) q)) → Step settings h t (Quiet MainLane) h (main_popped t)
  quiet e more front None found other mine own =
      step_own settings h h t (main_popped t) k (Quiet MainLane) id None (λ r. r) (view h (main_popped t)) (λ q v. main_view q e v) (λ q v. v) (λ q v. more v) (λ q v. v)
      (inl refl) refl k.recorded k.is_open found (unchanged t.rows id) (λ q. main_taken h t q e rest front) (λ q. refl) other (λ q v o. refl) mine (λ q v o. refl) (λ q same says. own q says)
  quiet e more front (Some row) found other mine own =
      step_own settings h h t (main_popped t) k (Quiet MainLane) id (Some row) (λ r. r) (view h (main_popped t)) (λ q v. main_view q e v) (λ q v. v) (λ q v. more v) (λ q v. v)
      (inl refl) refl k.recorded k.is_open found (unchanged t.rows id) (λ q. main_taken h t q e rest front) (λ q. refl) other (λ q v o. refl) mine (λ q v o. refl) (λ q same says. own q says)

  -- AppSaved, where no client wished to kill the application
  module _ (front : t.main ≡ mains.AppSaved id ∷ rest) where
    abbrev SavedSteps : Entry × Tables → Type 0
    SavedSteps done = Step settings h t (main_worked done).0 h (main_worked done).1

    pub saved_idle : (row : AppRow) → row_of t.rows id ≡ Some row → row.state ≢ apps.Submitted → SavedSteps (Quiet MainLane, t)
    saved_idle row found not = quiet (mains.AppSaved id) save_more front (Some row) found (λ q v other. rw other refl) (λ q v same. rw same refl) (λ q says. saved_quiet settings q row (view h (main_popped t) q) not says)

    saved_now : (row : AppRow) → row_of t.rows id ≡ Some row → row.state ≡ apps.Submitted → row.wish ≡ false
        → Step settings h t (Quiet MainLane) h (record t { main = drop 1 t.main; sched = t.sched ++ scheds.AppAdded id ∷ [] })
    saved_now row found is wish =
        step_own settings h h t (record t { main = drop 1 t.main; sched = t.sched ++ scheds.AppAdded id ∷ [] }) k (Quiet MainLane) id (Some row) (λ r. r) (view h (main_popped t))
        (λ q v. main_view q (mains.AppSaved id) v) (λ q v. sched_view q (scheds.AppAdded id) v) (λ q v. save_more v) (λ q v. add_more v)
        (inl refl) refl k.recorded k.is_open found (unchanged t.rows id) (λ q. main_taken h t q (mains.AppSaved id) rest front) (λ q. sched_posted h (main_popped t) q (scheds.AppAdded id))
        (λ q v other. rw other refl) (λ q v other. rw other refl) (λ q v same. rw same refl) (λ q v same. rw same refl) (λ q same says. saved_plain settings q row (view h (main_popped t) q) is wish says)

    pub saved_in_state : (row : AppRow) → row_of t.rows id ≡ Some row → row.wish ≡ false → (s : AppState) → row.state ≡ s → SavedSteps (save_of_state s false id t)
    saved_in_state row found wish apps.Submitted is = saved_now row found is wish
    saved_in_state row found wish _ is = saved_idle row found (rw is (λ u. cc))

    pub saved_none : row_of t.rows id ≡ None → SavedSteps (Quiet MainLane, t)
    saved_none found = quiet (mains.AppSaved id) save_more front None found (λ q v other. rw other refl) (λ q v same. rw same refl) (λ q says. saved_unknown settings q (view h (main_popped t) q) says)

  -- AppAccepted
  module _ (front : t.main ≡ mains.AppAccepted id ∷ rest) where
    abbrev first : AttemptId
    first = record { app = id; number = 1 }

    abbrev pub accepting : History
    accepting = record h { apps = record h.apps { accepted = h.apps.accepted ++ id ∷ [] } }

    pub accepted_idle : (row : AppRow) → row_of t.rows id ≡ Some row → row.state ≢ apps.Submitted → Step settings h t (Quiet MainLane) h (main_popped t)
    accepted_idle row found not = quiet (mains.AppAccepted id) accept_more front (Some row) found (λ q v other. rw other refl) (λ q v same. rw same refl) (λ q says. accepted_quiet settings q row (view h (main_popped t) q) not says)

    pub accepted_none : row_of t.rows id ≡ None → Step settings h t (Quiet MainLane) h (main_popped t)
    accepted_none found = quiet (mains.AppAccepted id) accept_more front None found (λ q v other. rw other refl) (λ q v same. rw same refl) (λ q says. accepted_unknown settings q (view h (main_popped t) q) says)

    pub accepted_now : (row : AppRow) → row_of t.rows id ≡ Some row → row.state ≡ apps.Submitted
        → Step settings h t (Accepted id) accepting (record t { main = drop 1 t.main; rows = with_row (changed (of_app.Schedule 1)) id t.rows; sched = t.sched ++ scheds.AttemptAdded first ∷ [] })
    accepted_now row found is =
        step_own settings h accepting t (record t { main = drop 1 t.main; rows = with_row (changed (of_app.Schedule 1)) id t.rows; sched = t.sched ++ scheds.AttemptAdded first ∷ [] }) k (Accepted id) id (Some row)
        (changed (of_app.Schedule 1)) (view h (main_popped t)) (λ q v. main_view q (mains.AppAccepted id) v) (λ q v. record (sched_view q (scheds.AttemptAdded first) v) { accepted = set_if (is_app id q.app) v.accepted })
        (λ q v. accept_more v) (λ q v. record v { accepted = true; count = record v.count { queueings = one_if (1 == q.number) v.count.queueings } })
        (accept_lawful h t id row k.is_open (submitted_says settings (at id) row (view h t (at id)) is (rw found at (k.all (at id))))) refl k.recorded k.is_open found
        (λ q. row_changed (changed (of_app.Schedule 1)) id q t.rows) (λ q. main_taken h t q (mains.AppAccepted id) rest front)
        (λ q. rw (sched_end h (record (main_popped t) { rows = with_row (changed (of_app.Schedule 1)) id t.rows }) q (scheds.AttemptAdded first), has_end h.apps.accepted id q.app) refl)
        (λ q v other. rw other refl) (λ q v other. rw other refl) (λ q v same. rw same refl) (λ q v same. rw same refl)
        (λ q same says. accept_submitted settings q row (view h (main_popped t) q) is (1 == q.number) refl says)

  -- AppStart, of an application whose App may be issued
  module _ (front : t.main ≡ mains.AppStart id ∷ rest) where
    pub started : (row : AppRow) → row_of t.rows id ≡ Some row → row.state ≡ apps.New → (s : Submission) → MayIssueApp (abstract_scene h t) id s
        → Step settings h t (Issued (ops.App id s)) h (record t { main = drop 1 t.main; rows = with_row (changed of_app.Issue) id t.rows; awaiting = t.awaiting ++ ops.App id s ∷ [] })
    started row found is s may =
        step_own settings h h t (record t { main = drop 1 t.main; rows = with_row (changed of_app.Issue) id t.rows; awaiting = t.awaiting ++ ops.App id s ∷ [] }) k (Issued (ops.App id s)) id (Some row) (changed of_app.Issue)
        (view h (main_popped t)) (λ q v. main_view q (mains.AppStart id) v) (λ q v. op_view q (ops.App id s) v) (λ q v. start_more v) (λ q v. app_more v)
        may refl k.recorded k.is_open found (λ q. row_changed (changed of_app.Issue) id q t.rows) (λ q. main_taken h t q (mains.AppStart id) rest front)
        (λ q. op_issued h (record (main_popped t) { rows = with_row (changed of_app.Issue) id t.rows }) q (ops.App id s))
        (λ q v other. rw other refl) (λ q v other. rw other refl) (λ q v same. rw same refl) (λ q v same. rw same refl) (λ q same says. start_new settings q row (view h (main_popped t) q) is says)

-- Retire, where nothing is to be removed
pub retire_idle : (settings : Settings) (h : History) (t : Tables) (k : AppsInvariant settings h t) (rest : List MainEvent) → t.main ≡ mains.Retire ∷ rest → Step settings h t (Quiet MainLane) h (main_popped t)
retire_idle settings h t k rest front =
    record {
      lawful = inl refl;
      same = refl;
      keeps = record { is_open = k.is_open; recorded = k.recorded; all = λ q. subst (λ (v : View). RowInvariant settings q (row_of t.rows q.app) v) (main_taken h t q mains.Retire rest front) (k.all q) };
    }
