-- Each event of the main queue makes less of what is left to do.
use Rattle.rm_invariant.proofs.Common.{◌∙◌, sym, inl, inr, ◌≡◌, ◌<◌, ◌≤◌, ℕ, ◌+◌, List, ◌∷◌, true, subst, arith, Entry, Settings, MainEvent, AppRow, Tables, main_worked, main_step, History}
use Rattle.rm_types.specs.declared.operations.Op.TheVariants as ops
use Rattle.rm_states.specs.declared.app.states.AppState.TheVariants as apps
use Rattle.rm_tables.specs.declared.events.MainEvent.TheVariants as mains
use Rattle.rm_invariant.specs.events.Outcomes.{MayEndApp, Outcome, accepts, adds, delays, ends, ends_one, follows, idles, issues, kills, loses, orders, removes, requeues, saves}
use Rattle.rm_invariant.specs.Step.{AppsInvariant}
use Rattle.rm_invariant.specs.messages.Ranges.{KeepsLimits}
use Rattle.rm_invariant.specs.apps.Invariant.{is_active}
use Rattle.rm_invariant.specs.measure.Measure.{app_end_measure, app_op_measure, app_measure, main_measure, current_number, measure}
use Rattle.rm_invariant.proofs.measure.Actions.{Decreases, accept_lighter, add_lighter, delay_lighter, end_lighter, end_one_lighter, follow_lighter, idle_lighter, issue_lighter, kill_lighter, lose_lighter, order_lighter, requeue_lighter, retire_lighter, save_lighter}
use Rattle.rm_invariant.proofs.measure.Following.{followed}
use Rattle.rm_invariant.proofs.measure.Rows.{going_weighs}
use Rattle.rm_invariant.proofs.measure.Sums.{main_front, op_push}

-- an application that goes on, or waits to be accepted, weighs its end
going_ends : (most : ℕ) (row : AppRow) → is_active row.state ≡ true → app_end_measure ≤ app_measure most row.state (current_number row.current)
going_ends most row going = omega (arith, going_weighs most row.state (current_number row.current) going)

submitted_ends : (most : ℕ) (row : AppRow) → row.state ≡ apps.Submitted → app_end_measure ≤ app_measure most row.state (current_number row.current)
submitted_ends most row is = rw is (omega arith)

-- the life's first event issues its Epoch
pub epoch_start_lighter : (t : Tables) (rest : List MainEvent) → t.main ≡ mains.EpochStart ∷ rest → measure (main_worked (main_step mains.EpochStart t)).1 < measure t
epoch_start_lighter t rest front =
    let f = main_front t.settings.max_attempts t.main mains.EpochStart rest front in
    let issued = op_push t.settings.max_attempts t.awaiting (ops.Epoch (t.epoch + 1) t.stamp) in
    omega (arith, f, issued)

-- so does one that may come to its end
stopped_ends : (most : ℕ) (row : AppRow) → MayEndApp row → app_end_measure ≤ app_measure most row.state (current_number row.current)
stopped_ends most row (inl submitted) = submitted_ends most row submitted
stopped_ends most row (inr (going, more)) = going_ends most row going

-- each event weighs something
one_weighs : (most : ℕ) (e : MainEvent) → 1 ≤ main_measure most e
one_weighs most mains.EpochStart = omega arith
one_weighs most _ = omega arith

-- what holds of the event that is known to be first holds of the first one
of_first : (P : MainEvent → Type 0) (main : List MainEvent) (known e : MainEvent) (behind rest : List MainEvent) → main ≡ known ∷ behind → main ≡ e ∷ rest → P known → P e
of_first P main known e behind rest at_front front holds =
    let heads : known ∷ behind ≡ e ∷ rest = sym at_front ∙ front in
    let same : known ≡ e = cc in
    subst P same holds

-- each thing that an event of the main queue may come to
module _ (h : History) (t : Tables) (keeps : AppsInvariant t.settings h t) (limits : KeepsLimits t.settings) (e : MainEvent) (rest : List MainEvent) (front : t.main ≡ e ∷ rest) where
  abbrev most : ℕ
  most = t.settings.max_attempts

  one : 1 ≤ main_measure most e
  one = one_weighs most e

  outcome_lighter : (done : Entry × Tables) → Outcome t done → Decreases t e rest front done
  outcome_lighter done idles = idle_lighter t e rest front one
  outcome_lighter done (saves id row submission later found waits at_front) = save_lighter t e rest front (of_first (λ (one : MainEvent). app_op_measure most < main_measure most one) t.main (mains.AppStart id) e later rest at_front front (omega arith)) id submission
  outcome_lighter done (adds id row behind found state at_front) = add_lighter t e rest front (of_first (λ (one : MainEvent). 3 ≤ main_measure most one) t.main (mains.AppSaved id) e behind rest at_front front (omega arith)) id
  outcome_lighter done (accepts id row found state) = accept_lighter t e rest front one id row found state limits.0
  outcome_lighter done (ends id row how text found stopped said) = end_lighter t e rest front one id row found (stopped_ends most row stopped) how text
  outcome_lighter done (kills id row current is number alive goes) = kill_lighter t e rest front one id.app row is.found current is.is id.number alive goes
  outcome_lighter done (delays id row current is waits goes) = delay_lighter t e rest front one id row is.found current is.is waits goes
  outcome_lighter done (issues container node row current is state number mine on) = issue_lighter t e rest front container row is.found current is.is state one node
  outcome_lighter done (requeues container row current behind is state number mine on at_front) = requeue_lighter t e rest front container row is.found current is.is state (of_first (λ (one : MainEvent). 2 ≤ main_measure most one) t.main (mains.MasterGranted container) e behind rest at_front front (omega arith))
  outcome_lighter done (orders id container node row current is number alive master on) = order_lighter t e rest front one container node
  outcome_lighter done (ends_one id row current how text is number alive said) = end_one_lighter t e rest front one id.app row is.found current is.is id.number alive how text
  outcome_lighter done (loses container row current is state number mine) = lose_lighter t e rest front one container.attempt.app row is.found current is.is
  outcome_lighter done (follows id row current is goes state none) = follow_lighter t e rest front one id row is.found current is.is goes state (followed h t keeps limits.0 id row current is.found is.is goes state none)
  outcome_lighter done (removes id more first many) = retire_lighter t e rest front one id more first

-- each event, in an open life
pub main_lighter : (settings : Settings) (h : History) (t : Tables) → settings ≡ t.settings → AppsInvariant settings h t → KeepsLimits t.settings → (e : MainEvent) (rest : List MainEvent) → t.main ≡ e ∷ rest
    → Outcome t (main_step e t) → measure (main_worked (main_step e t)).1 < measure t
main_lighter settings h t set keeps limits e rest front outcome =
    outcome_lighter h t (subst (λ (one : Settings). AppsInvariant one h t) set keeps) limits e rest front (main_step e t) outcome
