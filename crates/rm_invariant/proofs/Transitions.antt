-- Each move brings the state of an application, and that of its current attempt, along a row of its table, or leaves it.
use Rattle.rm_invariant.proofs.Common.{◌≡◌, ◌⊎◌, inl, inr, ℕ, ◌+◌, length, arith, List, [], ◌∷◌, ◌++◌, Bool, true, false, Option, None, Some, fold, refl, sym, ◌∙◌, ap, subst, Grant, Entry, AppId, AttemptId, ContainerId, How, Op, is_app, ClientAsk, ClockAsk, MasterAsk, NodeAsk, Reply, dialogue_begun, registered_row, said_row, told_row, with_answer, with_text, without_closings, after_client, submitted_row, after_master, after_clock, after_node, Settings, same_app, attempts_in, found_in, next_in, AppState, next_app_state, AttemptState, AttemptChange, RowChange, MainEvent, SchedEvent, AppRow, Current, Tables, main_worked, sched_worked, after_failure, attempt_after, changed, current_after, granted, granted_at, kept, closed_in, main_step, rows_after_grant, row_of, with_row, sched_step, closings_for, History, Message}
use Rattle.std.proofs.Common.{option_map}
use Rattle.rm_types.specs.declared.operations.How.TheVariants as ways
use Rattle.rm_types.specs.declared.operations.Op.TheVariants as ops
use Rattle.rm_states.specs.declared.app.states.AppState.TheVariants as apps
use Rattle.rm_tables.specs.declared.events.MainEvent.TheVariants as mains
use Rattle.rm_invariant.specs.events.Outcomes.{Outcome, accepts, delays, ends, ends_one, follows, issues, kills, loses, requeues, saves}
use Rattle.rm_invariant.proofs.events.Outcomes.{main_outcome}
use Rattle.rm_invariant.specs.apps.Invariant.{ActiveInvariant, CurrentInvariant, RowInvariant, StateInvariant, is_active}
use Rattle.rm_invariant.specs.Step.{AppsInvariant}
use Rattle.rm_invariant.specs.apps.View.{view}
use Rattle.rm_invariant.proofs.apps.Events.{at}
use Rattle.rm_invariant.proofs.apps.Own.{active_row}
use Rattle.rm_invariant.specs.Phases.{LifePhase, none, running, saving, shut, starting}
use Rattle.rm_states.specs.declared.app.states.AppEvent.{AppEvent}
use Rattle.rm_states.specs.declared.app.states.AppEvent.TheVariants as app_events
use Rattle.rm_states.proofs.app.Rows.{stays_or_row as app_stays_or_row}
use Rattle.rm_states.specs.declared.attempt.states.AttemptState.TheVariants as attempts
use Rattle.rm_states.specs.declared.attempt.states.AttemptEvent.{AttemptEvent}
use Rattle.rm_states.specs.declared.attempt.states.AttemptEvent.TheVariants as attempt_events
use Rattle.rm_states.specs.attempt.Table.{next_attempt_state as next_attempt_state}
use Rattle.rm_states.proofs.attempt.Rows.{stays_or_row as attempt_stays_or_row}
use Rattle.rm_tables.specs.declared.changes.AttemptChange.TheVariants as of_attempt
use Rattle.rm_tables.specs.declared.changes.RowChange.TheVariants as of_app
use Rattle.rm_tables.specs.Changes.{changed_state}
use Rattle.rm_invariant.specs.apps.View.{changed_if, gone_if}
use Rattle.rm_invariant.proofs.apps.Found.{row_changed}
use Rattle.rm_invariant.proofs.apps.Removing.{row_gone}
use Rattle.rm_invariant.proofs.events.Told.{rows_told, telling_more}
use Rattle.rm_invariant.proofs.events.SchedShapes.{RowsAfter, sched_shape}
use Rattle.rm_invariant.specs.Transitions.{AppFollowsTable, AttemptFollowsTable, CurrentFollowsTable, RowFollowsTables, RowsFollowTables}
use Rattle.rm_types.specs.declared.messages.Message.TheVariants as messages
use Rattle.rm_invariant.specs.messages.Outcomes.{MessageOutcome, after_message}
use Rattle.rm_invariant.specs.messages.Outcomes as comes
use Rattle.rm_invariant.proofs.messages.Outcomes.{message_outcome}
use Rattle.rm_types.specs.declared.containers.ClosingOf.{ClosingOf}

-- ONE ROW

-- a state stays, whatever its row is otherwise
current_stays : (o : Option Current) → CurrentFollowsTable o o
current_stays None = refl
current_stays (Some current) = inl (refl, inl refl)

pub row_stays : (row : AppRow) → RowFollowsTables row row
row_stays row = record { state = inl refl; current = current_stays row.current }

app_moves : (event : AppEvent) (s : AppState) → AppFollowsTable s (next_app_state s event)
app_moves event s = app_stays_or_row s event

attempt_moves : (event : AttemptEvent) (s : AttemptState) → AttemptFollowsTable s (next_attempt_state s event)
attempt_moves event s = attempt_stays_or_row s event

failure_goes : (how : How) (s : AppState) → AppFollowsTable s (after_failure how s)
failure_goes ways.Failed s = app_moves app_events.Failed s
failure_goes ways.Finished s = inl refl
failure_goes ways.Killed s = inl refl

-- the state of an application after a change
state_goes : (change : RowChange) (s : AppState) → AppFollowsTable s (changed_state change s)
state_goes of_app.Issue s = app_moves app_events.Start s
state_goes of_app.Keep s = app_moves app_events.Kept s
state_goes of_app.Kill s = app_moves app_events.Kill s
state_goes (of_app.Schedule number) s = app_moves app_events.Accept s
state_goes of_app.Register s = app_moves app_events.Register s
state_goes of_app.End s = app_moves app_events.End s
state_goes (of_app.KeepEnd how) s = app_moves (app_events.EndKept how) s
state_goes (of_app.OfAttempt (of_attempt.KeepEnd how)) s = failure_goes how s
state_goes _ s = inl refl

-- what a grant makes of an attempt
pub record Granting (before now : Current) : Type 0 where
  pub number : now.number ≡ before.number
  pub state : (now.state ≡ before.state) ⊎ ((before.state ≡ attempts.Scheduled) × (now.state ≡ attempts.Granted))

granting : (container : ContainerId) (current : Current) → Granting current (granted container current)
granting container current = by current.state refl
  where
    by : (s : AttemptState) → current.state ≡ s → Granting current (granted_at s container current)
    by attempts.Scheduled is = record { number = refl; state = inr (is, refl) }
    by _ is = record { number = refl; state = inl refl }

granting_goes : (before now : Current) → Granting before now → CurrentFollowsTable (Some before) (Some now)
granting_goes before now g = inl (g.number, by g.state)
  where
    by : (now.state ≡ before.state) ⊎ ((before.state ≡ attempts.Scheduled) × (now.state ≡ attempts.Granted)) → AttemptFollowsTable before.state now.state
    by (inl same) = inl same
    by (inr goes) = let a = goes.0 in let b = goes.1 in rw (a, b) (attempt_moves attempt_events.Grant attempts.Scheduled)

attempt_goes : (change : AttemptChange) (current : Current) → CurrentFollowsTable (Some current) (Some (attempt_after change current))
attempt_goes (of_attempt.Grant container) current = granting_goes current (granted container current) (granting container current)
attempt_goes of_attempt.Requeue current = inl (refl, attempt_moves attempt_events.Requeue current.state)
attempt_goes of_attempt.Issue current = inl (refl, attempt_moves attempt_events.Issue current.state)
attempt_goes of_attempt.Lose current = inl (refl, inl refl)
attempt_goes of_attempt.Keep current = inl (refl, attempt_moves attempt_events.Kept current.state)
attempt_goes of_attempt.Finish current = inl (refl, attempt_moves attempt_events.Finish current.state)
attempt_goes (of_attempt.End how) current = inl (refl, attempt_moves attempt_events.End current.state)
attempt_goes (of_attempt.KeepEnd how) current = inl (refl, attempt_moves attempt_events.EndKept current.state)

-- the change schedules no attempt
abbrev schedules_none : RowChange → Bool
schedules_none (of_app.Schedule number) = false
schedules_none _ = true

current_goes : (change : RowChange) → schedules_none change ≡ true → (o : Option Current) → CurrentFollowsTable o (current_after change o)
current_goes (of_app.Schedule number) e o = cc
current_goes of_app.Issue e (Some current) = inl (refl, inl refl)
current_goes of_app.Keep e (Some current) = inl (refl, inl refl)
current_goes of_app.Wish e (Some current) = inl (refl, inl refl)
current_goes of_app.Kill e (Some current) = inl (refl, attempt_moves attempt_events.End current.state)
current_goes of_app.Register e (Some current) = inl (refl, attempt_moves attempt_events.Register current.state)
current_goes of_app.End e (Some current) = inl (refl, attempt_moves attempt_events.Drop current.state)
current_goes (of_app.KeepEnd how) e (Some current) = inl (refl, inl refl)
current_goes (of_app.OfAttempt change) e (Some current) = attempt_goes change current
current_goes _ e None = refl

-- whatever happens to an application but that an attempt is scheduled
pub changed_goes : (change : RowChange) → schedules_none change ≡ true → (row : AppRow) → RowFollowsTables row (changed change row)
changed_goes change e row = record { state = state_goes change row.state; current = current_goes change e row.current }

-- an attempt is scheduled where there is none, or the last one has ended
abbrev MaySchedule : ℕ → Option Current → Type 0
MaySchedule number None = Unit {0}
MaySchedule number (Some current) = (current.state ≡ attempts.Ended) × (number ≡ current.number + 1)

scheduled_goes : (number : ℕ) (row : AppRow) (o : Option Current) → row.current ≡ o → MaySchedule number o → RowFollowsTables row (changed (of_app.Schedule number) row)
scheduled_goes number row o is may = record { state = state_goes (of_app.Schedule number) row.state; current = rw is (by o may) }
  where
    by : (o : Option Current) → MaySchedule number o → CurrentFollowsTable o (current_after (of_app.Schedule number) o)
    by None may = refl
    by (Some current) may = inr (may.0, may.1, refl)

-- ALL ROWS

pub rows_stay : (rows : List (AppId × Option AppRow)) → RowsFollowTables rows rows
rows_stay rows id before now there then = let same : before ≡ now = (let x = sym there ∙ then in cc) in subst (RowFollowsTables before) same (row_stays before)

-- the row of one application changes
pub one_goes : (f : AppRow → AppRow) (id : AppId) (rows : List (AppId × Option AppRow)) → ((row : AppRow) → RowFollowsTables row (f row)) → RowsFollowTables rows (with_row f id rows)
one_goes f id rows goes q before now there then = by (is_app id q) (sym (ap (changed_if (is_app id q) f) there) ∙ sym (row_changed f id q rows) ∙ then)
  where
    by : (b : Bool) → changed_if b f (Some before) ≡ Some now → RowFollowsTables before now
    by true e = let same : f before ≡ now = cc in subst (RowFollowsTables before) same (goes before)
    by false e = let same : before ≡ now = cc in subst (RowFollowsTables before) same (row_stays before)

-- endings are to be told
told_goes : (closings : List ClosingOf) (rows : List (AppId × Option AppRow)) → RowsFollowTables rows (closed_in rows closings)
told_goes closings rows q before now there then = by (sym (ap (option_map (telling_more (closings_for closings q))) there) ∙ sym (rows_told closings rows q) ∙ then)
  where
    by : Some (telling_more (closings_for closings q) before) ≡ Some now → RowFollowsTables before now
    by e = let same : telling_more (closings_for closings q) before ≡ now = cc in subst (RowFollowsTables before) same (record { state = inl refl; current = current_stays before.current })

-- containers are granted
abbrev CurrentGranting : Option Current → Option Current → Type 0
CurrentGranting None now = now ≡ None
CurrentGranting (Some before) None = ⊥
CurrentGranting (Some before) (Some now) = Granting before now

record RowGranting (before now : AppRow) : Type 0 where
  state : now.state ≡ before.state
  current : CurrentGranting before.current now.current

granting_stays : (row : AppRow) → RowGranting row row
granting_stays row = record { state = refl; current = by row.current }
  where
    by : (o : Option Current) → CurrentGranting o o
    by None = refl
    by (Some current) = record { number = refl; state = inl refl }

granting_one : (container : ContainerId) (row : AppRow) → RowGranting row (changed (of_app.OfAttempt (of_attempt.Grant container)) row)
granting_one container row = record { state = refl; current = by row.current }
  where
    by : (o : Option Current) → CurrentGranting o (current_after (of_app.OfAttempt (of_attempt.Grant container)) o)
    by None = refl
    by (Some current) = granting container current

granting_then : (a b c : AppRow) → RowGranting a b → RowGranting b c → RowGranting a c
granting_then a b c one two = record { state = two.state ∙ one.state; current = by a.current b.current c.current one.current two.current }
  where
    state : (a b c : Current) → Granting a b → Granting b c → (c.state ≡ a.state) ⊎ ((a.state ≡ attempts.Scheduled) × (c.state ≡ attempts.Granted))
    state a b c one two = with_both one.state two.state
      where
        with_both : (b.state ≡ a.state) ⊎ ((a.state ≡ attempts.Scheduled) × (b.state ≡ attempts.Granted)) → (c.state ≡ b.state) ⊎ ((b.state ≡ attempts.Scheduled) × (c.state ≡ attempts.Granted)) → (c.state ≡ a.state) ⊎ ((a.state ≡ attempts.Scheduled) × (c.state ≡ attempts.Granted))
        with_both (inl x) (inl y) = inl (y ∙ x)
        with_both (inl x) (inr y) = inr (sym x ∙ y.0, y.1)
        with_both (inr x) (inl y) = inr (x.0, y ∙ x.1)
        with_both (inr x) (inr y) = inr (x.0, y.1)

    by : (a b c : Option Current) → CurrentGranting a b → CurrentGranting b c → CurrentGranting a c
    by None None c x y = y
    by None (Some b) c x y = cc
    by (Some a) None c x y = absurd x
    by (Some a) (Some b) None x y = absurd y
    by (Some a) (Some b) (Some c) x y = record { number = y.number ∙ x.number; state = state a b c x y }

-- each row is one that was there, with what was granted
abbrev RowsGranting : List (AppId × Option AppRow) → List (AppId × Option AppRow) → Type 0
RowsGranting rows next = (q : AppId) (now : AppRow) → row_of next q ≡ Some now → (was : AppRow) × (row_of rows q ≡ Some was) × RowGranting was now

one_granting : (container : ContainerId) (id : AppId) (rows : List (AppId × Option AppRow)) → RowsGranting rows (with_row (changed (of_app.OfAttempt (of_attempt.Grant container))) id rows)
one_granting container id rows q now found = by (is_app id q) (row_of rows q) refl (sym (row_changed (changed (of_app.OfAttempt (of_attempt.Grant container))) id q rows) ∙ found)
  where
    by : (b : Bool) (o : Option AppRow) → row_of rows q ≡ o → changed_if b (changed (of_app.OfAttempt (of_attempt.Grant container))) o ≡ Some now → (was : AppRow) × (row_of rows q ≡ Some was) × RowGranting was now
    by true None there e = cc
    by true (Some was) there e = let after : changed (of_app.OfAttempt (of_attempt.Grant container)) was ≡ now = cc in (was, there, subst (RowGranting was) after (granting_one container was))
    by false o there e = (now, there ∙ e, granting_stays now)

all_granting : (grants : List Grant) (rows : List (AppId × Option AppRow)) → RowsGranting rows (fold rows_after_grant rows grants)
all_granting [] rows q now found = (now, found, granting_stays now)
all_granting (grant ∷ grants) rows q now found =
    let b = all_granting grants (rows_after_grant rows grant) q now found in
    let a = one_granting grant.id grant.id.attempt.app rows q b.0 b.1 in
    (a.0, a.1, granting_then a.0 b.0 now a.2 b.2)

granted_goes : (grants : List Grant) (rows : List (AppId × Option AppRow)) → RowsFollowTables rows (fold rows_after_grant rows grants)
granted_goes grants rows q before now there then =
    let g = all_granting grants rows q now then in
    let same : g.0 ≡ before = (let x = sym g.1 ∙ there in cc) in
    by (subst (λ (was : AppRow). RowGranting was now) same g.2)
  where
    current : (a b : Option Current) → CurrentGranting a b → CurrentFollowsTable a b
    current None None x = refl
    current None (Some b) x = cc
    current (Some a) None x = absurd x
    current (Some a) (Some b) x = granting_goes a b x

    by : RowGranting before now → RowFollowsTables before now
    by g = record { state = inl g.state; current = current before.current now.current g.current }

-- EACH MOVE

-- one row that is found changes
at_goes : (f : AppRow → AppRow) (id : AppId) (rows : List (AppId × Option AppRow)) (row : AppRow) → row_of rows id ≡ Some row → RowFollowsTables row (f row) → RowsFollowTables rows (with_row f id rows)
at_goes f id rows row found goes q before now there then = by (is_app id q) refl (sym (ap (changed_if (is_app id q) f) there) ∙ sym (row_changed f id q rows) ∙ then)
  where
    by : (b : Bool) → is_app id q ≡ b → changed_if b f (Some before) ≡ Some now → RowFollowsTables before now
    by true e x =
        let own : row_of rows id ≡ Some before = ap (row_of rows) (same_app id q e) ∙ there in
        let same : row ≡ before = (let y = sym found ∙ own in cc) in
        let next : f before ≡ now = cc in
        subst (RowFollowsTables before) next (subst (λ (one : AppRow). RowFollowsTables one (f one)) same goes)
    by false e x = let same : before ≡ now = cc in subst (RowFollowsTables before) same (row_stays before)

going_active : (s : AppState) → is_active s ≡ true → is_active s ≡ true
going_active s e = grind arith

-- the first event of the main queue of an open life
module _ (settings : Settings) (h : History) (t : Tables) (k : AppsInvariant settings h t) where
  abbrev GoesOn : Entry × Tables → Type 0
  GoesOn done = RowsFollowTables t.rows (main_worked done).1.rows

  any_goes : (change : RowChange) → schedules_none change ≡ true → (id : AppId) → RowsFollowTables t.rows (with_row (changed change) id t.rows)
  any_goes change e id = one_goes (changed change) id t.rows (changed_goes change e)

  -- an application that is submitted has no attempt; the last one of an active application, where it has ended, has the number of the kept ones
  none_submitted : (id : AppId) (row : AppRow) → row_of t.rows id ≡ Some row → row.state ≡ apps.Submitted → row.current ≡ None
  none_submitted id row found st =
      let good : RowInvariant settings (at id) (Some row) (view h t (at id)) = rw found at (k.all (at id)) in
      let says = subst (λ (s : AppState). StateInvariant settings (at id) s row (view h t (at id))) st good.1 in
      says.3

  last_ended : (id : AppId) (row : AppRow) (current : Current) → row_of t.rows id ≡ Some row → row.current ≡ Some current → is_active row.state ≡ true → current.state ≡ attempts.Ended → current.number ≡ length (attempts_in (found_in t id))
  last_ended id row current found is going st =
      let good : RowInvariant settings (at id) (Some row) (view h t (at id)) = rw found at (k.all (at id)) in
      let active = active_row settings (at id) row (view h t (at id)) (going_active row.state going) good in
      let says : ActiveInvariant settings (at id) (Some current) row.wish (view h t (at id)) = rw is at active.current in
      let own : CurrentInvariant settings attempts.Ended (record { app = id; number = current.number }) row.wish (view h t (at id)) = rw st at says.0 in
      own.1

  outcome_goes : (done : Entry × Tables) → Outcome t done → GoesOn done
  outcome_goes done (saves id row submission rest found waits front) = any_goes of_app.Issue refl id
  outcome_goes done (accepts id row found st) =
      let alone = none_submitted id row found st in
      at_goes (changed (of_app.Schedule 1)) id t.rows row found (scheduled_goes 1 row None alone tt)
  outcome_goes done (ends id row how text found stopped is) = any_goes of_app.End refl id
  outcome_goes done (kills id row current at_ number alive going) = any_goes of_app.Kill refl id.app
  outcome_goes done (delays id row current at_ waits going) = any_goes of_app.Kill refl id
  outcome_goes done (issues container node row current at_ st number mine place) = any_goes (of_app.OfAttempt of_attempt.Issue) refl container.attempt.app
  outcome_goes done (requeues container row current behind at_ st number mine place at_front) = any_goes (of_app.OfAttempt of_attempt.Requeue) refl container.attempt.app
  outcome_goes done (ends_one id row current how text at_ number alive is) = any_goes (of_app.OfAttempt (of_attempt.End how)) refl id.app
  outcome_goes done (loses container row current at_ st number mine) = any_goes (of_app.OfAttempt of_attempt.Lose) refl container.attempt.app
  outcome_goes done (follows id row current at_ going st decided) =
      at_goes (changed (of_app.Schedule (next_in t id).number)) id t.rows row at_.found
      (scheduled_goes (next_in t id).number row (Some current) at_.is (st, ap (λ (n : ℕ). n + 1) (sym (last_ended id row current at_.found at_.is going st))))
  outcome_goes done _ = rows_stay t.rows

-- the first event of the main queue, in whichever phase
pub main_goes : (h : History) (t : Tables) (e : MainEvent) (rest : List MainEvent) → LifePhase h t → t.main ≡ e ∷ rest → RowsFollowTables t.rows (main_worked (main_step e t)).1.rows
main_goes h t e rest (none n) front = absurd (let x = sym n.main ∙ front in cc)
main_goes h t e rest (starting s) front =
    let same : mains.EpochStart ≡ e = (let x = sym s.main ∙ front in cc) in
    subst (λ (e : MainEvent). RowsFollowTables t.rows (main_worked (main_step e t)).1.rows) same (rows_stay t.rows)
main_goes h t e rest (saving s) front = absurd (let x = sym s.main ∙ front in cc)
main_goes h t e rest (shut s) front = absurd (let x = sym s.main ∙ front in cc)
main_goes h t e rest (running r) front = by e front
  where
    by : (e : MainEvent) → t.main ≡ e ∷ rest → RowsFollowTables t.rows (main_worked (main_step e t)).1.rows
    by mains.EpochStart front = rows_stay t.rows
    by e front = outcome_goes t.settings h t r.whole.keeps (main_step e t) (main_outcome t e rest front (λ x. cc))

-- of the scheduler's
pub sched_goes : (t : Tables) (e : SchedEvent) (list : List ContainerId) → RowsFollowTables t.rows (sched_worked (sched_step e list t)).1.rows
sched_goes t e list = by (sched_step e list t).1.rows (sched_shape t list e).rows
  where
    by : (next : List (AppId × Option AppRow)) → RowsAfter t.rows next → RowsFollowTables t.rows next
    by next RowsAfter.same = rows_stay t.rows
    by next (RowsAfter.closed_so closings) = told_goes closings t.rows
    by next (RowsAfter.granted_so grants) = granted_goes grants t.rows

-- an operation is kept
pub kept_goes : (op : Op) (t : Tables) → RowsFollowTables t.rows (kept op t).rows
kept_goes (ops.Epoch next stamp) t = rows_stay t.rows
kept_goes (ops.App id s) t = one_goes (changed of_app.Keep) id t.rows (changed_goes of_app.Keep refl)
kept_goes (ops.Attempt id master node) t = one_goes (changed (of_app.OfAttempt of_attempt.Keep)) id.app t.rows (changed_goes (of_app.OfAttempt of_attempt.Keep) refl)
kept_goes (ops.AttemptEnd id how text) t = one_goes (changed (of_app.OfAttempt (of_attempt.KeepEnd how))) id.app t.rows (changed_goes (of_app.OfAttempt (of_attempt.KeepEnd how)) refl)
kept_goes (ops.AppEnd id how text) t = one_goes (changed (of_app.KeepEnd how)) id t.rows (changed_goes (of_app.KeepEnd how) refl)
kept_goes (ops.Remove id) t = λ q before now there then. by q before now (is_app id q) (sym (ap (gone_if (is_app id q)) there) ∙ sym (row_gone id q t.rows) ∙ then)
  where
    by : (q : AppId) (before now : AppRow) (b : Bool) → gone_if b (Some before) ≡ Some now → RowFollowsTables before now
    by q before now true e = cc
    by q before now false e = let same : before ≡ now = cc in subst (RowFollowsTables before) same (row_stays before)

-- MESSAGES

-- what a service does to a row goes as the change that it makes, and only the dialogue and the endings to tell differ
talked_goes : (row now other : AppRow) → RowFollowsTables row now → other.state ≡ now.state → other.current ≡ now.current → RowFollowsTables row other
talked_goes row now other goes state current = record { state = subst (AppFollowsTable row.state) (sym state) goes.state; current = subst (CurrentFollowsTable row.current) (sym current) goes.current }

-- a row is put behind the others
there_still : (id : AppId) (row : AppRow) (rows : List (AppId × Option AppRow)) (q : AppId) (before : AppRow) → row_of rows q ≡ Some before → row_of (rows ++ (id, Some row) ∷ []) q ≡ Some before
there_still id row [] q before there = cc
there_still id row (one ∷ rows) q before there = by (is_app q one.0) refl (there_still id row rows q before)
  where
    by : (b : Bool) → is_app q one.0 ≡ b → (row_of rows q ≡ Some before → row_of (rows ++ (id, Some row) ∷ []) q ≡ Some before) → row_of ((one ∷ rows) ++ (id, Some row) ∷ []) q ≡ Some before
    by true e rest = rw e (rw e at there)
    by false e rest = rw e (rest (rw e at there))

more_goes : (id : AppId) (row : AppRow) (rows : List (AppId × Option AppRow)) → RowsFollowTables rows (rows ++ (id, Some row) ∷ [])
more_goes id row rows q before now there then = let same : before ≡ now = (let x = sym (there_still id row rows q before there) ∙ then in cc) in subst (RowFollowsTables before) same (row_stays before)

module _ (t : Tables) where
  still : RowsFollowTables t.rows t.rows
  still = rows_stay t.rows

  message_goes : (message : Message) (reply : Reply) → RowsFollowTables t.rows (after_message message reply t).rows
  message_goes message reply = by message reply (after_message message reply t) (message_outcome t message reply)
    where
      by : (message : Message) (reply : Reply) (next : Tables) → MessageOutcome t message reply next → RowsFollowTables t.rows next.rows
      by message reply next (comes.joins user id submission found) = more_goes id (submitted_row submission) t.rows
      by message reply next (comes.wishes user id row found new) = one_goes (changed of_app.Wish) id t.rows (changed_goes of_app.Wish refl)
      by message reply next (comes.registers attempt answer so) =
          one_goes (registered_row (dialogue_begun answer t.book.added)) attempt.app t.rows (λ row. talked_goes row (changed of_app.Register row) (registered_row (dialogue_begun answer t.book.added) row) (changed_goes of_app.Register refl row) refl refl)
      by message reply next (comes.finishes attempt text goes) =
          one_goes (said_row (with_text text)) attempt.app t.rows (λ row. talked_goes row (changed (of_app.OfAttempt of_attempt.Finish) row) (said_row (with_text text) row) (changed_goes (of_app.OfAttempt of_attempt.Finish) refl row) refl refl)
      by message reply next (comes.allocates attempt id asks release answer so new) =
          one_goes (told_row (with_answer (id + 1) answer t.book.added) (without_closings attempt)) attempt.app t.rows
          (λ row. talked_goes row row (told_row (with_answer (id + 1) answer t.book.added) (without_closings attempt) row) (row_stays row) refl refl)
      by message reply next _ = still

  pub client_goes : (ask : ClientAsk) (reply : Reply) → RowsFollowTables t.rows (after_client ask reply t).rows
  client_goes ask reply = message_goes (messages.Client [] ask) reply

  pub master_goes : (attempt : AttemptId) (ask : MasterAsk) (reply : Reply) → RowsFollowTables t.rows (after_master attempt ask reply t).rows
  master_goes attempt ask reply = message_goes (messages.Master attempt ask) reply

  pub node_goes : (name : List ℕ) (ask : NodeAsk) (reply : Reply) → RowsFollowTables t.rows (after_node name ask reply t).rows
  node_goes name ask reply = message_goes (messages.Node name ask) reply

  pub clock_goes : (ask : ClockAsk) (reply : Reply) → RowsFollowTables t.rows (after_clock ask reply t).rows
  clock_goes ask reply = message_goes (messages.Clock ask) reply
