-- What a row of an application weighs at most, and how that changes with what happens to it.
use Rattle.rm_invariant.proofs.Common.{◌⊎◌, inl, inr, ◌≡◌, ◌≤◌, ℕ, ◌+◌, ◌*◌, ◌-◌, true, Option, None, Some, refl, arith, ContainerId, How, AppState, next_app_state, is_alive, AttemptState, AppRow, Current, after_failure, changed, current_after, granted, granted_at, killed_state}
use Rattle.rm_types.specs.declared.operations.How.TheVariants as ways
use Rattle.rm_states.specs.declared.app.states.AppState.TheVariants as apps
use Rattle.rm_states.specs.declared.app.states.AppEvent.TheVariants as app_events
use Rattle.rm_states.specs.declared.attempt.states.AttemptEvent.TheVariants as attempt_events
use Rattle.rm_states.specs.attempt.Table.{next_attempt_state as next_attempt_state}
use Rattle.rm_states.specs.declared.attempt.states.AttemptState.TheVariants as attempts
use Rattle.rm_tables.specs.declared.changes.AttemptChange.TheVariants as of_attempt
use Rattle.rm_tables.specs.declared.changes.RowChange.TheVariants as of_app
use Rattle.rm_tables.specs.Changes.{dropped_state}
use Rattle.rm_invariant.specs.events.Outcomes.{is_past_grant}
use Rattle.rm_invariant.specs.apps.Invariant.{is_active}
use Rattle.rm_invariant.specs.measure.Measure.{app_end_measure, app_measure, attempt_end_measure, attempt_op_measure, attempt_measure, current_measure, next_measure, current_number, row_measure, untried_measure}

-- the most that an application, an attempt and a row weigh
pub app_most : (most : ℕ) (s : AppState) (number : ℕ) → app_measure most s number ≤ untried_measure most
app_most most s number = grind arith

pub attempt_most : (s : AttemptState) → attempt_measure s ≤ attempt_op_measure
attempt_most s = grind arith

pub current_most : (c : Option Current) → current_measure c ≤ attempt_op_measure
current_most None = omega arith
current_most (Some current) = attempt_most current.state

pub row_most : (most : ℕ) (row : AppRow) → row_measure most row ≤ untried_measure most + attempt_op_measure
row_most most row = omega (arith, app_most most row.state (current_number row.current), current_most row.current)

-- an application that goes on, by the number of its current attempt
pub going_weighs : (most : ℕ) (s : AppState) (number : ℕ) → is_active s ≡ true → app_measure most s number ≡ app_end_measure + next_measure * (most - number)
going_weighs most s number g = grind arith

-- an attempt that lives weighs its end
pub alive_weighs : (s : AttemptState) → is_alive s ≡ true → attempt_measure s ≡ attempt_end_measure
alive_weighs s a = grind arith

-- one that lives ends where its application is killed, and one that is being saved, ends or has ended stays as it is
pub killed_weighs : (s : AttemptState) → is_alive s ≡ true → attempt_measure (killed_state s) ≡ 0
killed_weighs s a = grind arith

pub waiting_weighs : (s : AttemptState) → is_past_grant s ≡ true → attempt_measure (killed_state s) ≡ attempt_measure s
waiting_weighs s a = grind arith

dropped_weighs : (s : AttemptState) → attempt_measure (dropped_state s) ≤ attempt_measure s
dropped_weighs s = grind arith

-- a grant is nothing to what is left of an attempt
pub grant_weighs : (container : ContainerId) (current : Current) → attempt_measure (granted container current).state ≡ attempt_measure current.state
grant_weighs container current = by current.state refl
  where
    by : (s : AttemptState) → current.state ≡ s → attempt_measure (granted_at s container current).state ≡ attempt_measure current.state
    by attempts.Scheduled e = rw e refl
    by _ e = refl

grant_numbers : (container : ContainerId) (current : Current) → (granted container current).number ≡ current.number
grant_numbers container current = by current.state
  where
    by : (s : AttemptState) → (granted_at s container current).number ≡ current.number
    by s = grind arith

-- what an event does to what an application weighs
module _ (most number : ℕ) (s : AppState) where
  kept_weighs : app_measure most (next_app_state s app_events.Kept) number ≤ app_measure most s number + untried_measure most
  kept_weighs = grind arith

  started_weighs : app_measure most (next_app_state s app_events.Start) number ≤ app_measure most s number
  started_weighs = grind arith

  ended_weighs : app_end_measure ≤ app_measure most s number → app_measure most (next_app_state s app_events.End) number ≡ 0
  ended_weighs some = grind arith

  end_kept_weighs : (how : How) → app_measure most (next_app_state s (app_events.EndKept how)) number ≤ app_measure most s number
  end_kept_weighs how = grind arith

  accepted_weighs : (s ≡ apps.Submitted) ⊎ (is_active s ≡ true) → (next : ℕ) → app_measure most (next_app_state s app_events.Accept) next ≡ app_end_measure + next_measure * (most - next)
  accepted_weighs (inl e) next = rw e refl
  accepted_weighs (inr g) next = grind arith

  pub kill_weighs : is_active s ≡ true → app_measure most (next_app_state s app_events.Kill) number ≡ app_end_measure + next_measure * (most - number)
  kill_weighs g = grind arith

-- and to what an attempt weighs
pub finish_weighs : (s : AttemptState) → attempt_measure (next_attempt_state s attempt_events.Finish) ≡ attempt_measure s
finish_weighs s = grind arith

live_weighs : (s : AttemptState) → attempt_measure (next_attempt_state s attempt_events.Kept) ≤ attempt_measure s + attempt_end_measure
live_weighs s = grind arith

over_weighs : (s : AttemptState) → attempt_measure (next_attempt_state s attempt_events.EndKept) ≤ attempt_measure s
over_weighs s = grind arith

module _ (most : ℕ) (row : AppRow) where
  -- an application is saved
  pub saved_rises : row_measure most (changed of_app.Keep row) ≤ row_measure most row + untried_measure most
  saved_rises = by row.current
    where
      by : (c : Option Current) → app_measure most (next_app_state row.state app_events.Kept) (current_number (current_after of_app.Keep c)) + current_measure (current_after of_app.Keep c)
          ≤ app_measure most row.state (current_number c) + current_measure c + untried_measure most
      by None = omega (arith, kept_weighs most 0 row.state)
      by (Some current) = omega (arith, kept_weighs most current.number row.state)

  -- its App is issued
  pub issued_falls : row_measure most (changed of_app.Issue row) ≤ row_measure most row
  issued_falls = by row.current
    where
      by : (c : Option Current) → app_measure most (next_app_state row.state app_events.Start) (current_number (current_after of_app.Issue c)) + current_measure (current_after of_app.Issue c)
          ≤ app_measure most row.state (current_number c) + current_measure c
      by None = omega (arith, started_weighs most 0 row.state)
      by (Some current) = omega (arith, started_weighs most current.number row.state)

  -- a client wishes to kill it
  pub wished_same : row_measure most (changed of_app.Wish row) ≡ row_measure most row
  wished_same = by row.current
    where
      by : (c : Option Current) → app_measure most row.state (current_number (current_after of_app.Wish c)) + current_measure (current_after of_app.Wish c) ≡ app_measure most row.state (current_number c) + current_measure c
      by None = refl
      by (Some current) = refl

  -- its end is issued
  pub end_falls : app_end_measure ≤ app_measure most row.state (current_number row.current) → row_measure most (changed of_app.End row) ≤ current_measure row.current
  end_falls some = by row.current some
    where
      by : (c : Option Current) → app_end_measure ≤ app_measure most row.state (current_number c)
          → app_measure most (next_app_state row.state app_events.End) (current_number (current_after of_app.End c)) + current_measure (current_after of_app.End c) ≤ current_measure c
      by None some = omega (arith, ended_weighs most 0 row.state some)
      by (Some current) some = omega (arith, ended_weighs most current.number row.state some, dropped_weighs current.state)

  -- its end is kept
  pub end_kept_falls : (how : How) → row_measure most (changed (of_app.KeepEnd how) row) ≤ row_measure most row
  end_kept_falls how = by row.current
    where
      by : (c : Option Current) → app_measure most (next_app_state row.state (app_events.EndKept how)) (current_number (current_after (of_app.KeepEnd how) c)) + current_measure (current_after (of_app.KeepEnd how) c)
          ≤ app_measure most row.state (current_number c) + current_measure c
      by None = omega (arith, end_kept_weighs most 0 row.state how)
      by (Some current) = omega (arith, end_kept_weighs most current.number row.state how)

  -- an attempt is scheduled
  pub scheduled_weighs : (row.state ≡ apps.Submitted) ⊎ (is_active row.state ≡ true) → (number : ℕ)
      → row_measure most (changed (of_app.Schedule number) row) ≡ (app_end_measure + next_measure * (most - number)) + attempt_op_measure
  scheduled_weighs starts number = by row.current
    where
      by : (c : Option Current) → app_measure most (next_app_state row.state app_events.Accept) (current_number (current_after (of_app.Schedule number) c)) + current_measure (current_after (of_app.Schedule number) c)
          ≡ (app_end_measure + next_measure * (most - number)) + attempt_op_measure
      by None = rw (accepted_weighs most 0 row.state starts number) refl
      by (Some current) = rw (accepted_weighs most 0 row.state starts number) refl

  -- its attempt is kept, which lives
  pub attempt_rises : row_measure most (changed (of_app.OfAttempt of_attempt.Keep) row) ≤ row_measure most row + attempt_end_measure
  attempt_rises = by row.current
    where
      by : (c : Option Current) → app_measure most row.state (current_number (current_after (of_app.OfAttempt of_attempt.Keep) c)) + current_measure (current_after (of_app.OfAttempt of_attempt.Keep) c)
          ≤ app_measure most row.state (current_number c) + current_measure c + attempt_end_measure
      by None = omega arith
      by (Some current) = omega (arith, live_weighs current.state)

  -- the end of its attempt is kept
  pub attempt_end_falls : (how : How) → row_measure most (changed (of_app.OfAttempt (of_attempt.KeepEnd how)) row) ≤ row_measure most row
  attempt_end_falls how = by row.current
    where
      state : (how : How) (s : AppState) (number : ℕ) → app_measure most (after_failure how s) number ≡ app_measure most s number
      state ways.Finished s number = refl
      state ways.Killed s number = refl
      state ways.Failed apps.New number = refl
      state ways.Failed apps.NewSaving number = refl
      state ways.Failed apps.Submitted number = refl
      state ways.Failed apps.Accepted number = refl
      state ways.Failed apps.Running number = refl
      state ways.Failed apps.Killing number = refl
      state ways.Failed apps.FinalSaving number = refl
      state ways.Failed apps.Finished number = refl
      state ways.Failed apps.Failed number = refl
      state ways.Failed apps.Killed number = refl

      by : (c : Option Current) → app_measure most (after_failure how row.state) (current_number (current_after (of_app.OfAttempt (of_attempt.KeepEnd how)) c)) + current_measure (current_after (of_app.OfAttempt (of_attempt.KeepEnd how)) c)
          ≤ app_measure most row.state (current_number c) + current_measure c
      by None = omega (arith, state how row.state 0)
      by (Some current) = omega (arith, state how row.state current.number, over_weighs current.state)

  -- a container is granted to its attempt
  pub granted_same : (container : ContainerId) → row_measure most (changed (of_app.OfAttempt (of_attempt.Grant container)) row) ≡ row_measure most row
  granted_same container = by row.current
    where
      by : (c : Option Current) → app_measure most row.state (current_number (current_after (of_app.OfAttempt (of_attempt.Grant container)) c)) + current_measure (current_after (of_app.OfAttempt (of_attempt.Grant container)) c)
          ≡ app_measure most row.state (current_number c) + current_measure c
      by None = refl
      by (Some current) = rw (grant_numbers container current, grant_weighs container current) refl
