-- How the row of an application changes, for each thing that happens to it. The states are those of the tables of transitions of
-- applications and attempts.
use Rattle.std.specs.Prelude.{ℕ, Bool, true, false, Option, None, Some}
use Rattle.rm_types.specs.declared.ids.ContainerId.{ContainerId}
use Rattle.rm_types.specs.declared.operations.How.{How}
use Rattle.rm_types.specs.declared.operations.How.TheVariants as ways
use Rattle.rm_types.specs.declared.operations.Submission.{Submission}
use Rattle.rm_states.specs.declared.app.states.AppState.{AppState}
use Rattle.rm_states.specs.declared.app.states.AppEvent.TheVariants as app_events
use Rattle.rm_states.specs.app.Table.{next_app_state}
use Rattle.rm_types.specs.Records.{is_finished}
use Rattle.rm_states.specs.declared.attempt.states.AttemptState.{AttemptState}
use Rattle.rm_states.specs.declared.attempt.states.AttemptState.TheVariants as attempts
use Rattle.rm_states.specs.declared.attempt.states.AttemptEvent.TheVariants as attempt_events
use Rattle.rm_states.specs.attempt.Table.{next_attempt_state as next_attempt_state}
use Rattle.rm_tables.specs.declared.rows.AppRow.{AppRow}
use Rattle.rm_tables.specs.declared.rows.Current.{Current}
use Rattle.rm_tables.specs.declared.rows.Dialogue.{Dialogue}
use Rattle.rm_tables.specs.declared.changes.RowChange.{RowChange}
use Rattle.rm_tables.specs.declared.changes.RowChange.TheVariants.{Issue, Keep, Wish, Kill, Schedule, Register, End, KeepEnd, OfAttempt}
use Rattle.rm_tables.specs.declared.changes.AttemptChange.{AttemptChange}
use Rattle.rm_tables.specs.declared.changes.AttemptChange.TheVariants as of_attempt

-- the state of an application after the kept end of its attempt: a failure is an event of it
abbrev pub after_failure : How → AppState → AppState
after_failure ways.Failed state = next_app_state state app_events.Failed
after_failure _ state = state

-- the state of an application after something happened to its current attempt
abbrev pub state_with : AttemptChange → AppState → AppState
state_with (of_attempt.KeepEnd how) state = after_failure how state
state_with _ state = state

-- the state of an application after a change: where the row of the change's event leads, if there is one
abbrev pub changed_state : RowChange → AppState → AppState
changed_state Issue state = next_app_state state app_events.Start
changed_state Keep state = next_app_state state app_events.Kept
changed_state Wish state = state
changed_state Kill state = next_app_state state app_events.Kill
changed_state (Schedule number) state = next_app_state state app_events.Accept
changed_state Register state = next_app_state state app_events.Register
changed_state End state = next_app_state state app_events.End
changed_state (KeepEnd how) state = next_app_state state (app_events.EndKept how)
changed_state (OfAttempt change) state = state_with change state

-- a wish to kill it stays until its life is over
abbrev pub wish_after : RowChange → Bool → Bool
wish_after Wish wish = true
wish_after _ wish = wish

-- a submission waits until it is kept
abbrev pub pending_after : RowChange → Option Submission → Option Submission
pending_after Keep pending = None
pending_after _ pending = pending

-- an attempt of this number that waits for its master's container
abbrev pub scheduled : ℕ → Current
scheduled number =
    record { number = number; state = attempts.Scheduled; master = None; registered = false; lost = false; granted = 0; finished = false }

-- an attempt after a grant: of its master's container, where it waits for that one
abbrev pub granted_at : AttemptState → ContainerId → Current → Current
granted_at attempts.Scheduled container current =
    record current { state = next_attempt_state attempts.Scheduled attempt_events.Grant; master = Some container; lost = false; granted = container.seq }
granted_at _ container current = record current { granted = container.seq }

-- the current attempt after a grant, by its state
abbrev pub granted : ContainerId → Current → Current
granted container current = granted_at current.state container current

-- an attempt after something happened to it
abbrev pub attempt_after : AttemptChange → Current → Current
attempt_after (of_attempt.Grant container) current = granted container current
attempt_after of_attempt.Requeue current =
    record (scheduled current.number) { state = next_attempt_state current.state attempt_events.Requeue; granted = current.granted }
attempt_after of_attempt.Issue current = record current { state = next_attempt_state current.state attempt_events.Issue; lost = false }
attempt_after of_attempt.Lose current = record current { lost = true }
attempt_after of_attempt.Keep current = record current { state = next_attempt_state current.state attempt_events.Kept }
attempt_after of_attempt.Finish current = record current { state = next_attempt_state current.state attempt_events.Finish }
attempt_after (of_attempt.End how) current = record current { state = next_attempt_state current.state attempt_events.End; finished = is_finished how }
attempt_after (of_attempt.KeepEnd how) current = record current { state = next_attempt_state current.state attempt_events.EndKept }

-- an attempt whose application ends: dropped where it isn't issued
abbrev pub dropped_state : AttemptState → AttemptState
dropped_state state = next_attempt_state state attempt_events.Drop

-- an attempt whose application is killed: its end is issued where it lives
abbrev pub killed_state : AttemptState → AttemptState
killed_state state = next_attempt_state state attempt_events.End

-- the current attempt after a change, where there is one
abbrev pub current_with : RowChange → Current → Current
current_with Register current = record current { state = next_attempt_state current.state attempt_events.Register; registered = true }
current_with Kill current = record current { state = killed_state current.state }
current_with End current = record current { state = dropped_state current.state }
current_with (OfAttempt change) current = attempt_after change current
current_with _ current = current

-- the current attempt after a change
abbrev pub current_after : RowChange → Option Current → Option Current
current_after (Schedule number) current = Some (scheduled number)
current_after change None = None
current_after change (Some current) = Some (current_with change current)

-- the dialogue with the master after a change: the next attempt has one of its own
abbrev pub dialogue_after : RowChange → Option Dialogue → Option Dialogue
dialogue_after (Schedule number) dialogue = None
dialogue_after _ dialogue = dialogue

-- the row after a change
abbrev pub changed : RowChange → AppRow → AppRow
changed change row =
    record {
      state = changed_state change row.state;
      wish = wish_after change row.wish;
      pending = pending_after change row.pending;
      current = current_after change row.current;
      first = row.first;
      dialogue = dialogue_after change row.dialogue;
      closings = row.closings;
    }
