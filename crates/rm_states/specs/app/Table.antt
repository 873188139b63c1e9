-- The table of transitions of an application. This project's own, after the state machine of YARN's `RMAppImpl`.
use Rattle.std.specs.Prelude.{Option, Some, None}
use Rattle.rm_types.specs.declared.operations.How.{How}
use Rattle.rm_types.specs.declared.operations.How.TheVariants.{Finished as Well, Failed as Badly, Killed as ByKill}
use Rattle.rm_states.specs.declared.app.states.AppState.{AppState}
use Rattle.rm_states.specs.declared.app.states.AppState.TheVariants.{New, NewSaving, Submitted, Accepted, Running, Killing, FinalSaving, Finished, Failed, Killed}
use Rattle.rm_states.specs.declared.app.states.AppEvent.{AppEvent}
use Rattle.rm_states.specs.declared.app.states.AppEvent.TheVariants.{Start, Kept, Accept, Register, Failed as AttemptFailed, Kill, End, EndKept}
use Rattle.rm_states.specs.declared.app.states.AppAction.{AppAction}
use Rattle.rm_states.specs.declared.app.states.AppAction.TheVariants.{IssueApp, PostSaved, PostAttempt, IssueEnd, PostRetire, Nothing}

-- the state that an end leads to
abbrev pub end_state : How → AppState
end_state Well = Finished
end_state Badly = Failed
end_state ByKill = Killed

-- a row of the table: in a state, at an event, the next state and what is then to be done; what has no row is ignored
pub data AppTransition : AppState → AppEvent → AppState → AppAction → Type 0 where
  start : AppTransition New Start NewSaving IssueApp
  kept : AppTransition NewSaving Kept Submitted PostSaved
  accept : AppTransition Submitted Accept Accepted PostAttempt
  register : AppTransition Accepted Register Running Nothing
  attempt_failed : AppTransition Running AttemptFailed Accepted Nothing
  kill_accepted : AppTransition Accepted Kill Killing Nothing
  kill_running : AppTransition Running Kill Killing Nothing
  end_submitted : AppTransition Submitted End FinalSaving IssueEnd
  end_accepted : AppTransition Accepted End FinalSaving IssueEnd
  end_running : AppTransition Running End FinalSaving IssueEnd
  end_killing : AppTransition Killing End FinalSaving IssueEnd
  finished : AppTransition FinalSaving (EndKept Well) Finished PostRetire
  failed : AppTransition FinalSaving (EndKept Badly) Failed PostRetire
  killed : AppTransition FinalSaving (EndKept ByKill) Killed PostRetire

-- no row leads from the state
abbrev pub IsFinalApp : AppState → Type 0
IsFinalApp state = (event : AppEvent) (next : AppState) (action : AppAction) → ¬ AppTransition state event next action

-- the transition that the table has for a state and an event, if it has one: the next state, and what is then to be done
abbrev pub app_transition : AppState → AppEvent → Option (AppState × AppAction)
app_transition New Start = Some (NewSaving, IssueApp)
app_transition NewSaving Kept = Some (Submitted, PostSaved)
app_transition Submitted Accept = Some (Accepted, PostAttempt)
app_transition Submitted End = Some (FinalSaving, IssueEnd)
app_transition Accepted Register = Some (Running, Nothing)
app_transition Accepted Kill = Some (Killing, Nothing)
app_transition Accepted End = Some (FinalSaving, IssueEnd)
app_transition Running AttemptFailed = Some (Accepted, Nothing)
app_transition Running Kill = Some (Killing, Nothing)
app_transition Running End = Some (FinalSaving, IssueEnd)
app_transition Killing End = Some (FinalSaving, IssueEnd)
app_transition FinalSaving (EndKept Well) = Some (Finished, PostRetire)
app_transition FinalSaving (EndKept Badly) = Some (Failed, PostRetire)
app_transition FinalSaving (EndKept ByKill) = Some (Killed, PostRetire)
app_transition _ _ = None

-- the state that a transition leads to, and the one before where there is none
abbrev pub app_target : AppState → Option (AppState × AppAction) → AppState
app_target state None = state
app_target state (Some row) = row.0

-- the state after an event: where the transition of the two leads, if the table has one, and else the same, since an event that
-- has no row is ignored
abbrev pub next_app_state : AppState → AppEvent → AppState
next_app_state state event = app_target state (app_transition state event)
