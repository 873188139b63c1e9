-- The table of transitions of an attempt. This project's own, after the state machine of YARN's `RMAppAttemptImpl`.
use Rattle.std.specs.Prelude.{Bool, true, false, Option, Some, None}
use Rattle.rm_states.specs.declared.attempt.states.AttemptState.{AttemptState}
use Rattle.rm_states.specs.declared.attempt.states.AttemptState.TheVariants.{Scheduled, Granted, Saving, Live, Registered, Finishing, Ending, Ended, Dropped}
use Rattle.rm_states.specs.declared.attempt.states.AttemptEvent.{AttemptEvent}
use Rattle.rm_states.specs.declared.attempt.states.AttemptEvent.TheVariants.{Grant, Requeue, Issue, Kept, Register, Finish, End, EndKept, Drop}
use Rattle.rm_states.specs.declared.attempt.states.AttemptAction.{AttemptAction}
use Rattle.rm_states.specs.declared.attempt.states.AttemptAction.TheVariants.{PostGranted, PostAdded, IssueAttempt, PostSaved, PostFinish, IssueEnd, PostDone, Nothing}

-- a row of the table: in a state, at an event, the next state and what is then to be done; what has no row is ignored
pub data AttemptTransition : AttemptState → AttemptEvent → AttemptState → AttemptAction → Type 0 where
  grant : AttemptTransition Scheduled Grant Granted PostGranted
  requeue : AttemptTransition Granted Requeue Scheduled PostAdded
  issue : AttemptTransition Granted Issue Saving IssueAttempt
  kept : AttemptTransition Saving Kept Live PostSaved
  register : AttemptTransition Live Register Registered Nothing
  finish : AttemptTransition Registered Finish Finishing PostFinish
  end_live : AttemptTransition Live End Ending IssueEnd
  end_registered : AttemptTransition Registered End Ending IssueEnd
  end_finishing : AttemptTransition Finishing End Ending IssueEnd
  end_kept : AttemptTransition Ending EndKept Ended PostDone
  drop_scheduled : AttemptTransition Scheduled Drop Dropped Nothing
  drop_granted : AttemptTransition Granted Drop Dropped Nothing

-- no row leads from the state
abbrev pub IsFinalAttempt : AttemptState → Type 0
IsFinalAttempt state = (event : AttemptEvent) (next : AttemptState) (action : AttemptAction) → ¬ AttemptTransition state event next action

-- the transition that the table has for a state and an event, if it has one: the next state, and what is then to be done
abbrev pub attempt_transition : AttemptState → AttemptEvent → Option (AttemptState × AttemptAction)
attempt_transition Scheduled Grant = Some (Granted, PostGranted)
attempt_transition Granted Requeue = Some (Scheduled, PostAdded)
attempt_transition Granted Issue = Some (Saving, IssueAttempt)
attempt_transition Saving Kept = Some (Live, PostSaved)
attempt_transition Live Register = Some (Registered, Nothing)
attempt_transition Registered Finish = Some (Finishing, PostFinish)
attempt_transition Live End = Some (Ending, IssueEnd)
attempt_transition Registered End = Some (Ending, IssueEnd)
attempt_transition Finishing End = Some (Ending, IssueEnd)
attempt_transition Ending EndKept = Some (Ended, PostDone)
attempt_transition Scheduled Drop = Some (Dropped, Nothing)
attempt_transition Granted Drop = Some (Dropped, Nothing)
attempt_transition _ _ = None

-- the state that a transition leads to, and the one before where there is none
abbrev pub attempt_target : AttemptState → Option (AttemptState × AttemptAction) → AttemptState
attempt_target state None = state
attempt_target state (Some row) = row.0

-- the state after an event: where the transition of the two leads, if the table has one, and else the same, since an event that
-- has no row is ignored
abbrev pub next_attempt_state : AttemptState → AttemptEvent → AttemptState
next_attempt_state state event = attempt_target state (attempt_transition state event)

-- an attempt lives: the store has it, and its end isn't on the way to the store
abbrev pub is_alive : AttemptState → Bool
is_alive Scheduled = false
is_alive Granted = false
is_alive Saving = false
is_alive Live = true
is_alive Registered = true
is_alive Finishing = true
is_alive Ending = false
is_alive Ended = false
is_alive Dropped = false
