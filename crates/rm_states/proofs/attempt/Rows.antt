-- Rows of the table, one by one.
use Rattle.std.proofs.Common.{◌≡◌, ◌⊎◌, inl, inr, Option, Some, refl, ap, ◌∙◌, sym}
use Rattle.rm_states.specs.declared.attempt.states.AttemptState.{AttemptState}
use Rattle.rm_states.specs.declared.attempt.states.AttemptState.TheVariants.{Scheduled, Granted, Saving, Live, Registered, Finishing, Ending, Ended, Dropped}
use Rattle.rm_states.specs.declared.attempt.states.AttemptEvent.{AttemptEvent}
use Rattle.rm_states.specs.declared.attempt.states.AttemptEvent.TheVariants.{Grant, Requeue, Issue, Kept, Register, Finish, End, EndKept, Drop}
use Rattle.rm_states.specs.declared.attempt.states.AttemptAction.{AttemptAction}
use Rattle.rm_states.specs.declared.attempt.states.AttemptAction.TheVariants.{PostGranted, PostAdded, IssueAttempt, PostSaved, PostFinish, IssueEnd, PostDone, Nothing}
use Rattle.rm_states.specs.attempt.Table.{AttemptTransition, IsFinalAttempt, attempt_transition, next_attempt_state}
use Rattle.rm_states.specs.attempt.Laws.{AttemptRowsAreOne}

transition_of_row : {state : AttemptState} {event : AttemptEvent} {next : AttemptState} {action : AttemptAction} → AttemptTransition state event next action → attempt_transition state event ≡ Some (next, action)
transition_of_row AttemptTransition.grant = refl
transition_of_row AttemptTransition.requeue = refl
transition_of_row AttemptTransition.issue = refl
transition_of_row AttemptTransition.kept = refl
transition_of_row AttemptTransition.register = refl
transition_of_row AttemptTransition.finish = refl
transition_of_row AttemptTransition.end_live = refl
transition_of_row AttemptTransition.end_registered = refl
transition_of_row AttemptTransition.end_finishing = refl
transition_of_row AttemptTransition.end_kept = refl
transition_of_row AttemptTransition.drop_scheduled = refl
transition_of_row AttemptTransition.drop_granted = refl

pub rows_are_one : AttemptRowsAreOne
rows_are_one state event next other action another one two =
    let same : ◌≡◌ {A = Option (AttemptState × AttemptAction)} (Some (next, action)) (Some (other, another)) = sym (transition_of_row one) ∙ transition_of_row two in
    let both : ◌≡◌ {A = AttemptState × AttemptAction} (next, action) (other, another) = cc in
    (ap (λ (pair : AttemptState × AttemptAction). pair.0) both, ap (λ (pair : AttemptState × AttemptAction). pair.1) both)

-- a row leads from each state but 2
pub some_row : (state : AttemptState) → ¬ (state ≡ Ended) → ¬ (state ≡ Dropped) → ¬ IsFinalAttempt state
some_row Scheduled a b final = final Grant Granted PostGranted AttemptTransition.grant
some_row Granted a b final = final Requeue Scheduled PostAdded AttemptTransition.requeue
some_row Saving a b final = final Kept Live PostSaved AttemptTransition.kept
some_row Live a b final = final Register Registered Nothing AttemptTransition.register
some_row Registered a b final = final Finish Finishing PostFinish AttemptTransition.finish
some_row Finishing a b final = final End Ending IssueEnd AttemptTransition.end_finishing
some_row Ending a b final = final EndKept Ended PostDone AttemptTransition.end_kept
some_row Ended a b final = a refl
some_row Dropped a b final = b refl

-- a row leads to the state after its event
pub row_leads : {state : AttemptState} {event : AttemptEvent} {next : AttemptState} {action : AttemptAction} → AttemptTransition state event next action → next_attempt_state state event ≡ next
row_leads row = rw (transition_of_row row) refl

-- where there is no row the state stays
pub stays_without_row : (state : AttemptState) (event : AttemptEvent) → ((next : AttemptState) (action : AttemptAction) → ¬ AttemptTransition state event next action) → next_attempt_state state event ≡ state
stays_without_row Scheduled Grant none = absurd (none Granted PostGranted AttemptTransition.grant)
stays_without_row Granted Requeue none = absurd (none Scheduled PostAdded AttemptTransition.requeue)
stays_without_row Granted Issue none = absurd (none Saving IssueAttempt AttemptTransition.issue)
stays_without_row Saving Kept none = absurd (none Live PostSaved AttemptTransition.kept)
stays_without_row Live Register none = absurd (none Registered Nothing AttemptTransition.register)
stays_without_row Registered Finish none = absurd (none Finishing PostFinish AttemptTransition.finish)
stays_without_row Live End none = absurd (none Ending IssueEnd AttemptTransition.end_live)
stays_without_row Registered End none = absurd (none Ending IssueEnd AttemptTransition.end_registered)
stays_without_row Finishing End none = absurd (none Ending IssueEnd AttemptTransition.end_finishing)
stays_without_row Ending EndKept none = absurd (none Ended PostDone AttemptTransition.end_kept)
stays_without_row Scheduled Drop none = absurd (none Dropped Nothing AttemptTransition.drop_scheduled)
stays_without_row Granted Drop none = absurd (none Dropped Nothing AttemptTransition.drop_granted)
stays_without_row _ _ none = refl

-- a state stays by an event, or a row leads to where it goes
pub stays_or_row : (state : AttemptState) (event : AttemptEvent) → (next_attempt_state state event ≡ state) ⊎ ((by : AttemptEvent) × (action : AttemptAction) × AttemptTransition state by (next_attempt_state state event) action)
stays_or_row Scheduled Grant = inr (Grant, PostGranted, AttemptTransition.grant)
stays_or_row Granted Requeue = inr (Requeue, PostAdded, AttemptTransition.requeue)
stays_or_row Granted Issue = inr (Issue, IssueAttempt, AttemptTransition.issue)
stays_or_row Saving Kept = inr (Kept, PostSaved, AttemptTransition.kept)
stays_or_row Live Register = inr (Register, Nothing, AttemptTransition.register)
stays_or_row Registered Finish = inr (Finish, PostFinish, AttemptTransition.finish)
stays_or_row Live End = inr (End, IssueEnd, AttemptTransition.end_live)
stays_or_row Registered End = inr (End, IssueEnd, AttemptTransition.end_registered)
stays_or_row Finishing End = inr (End, IssueEnd, AttemptTransition.end_finishing)
stays_or_row Ending EndKept = inr (EndKept, PostDone, AttemptTransition.end_kept)
stays_or_row Scheduled Drop = inr (Drop, Nothing, AttemptTransition.drop_scheduled)
stays_or_row Granted Drop = inr (Drop, Nothing, AttemptTransition.drop_granted)
stays_or_row _ _ = inl refl
