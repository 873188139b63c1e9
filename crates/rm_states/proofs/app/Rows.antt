-- Rows of the table, one by one.
use Rattle.std.proofs.Common.{◌≡◌, ◌⊎◌, inl, inr, Option, Some, refl, ap, ◌∙◌, sym}
use Rattle.rm_types.specs.declared.operations.How.{How}
use Rattle.rm_types.specs.declared.operations.How.TheVariants.{Finished as Well, Failed as Badly, Killed as ByKill}
use Rattle.rm_states.specs.declared.app.states.AppState.{AppState}
use Rattle.rm_states.specs.declared.app.states.AppState.TheVariants.{New, NewSaving, Submitted, Accepted, Running, Killing, FinalSaving, Finished, Failed, Killed}
use Rattle.rm_states.specs.declared.app.states.AppEvent.{AppEvent}
use Rattle.rm_states.specs.declared.app.states.AppEvent.TheVariants.{Start, Kept, Accept, Register, Failed as AttemptFailed, Kill, End, EndKept}
use Rattle.rm_states.specs.declared.app.states.AppAction.{AppAction}
use Rattle.rm_states.specs.declared.app.states.AppAction.TheVariants.{IssueApp, PostSaved, PostAttempt, IssueEnd, PostRetire, Nothing}
use Rattle.rm_states.specs.app.Table.{AppTransition, IsFinalApp, app_transition, next_app_state, end_state}
use Rattle.rm_states.specs.app.Laws.{AppRowsAreOne, EndIsKept, AppTableKeepsEnds}

transition_of_row : {state : AppState} {event : AppEvent} {next : AppState} {action : AppAction} → AppTransition state event next action → app_transition state event ≡ Some (next, action)
transition_of_row AppTransition.start = refl
transition_of_row AppTransition.kept = refl
transition_of_row AppTransition.accept = refl
transition_of_row AppTransition.register = refl
transition_of_row AppTransition.attempt_failed = refl
transition_of_row AppTransition.kill_accepted = refl
transition_of_row AppTransition.kill_running = refl
transition_of_row AppTransition.end_submitted = refl
transition_of_row AppTransition.end_accepted = refl
transition_of_row AppTransition.end_running = refl
transition_of_row AppTransition.end_killing = refl
transition_of_row AppTransition.finished = refl
transition_of_row AppTransition.failed = refl
transition_of_row AppTransition.killed = refl

pub rows_are_one : AppRowsAreOne
rows_are_one state event next other action another one two =
    let same : ◌≡◌ {A = Option (AppState × AppAction)} (Some (next, action)) (Some (other, another)) = sym (transition_of_row one) ∙ transition_of_row two in
    let both : ◌≡◌ {A = AppState × AppAction} (next, action) (other, another) = cc in
    (ap (λ (pair : AppState × AppAction). pair.0) both, ap (λ (pair : AppState × AppAction). pair.1) both)

-- where the end's save is on the way, the word that an end is kept has a row
pub row_of_end : (how : How) → AppTransition FinalSaving (EndKept how) (end_state how) PostRetire
row_of_end Well = AppTransition.finished
row_of_end Badly = AppTransition.failed
row_of_end ByKill = AppTransition.killed

-- and that row's state and action are what follows
pub end_answered : (how : How) (next : AppState) (action : AppAction) → AppTransition FinalSaving (EndKept how) next action
    → ◌≡◌ {A = Option (AppState × AppAction)} (Some (end_state how, PostRetire)) (Some (next, action))
end_answered Well next action AppTransition.finished = refl
end_answered Badly next action AppTransition.failed = refl
end_answered ByKill next action AppTransition.killed = refl

-- a row leads from each state but three
pub some_row : (state : AppState) → ¬ (state ≡ Finished) → ¬ (state ≡ Failed) → ¬ (state ≡ Killed) → ¬ IsFinalApp state
some_row New a b c final = final Start NewSaving IssueApp AppTransition.start
some_row NewSaving a b c final = final Kept Submitted PostSaved AppTransition.kept
some_row Submitted a b c final = final Accept Accepted PostAttempt AppTransition.accept
some_row Accepted a b c final = final Register Running Nothing AppTransition.register
some_row Running a b c final = final Kill Killing Nothing AppTransition.kill_running
some_row Killing a b c final = final End FinalSaving IssueEnd AppTransition.end_killing
some_row FinalSaving a b c final = final (EndKept Well) Finished PostRetire AppTransition.finished
some_row Finished a b c final = a refl
some_row Failed a b c final = b refl
some_row Killed a b c final = c refl

-- a row that has the application retire is of an end that is kept
retires : {state : AppState} {event : AppEvent} {next : AppState} → AppTransition state event next PostRetire → EndIsKept state event next
retires AppTransition.finished = (refl, (Well, (refl, refl)))
retires AppTransition.failed = (refl, (Badly, (refl, refl)))
retires AppTransition.killed = (refl, (ByKill, (refl, refl)))

-- a row to a final state is of an end that is kept
ends : {state : AppState} {event : AppEvent} {next : AppState} {action : AppAction} → AppTransition state event next action → IsFinalApp next → EndIsKept state event next
ends AppTransition.start final = absurd (final Kept Submitted PostSaved AppTransition.kept)
ends AppTransition.kept final = absurd (final Accept Accepted PostAttempt AppTransition.accept)
ends AppTransition.accept final = absurd (final Register Running Nothing AppTransition.register)
ends AppTransition.register final = absurd (final Kill Killing Nothing AppTransition.kill_running)
ends AppTransition.attempt_failed final = absurd (final Register Running Nothing AppTransition.register)
ends AppTransition.kill_accepted final = absurd (final End FinalSaving IssueEnd AppTransition.end_killing)
ends AppTransition.kill_running final = absurd (final End FinalSaving IssueEnd AppTransition.end_killing)
ends AppTransition.end_submitted final = absurd (final (EndKept Well) Finished PostRetire AppTransition.finished)
ends AppTransition.end_accepted final = absurd (final (EndKept Well) Finished PostRetire AppTransition.finished)
ends AppTransition.end_running final = absurd (final (EndKept Well) Finished PostRetire AppTransition.finished)
ends AppTransition.end_killing final = absurd (final (EndKept Well) Finished PostRetire AppTransition.finished)
ends AppTransition.finished final = (refl, (Well, (refl, refl)))
ends AppTransition.failed final = (refl, (Badly, (refl, refl)))
ends AppTransition.killed final = (refl, (ByKill, (refl, refl)))

pub ends_are_kept : AppTableKeepsEnds
ends_are_kept = record { into = λ state event next action row final. ends row final; retiring = λ state event next row. retires row }

-- a row leads to the state after its event
pub row_leads : {state : AppState} {event : AppEvent} {next : AppState} {action : AppAction} → AppTransition state event next action → next_app_state state event ≡ next
row_leads row = rw (transition_of_row row) refl

-- where there is no row the state stays
pub stays_without_row : (state : AppState) (event : AppEvent) → ((next : AppState) (action : AppAction) → ¬ AppTransition state event next action) → next_app_state state event ≡ state
stays_without_row New Start none = absurd (none NewSaving IssueApp AppTransition.start)
stays_without_row NewSaving Kept none = absurd (none Submitted PostSaved AppTransition.kept)
stays_without_row Submitted Accept none = absurd (none Accepted PostAttempt AppTransition.accept)
stays_without_row Submitted End none = absurd (none FinalSaving IssueEnd AppTransition.end_submitted)
stays_without_row Accepted Register none = absurd (none Running Nothing AppTransition.register)
stays_without_row Accepted Kill none = absurd (none Killing Nothing AppTransition.kill_accepted)
stays_without_row Accepted End none = absurd (none FinalSaving IssueEnd AppTransition.end_accepted)
stays_without_row Running AttemptFailed none = absurd (none Accepted Nothing AppTransition.attempt_failed)
stays_without_row Running Kill none = absurd (none Killing Nothing AppTransition.kill_running)
stays_without_row Running End none = absurd (none FinalSaving IssueEnd AppTransition.end_running)
stays_without_row Killing End none = absurd (none FinalSaving IssueEnd AppTransition.end_killing)
stays_without_row FinalSaving (EndKept Well) none = absurd (none Finished PostRetire AppTransition.finished)
stays_without_row FinalSaving (EndKept Badly) none = absurd (none Failed PostRetire AppTransition.failed)
stays_without_row FinalSaving (EndKept ByKill) none = absurd (none Killed PostRetire AppTransition.killed)
stays_without_row _ _ none = refl

-- a state stays by an event, or a row leads to where it goes
pub stays_or_row : (state : AppState) (event : AppEvent) → (next_app_state state event ≡ state) ⊎ ((by : AppEvent) × (action : AppAction) × AppTransition state by (next_app_state state event) action)
stays_or_row New Start = inr (Start, IssueApp, AppTransition.start)
stays_or_row NewSaving Kept = inr (Kept, PostSaved, AppTransition.kept)
stays_or_row Submitted Accept = inr (Accept, PostAttempt, AppTransition.accept)
stays_or_row Submitted End = inr (End, IssueEnd, AppTransition.end_submitted)
stays_or_row Accepted Register = inr (Register, Nothing, AppTransition.register)
stays_or_row Accepted Kill = inr (Kill, Nothing, AppTransition.kill_accepted)
stays_or_row Accepted End = inr (End, IssueEnd, AppTransition.end_accepted)
stays_or_row Running AttemptFailed = inr (AttemptFailed, Nothing, AppTransition.attempt_failed)
stays_or_row Running Kill = inr (Kill, Nothing, AppTransition.kill_running)
stays_or_row Running End = inr (End, IssueEnd, AppTransition.end_running)
stays_or_row Killing End = inr (End, IssueEnd, AppTransition.end_killing)
stays_or_row FinalSaving (EndKept Well) = inr ((EndKept Well), PostRetire, AppTransition.finished)
stays_or_row FinalSaving (EndKept Badly) = inr ((EndKept Badly), PostRetire, AppTransition.failed)
stays_or_row FinalSaving (EndKept ByKill) = inr ((EndKept ByKill), PostRetire, AppTransition.killed)
stays_or_row _ _ = inl refl
