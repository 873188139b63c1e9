-- Rows of the table, one by one.
use Rattle.std.proofs.Common.{◌≡◌, Option, Some, refl, ap, ◌∙◌, sym, rules}
use Rattle.rm_types.specs.declared.containers.ContainerState.{ContainerState}
use Rattle.rm_types.specs.declared.containers.ContainerState.TheVariants.{Granted, Acquired, Running, Completed}
use Rattle.rm_states.specs.declared.container.states.ContainerEvent.{ContainerEvent}
use Rattle.rm_states.specs.declared.container.states.ContainerEvent.TheVariants.{Tell, Run, End}
use Rattle.rm_states.specs.declared.container.states.ContainerAction.{ContainerAction}
use Rattle.rm_states.specs.declared.container.states.ContainerAction.TheVariants.{Nothing}
use Rattle.rm_states.specs.container.Table.{ContainerTransition, IsFinalContainer, container_transition, next_container_state}
use Rattle.rm_states.specs.container.Laws.{ContainerRowsAreOne, RunsAndEnds}

transition_of_row : {state : ContainerState} {event : ContainerEvent} {next : ContainerState} {action : ContainerAction} → ContainerTransition state event next action → container_transition state event ≡ Some (next, action)
transition_of_row ContainerTransition.tell = refl
transition_of_row ContainerTransition.run_granted = refl
transition_of_row ContainerTransition.run_acquired = refl
transition_of_row ContainerTransition.end_granted = refl
transition_of_row ContainerTransition.end_acquired = refl
transition_of_row ContainerTransition.end_running = refl

pub rows_are_one : ContainerRowsAreOne
rows_are_one state event next other action another one two =
    let same : ◌≡◌ {A = Option (ContainerState × ContainerAction)} (Some (next, action)) (Some (other, another)) = sym (transition_of_row one) ∙ transition_of_row two in
    let both : ◌≡◌ {A = ContainerState × ContainerAction} (next, action) (other, another) = cc in
    (ap (λ (pair : ContainerState × ContainerAction). pair.0) both, ap (λ (pair : ContainerState × ContainerAction). pair.1) both)

-- a row leads from each state but 1
pub some_row : (state : ContainerState) → ¬ (state ≡ Completed) → ¬ IsFinalContainer state
some_row Granted a final = final Tell Acquired Nothing ContainerTransition.tell
some_row Acquired a final = final Run Running Nothing ContainerTransition.run_acquired
some_row Running a final = final End Completed Nothing ContainerTransition.end_running
some_row Completed a final = a refl

-- an end has a row from each state but the last
ends : (state : ContainerState) → ¬ (state ≡ Completed) → ContainerTransition state End Completed Nothing
ends Granted other = ContainerTransition.end_granted
ends Acquired other = ContainerTransition.end_acquired
ends Running other = ContainerTransition.end_running
ends Completed other = absurd (other refl)

pub runs_and_ends : RunsAndEnds
runs_and_ends = record { running = search rules; completed = search rules; ends = ends }

-- a row leads to the state after its event
pub row_leads : {state : ContainerState} {event : ContainerEvent} {next : ContainerState} {action : ContainerAction} → ContainerTransition state event next action → next_container_state state event ≡ next
row_leads row = rw (transition_of_row row) refl

-- where there is no row the state stays
pub stays_without_row : (state : ContainerState) (event : ContainerEvent) → ((next : ContainerState) (action : ContainerAction) → ¬ ContainerTransition state event next action) → next_container_state state event ≡ state
stays_without_row Granted Tell none = absurd (none Acquired Nothing ContainerTransition.tell)
stays_without_row Granted Run none = absurd (none Running Nothing ContainerTransition.run_granted)
stays_without_row Acquired Run none = absurd (none Running Nothing ContainerTransition.run_acquired)
stays_without_row Granted End none = absurd (none Completed Nothing ContainerTransition.end_granted)
stays_without_row Acquired End none = absurd (none Completed Nothing ContainerTransition.end_acquired)
stays_without_row Running End none = absurd (none Completed Nothing ContainerTransition.end_running)
stays_without_row _ _ none = refl
