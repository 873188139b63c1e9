-- An attempt that isn't issued has no dialogue with a master: whatever happens to an application keeps it.
use Rattle.rm_invariant.proofs.Common.{◌≡◌, true, Option, None, Some, refl, arith, ContainerId, AttemptState, AttemptChange, RowChange, Current, Dialogue, attempt_after, current_after, granted_at, is_alive}
use Rattle.rm_states.specs.declared.attempt.states.AttemptState.TheVariants as attempts
use Rattle.rm_states.specs.declared.attempt.states.AttemptEvent.{AttemptEvent}
use Rattle.rm_states.specs.attempt.Table.{next_attempt_state as next_attempt_state}
use Rattle.rm_tables.specs.declared.changes.AttemptChange.TheVariants as of_attempt
use Rattle.rm_tables.specs.declared.changes.RowChange.TheVariants as of_app
use Rattle.rm_tables.specs.Changes.{dialogue_after}
use Rattle.rm_invariant.specs.events.MainFacts.{IsSilent, is_unissued}

-- an attempt that isn't issued after an event, or once a container is granted to it, was not issued before
was_unissued : (event : AttemptEvent) (s : AttemptState) → is_unissued (next_attempt_state s event) ≡ true → is_unissued s ≡ true
was_unissued event s e = grind arith

granted_unissued : (s : AttemptState) (container : ContainerId) (was : Current) → was.state ≡ s → is_unissued (granted_at s container was).state ≡ true → is_unissued s ≡ true
granted_unissued attempts.Scheduled container was st e = refl
granted_unissued attempts.Granted container was st e = refl
granted_unissued _ container was st e = rw st at e

-- what a change asks of the current attempt: where it waits again it was granted a container, and where its end is issued it lives
abbrev pub WasGranted : Option Current → Type 0
WasGranted None = Unit {0}
WasGranted (Some was) = was.state ≡ attempts.Granted

abbrev pub WasAlive : Option Current → Type 0
WasAlive None = Unit {0}
WasAlive (Some was) = is_alive was.state ≡ true

abbrev pub MayBe : RowChange → Option Current → Type 0
MayBe (of_app.OfAttempt of_attempt.Requeue) o = WasGranted o
MayBe (of_app.OfAttempt (of_attempt.End how)) o = WasAlive o
MayBe _ o = Unit {0}

attempt_silent : (change : AttemptChange) (was : Current) (d : Option Dialogue) → MayBe (of_app.OfAttempt change) (Some was) → IsSilent (Some was) d → IsSilent (Some (attempt_after change was)) d
attempt_silent (of_attempt.Grant container) was d may silent = λ e. silent (granted_unissued was.state container was refl e)
attempt_silent of_attempt.Lose was d may silent = silent
attempt_silent _ was d may silent = λ e. silent (was_unissued _ was.state e)

-- whatever happens to an application
pub change_silent : (change : RowChange) (o : Option Current) (d : Option Dialogue) → MayBe change o → IsSilent o d → IsSilent (current_after change o) (dialogue_after change d)
change_silent (of_app.Schedule number) o d may silent = λ e. refl
change_silent (of_app.OfAttempt change) (Some was) d may silent = attempt_silent change was d may silent
change_silent of_app.Kill (Some was) d may silent = λ e. silent (was_unissued _ was.state e)
change_silent of_app.Register (Some was) d may silent = λ e. silent (was_unissued _ was.state e)
change_silent of_app.End (Some was) d may silent = λ e. silent (was_unissued _ was.state e)
change_silent _ None d may silent = tt
change_silent _ (Some was) d may silent = silent
