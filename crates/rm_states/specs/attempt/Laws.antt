-- What holds of the table of transitions of an attempt.
use Rattle.std.specs.Prelude.{◌≡◌, ◌⊎◌}
use Rattle.rm_states.specs.declared.attempt.states.AttemptState.{AttemptState}
use Rattle.rm_states.specs.declared.attempt.states.AttemptState.TheVariants.{Scheduled, Granted, Saving, Live, Registered, Ending, Ended, Dropped}
use Rattle.rm_states.specs.declared.attempt.states.AttemptEvent.{AttemptEvent}
use Rattle.rm_states.specs.declared.attempt.states.AttemptEvent.TheVariants.{Kept, Register, End, EndKept, Drop}
use Rattle.rm_states.specs.declared.attempt.states.AttemptAction.{AttemptAction}
use Rattle.rm_states.specs.declared.attempt.states.AttemptAction.TheVariants.{IssueAttempt, IssueEnd, PostDone, Nothing}
use Rattle.rm_states.specs.attempt.Table.{AttemptTransition}

-- a state and an event have at most one row
abbrev pub AttemptRowsAreOne : Type 0
AttemptRowsAreOne = (state : AttemptState) (event : AttemptEvent) (next other : AttemptState) (action another : AttemptAction)
    → AttemptTransition state event next action → AttemptTransition state event other another → (next ≡ other) × (action ≡ another)

-- a row to where a master is registered begins where the attempt is live, and comes by a registration
abbrev pub RegisteredWereLive : Type 0
RegisteredWereLive = (state : AttemptState) (event : AttemptEvent) (action : AttemptAction)
    → AttemptTransition state event Registered action → (state ≡ Live) × (event ≡ Register)

-- a row to where an attempt is live begins where its save is on the way, and comes by the word that it is kept; a row
-- leads to where its save is on the way exactly where it issues the attempt, and begins where its master has a container
pub record LiveWereKept : Type 0 where
  pub live : (state : AttemptState) (event : AttemptEvent) (action : AttemptAction)
      → AttemptTransition state event Live action → (state ≡ Saving) × (event ≡ Kept)
  pub saving : (state : AttemptState) (event : AttemptEvent) (action : AttemptAction)
      → AttemptTransition state event Saving action → (state ≡ Granted) × (action ≡ IssueAttempt)
  pub issued : (state : AttemptState) (event : AttemptEvent) (next : AttemptState)
      → AttemptTransition state event next IssueAttempt → (state ≡ Granted) × (next ≡ Saving)

-- a row to where an attempt is over begins where its end's save is on the way, comes by the word that the end is kept, and
-- is the only one that tells so; a row leads to where the end's save is on the way exactly where it issues the end
pub record AttemptTableKeepsEnds : Type 0 where
  pub ended : (state : AttemptState) (event : AttemptEvent) (action : AttemptAction)
      → AttemptTransition state event Ended action → (state ≡ Ending) × (event ≡ EndKept) × (action ≡ PostDone)
  pub told : (state : AttemptState) (event : AttemptEvent) (next : AttemptState)
      → AttemptTransition state event next PostDone → (state ≡ Ending) × (event ≡ EndKept) × (next ≡ Ended)
  pub ending : (state : AttemptState) (event : AttemptEvent) (action : AttemptAction)
      → AttemptTransition state event Ending action → (event ≡ End) × (action ≡ IssueEnd)
  pub issued : (state : AttemptState) (event : AttemptEvent) (next : AttemptState)
      → AttemptTransition state event next IssueEnd → (event ≡ End) × (next ≡ Ending)

-- a row to where an attempt is dropped begins where its master waits for a container or has one, and the attempt isn't
-- issued; and only there may it be granted or wait again
pub record DroppedWereUnsaved : Type 0 where
  pub dropped : (state : AttemptState) (event : AttemptEvent) (action : AttemptAction)
      → AttemptTransition state event Dropped action → ((state ≡ Scheduled) ⊎ (state ≡ Granted)) × (event ≡ Drop) × (action ≡ Nothing)
  pub granted : (state : AttemptState) (event : AttemptEvent) (action : AttemptAction) → AttemptTransition state event Granted action → state ≡ Scheduled
  pub scheduled : (state : AttemptState) (event : AttemptEvent) (action : AttemptAction) → AttemptTransition state event Scheduled action → state ≡ Granted
