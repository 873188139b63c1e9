-- What the tables of transitions say of the manager's moves: a final state is never left, and an end is told only once it is kept. This
-- project's own, after the state machines of YARN's `RMAppImpl` and `RMAppAttemptImpl`.
use Rattle.std.specs.Prelude.{◌≡◌, ◌⊎◌, Bool, true, false, Some}
use Rattle.rm_types.specs.declared.ids.AppId.{AppId}
use Rattle.rm_types.specs.declared.operations.How.{How}
use Rattle.rm_states.specs.declared.app.states.AppState.TheVariants.{FinalSaving}
use Rattle.rm_states.specs.app.Table.{IsFinalApp as IsFinalOfApp, end_state}
use Rattle.rm_states.specs.declared.attempt.states.AttemptState.TheVariants.{Ending, Ended}
use Rattle.rm_states.specs.attempt.Table.{IsFinalAttempt as IsFinalOfAttempt}
use Rattle.rm_tables.specs.declared.rows.AppRow.{AppRow}
use Rattle.rm_tables.specs.declared.rows.Current.{Current}
use Rattle.rm_tables.specs.Rows.{row_of}
use Rattle.rm_core.specs.declared.manager.Move.{Move}
use Rattle.rm_core.specs.declared.manager.Move.TheVariants.{Down, Begin}
use Rattle.rm_core.specs.Seen.{Seen}
use Rattle.rm_core.specs.Moves.{MoveEffect}

-- a move neither begins a life nor ends one
abbrev pub stays_in_life : Move → Bool
stays_in_life (Begin tree handed) = false
stays_in_life Down = false
stays_in_life _ = true

-- a move within a life, before and after which the tables know an application by these rows
pub record ChangesRow (next : Move) (old new : Seen) (id : AppId) (before now : AppRow) : Type 0 where
  pub does : MoveEffect next old new
  pub within : stays_in_life next ≡ true
  pub known : row_of old.tables.rows id ≡ Some before
  pub found : row_of new.tables.rows id ≡ Some now

-- these are the current attempts of two rows of an application, and the same one
pub record IsSameAttempt (before now : AppRow) (was is_now : Current) : Type 0 where
  pub earlier : before.current ≡ Some was
  pub later : now.current ≡ Some is_now
  pub number : is_now.number ≡ was.number

-- an application in a state that no row leads from stays there
abbrev pub FinalAppsStay : Type 0
FinalAppsStay = (next : Move) (old new : Seen) (id : AppId) (before now : AppRow) → ChangesRow next old new id before now
    → IsFinalOfApp before.state → now.state ≡ before.state

-- an attempt in a state that no row leads from stays there, as long as it is the current one
abbrev pub FinalAttemptsStay : Type 0
FinalAttemptsStay = (next : Move) (old new : Seen) (id : AppId) (before now : AppRow) (was is_now : Current) → ChangesRow next old new id before now
    → IsSameAttempt before now was is_now → IsFinalOfAttempt was.state → is_now.state ≡ was.state

-- an application comes to a final state only from where its end is being saved, and to the state of that end
abbrev pub AppEndsAreKept : Type 0
AppEndsAreKept = (next : Move) (old new : Seen) (id : AppId) (before now : AppRow) → ChangesRow next old new id before now
    → IsFinalOfApp now.state → (now.state ≡ before.state) ⊎ ((before.state ≡ FinalSaving) × ((how : How) × (now.state ≡ end_state how)))

-- an attempt has ended only once its end was being saved
abbrev pub AttemptEndsAreKept : Type 0
AttemptEndsAreKept = (next : Move) (old new : Seen) (id : AppId) (before now : AppRow) (was is_now : Current) → ChangesRow next old new id before now
    → IsSameAttempt before now was is_now → is_now.state ≡ Ended → (was.state ≡ Ended) ⊎ (was.state ≡ Ending)
