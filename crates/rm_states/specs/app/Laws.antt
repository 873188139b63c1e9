-- What holds of the table of transitions of an application.
use Rattle.std.specs.Prelude.{◌≡◌, ◌⊎◌}
use Rattle.rm_types.specs.declared.operations.How.{How}
use Rattle.rm_states.specs.declared.app.states.AppState.{AppState}
use Rattle.rm_states.specs.declared.app.states.AppState.TheVariants.{New, NewSaving, Submitted, Accepted, Running, Killing, FinalSaving}
use Rattle.rm_states.specs.declared.app.states.AppEvent.{AppEvent}
use Rattle.rm_states.specs.declared.app.states.AppEvent.TheVariants.{Kept, Accept, Register, Failed as AttemptFailed, End, EndKept}
use Rattle.rm_states.specs.declared.app.states.AppAction.{AppAction}
use Rattle.rm_states.specs.declared.app.states.AppAction.TheVariants.{IssueApp, IssueEnd, PostRetire}
use Rattle.rm_states.specs.app.Table.{AppTransition, IsFinalApp, end_state}

-- a state and an event have at most one row
abbrev pub AppRowsAreOne : Type 0
AppRowsAreOne = (state : AppState) (event : AppEvent) (next other : AppState) (action another : AppAction)
    → AppTransition state event next action → AppTransition state event other another → (next ≡ other) × (action ≡ another)

-- a row begins where the end's save is on the way, comes by the word that the end is kept, and leads to the state of that
-- end
abbrev pub EndIsKept : AppState → AppEvent → AppState → Type 0
EndIsKept state event next = (state ≡ FinalSaving) × ((how : How) × ((event ≡ EndKept how) × (next ≡ end_state how)))

-- a row to a final state is such a row, and so is one that has the application retire
pub record AppTableKeepsEnds : Type 0 where
  pub into : (state : AppState) (event : AppEvent) (next : AppState) (action : AppAction)
      → AppTransition state event next action → IsFinalApp next → EndIsKept state event next
  pub retiring : (state : AppState) (event : AppEvent) (next : AppState)
      → AppTransition state event next PostRetire → EndIsKept state event next

-- a row to where an application runs begins where it is accepted, and comes by a registration
abbrev pub RunsAreAccepted : Type 0
RunsAreAccepted = (state : AppState) (event : AppEvent) (action : AppAction)
    → AppTransition state event Running action → (state ≡ Accepted) × (event ≡ Register)

-- a row to where an application is accepted begins where it is submitted, or where it runs and an attempt failed; a row to
-- where it is submitted begins where its save is on the way, and comes by the word that it is kept
pub record AcceptancesAreKept : Type 0 where
  pub accepted : (state : AppState) (event : AppEvent) (action : AppAction)
      → AppTransition state event Accepted action → ((state ≡ Submitted) × (event ≡ Accept)) ⊎ ((state ≡ Running) × (event ≡ AttemptFailed))
  pub submitted : (state : AppState) (event : AppEvent) (action : AppAction)
      → AppTransition state event Submitted action → (state ≡ NewSaving) × (event ≡ Kept)

-- a row from where an application is being killed comes by its end
abbrev pub KillsEnd : Type 0
KillsEnd = (event : AppEvent) (next : AppState) (action : AppAction) → AppTransition Killing event next action → event ≡ End

-- a row that issues an application begins where it is new, to which no row leads; a row issues an end exactly where it
-- leads to where the end's save is on the way, and what follows there is final
pub record StoreIsToldTwice : Type 0 where
  pub app : (state : AppState) (event : AppEvent) (next : AppState) → AppTransition state event next IssueApp → state ≡ New
  pub once : (state : AppState) (event : AppEvent) (action : AppAction) → ¬ AppTransition state event New action
  pub end : (state : AppState) (event : AppEvent) (next : AppState) → AppTransition state event next IssueEnd → next ≡ FinalSaving
  pub saving : (state : AppState) (event : AppEvent) (action : AppAction) → AppTransition state event FinalSaving action → action ≡ IssueEnd
  pub last : (event : AppEvent) (next : AppState) (action : AppAction) → AppTransition FinalSaving event next action → IsFinalApp next
