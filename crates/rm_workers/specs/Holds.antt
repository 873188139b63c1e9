-- What one hold of the baton does. This project's own.
use Rattle.std.specs.Prelude.{◌≡◌, ◌⊎◌, true, false, List, Some}
use Rattle.rm_types.specs.declared.entries.Entry.{Entry}
use Rattle.rm_types.specs.declared.messages.Lane.{Lane}
use Rattle.rm_types.specs.declared.messages.Lane.TheVariants.{Write}
use Rattle.rm_baton.specs.Views.{gave, took}
use Rattle.rm_desk.specs.Lanes.{is_ready_at}
use Rattle.rm_desk.specs.View.{DeskView}
use Rattle.rm_workers.specs.declared.turns.Next.{Next}
use Rattle.rm_workers.specs.declared.turns.Next.TheVariants.{Sleeps, Leaves}
use Rattle.rm_workers.specs.declared.turns.Turn.{Turn}
use Rattle.rm_workers.specs.declared.turns.Turn.TheVariants as turns
use Rattle.rm_workers.specs.Carried.{HeldView, PassView, log_of}
use Rattle.rm_workers.specs.Turns.{AddsEntryOf, EndsWithCause, HasEnded, MayTurn}

-- a hold: the pass took a value and put one, once each, and this was done by it
pub record InOneHold (Did : HeldView → HeldView → Type 0) (before after : PassView) : Type 0 where
  pub taken : HeldView
  pub given : HeldView
  pub is : after ≡ gave log_of (took log_of before taken) given
  pub did : Did taken given

-- one hold is one move: of the lanes that may move then one did, and one entry of it was added; or the desk is what it was, which is so only where none may
-- move, or a halt stands behind the hold, or the life is over
abbrev pub MovesOnce : (DeskView → Lane → Type 0) → HeldView → HeldView → Type 0
MovesOnce May taken given =
    ((lane : Lane) × May taken.desk lane × AddsEntryOf lane (log_of taken) (log_of given))
    ⊎ ((given.desk ≡ taken.desk) × ((lane : Lane) → May taken.desk lane → HasEnded given))

-- the lane of which the gate is told: that of the entry that was added, and the worker's own where none was
abbrev pub IsToldOf : (own lane : Lane) → (taken given : List Entry) → Type 0
IsToldOf own lane taken given = AddsEntryOf lane taken given ⊎ ((given ≡ taken) × (lane ≡ own))

-- a helper's own lane may move, where it is ready
abbrev pub MayHelp : Lane → DeskView → Lane → Type 0
MayHelp own d lane = (lane ≡ own) × (is_ready_at d lane ≡ true)

-- what a helper does next, by the value that it put: it leaves only where nothing is left to do for any worker, and sleeps only where its lane isn't ready
abbrev pub IsNextFor : Lane → Next → HeldView → Type 0
IsNextFor lane Leaves given = HasEnded given
IsNextFor lane Sleeps given = is_ready_at given.desk lane ≡ false
IsNextFor lane _ given = Unit {0}

-- a helper's hold: one move, and what it does next
abbrev pub HelpsOnce : Lane → Next → HeldView → HeldView → Type 0
HelpsOnce lane next taken given = MovesOnce (MayHelp lane) taken given × IsNextFor lane next given

-- a hold in which the store's worker makes a turn: one move, and a cause where it is the last
abbrev pub TurnsOnce : Turn → HeldView → HeldView → Type 0
TurnsOnce turn taken given = MovesOnce MayTurn taken given × EndsWithCause turn given

-- its turn was such a hold, unless another worker had the baton
abbrev pub HoldsTurn : Turn → PassView → PassView → Type 0
HoldsTurn turns.Out before after = after ≡ before
HoldsTurn turn before after = InOneHold (TurnsOnce turn) before after

-- the store's lane may move in the hold after a write, where an operation is with the store
abbrev pub MayTell : DeskView → Lane → Type 0
MayTell d lane = (lane ≡ Write) × (is_ready_at d lane ≡ true)

-- a worker left: nothing is left to do for any of them by the value that it put last
pub record LeavesNothing (v : PassView) : Type 0 where
  pub given : HeldView
  pub last : v.given ≡ Some given
  pub ended : HasEnded given
