-- What the turns of the workers come to. This project's own.
use Rattle.std.specs.Prelude.{◌≡◌, ◌≢◌, ◌⊎◌, true, false, List, [], ◌∷◌, ◌++◌, Option, None, Some}
use Rattle.rm_types.specs.declared.entries.Entry.{Entry}
use Rattle.rm_types.specs.declared.messages.Lane.{Lane}
use Rattle.rm_types.specs.declared.messages.Lane.TheVariants.{Client, Master, Node, Clock, Main, Sched, Hand, Write, End as EndLane}
use Rattle.rm_types.specs.declared.operations.Op.{Op}
use Rattle.rm_types.specs.Lanes.{lane_of_entry}
use Rattle.rm_types.specs.Ranges.{IsOperation}
use Rattle.rm_disk.specs.Disk.{DiskView}
use Rattle.rm_store.specs.Store.{StoreState}
use Rattle.rm_desk.specs.Effects.{LaneEffect}
use Rattle.rm_core.specs.Words.{has_rest, is_blown, stands}
use Rattle.rm_desk.specs.Lanes.{is_ready_at}
use Rattle.rm_desk.specs.Runs.{IsScriptOver}
use Rattle.rm_desk.specs.View.{DeskView}
use Rattle.rm_lives.specs.declared.halts.Halt.{Halt}
use Rattle.rm_workers.specs.declared.turns.End.{End}
use Rattle.rm_workers.specs.declared.turns.End.TheVariants as ends
use Rattle.rm_workers.specs.declared.turns.Helped.{Helped}
use Rattle.rm_workers.specs.declared.turns.Helped.TheVariants.{Moved, Still, Over}
use Rattle.rm_workers.specs.declared.turns.Told.{Told}
use Rattle.rm_workers.specs.declared.turns.Told.TheVariants as told
use Rattle.rm_workers.specs.declared.turns.Turn.{Turn}
use Rattle.rm_workers.specs.declared.turns.Turn.TheVariants as turns
use Rattle.rm_workers.specs.declared.turns.Written.{Written}
use Rattle.rm_workers.specs.declared.turns.Written.TheVariants as written
use Rattle.rm_workers.specs.Began.{Began}
use Rattle.rm_workers.specs.Carried.{HeldView}
use Rattle.rm_workers.specs.Work.{Halting, Owing, Refused, Serving, Sunk, Wrote}

-- the new log is the old one and one entry, of this lane
pub record AddsEntryOf (lane : Lane) (old new : List Entry) : Type 0 where
  pub entry : Entry
  pub added : new ≡ old ++ entry ∷ []
  pub of_lane : lane_of_entry entry ≡ lane

-- no worker has anything left to do: a halt stands, or the life went down, or the run is at its end
abbrev pub HasEnded : HeldView → Type 0
HasEnded held = held.halt ≡ None → (stands held.desk.core ≡ false) ⊎ IsScriptOver held.desk

-- THE HELPERS

-- the lanes of the workers that don't touch the store
abbrev pub IsHelpers : Lane → Type 0
IsHelpers Client = Unit {0}
IsHelpers Master = Unit {0}
IsHelpers Node = Unit {0}
IsHelpers Clock = Unit {0}
IsHelpers Main = Unit {0}
IsHelpers Sched = Unit {0}
IsHelpers _ = ⊥

-- what a helper's turn does: its lane was ready, and moved, while no halt stood; it wasn't ready, and nothing changed; or it is its last, since the life is
-- over or halted, and the desk is what it was
abbrev pub Helps : Lane → Helped → HeldView → HeldView → Type 0
Helps lane Moved old new = (is_ready_at old.desk lane ≡ true) × LaneEffect lane old.desk new.desk × (old.halt ≡ None) × (new.halt ≡ None)
Helps lane Still old new = (is_ready_at old.desk lane ≡ false) × (new ≡ old)
Helps lane Over old new = (new.desk ≡ old.desk) × HasEnded new

-- THE STORE'S WORKER

-- which of its lanes may move in a turn: an operation may be handed to the store; and the current segment may close, which it does at rest, unless the
-- life blew
abbrev pub MayTurn : DeskView → Lane → Type 0
MayTurn d Hand = is_ready_at d Hand ≡ true
MayTurn d EndLane = (is_ready_at d EndLane ≡ true) × (is_blown d.core ≡ false → has_rest d.core)
MayTurn d _ = ⊥

-- a lane moved that might
abbrev pub IsMove : Lane → DeskView → DeskView → Type 0
IsMove lane old new = MayTurn old lane × LaneEffect lane old new

-- what the last turn does to the desk: nothing, or its first operation was handed and no memory was found for more; or the segment closed
abbrev pub EndMakes : End → DeskView → DeskView → Type 0
EndMakes ends.Over old new = (new ≡ old) ⊎ IsMove Hand old new
EndMakes (ends.Down image) old new = IsMove EndLane old new
EndMakes (ends.Halted halt) old new = IsMove EndLane old new

-- what a turn with the desk does to it: one lane moves that may; or none does, where none may
abbrev pub Makes : Turn → DeskView → DeskView → Type 0
Makes turns.Out old new = ⊥
Makes turns.Wait old new = (new ≡ old) × ((lane : Lane) → MayTurn old lane → ⊥)
Makes (turns.Moved lane) old new = IsMove lane old new
Makes (turns.Write op) old new = IsMove Hand old new
Makes (turns.Ends end) old new = EndMakes end old new

-- the lane of the entry that a turn adds; where it adds none, that in which operations are handed
abbrev pub lane_of_turn : Turn → Lane
lane_of_turn (turns.Moved lane) = lane
lane_of_turn (turns.Ends (ends.Down image)) = EndLane
lane_of_turn (turns.Ends (ends.Halted halt)) = EndLane
lane_of_turn _ = Hand

-- why a turn is the last of the store's worker: nothing is left to do for any, or the life went down, or was halted by it
abbrev pub HasCause : End → HeldView → Type 0
HasCause ends.Over held = HasEnded held
HasCause (ends.Down image) held = stands held.desk.core ≡ false
HasCause (ends.Halted halt) held = held.halt ≢ None

-- after a turn it leaves only for such a cause
abbrev pub EndsWithCause : Turn → HeldView → Type 0
EndsWithCause (turns.Ends end) held = HasCause end held
EndsWithCause _ held = Unit {0}

-- what a turn comes to once an operation was handed
abbrev pub IsHandedTurn : Turn → Type 0
IsHandedTurn turns.Out = ⊥
IsHandedTurn turns.Wait = ⊥
IsHandedTurn (turns.Moved lane) = lane ≡ Hand
IsHandedTurn (turns.Write op) = Unit {0}
IsHandedTurn (turns.Ends ends.Over) = Unit {0}
IsHandedTurn (turns.Ends (ends.Down image)) = ⊥
IsHandedTurn (turns.Ends (ends.Halted halt)) = ⊥

module _ {D : Type 0} (view : D → DiskView) (began : Began) (store : StoreState D) where
  -- what it knows once it ends: the life stands, goes down, or was halted by it
  abbrev pub EndFact : End → List Entry → Type 0
  EndFact ends.Over log = Serving view began store log
  EndFact (ends.Down image) log = Sunk view began store image log
  EndFact (ends.Halted halt) log = Halting view began store halt log

  -- what it knows after a turn
  abbrev pub TurnFact : Turn → List Entry → Type 0
  TurnFact (turns.Write op) log = Owing view began store op log
  TurnFact (turns.Ends end) log = EndFact end log
  TurnFact _ log = Serving view began store log

  -- and after a write
  abbrev pub WrittenFact : Op → Written → List Entry → Type 0
  WrittenFact op written.Kept log = Wrote view began store op log
  WrittenFact op (written.Blown passed) log = Refused view began store passed log
  WrittenFact op (written.Failed halt) log = Halting view began store halt log

  -- and after a hold in which the manager was to learn of it: the life goes on, or it was halted, or what was known before is still so
  abbrev pub ToldFact : (List Entry → Type 0) → Told → List Entry → Type 0
  ToldFact Before told.Learned log = Serving view began store log
  ToldFact Before (told.Halted halt) log = Halting view began store halt log
  ToldFact Before told.Absent log = Before log

  -- and once it has learned of it: the life goes on, or it was halted
  abbrev pub LearnedFact : Option Halt → List Entry → Type 0
  LearnedFact None log = Serving view began store log
  LearnedFact (Some halt) log = Halting view began store halt log

-- what the hold after a write does: the manager learns what became of the operation, by one entry of the store's lane; or no memory was found for
-- that, and a halt stands; or no operation was with the store
abbrev pub Learns : Told → HeldView → HeldView → Type 0
Learns told.Learned old new = (is_ready_at old.desk Write ≡ true) × AddsEntryOf Write old.desk.core.log new.desk.core.log
Learns (told.Halted halt) old new = (new.desk ≡ old.desk) × (new.halt ≢ None)
Learns told.Absent old new = (is_ready_at old.desk Write ≡ false) × (new.desk ≡ old.desk)

-- the lane of the entry that it adds; where it adds none, that in which operations are handed
abbrev pub lane_of_told : Told → Lane
lane_of_told told.Learned = Write
lane_of_told _ = Hand

-- an operation that is to be written has its parts in their ranges
abbrev pub TurnOp : Turn → Type 0
TurnOp (turns.Write op) = IsOperation op
TurnOp _ = Unit {0}
