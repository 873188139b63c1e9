-- What a desk's calls do.
use Rattle.std.specs.Prelude.{Bool, ℕ, ◌≡◌, ◌<◌, List, [], ◌∷◌, ◌++◌, Option, None, Some, slice_get, true, false}
use Rattle.rm_types.specs.declared.entries.Entry.{Entry}
use Rattle.rm_types.specs.declared.entries.Entry.TheVariants.{Blown, Opened, Handed, Kept, Served, Settled, Down}
use Rattle.rm_types.specs.declared.messages.Lane.{Lane}
use Rattle.rm_types.specs.declared.messages.Lane.TheVariants.{Client, Clock, Main, Master, Node, Sched, Hand, Write, End}
use Rattle.rm_types.specs.declared.messages.Message.{Message}
use Rattle.rm_types.specs.declared.messages.Sender.{Sender}
use Rattle.rm_types.specs.declared.messages.Sender.TheVariants as senders
use Rattle.rm_types.specs.declared.operations.Op.{Op}
use Rattle.rm_types.specs.declared.replies.Reply.{Reply}
use Rattle.rm_types.specs.declared.scripts.Close.{Close}
use Rattle.rm_types.specs.declared.scripts.Close.TheVariants.{Settle, Crash}
use Rattle.rm_types.specs.declared.scripts.Life.{Life}
use Rattle.rm_types.specs.declared.scripts.Script.{Script}
use Rattle.rm_types.specs.Lanes.{lane_of_entry}
use Rattle.rm_types.specs.Records.{Records}
use Rattle.rm_model.specs.State.{LifeState}
use Rattle.rm_model.specs.Lawful.{state_after}
use Rattle.rm_model.specs.Place.{Growth, MayGrow, close_left, first_from, messages_left, moved, place_grown, script_grown, stamp_of}
use Rattle.rm_core.specs.Moves.{IsLeftAfter}
use Rattle.rm_core.specs.Seen.{StandsFor}
use Rattle.rm_core.specs.Words.{as_new, handed_of, has_rest, is_blown, landed_over, stands}
use Rattle.rm_desk.specs.View.{DeskView}
use Rattle.rm_desk.specs.Lanes.{IsWork, life_goes_on}
use Rattle.rm_desk.specs.Runs.{IsScriptRun, IsPlaceSound, moves_left}

-- the entry with which a segment closes
abbrev pub ClosesWith : Option Close → Entry → Type 0
ClosesWith None e = ⊥
ClosesWith (Some Settle) e = e ≡ Settled
ClosesWith (Some (Crash calls image)) e = e ≡ Down

-- the answer to the first message of a sender's feed
abbrev pub Answers : Sender → DeskView → Entry → Type 0
Answers sender d e = (message : Message) × (reply : Reply) × (first_from sender (messages_left d.place.segments) ≡ Some message) × (e ≡ Served sender message reply)

-- the entry that a lane's move adds: the answer to the first message of its feed, one of the queue's own, or the one that says
-- what was handed, kept or closed
abbrev pub IsEntryOf : Lane → DeskView → Entry → Type 0
IsEntryOf Client d e = Answers senders.Client d e
IsEntryOf Master d e = Answers senders.Master d e
IsEntryOf Node d e = Answers senders.Node d e
IsEntryOf Clock d e = Answers senders.Clock d e
IsEntryOf Main d e = lane_of_entry e ≡ Main
IsEntryOf Sched d e = lane_of_entry e ≡ Sched
IsEntryOf Hand d e = e ≡ Handed
IsEntryOf Write d e = (op : Op) × (handed_of d.core ≡ Some op) × (e ≡ Kept op)
IsEntryOf End d e = ClosesWith (close_left d.place.segments) e
IsEntryOf _ d e = ⊥

-- the entry with which the script's next life begins over what a store holds
abbrev pub IsOpening : Records → DeskView → Entry → Type 0
IsOpening tree d e = (life : Life) × (slice_get d.place.lives 0 ≡ Some life) × (e ≡ Opened (landed_over d.core tree) tree.next_epoch (stamp_of life tree.stamp))

-- the log has one more entry, which is of this kind, and the script is at the place behind it
pub record AddsOne (kind : Entry → Type 0) (old new : DeskView) : Type 0 where
  pub entry : Entry
  pub of_kind : kind entry
  pub added : new.core.log ≡ old.core.log ++ entry ∷ []
  pub place : new.place ≡ moved old.place entry

-- what was a run goes on as one, over each opening list for which this holds
pub record ExtendsScriptRun (over : List Op → Type 0) (old new : DeskView) : Type 0 where
  pub sound : IsPlaceSound new
  pub settings : new.core.settings ≡ old.core.settings
  pub began : as_new new.core ≡ as_new old.core
  pub lawful : (opening : List Op) → over opening → StandsFor opening old.core → StandsFor opening new.core
  pub run : (opening : List Op) (script : Script) → over opening → IsScriptRun opening script old → IsScriptRun opening script new

-- a lane's move: what it adds, an entry of this kind and of this lane, that less is left, whether a life stands behind it, and whether an operation
-- of it was refused by then; that a lane of the manager's own work moves only where something is left to do, and that nothing is left where a
-- segment settled
pub record EffectBy (kind : Entry → Type 0) (blew : Bool) (lane : Lane) (old new : DeskView) : Type 0 where
  pub adds : AddsOne kind old new
  pub of_lane : lane_of_entry adds.entry ≡ lane
  pub goes : ExtendsScriptRun (λ opening. Unit {0}) old new
  pub less : moves_left new < moves_left old
  pub stood : stands old.core ≡ true
  pub standing : stands new.core ≡ life_goes_on lane (close_left old.place.segments)
  pub blown : is_blown new.core ≡ blew
  pub busy : IsWork lane → has_rest old.core → ⊥
  pub settled : lane ≡ End → close_left old.place.segments ≡ Some Settle → has_rest new.core

-- the move of a lane that is ready
abbrev pub LaneEffect : Lane → DeskView → DeskView → Type 0
LaneEffect lane old new = EffectBy (IsEntryOf lane old) (is_blown old.core) lane old new

-- the store refused the operation that was with it, after so many calls
abbrev pub StoreBlows : ℕ → DeskView → DeskView → Type 0
StoreBlows passed old new = EffectBy (λ e. e ≡ Blown passed) true Write old new

-- the script's next life begins over what the last one left
pub record LifeBegins (tree : Records) (old new : DeskView) : Type 0 where
  pub adds : AddsOne (IsOpening tree old) old new
  pub goes : ExtendsScriptRun (λ opening. IsLeftAfter tree opening old.core.log) old new
  pub stood : stands old.core ≡ false
  pub standing : stands new.core ≡ true
  pub unblown : is_blown new.core ≡ false

-- the script has this more at its end: the manager and its log stay as they are, what is left of the script is longer, and what was a run along the
-- script is one along the longer script, whatever its log
pub record Grows (growth : Growth) (old new : DeskView) : Type 0 where
  pub core : new.core ≡ old.core
  pub place : new.place ≡ place_grown growth old.place
  pub run : (opening : List Op) (script : Script) → MayGrow growth script → IsScriptRun opening script old → IsScriptRun opening (script_grown growth script) new

-- an operation is with the store in a life
abbrev pub HasHanded : Option LifeState → Type 0
HasHanded None = ⊥
HasHanded (Some life) = life.handed ≡ true

-- the operation is with the store: it is the first that awaits, and was handed
pub record IsHanded (opening : List Op) (log : List Entry) (op : Op) : Type 0 where
  pub first : slice_get (state_after opening log).awaiting 0 ≡ Some op
  pub handed : HasHanded (state_after opening log).life
