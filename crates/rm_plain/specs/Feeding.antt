-- A run whose script grows at its end, on one thread.
use Rattle.std.specs.Prelude.{◌≡◌, ◌≢◌, ℕ, List, [], ◌∷◌, ◌++◌, true, false, None, Result, Ok, Err}
use Rattle.rm_types.specs.declared.entries.Entry.{Entry}
use Rattle.rm_types.specs.declared.operations.Op.{Op}
use Rattle.rm_types.specs.declared.scripts.Script.{Script}
use Rattle.rm_types.specs.declared.scripts.Segment.{Segment}
use Rattle.rm_disk.specs.Disk.{DiskView}
use Rattle.rm_disk.specs.Fuse.{Fused}
use Rattle.rm_store.specs.Store.{StoreState, seen}
use Rattle.rm_model.specs.Lawful.{place_after}
use Rattle.rm_model.specs.Place.{BySegment, IsAtEnd, script_grown}
use Rattle.rm_core.specs.Words.{as_new, has_rest, stands}
use Rattle.rm_desk.specs.Runs.{IsScriptRun as GoesAlong}
use Rattle.rm_desk.specs.View.{DeskView}
use Rattle.rm_lives.specs.declared.halts.Stop.{Stop}
use Rattle.rm_lives.specs.declared.moves.LifeEnd.{LifeEnd}
use Rattle.rm_lives.specs.declared.moves.LifeEnd.TheVariants.{Rest, Down}
use Rattle.rm_lives.specs.Goes.{ExtendsRun}
use Rattle.rm_lives.specs.Keeping.{Serves, StoresOn}
use Rattle.rm_lives.specs.Lives.{WentDown}
use Rattle.rm_lives.specs.Order.{Order}
use Rattle.rm_lives.specs.Parts.{RunsOn}
use Rattle.rm_lives.specs.Whole.{IsWholeRun}
use Rattle.rm_plain.specs.Schedule.{MovesBy, by_letters}

-- no entry comes where the script is at its end
abbrev pub NeverPast : Script → List Entry → Type 0
NeverPast script log = (past : List Entry) (e : Entry) (more : List Entry) → log ≡ past ++ e ∷ more → IsAtEnd (place_after script past) → ⊥

-- the plain policy, by which nothing moves where the script is at its end
abbrev pub by_policy : Order
by_policy =
    record {
      keeps = λ new script opening log. MovesBy [] new script opening log × NeverPast script log;
      rests = Unit {0};
      stops = λ new script opening log place. ⊥;
      ends = λ log. Unit {0};
    }

-- the segment that was fed is worked off: it settled, and nothing is left to do, or the life went down
pub record SettledOn {D : Type 0} (view : D → DiskView) (old new : DeskView) (store now : StoreState D) : Type 0 where
  pub goes : ExtendsRun by_policy [] old new
  pub stands : stands new.core ≡ true
  pub none : new.place.segments ≡ []
  pub rest : has_rest new.core
  pub serves : Serves view new now
  pub stores : (opening : List Op) → StoresOn opening old new (seen view store.disk) (seen view now.disk)

-- what was fed is worked off by the way the life ended or rests
abbrev pub WorksOff : {D : Type 0} → (D → DiskView) → DeskView → DeskView → StoreState D → StoreState D → LifeEnd → Type 0
WorksOff view old new store now Rest = SettledOn view old new store now
WorksOff view old new store now (Down image) = WentDown by_policy view old new store now image

-- a life stands at the script's end
pub record StandsAtEnd {D : Type 0} (view : D → DiskView) (d : DeskView) (store : StoreState D) : Type 0 where
  pub stands : stands d.core ≡ true
  pub lives : d.place.lives ≡ []
  pub segments : d.place.segments ≡ []
  pub serves : Serves view d store

-- no life stands, at the script's end, and its disk waits for the next one; one that held a run before isn't blown
pub record WaitsAtEnd {D : Type 0} (d : DeskView) (disk : Fused D) : Type 0 where
  pub dead : stands d.core ≡ false
  pub lives : d.place.lives ≡ []
  pub unarmed : disk.armed ≡ None
  pub unblown : d.core.log ≢ [] → disk.blown ≡ false

-- a life is due, which is the script's last and has no segment yet
pub record IsLastDue (d : DeskView) : Type 0 where
  pub dead : stands d.core ≡ false
  pub stamp : ℕ
  pub next : d.place.lives ≡ record { stamp = stamp; segments = [] } ∷ []

-- the manager began as the other one did, with the same settings
pub record IsSameManager (old new : DeskView) : Type 0 where
  pub began : as_new new.core ≡ as_new old.core
  pub settings : new.core.settings ≡ old.core.settings

-- what was run of the script before a segment was fed goes on as a run of the longer one
abbrev pub GoesOnAs : {D : Type 0} → (D → DiskView) → Segment → DeskView → Fused D → (List Op → Script → Fused D → Type 0) → Type 0
GoesOnAs {D} view segment old before after =
    (opening : List Op) (script : Script) (disk : Fused D) → RunsOn by_policy view opening script disk before old → after opening (script_grown (BySegment segment) script) disk

-- the life stands after the segment is worked off, and nothing is left to do
pub record FedUp {D : Type 0} (view : D → DiskView) (segment : Segment) (old new : DeskView) (store now : StoreState D) : Type 0 where
  pub up : StandsAtEnd view new now
  pub rest : has_rest new.core
  pub same : IsSameManager old new
  pub runs : GoesOnAs view segment old store.disk (λ opening script disk. RunsOn by_policy view opening script disk now.disk new)

-- it went down, and its disk has fallen
pub record FedDown {D : Type 0} (view : D → DiskView) (segment : Segment) (old new : DeskView) (store : StoreState D) (now : Fused D) : Type 0 where
  pub down : WaitsAtEnd new now
  pub same : IsSameManager old new
  pub runs : GoesOnAs view segment old store.disk (λ opening script disk. RunsOn by_policy view opening script disk now new)

-- the run was stopped
pub record FedStopped {D : Type 0} (view : D → DiskView) (segment : Segment) (old new : DeskView) (store : StoreState D) (now : Fused D) (stop : Stop) : Type 0 where
  pub same : IsSameManager old new
  pub whole : GoesOnAs view segment old store.disk (λ opening script disk. IsWholeRun (by_letters []) view opening script new disk now (Err stop))

-- the life went down, or the run was stopped
abbrev pub FedLeft : {D : Type 0} → (D → DiskView) → Segment → DeskView → DeskView → StoreState D → Fused D → Result (Unit {0}) Stop → Type 0
FedLeft view segment old new store now (Ok _) = FedDown view segment old new store now
FedLeft view segment old new store now (Err stop) = FedStopped view segment old new store now stop

-- the first life began over what the disk held
abbrev pub StartsFirst : {D : Type 0} → (D → DiskView) → List Op → DeskView → DeskView → Fused D → StoreState D → Type 0
StartsFirst view opening old new disk store = (script : Script) → GoesAlong opening script old → RunsOn by_policy view opening script disk store.disk new

-- it stopped the run: it has no store that it can begin over, or no memory was found
abbrev pub StopsFirst : {D : Type 0} → (D → DiskView) → List Op → DeskView → DeskView → Fused D → Fused D → Stop → Type 0
StopsFirst view opening old new disk now stop = (script : Script) → GoesAlong opening script old → IsWholeRun (by_letters []) view opening script new disk now (Err stop)

-- a later life began over what the last one left
abbrev pub StartsAgain : {D : Type 0} → (D → DiskView) → DeskView → DeskView → Fused D → StoreState D → Type 0
StartsAgain {D} view old new disk store = (opening : List Op) (script : Script) (first : Fused D) → RunsOn by_policy view opening script first disk old → RunsOn by_policy view opening script first store.disk new

-- it stopped the run
abbrev pub StopsAgain : {D : Type 0} → (D → DiskView) → DeskView → DeskView → Fused D → Fused D → Stop → Type 0
StopsAgain {D} view old new disk now stop = (opening : List Op) (script : Script) (first : Fused D) → RunsOn by_policy view opening script first disk old → IsWholeRun (by_letters []) view opening script new first now (Err stop)
