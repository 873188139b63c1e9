-- What the store of a run holds, and what is told of its device.
use Rattle.std.specs.Prelude.{◌≡◌, ◌≢◌, ◌≤◌, ◌<◌, ℕ, List, [], ◌++◌, Bool, true, false, Option, None, Some}
use Rattle.rm_types.specs.declared.entries.Entry.{Entry}
use Rattle.rm_types.specs.declared.operations.Op.{Op}
use Rattle.rm_types.specs.declared.scripts.Close.{Close}
use Rattle.rm_types.specs.declared.scripts.Close.TheVariants.{Crash}
use Rattle.rm_types.specs.Counts.{Rose}
use Rattle.rm_disk.specs.Disk.{DiskView, EachImage, Leaves}
use Rattle.rm_disk.specs.Fuse.{Fused}
use Rattle.rm_store.specs.Content.{DeviceHolds}
use Rattle.rm_model.specs.Changes.{kept_after_landing}
use Rattle.rm_model.specs.Lawful.{state_after}
use Rattle.rm_model.specs.Place.{close_left}
use Rattle.rm_model.specs.State.{LifeState, Manager}
use Rattle.rm_lives.specs.Goes.{ExtendsRunOver}
use Rattle.rm_lives.specs.Order.{Order, StopsHere}
use Rattle.rm_lives.specs.Survives.{HoldsAfter, HoldsKept, HoldsWithin}
use Rattle.rm_store.specs.Kept.{needed_for}
use Rattle.rm_store.specs.Store.{StoreState, StoreInvariant, IsBelowLast, seen, room_behind}
use Rattle.rm_types.specs.Records.{Records}
use Rattle.rm_core.specs.Seen.{Seen, StandsFor}
use Rattle.rm_core.specs.Words.{is_blown, landed_over}
use Rattle.rm_desk.specs.Effects.{IsHanded}
use Rattle.rm_desk.specs.View.{DeskView}
use Rattle.rm_lives.specs.declared.halts.Halt.{Halt}
use Rattle.rm_lives.specs.declared.halts.Halt.TheVariants.{DiskFault, Full, Schedule, Memory}

-- the life that stands was blown; where none stands, the last one was
abbrev pub blown_in : Option LifeState → Bool → Bool
blown_in None blew = blew
blown_in (Some life) blew = life.blown

-- the life that stands was blown, or the last one where none stands
abbrev pub has_blown : Manager → Bool
has_blown s = blown_in s.life s.blew

-- the bytes hold the operations that are kept in a state; once its life was blown, or the last one, they may also hold these and the first that
-- awaits
abbrev pub HoldsBy : Bool → Manager → List ℕ → Type 0
HoldsBy false s bytes = DeviceHolds bytes s.kept
HoldsBy true s bytes = HoldsKept s bytes

-- these bytes hold what is kept, or this and the operation that awaits first where the store refused it
abbrev pub HoldsIn : Manager → List ℕ → Type 0
HoldsIn s bytes = HoldsBy (has_blown s) s bytes

-- a disk tells its bytes, and they and each image hold what they may after a log
pub record IsKeptOn (opening : List Op) (log : List Entry) (disk : DiskView) : Type 0 where
  pub bytes : List ℕ
  pub told : disk.told ≡ Some bytes
  pub holds : HoldsIn (state_after opening log) bytes
  pub images : EachImage disk (HoldsIn (state_after opening log))

-- a disk tells its bytes, and they and each image hold just what the next life begins with over this tree
pub record IsFoundOn (opening : List Op) (core : Seen) (tree : Records) (disk : DiskView) : Type 0 where
  pub bytes : List ℕ
  pub told : disk.told ≡ Some bytes
  pub holds : DeviceHolds bytes (kept_after_landing (state_after opening core.log) (landed_over core tree))
  pub images : EachImage disk (λ image. DeviceHolds image (kept_after_landing (state_after opening core.log) (landed_over core tree)))

-- a disk that has what is kept after a log has what is kept after a longer one, and at each moment between a crash left
-- what is kept after a part of it, or this and the operation that awaits there
pub record KeepsOn (opening : List Op) (log longer : List Entry) (old new : DiskView) : Type 0 where
  pub kept : IsKeptOn opening longer new
  pub time : Leaves old new (HoldsWithin opening longer)
  pub more : List Entry
  pub grows : longer ≡ log ++ more

-- what was there before, if it was, is there now
abbrev pub StoresOn : List Op → DeskView → DeskView → DiskView → DiskView → Type 0
StoresOn opening old new before now = StandsFor opening old.core → IsKeptOn opening old.core.log before → KeepsOn opening old.core.log new.core.log before now

-- a part of a run in which the store wrote nothing: what held what it may before still does
pub record IsUnkept (old new : DeskView) : Type 0 where
  pub kept : (opening : List Op) → StandsFor opening old.core → (image : List ℕ) → HoldsIn (state_after opening old.core.log) image → HoldsIn (state_after opening new.core.log) image
  pub more : List Entry
  pub grows : new.core.log ≡ old.core.log ++ more

-- a life began over a tree, and nothing else happened
pub record BeganLife (tree : Records) (old new : DeskView) : Type 0 where
  pub kept : (opening : List Op) → StandsFor opening old.core → (state_after opening new.core.log).kept ≡ kept_after_landing (state_after opening old.core.log) (landed_over old.core tree)
  pub unblown : (opening : List Op) → StandsFor opening old.core → has_blown (state_after opening new.core.log) ≡ false
  pub more : List Entry
  pub grows : new.core.log ≡ old.core.log ++ more
  pub some : new.core.log ≢ []

-- the calls that the fuse lets pass in a segment: those of its crash
abbrev pub armed_by : Option Close → Option ℕ
armed_by (Some (Crash calls image)) = Some calls
armed_by _ = None

-- the store serves the desk: nothing but the store changed its disk, the fuse is armed as the current segment says and blown where the life is,
-- no append failed unless it is, no more calls passed than the fuse is armed with, and just as many where it is blown
pub record Serves {D : Type 0} (view : D → DiskView) (d : DeskView) (store : StoreState D) : Type 0 where
  pub sound : StoreInvariant view store
  pub unbroken : is_blown d.core ≡ false → store.is_broken ≡ false
  pub armed : store.disk.armed ≡ armed_by (close_left d.place.segments)
  pub blown : store.disk.blown ≡ is_blown d.core
  pub within : (calls : ℕ) → store.disk.armed ≡ Some calls → store.disk.passed ≤ calls
  pub spent : store.disk.blown ≡ true → store.disk.armed ≡ Some store.disk.passed

-- a fuse after some of a run: it showed no fall, and its disk has its size and no fewer faults
pub record FuseStays {D : Type 0} (view : D → DiskView) (old new : Fused D) : Type 0 where
  pub falls : new.falls ≡ old.falls
  pub unarmed_falls : new.unarmed_falls ≡ old.unarmed_falls
  pub size : (view new.inner).size ≡ (view old.inner).size
  pub faults : (view old.inner).faults ≤ (view new.inner).faults

-- over a disk that had what is kept after a log, a part of a run later: at each moment between a crash left what is kept
-- after a part of the longer log, or this and the operation that awaits there, and of the disk now it leaves what is kept
-- after the whole longer log, or this and the one that awaits
pub record LeavesOn (opening : List Op) (log longer : List Entry) (old new : DiskView) : Type 0 where
  pub time : Leaves old new (HoldsWithin opening longer)
  pub now : EachImage new (HoldsAfter opening longer)
  pub more : List Entry
  pub grows : longer ≡ log ++ more

-- the same over each opening list for which something holds, where this was found on the disk before
abbrev pub LeftOver : (List Op → Type 0) → (List Op → Type 0) → DeskView → DeskView → DiskView → DiskView → Type 0
LeftOver over found old new before now =
    (opening : List Op) → over opening → StandsFor opening old.core → found opening → LeavesOn opening old.core.log new.core.log before now

-- the operation that is with the store needs so much, and a disk of so many bytes has less room; where the disk is known,
-- and isn't of the last generation, the room is that behind what is left of what is kept
pub record IsFullFor (known : Type 0) (opening : List Op) (log : List Entry) (size needed room : ℕ) : Type 0 where
  pub op : Op
  pub handed : IsHanded opening log op
  pub needs : needed ≡ needed_for op
  pub less : room < needed
  pub behind : known → room ≡ room_behind size (state_after opening log).kept

-- why a part of a run halted: the disk inside the fuse counted a fault, while an operation was with the store; or it was full; or the order stopped it
abbrev pub IsHaltedBy : Order → {D : Type 0} → (D → DiskView) → (List Op → Type 0) → (List Op → Type 0) → DeskView → DeskView → Fused D → Fused D → Halt → Type 0
IsHaltedBy order view over found old new disk now DiskFault =
    Rose (view disk.inner).faults (view now.inner).faults × ((opening : List Op) → over opening → StandsFor opening old.core → (op : Op) × IsHanded opening new.core.log op)
IsHaltedBy order view over found old new disk now (Full needed room) =
    (opening : List Op) → over opening → StandsFor opening old.core
    → IsFullFor (found opening × IsBelowLast (view now.inner)) opening new.core.log (view now.inner).size needed room
IsHaltedBy order view over found old new disk now (Schedule place) = StopsHere order new place
IsHaltedBy order view over found old new disk now Memory = Unit {0}

-- a part of a run halted: what was run, why, and what is left on the disk
pub record HaltsOver (order : Order) {D : Type 0} (view : D → DiskView) (over found : List Op → Type 0) (old new : DeskView) (disk now : Fused D) (halt : Halt) : Type 0 where
  pub goes : ExtendsRunOver order over [] old new
  pub why : IsHaltedBy order view over found old new disk now halt
  pub left : LeftOver over found old new (seen view disk) (seen view now)

-- the same over each opening list, where the disk had what is kept
abbrev pub HaltsBy : Order → {D : Type 0} → (D → DiskView) → DeskView → DeskView → Fused D → Fused D → Halt → Type 0
HaltsBy order view old new disk now halt = HaltsOver order view (λ opening. Unit {0}) (λ opening. IsKeptOn opening old.core.log (seen view disk)) old new disk now halt
