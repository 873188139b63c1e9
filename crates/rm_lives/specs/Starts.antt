-- How a life starts over what its disk holds, and what a life leaves of its disk.
use Rattle.std.specs.Prelude.{◌≡◌, ◌≢◌, ◌⊎◌, ℕ, ◌≤◌, List, [], ◌++◌, true, false, None, Result, Ok, Err}
use Rattle.rm_types.specs.declared.operations.Op.{Op}
use Rattle.rm_types.specs.Counts.{Rose}
use Rattle.rm_types.specs.Records.{Records}
use Rattle.rm_disk.specs.declared.fallen.Fallen.{Fallen}
use Rattle.rm_disk.specs.Disk.{DiskView, EachImage, Falls, IsQuiet, IfTold}
use Rattle.rm_disk.specs.Fuse.{Fused, FallsThrough}
use Rattle.rm_store.specs.Content.{HasContent}
use Rattle.rm_store.specs.Store.{StoreState, AreRead, StoreInvariant, seen}
use Rattle.rm_core.specs.Seen.{StandsFor}
use Rattle.rm_core.specs.Words.{stands}
use Rattle.rm_desk.specs.View.{DeskView}
use Rattle.rm_lives.specs.declared.halts.Halt.{Halt}
use Rattle.rm_lives.specs.declared.halts.Halt.TheVariants as halts
use Rattle.rm_lives.specs.declared.halts.Stop.{Stop}
use Rattle.rm_lives.specs.declared.halts.Stop.TheVariants.{DiskFault, Damaged, EpochsSpent, Memory}
use Rattle.rm_lives.specs.Order.{Order}
use Rattle.rm_lives.specs.Goes.{ExtendsRunOver, IsOver}
use Rattle.rm_lives.specs.Halted.{stop_of}
use Rattle.rm_lives.specs.Keeping.{HaltsOver, KeepsOn, Serves}
use Rattle.rm_lives.specs.declared.moves.LifeEnd.{LifeEnd}
use Rattle.rm_lives.specs.declared.moves.LifeEnd.TheVariants.{Rest, Down}
use Rattle.rm_lives.specs.Stops.{IsNoStore, HasNoneLeft}

-- the fuse fell only while it was armed, and its disk has its size and no fewer faults
pub record DiskStays {D : Type 0} (view : D → DiskView) (old new : Fused D) : Type 0 where
  pub unarmed_falls : new.unarmed_falls ≡ old.unarmed_falls
  pub size : (view new.inner).size ≡ (view old.inner).size
  pub faults : (view old.inner).faults ≤ (view new.inner).faults

-- the fuse is not armed, and not blown
pub record IsAtEase {D : Type 0} (fuse : Fused D) : Type 0 where
  pub unarmed : fuse.armed ≡ None
  pub unblown : fuse.blown ≡ false

-- a store was opened on a disk, quietly: these operations are the disk's content, and that of each image of what it became
pub record IsOpenedStore {D : Type 0} (view : D → DiskView) (old : Fused D) (store : StoreState D) (tree : Records) (ops : List Op) : Type 0 where
  pub sound : StoreInvariant view store
  pub unbroken : store.is_broken ≡ false
  pub unarmed : store.disk.armed ≡ None
  pub unblown : store.disk.blown ≡ false
  pub falls : store.disk.falls ≡ old.falls
  pub disk : DiskStays view old store.disk
  pub read : AreRead tree ops
  pub quiet : IsQuiet (seen view old) (seen view store.disk)
  pub holds : IfTold (seen view old) (λ bytes. HasContent bytes ops)
  pub images : IfTold (seen view old) (λ bytes. EachImage (seen view store.disk) (λ image. HasContent image ops))

-- why a store was not opened: the disk inside the fuse failed, it holds no store, or memory ran out
abbrev pub IsUnopenedBy : {D : Type 0} → (D → DiskView) → Fused D → Fused D → Stop → Type 0
IsUnopenedBy view old new DiskFault = Rose (view old.inner).faults (view new.inner).faults
IsUnopenedBy view old new (Damaged offset) = IfTold (seen view old) (IsNoStore offset)
IsUnopenedBy view old new Memory = Unit {0}
IsUnopenedBy view old new _ = ⊥

-- a disk that is given back because no life began on it: no call changed a byte, and no fall is shown
pub record IsGivenBack {D : Type 0} (view : D → DiskView) (old new : Fused D) : Type 0 where
  pub quiet : IsQuiet (seen view old) (seen view new)
  pub stays : DiskStays view old new
  pub falls : new.falls ≡ old.falls
  pub at_ease : IsAtEase new

-- why no life can begin over a tree
abbrev pub IsRefusedBy : Records → Stop → Type 0
IsRefusedBy tree EpochsSpent = HasNoneLeft tree
IsRefusedBy tree _ = ⊥

-- where lives began over this, and this was found on their disk before, what is kept after them is there
abbrev pub KeepsOver : (List Op → Type 0) → (List Op → Type 0) → DeskView → DeskView → DiskView → DiskView → Type 0
KeepsOver over found old new before now =
    (opening : List Op) → over opening → StandsFor opening old.core → found opening → KeepsOn opening old.core.log new.core.log before now

-- lives were lived to their ends: the device fell so often, and the last life went down, or the run is over
pub record Lives (order : Order) {D : Type 0} (view : D → DiskView) (over found : List Op → Type 0) (old new : DeskView) (disk now : Fused D) : Type 0 where
  pub fallen : List Fallen
  pub goes : ExtendsRunOver order over fallen old new
  pub falls : now.falls ≡ disk.falls ++ fallen
  pub at_ease : IsAtEase now
  pub disk_stays : DiskStays view disk now
  pub ends : (stands new.core ≡ false) ⊎ IsOver new
  pub some : new.core.log ≢ []
  pub kept : KeepsOver over found old new (seen view disk) (seen view now)

-- a life halted, and stopped the run; where nothing was logged, its disk was left alone
pub record Halts (order : Order) {D : Type 0} (view : D → DiskView) (over found : List Op → Type 0) (old new : DeskView) (disk now : Fused D) (stop : Stop) : Type 0 where
  pub falls : now.falls ≡ disk.falls
  pub at_ease : IsAtEase now
  pub disk_stays : DiskStays view disk now
  pub halt : Halt
  pub stops : stop ≡ stop_of halt
  pub halted : HaltsOver order view over found old new disk now halt
  pub quiet : new.core.log ≡ [] → IsQuiet (seen view disk) (seen view now)
  pub unbegun : new.core.log ≡ [] → halt ≡ halts.Memory

-- how a life that began over a tree went
abbrev pub LivesTo : Order → {D : Type 0} → (D → DiskView) → (List Op → Type 0) → (List Op → Type 0) → DeskView → DeskView → Fused D → Fused D → Result (Unit {0}) Stop → Type 0
LivesTo order view over found old new disk now (Ok _) = Lives order view over found old new disk now
LivesTo order view over found old new disk now (Err stop) = Halts order view over found old new disk now stop

-- a life begins, and its store serves it
pub record StartEffect {D : Type 0} (view : D → DiskView) (over found : List Op → Type 0) (old new : DeskView) (store now : StoreState D) : Type 0 where
  pub stands : stands new.core ≡ true
  pub some : new.core.log ≢ []
  pub serves : Serves view new now
  pub kept : KeepsOver over found old new (seen view store.disk) (seen view now.disk)

-- a device falls to its image where its life went down, and else stays as it is
abbrev pub FallsBy : {D : Type 0} → (D → DiskView) → (ℕ → D → D → Type 0) → Fused D → Fused D → LifeEnd → Type 0
FallsBy view inner old new Rest = new ≡ old
FallsBy view inner old new (Down image) = Falls (seen view old) (seen view new) × FallsThrough inner image old new

-- a fuse that was disarmed
abbrev pub disarmed : {D : Type 0} → Fused D → Fused D
disarmed fuse = record fuse { armed = None; blown = false }

-- what is left of a life that ended so, or halted
abbrev pub LeavesAtEnd : {D : Type 0} → (D → DiskView) → (ℕ → D → D → Type 0) → Fused D → Fused D → Result LifeEnd Halt → Result (Unit {0}) Stop → Type 0
LeavesAtEnd view inner old new (Ok end) result = FallsBy view inner old new end × (result ≡ Ok tt)
LeavesAtEnd view inner old new (Err halt) result = (new ≡ disarmed old) × (result ≡ Err (stop_of halt))
