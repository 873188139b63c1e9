-- The first life of a script, and those after it.
use Rattle.std.specs.Prelude.{◌≡◌, ◌≢◌, ◌⊎◌, ℕ, List, [], ◌++◌, false, None, Some, Result, Ok, Err}
use Rattle.rm_types.specs.declared.operations.Op.{Op}
use Rattle.rm_types.specs.declared.entries.Entry.{Entry}
use Rattle.rm_types.specs.Counts.{Rose}
use Rattle.rm_types.specs.Records.{Records, records}
use Rattle.rm_disk.specs.declared.fallen.Fallen.{Fallen}
use Rattle.rm_disk.specs.Disk.{DiskView, EachImage, IsQuiet, Leaves, IfTold}
use Rattle.rm_disk.specs.Fuse.{Fused}
use Rattle.rm_store.specs.Content.{HasContent}
use Rattle.rm_lives.specs.Survives.{HoldsWithin, SurvivesAll, SurvivesNow}
use Rattle.rm_desk.specs.Effects.{IsHanded}
use Rattle.rm_store.specs.Store.{StoreState, StoreInvariant, IsBelowLast, seen}
use Rattle.rm_core.specs.Moves.{CanBeginOver, IsLeftAfter, IsOwn}
use Rattle.rm_core.specs.Seen.{Seen, StandsFor}
use Rattle.rm_core.specs.Words.{stands}
use Rattle.rm_desk.specs.View.{DeskView}
use Rattle.rm_lives.specs.declared.halts.Stop.{Stop}
use Rattle.rm_lives.specs.declared.halts.Stop.TheVariants.{DiskFault, Damaged, Full, Schedule, EpochsSpent, Memory}
use Rattle.rm_lives.specs.Order.{Order, StopsHere}
use Rattle.rm_lives.specs.Goes.{ExtendsRunOver, IsOver}
use Rattle.rm_lives.specs.Keeping.{IsFoundOn, IsFullFor, IsKeptOn, LeftOver}
use Rattle.rm_lives.specs.Starts.{DiskStays, IsAtEase, Lives}
use Rattle.rm_lives.specs.Stops.{IsNoStore, IsSpent, IsStoppedBy, NoneLeft}

-- a store that is ready for a life: whole, with its fuse unarmed, over a tree that a life can begin over
pub record IsReady {D : Type 0} (view : D → DiskView) (disk : Fused D) (store : StoreState D) (tree : Records) : Type 0 where
  pub sound : StoreInvariant view store
  pub unbroken : store.is_broken ≡ false
  pub unarmed : store.disk.armed ≡ None
  pub unblown : store.disk.blown ≡ false
  pub falls : store.disk.falls ≡ disk.falls
  pub stays : DiskStays view disk store.disk
  pub over : CanBeginOver tree

-- the store of the first life, over the operations that its disk held
pub record IsFirst {D : Type 0} (view : D → DiskView) (disk : Fused D) (store : StoreState D) (tree : Records) (opening : List Op) : Type 0 where
  pub ready : IsReady view disk store tree
  pub amounts : tree ≡ records opening
  pub kept : (bytes : List ℕ) → (seen view disk).told ≡ Some bytes → HasContent bytes opening × EachImage (seen view store.disk) (λ image. HasContent image opening)
  pub quiet : IsQuiet (seen view disk) (seen view store.disk)

-- the store of a later life, over what the last one left: its disk shows what it showed, so that nothing is taken off it between two lives
pub record IsAgain {D : Type 0} (view : D → DiskView) (core : Seen) (disk : Fused D) (store : StoreState D) (tree : Records) : Type 0 where
  pub ready : IsReady view disk store tree
  pub own : IsOwn core tree
  pub left : (opening : List Op) → StandsFor opening core → IsLeftAfter tree opening core.log
  pub found : (opening : List Op) → StandsFor opening core → IsKeptOn opening core.log (seen view disk) → IsFoundOn opening core tree (seen view store.disk)
  pub time : (opening : List Op) → StandsFor opening core → IsKeptOn opening core.log (seen view disk) → Leaves (seen view disk) (seen view store.disk) (HoldsWithin opening core.log)
  pub quiet : IsQuiet (seen view disk) (seen view store.disk)

-- no life stands, and one is left in the script
pub record IsDueAt (d : DeskView) : Type 0 where
  pub dead : stands d.core ≡ false
  pub lives : d.place.lives ≢ []

-- why a later life has no store that it can begin over
abbrev pub IsUnready : {D : Type 0} → (D → DiskView) → List Op → List Entry → Fused D → Fused D → Stop → Type 0
IsUnready view opening log disk now DiskFault = Rose (view disk.inner).faults (view now.inner).faults
IsUnready view opening log disk now (Damaged offset) = IsKeptOn opening log (seen view disk) → ⊥
IsUnready view opening log disk now (Full needed room) = ⊥
IsUnready view opening log disk now (Schedule place) = ⊥
IsUnready view opening log disk now EpochsSpent = NoneLeft (IsKeptOn opening log (seen view disk)) (seen view now) opening log
IsUnready view opening log disk now Memory = Unit {0}

-- why a later life stopped the run, over a disk that held what was kept
abbrev pub IsLaterStop : Order → {D : Type 0} → (D → DiskView) → List Op → DeskView → DeskView → Fused D → Fused D → Stop → Type 0
IsLaterStop order view opening old new disk now DiskFault =
    Rose (view disk.inner).faults (view now.inner).faults × (IsDueAt new ⊎ ((op : Op) × IsHanded opening new.core.log op))
IsLaterStop order view opening old new disk now (Damaged offset) =
    IsDueAt new × (IsKeptOn opening old.core.log (seen view disk) → ⊥)
IsLaterStop order view opening old new disk now (Full needed room) =
    IsFullFor (IsKeptOn opening old.core.log (seen view disk) × IsBelowLast (view now.inner)) opening new.core.log (view now.inner).size needed room
IsLaterStop order view opening old new disk now (Schedule place) = StopsHere order new place
IsLaterStop order view opening old new disk now EpochsSpent = IsDueAt new × NoneLeft (IsKeptOn opening old.core.log (seen view disk)) (seen view now) opening new.core.log
IsLaterStop order view opening old new disk now Memory = Unit {0}

-- some lives were lived, and one stopped the run
pub record StopsLater (order : Order) {D : Type 0} (view : D → DiskView) (old new : DeskView) (disk now : Fused D) (stop : Stop) : Type 0 where
  pub fallen : List Fallen
  pub goes : ExtendsRunOver order (λ opening. Unit {0}) fallen old new
  pub falls : now.falls ≡ disk.falls ++ fallen
  pub stays : DiskStays view disk now
  pub at_ease : IsAtEase now
  pub why : (opening : List Op) → StandsFor opening old.core → IsLaterStop order view opening old new disk now stop
  pub left : LeftOver (λ opening. Unit {0}) (λ opening. IsKeptOn opening old.core.log (seen view disk)) old new (seen view disk) (seen view now)

-- how later lives went
abbrev pub LaterTo : Order → {D : Type 0} → (D → DiskView) → DeskView → DeskView → Fused D → Fused D → Result (Unit {0}) Stop → Type 0
LaterTo order view old new disk now (Ok _) = Lives order view (λ opening. Unit {0}) (λ opening. IsKeptOn opening old.core.log (seen view disk)) old new disk now
LaterTo order view old new disk now (Err stop) = StopsLater order view old new disk now stop

-- what the disk held at first, holds now, and could be left of it between
pub record HeldFirst {D : Type 0} (view : D → DiskView) (opening : List Op) (new : DeskView) (disk now : Fused D) (bytes : List ℕ) : Type 0 where
  pub opened : HasContent bytes opening
  pub kept : IsKeptOn opening new.core.log (seen view now)
  pub time : Leaves (seen view disk) (seen view now) (λ image. (seen view disk).images image ⊎ HoldsWithin opening new.core.log image)

-- the first life was lived
pub record FirstLived (order : Order) {D : Type 0} (view : D → DiskView) (opening : List Op) (old new : DeskView) (disk now : Fused D) : Type 0 where
  pub fallen : List Fallen
  pub goes : ExtendsRunOver order (λ ops. ops ≡ opening) fallen old new
  pub falls : now.falls ≡ disk.falls ++ fallen
  pub at_ease : IsAtEase now
  pub stays : DiskStays view disk now
  pub ends : (stands new.core ≡ false) ⊎ IsOver new
  pub some : new.core.log ≢ []
  pub opened : IfTold (seen view disk) (λ bytes. HasContent bytes opening)
  pub kept : (bytes : List ℕ) → (seen view disk).told ≡ Some bytes → StandsFor opening old.core → HeldFirst view opening new disk now bytes

-- the first life stopped the run; where nothing was logged, its disk was left alone
pub record FirstStopped (order : Order) {D : Type 0} (view : D → DiskView) (opening : List Op) (old new : DeskView) (disk now : Fused D) (stop : Stop) : Type 0 where
  pub goes : ExtendsRunOver order (λ ops. ops ≡ opening) [] old new
  pub falls : now.falls ≡ disk.falls
  pub stays : DiskStays view disk now
  pub at_ease : IsAtEase now
  pub held : new.core.log ≢ [] → IfTold (seen view disk) (λ bytes. HasContent bytes opening)
  pub found : (opening ≡ []) ⊎ IfTold (seen view disk) (λ bytes. HasContent bytes opening)
  pub quiet : new.core.log ≡ [] → IsQuiet (seen view disk) (seen view now)
  pub left : StandsFor opening old.core → SurvivesAll opening new.core.log (seen view disk) (seen view now) × SurvivesNow opening new.core.log (seen view disk) (seen view now)
  pub why : StandsFor opening old.core → IsStoppedBy view (IsDueAt new) (StopsHere order new) disk now opening new.core.log stop

-- how the first life went
abbrev pub FirstTo : Order → {D : Type 0} → (D → DiskView) → List Op → DeskView → DeskView → Fused D → Fused D → Result (Unit {0}) Stop → Type 0
FirstTo order view opening old new disk now (Ok _) = FirstLived order view opening old new disk now
FirstTo order view opening old new disk now (Err stop) = FirstStopped order view opening old new disk now stop

-- why the first life had no store that it can begin over, and what its disk held, if it held a store
abbrev pub IsUnfounded : {D : Type 0} → (D → DiskView) → List Op → Fused D → Fused D → Stop → Type 0
IsUnfounded view opening disk now DiskFault = (opening ≡ []) × Rose (view disk.inner).faults (view now.inner).faults
IsUnfounded view opening disk now (Damaged offset) = (opening ≡ []) × IfTold (seen view disk) (IsNoStore offset)
IsUnfounded view opening disk now (Full needed room) = ⊥
IsUnfounded view opening disk now (Schedule place) = ⊥
IsUnfounded view opening disk now EpochsSpent = IsSpent (seen view disk) (seen view now) opening []
IsUnfounded view opening disk now Memory = Unit {0}
