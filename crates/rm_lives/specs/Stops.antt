-- Why a run stopped before its script's end.
use Rattle.std.specs.Prelude.{◌≡◌, ◌≢◌, ◌⊎◌, ◌-◌, ◌≤◌, ℕ, List, [], None, Some}
use Rattle.rm_types.specs.declared.entries.Entry.{Entry}
use Rattle.rm_types.specs.declared.operations.Op.{Op}
use Rattle.rm_types.specs.declared.limits.TheConstants.{EPOCHS, STAMPS}
use Rattle.rm_types.specs.Counts.{Rose}
use Rattle.rm_types.specs.Records.{Records, records}
use Rattle.rm_types.specs.declared.scripts.Script.{Script}
use Rattle.rm_disk.specs.Disk.{DiskView, EachImage, IfTold}
use Rattle.rm_disk.specs.Fuse.{Fused}
use Rattle.rm_store.specs.Content.{HasContent}
use Rattle.rm_model.specs.Lawful.{place_after, state_after}
use Rattle.rm_store.specs.Causes.{IsWhy}
use Rattle.rm_store.specs.declared.fault.StoreError.TheVariants as store
use Rattle.rm_core.specs.Moves.{IsLeft}
use Rattle.rm_desk.specs.Effects.{IsHanded}
use Rattle.rm_store.specs.Store.{IsBelowLast, seen}
use Rattle.rm_lives.specs.Keeping.{IsFullFor}
use Rattle.rm_lives.specs.declared.halts.Stop.{Stop}
use Rattle.rm_lives.specs.declared.halts.Stop.TheVariants.{DiskFault, Damaged, Full, Schedule, EpochsSpent, Memory}

-- the bytes are no store: at the offset stands an open gate before no record, no frame, or a stray operation
abbrev pub IsNoStore : ℕ → List ℕ → Type 0
IsNoStore offset bytes = IsWhy bytes (store.Damaged offset) ⊎ ((number : ℕ) × IsWhy bytes (store.Stray number offset))

-- a start found no store, on a disk that tells its bytes: that was before the first life, and no opening list was read
abbrev pub IsDamaged : DiskView → List Op → List Entry → ℕ → Type 0
IsDamaged disk opening log offset = IfTold disk (λ bytes. (log ≡ []) × (opening ≡ []) × IsNoStore offset bytes)

-- no epoch or no stamp is left for one more life over a tree
abbrev pub HasNoneLeft : Records → Type 0
HasNoneLeft tree = (EPOCHS ≤ tree.next_epoch) ⊎ (STAMPS - 1 ≤ tree.stamp)

-- the bytes are a store that amounts to this tree
abbrev pub AmountsTo : Records → List ℕ → Type 0
AmountsTo tree bytes = (ops : List Op) × HasContent bytes ops × (tree ≡ records ops)

-- a disk shows a tree: its bytes, and whatever a crash leaves of it, are a store that amounts to it
pub record ShowsTree (tree : Records) (disk : DiskView) : Type 0 where
  pub bytes : List ℕ
  pub told : disk.told ≡ Some bytes
  pub amounts : AmountsTo tree bytes
  pub images : EachImage disk (AmountsTo tree)

-- no epoch or no stamp is left for one more life over what the last one left, and that is what the disk shows, where it is known
pub record NoneLeft (known : Type 0) (disk : DiskView) (opening : List Op) (log : List Entry) : Type 0 where
  pub tree : Records
  pub left : IsLeft tree (state_after opening log)
  pub none : HasNoneLeft tree
  pub shown : known → ShowsTree tree disk

-- the disk tells its bytes
abbrev pub IsTold : DiskView → Type 0
IsTold disk = (bytes : List ℕ) × (disk.told ≡ Some bytes)

-- the disk held the opening list, and the one given back shows that no epoch or no stamp is left for one more life
abbrev pub IsSpent : DiskView → DiskView → List Op → List Entry → Type 0
IsSpent disk now opening log = IfTold disk (λ bytes. HasContent bytes opening) × NoneLeft (IsTold disk) now opening log

-- no life stands, and the script's next thing is a life
pub record IsDue (script : Script) (opening : List Op) (log : List Entry) : Type 0 where
  pub dead : (state_after opening log).life ≡ None
  pub lives : (place_after script log).lives ≢ []

-- why a run stopped, between the handed disk and the one given back. The disk inside the fuse counted a fault, while a life
-- was due or an operation was with the store; a life was due, and the disk held no store, or its epochs
-- or stamps were used up; the store was full; the schedule stopped it; or memory ran out. Where nothing was logged and the store wasn't opened, there
-- is no opening list.
abbrev pub IsStoppedBy : {D : Type 0} → (D → DiskView) → Type 0 → (ℕ → Type 0) → Fused D → Fused D → List Op → List Entry → Stop → Type 0
IsStoppedBy view due stops old new opening log DiskFault =
    Rose (view old.inner).faults (view new.inner).faults × (due ⊎ ((op : Op) × IsHanded opening log op)) × (log ≡ [] → opening ≡ [])
IsStoppedBy view due stops old new opening log (Damaged offset) =
    due × IsDamaged (seen view old) opening log offset × (log ≡ [] → opening ≡ [])
IsStoppedBy view due stops old new opening log (Full needed room) = IsFullFor (IsTold (seen view old) × IsBelowLast (view new.inner)) opening log (view new.inner).size needed room
IsStoppedBy view due stops old new opening log (Schedule place) = stops place × (log ≡ [] → opening ≡ [])
IsStoppedBy view due stops old new opening log EpochsSpent = due × IsSpent (seen view old) (seen view new) opening log
IsStoppedBy view due stops old new opening log Memory = Unit {0}
