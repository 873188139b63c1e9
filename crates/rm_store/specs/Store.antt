-- A store of operations on a disk that may fall at any moment.
use Rattle.std.specs.Prelude.{◌≡◌, ◌/◌, ◌^◌, ◌-◌, ℕ, Bool, false, None, List, All}
use Rattle.rm_types.specs.declared.operations.Op.{Op}
use Rattle.rm_types.specs.Ranges.{IsOperation}
use Rattle.rm_types.specs.Records.{Records, records, stray}
use Rattle.rm_disk.specs.Disk.{DiskView, IfTold, EachImage, AtEachMoment}
use Rattle.rm_disk.specs.Fuse.{Fused, fused_view}
use Rattle.rm_disk.specs.Scan.{MayBeStore}
use Rattle.rm_journal.specs.two_areas.Areas.{AreasAt, AreasInvariant, HasCurrent}
use Rattle.rm_store.specs.Content.{half_of, room_for}
use Rattle.rm_store.specs.Kept.{IsKept}

-- A store as contracts see it: its disk under a fuse, its areas there, its content, and whether a fault broke it.
pub record StoreState (D : Type 0) : Type 0 where
  pub disk : Fused D
  pub areas : AreasAt
  pub content : List Op
  pub is_broken : Bool

-- A store with another state of its disk.
abbrev pub with_disk : {D : Type 0} → StoreState D → Fused D → StoreState D
with_disk store disk = record store { disk = disk }

-- A disk under a fuse, as a disk.
abbrev pub seen : {D : Type 0} → (D → DiskView) → Fused D → DiskView
seen view fuse = fused_view (view fuse.inner) fuse.refused

-- A store stands: nothing but the store changed its disk's bytes since it was opened, and where it isn't broken its
-- content stands there.
pub record StoreInvariant {D : Type 0} (view : D → DiskView) (store : StoreState D) : Type 0 where
  pub stands : AreasInvariant (seen view store.disk) store.areas
  pub kept : store.is_broken ≡ false → IsKept (seen view store.disk) store.areas store.content

-- What was read: the parts of each operation are in their ranges, none is stray, and the tree is their records.
pub record AreRead (tree : Records) (ops : List Op) : Type 0 where
  pub framed : All IsOperation ops
  pub none_stray : stray ops ≡ None
  pub amounts : tree ≡ records ops

-- Where the disk tells its bytes, the generation of their current area is not the last one, 2^64 - 1.
abbrev pub IsBelowLast : DiskView → Type 0
IsBelowLast disk = IfTold disk (λ bytes. (second : Bool) (payloads : List (List ℕ)) → HasCurrent (half_of bytes) second (2 ^ 64 - 1) payloads bytes → ⊥)

-- How many bytes an area that is written anew, on a disk of so many, has behind the records of what is left of these
-- operations.
abbrev pub room_behind : ℕ → List Op → ℕ
room_behind size ops = room_for (size / 2) ops

-- Whatever a crash now leaves of the disk may be what a store left, and so is what a read gives, which is one of these.
abbrev pub LooksOwn : DiskView → Type 0
LooksOwn disk = EachImage disk MayBeStore

-- At each moment a crash leaves what may be a store's.
abbrev pub StaysOwn : DiskView → DiskView → Type 0
StaysOwn old new = AtEachMoment old new MayBeStore

-- Where a disk that tells its bytes may be a store's, it stays so.
abbrev pub KeepsOwn : DiskView → DiskView → Type 0
KeepsOwn old new = IfTold old (λ _. LooksOwn old → StaysOwn old new)
