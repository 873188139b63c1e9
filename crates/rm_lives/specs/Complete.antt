-- A run that nothing stands in the way of.
use Rattle.std.specs.Prelude.{◌≡◌, ◌≤◌, ◌<◌, ◌-◌, ℕ, List, Some}
use Rattle.rm_types.specs.declared.entries.Entry.{Entry}
use Rattle.rm_types.specs.declared.limits.TheConstants.{EPOCHS, STAMPS}
use Rattle.rm_types.specs.declared.operations.Op.{Op}
use Rattle.rm_types.specs.Counts.{Rose}
use Rattle.rm_types.specs.Records.{Records}
use Rattle.rm_disk.specs.Disk.{DiskView}
use Rattle.rm_disk.specs.Fuse.{Fused}
use Rattle.rm_store.specs.Content.{DeviceHolds}
use Rattle.rm_store.specs.Kept.{needed_for}
use Rattle.rm_store.specs.Store.{IsBelowLast, room_behind, seen}
use Rattle.rm_model.specs.Lawful.{state_after}
use Rattle.rm_desk.specs.Effects.{IsHanded}
use Rattle.rm_lives.specs.Stops.{ShowsTree}

-- Nothing stands in the way of a run, as far as its log goes: the device tells that it held a store, and counted no fault; where a life is due, an epoch and a stamp are left over what the
-- device shows; and an operation that is with the store has room, on a device whose generation is below the last one. This project's own.
pub record HasPlace {D : Type 0} (view : D → DiskView) (disk now : Fused D) (due : Type 0) (opening : List Op) (log : List Entry) : Type 0 where
  pub bytes : List ℕ
  pub told : (view disk.inner).told ≡ Some bytes
  pub ops : List Op
  pub holds : DeviceHolds bytes ops
  pub faultless : Rose (view disk.inner).faults (view now.inner).faults → ⊥
  pub starts : due → (tree : Records) → ShowsTree tree (seen view now) → (tree.next_epoch < EPOCHS) × (tree.stamp < STAMPS - 1)
  pub room : (op : Op) → IsHanded opening log op → IsBelowLast (view now.inner) × (needed_for op ≤ room_behind (view now.inner).size (state_after opening log).kept)
