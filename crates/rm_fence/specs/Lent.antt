-- A fence that is lent as a disk, as contracts see it.
use Rattle.std.specs.Prelude.{◌≡◌, ◌≢◌, ◌⊎◌, ◌+◌, ◌-◌, ◌≤◌, ℕ, Bool, true, false, List, option_map}
use Rattle.rm_types.specs.Counts.{risen, Rose}
use Rattle.rm_disk.specs.Disk.{DiskView, Images, IsQuiet, MayWrite}
use Rattle.rm_fence.specs.declared.TheConstants.{FENCE_SIZE}
use Rattle.rm_fence.specs.Claims.{lent_part}
use Rattle.rm_fence.specs.Fence.{FenceState}

-- A fence, the number of the claim under which its device is lent, and whether a write was refused since it was.
pub record LentState (D : Type 0) : Type 0 where
  pub fence : FenceState D
  pub number : ℕ
  pub has_refused : Bool

-- What is left of some contents in the part that is lent.
abbrev pub lent_parts : Images → Images
lent_parts images part = (whole : List ℕ) × images whole × (lent_part whole ≡ part)

-- The disk that is lent of a device: all of its bytes but the last 65,536, with the refused writes counted among its faults.
abbrev pub lent_view : DiskView → ℕ → DiskView
lent_view device refusals = record {
  size = device.size - FENCE_SIZE;
  told = option_map lent_part device.told;
  images = lent_parts device.images;
  moment = device.moment;
  left_since = λ from. lent_parts (device.left_since from);
  faults = device.faults + refusals;
}

-- A lent fence as a disk.
abbrev pub as_disk : {D : Type 0} → (D → DiskView) → LentState D → DiskView
as_disk view lent = lent_view (view lent.fence.disk) lent.fence.refusals

-- A lent fence with another state of its device, another count of refusals, and whether a write was refused.
abbrev pub with_fence : {D : Type 0} → LentState D → D → ℕ → Bool → LentState D
with_fence lent disk refusals has_refused = record lent { fence = record lent.fence { disk = disk; refusals = refusals }; has_refused = has_refused }

-- A lent fence with another state of its device.
abbrev pub with_device : {D : Type 0} → LentState D → D → LentState D
with_device lent disk = record lent { fence = record lent.fence { disk = disk } }

-- A lent fence after a write that it refused.
abbrev pub refusing : {D : Type 0} → LentState D → LentState D
refusing lent = record lent { fence = record lent.fence { refusals = risen lent.fence.refusals }; has_refused = true }

-- The claim is the newest one.
abbrev pub IsNewest : {D : Type 0} → LentState D → Type 0
IsNewest lent = lent.number ≡ lent.fence.newest

-- Another claim is newer.
abbrev pub IsOlder : {D : Type 0} → LentState D → Type 0
IsOlder lent = lent.number ≢ lent.fence.newest

-- What every call but a fall keeps of a lent fence. The claim and the fence stay, but for the device and the count of refusals,
-- which doesn't fall; a call that succeeds refuses nothing, and nor does one under the newest claim; where one is refused, the count
-- rose. Under an older claim no byte of the device changes; and under none does a byte of the fence's own part.
pub record KeepsLent {D : Type 0} (view : D → DiskView) (inner : D → D → Type 0) (succeeds : Bool) (old new : LentState D) : Type 0 where
  pub inside : inner old.fence.disk new.fence.disk
  pub same : new ≡ with_fence old new.fence.disk new.fence.refusals new.has_refused
  pub refusals : old.fence.refusals ≤ new.fence.refusals
  pub success : succeeds ≡ true → new.fence.refusals ≡ old.fence.refusals
  pub newest : IsNewest old → (new.fence.refusals ≡ old.fence.refusals) × (new.has_refused ≡ old.has_refused)
  pub refused : old.has_refused ≡ false → new.has_refused ≡ true → Rose old.fence.refusals new.fence.refusals
  pub older : IsOlder old → IsQuiet (view old.fence.disk) (view new.fence.disk)
  pub lent_alone : MayWrite 0 ((view old.fence.disk).size - FENCE_SIZE) (view old.fence.disk) (view new.fence.disk)
  pub faults : (view old.fence.disk).faults ≤ (view new.fence.disk).faults

-- What a fault shows: the count rose, and the device failed or a write was refused; under the newest claim the device failed.
pub record FaultedLent {D : Type 0} (view : D → DiskView) (inner : D → D → Type 0) (old new : LentState D) : Type 0 where
  pub counted : Rose (as_disk view old).faults (as_disk view new).faults
  pub whose : inner old.fence.disk new.fence.disk ⊎ ((new.has_refused ≡ true) × IsOlder old)

-- A fall is one of the device to the same image, and nothing else.
pub record FallsLent {D : Type 0} (inner : ℕ → D → D → Type 0) (image : ℕ) (old new : LentState D) : Type 0 where
  pub inside : inner image old.fence.disk new.fence.disk
  pub same : new ≡ with_device old new.fence.disk
