-- What a call of the program made of its device, whatever its outcome.
use Rattle.std.specs.Prelude.{◌≡◌, ◌≢◌, ◌⊎◌, ℕ, List, [], None, Some, false}
use Rattle.rm_types.specs.declared.entries.Entry.{Entry}
use Rattle.rm_types.specs.declared.operations.Op.{Op}
use Rattle.rm_types.specs.declared.outcomes.Outcome.{Outcome}
use Rattle.rm_types.specs.declared.outcomes.Outcome.TheVariants.{StoreDamaged, StoreFull}
use Rattle.rm_disk.specs.Disk.{DiskView, EachImage, IsQuiet, IfTold}
use Rattle.rm_disk.specs.Fuse.{Fused}
use Rattle.rm_store.specs.declared.fault.StoreError.{StoreError}
use Rattle.rm_store.specs.Causes.{IsWhy}
use Rattle.rm_store.specs.Content.{DeviceHolds, HasContent}
use Rattle.rm_store.specs.Errors.{IsOpenError}
use Rattle.rm_lives.specs.Opens.{IsOfDevice}
use Rattle.rm_lives.specs.Starts.{DiskStays}
use Rattle.rm_lives.specs.Survives.{SurvivesAll, SurvivesNow}
use Rattle.rm_store.specs.Store.{seen}
use Rattle.rm_main.specs.declared.ended.Ended.{Ended}

-- what a call made: what its disk held when it was opened, its log, and the disk before it and after it
pub record Made (D : Type 0) : Type 0 where
  pub opening : List Op
  pub log : List Entry
  pub before : Fused D
  pub after : Fused D

-- what a call made that ended so, by the disk before it
abbrev pub made_by : {D : Type 0} → Fused D → Ended D → Made D
made_by before ended = record { opening = ended.opening; log = ended.log; before = before; after = ended.disk }

-- what becomes of the device of a call
pub record LeavesDevice {D : Type 0} (view : D → DiskView) (made : Made D) : Type 0 where
  -- it fell only while its fuse was armed, and has its size
  pub stays : DiskStays view made.before made.after
  -- the fuse is given back unarmed, and no more blown than before
  pub unarmed : made.after.armed ≡ None
  pub unblown : made.before.blown ≡ false → made.after.blown ≡ false
  -- a device on which something was logged held the opening list; and this is empty, or the device held it
  pub opening : made.log ≢ [] → IfTold (seen view made.before) (λ bytes. HasContent bytes made.opening)
  pub held : (made.opening ≡ []) ⊎ IfTold (seen view made.before) (λ bytes. HasContent bytes made.opening)
  -- where nothing was logged, no byte of it changed
  pub quiet : made.log ≡ [] → IsQuiet (seen view made.before) (seen view made.after)
  -- at each moment of the call a crash left what could be left of the handed device, or what is kept at some moment of the log,
  -- or this and the operation that awaited; and where something was logged, it leaves now what is kept, or this and the operation that awaits
  pub images : SurvivesAll made.opening made.log (seen view made.before) (seen view made.after)
  pub images_now : SurvivesNow made.opening made.log (seen view made.before) (seen view made.after)

-- the bytes are a store that opens: no cause for which one is refused holds of them
abbrev pub OpensAsStore : List ℕ → Type 0
OpensAsStore bytes = (why : StoreError) → IsOpenError why → IsWhy bytes why → IsOfDevice why

-- A device that holds a store stays one. A call over it doesn't find it damaged; one that logged nothing doesn't find it full; and whatever a crash leaves then of a device on which
-- something was logged opens again.
pub record StaysStore {D : Type 0} (view : D → DiskView) (made : Made D) (outcome : Outcome) : Type 0 where
  pub undamaged : (bytes : List ℕ) (ops : List Op) → (view made.before.inner).told ≡ Some bytes → DeviceHolds bytes ops → (offset : ℕ) → outcome ≡ StoreDamaged offset → ⊥
  pub unfilled : made.log ≡ [] → (needed room : ℕ) → outcome ≡ StoreFull needed room → ⊥
  pub opens : made.log ≢ [] → IfTold (seen view made.before) (λ bytes. EachImage (seen view made.after) OpensAsStore)
