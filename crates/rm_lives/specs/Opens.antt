-- What is found where the device of a run is opened again.
use Rattle.std.specs.Prelude.{◌≡◌, ℕ, List, [], Some, IfErr, Result}
use Rattle.rm_types.specs.declared.entries.Entry.{Entry}
use Rattle.rm_types.specs.declared.operations.Op.{Op}
use Rattle.rm_disk.specs.Disk.{DiskView}
use Rattle.rm_store.specs.Content.{DeviceHolds}
use Rattle.rm_store.specs.Causes.{IsWhy}
use Rattle.rm_store.specs.Errors.{IsOpenError}
use Rattle.rm_store.specs.declared.fault.StoreError.{StoreError}
use Rattle.rm_store.specs.declared.fault.StoreError.TheVariants as store
use Rattle.rm_lives.specs.declared.halts.Stop.{Stop}
use Rattle.rm_lives.specs.declared.halts.Stop.TheVariants.{DiskFault, EpochsSpent, Schedule, Memory}
use Rattle.rm_lives.specs.Survives.{HoldsAfter}

-- an error that tells no fault of the bytes: the device failed, or memory ran out
abbrev pub IsOfDevice : StoreError → Type 0
IsOfDevice store.DiskFault = Unit {0}
IsOfDevice store.Memory = Unit {0}
IsOfDevice _ = ⊥

-- no bytes that a run left, at its end or by a crash at any moment of its log, are the cause for which a store refuses to open
abbrev pub OpensAgain : List Op → List Entry → Type 0
OpensAgain opening log = (image : List ℕ) → HoldsAfter opening log image → (why : StoreError) → IsOpenError why → IsWhy image why → IsOfDevice why

-- a start that began no life failed by its device, for want of an epoch or a stamp, by a letter of the schedule, or for want of memory
abbrev pub IsOfStart : Stop → Type 0
IsOfStart DiskFault = Unit {0}
IsOfStart EpochsSpent = Unit {0}
IsOfStart (Schedule place) = Unit {0}
IsOfStart Memory = Unit {0}
IsOfStart _ = ⊥

-- over a device that holds a store, a start that logs nothing fails only so
abbrev pub StartsOver : DiskView → List Entry → Result (Unit {0}) Stop → Type 0
StartsOver disk log ended = (bytes : List ℕ) (ops : List Op) → disk.told ≡ Some bytes → DeviceHolds bytes ops → log ≡ [] → IfErr ended IsOfStart
