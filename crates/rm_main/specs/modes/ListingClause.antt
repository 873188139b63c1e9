-- How a listing of what the device's store keeps ends: the mode `store`. This project's own.
use Rattle.std.specs.Prelude.{◌≡◌, []}
use Rattle.rm_types.specs.declared.outcomes.Outcome.{Outcome}
use Rattle.rm_types.specs.declared.outcomes.Outcome.TheVariants.{Done, Usage, ReadFault, WriteFault, ClusterRefused, ScriptRefused, ScheduleRefused, DiskFault, StoreDamaged, StoreFull, DeviceSmall, EpochsSpent, Memory}
use Rattle.rm_types.specs.Counts.{Rose}
use Rattle.rm_disk.specs.Disk.{DiskView, EachImage, IfTold}
use Rattle.rm_store.specs.Content.{HasContent}
use Rattle.rm_lives.specs.Stops.{IsNoStore}
use Rattle.rm_store.specs.Store.{seen}
use Rattle.rm_main.specs.Made.{Made}
use Rattle.rm_main.specs.Runs.{RanNothing}

-- what a listing shows, by its outcome: the disk inside the fuse counted a fault, or it holds no store, and then nothing is
-- listed; or what is listed is its content, and that of whatever a crash leaves of it from now on
abbrev pub IsListed : {D : Type 0} → (D → DiskView) → Made D → Outcome → Type 0
IsListed view made DiskFault = (made.opening ≡ []) × Rose (view made.before.inner).faults (view made.after.inner).faults
IsListed view made (StoreDamaged offset) = (made.opening ≡ []) × IfTold (seen view made.before) (IsNoStore offset)
IsListed view made Done = IfTold (seen view made.before) (λ bytes. HasContent bytes made.opening × EachImage (seen view made.after) (λ image. HasContent image made.opening))
IsListed view made _ = Unit {0}

-- how a listing ends, by its outcome; no other outcome comes: nothing is run, and what is listed is what the outcome says
abbrev pub ListingEnds : {D : Type 0} → (D → DiskView) → Made D → Outcome → Type 0
ListingEnds view made Done = IsListed view made Done × RanNothing made
ListingEnds view made Usage = ⊥
ListingEnds view made ReadFault = ⊥
ListingEnds view made (WriteFault took_nothing) = RanNothing made
ListingEnds view made (ClusterRefused place) = ⊥
ListingEnds view made (ScriptRefused line) = ⊥
ListingEnds view made (ScheduleRefused place) = ⊥
ListingEnds view made DiskFault = IsListed view made DiskFault × RanNothing made
ListingEnds view made (StoreDamaged offset) = IsListed view made (StoreDamaged offset) × RanNothing made
ListingEnds view made (StoreFull needed room) = ⊥
ListingEnds view made EpochsSpent = ⊥
ListingEnds view made (DeviceSmall size) = ⊥
ListingEnds view made Memory = RanNothing made
