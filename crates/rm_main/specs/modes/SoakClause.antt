-- How a soak ends. This project's own.
use Rattle.std.specs.Prelude.{◌⊎◌, ℕ, []}
use Rattle.std.specs.declared.alloc.Global.{Global}
use Rattle.rm_types.specs.declared.outcomes.Outcome.{Outcome}
use Rattle.rm_types.specs.declared.outcomes.Outcome.TheVariants.{Done, Usage, ReadFault, WriteFault, ClusterRefused, ScriptRefused, ScheduleRefused, DiskFault, StoreDamaged, StoreFull, DeviceSmall, EpochsSpent, Memory}
use Rattle.rm_disk.specs.Disk.{DiskView}
use Rattle.rm_plain.specs.Schedule.{by_letters}
use Rattle.rm_soak.specs.Scripts.{soak_of}
use Rattle.rm_soak.specs.Settings.{soak_settings}
use Rattle.rm_main.specs.Made.{Made}
use Rattle.rm_main.specs.Runs.{RanBy, RanNothing}

-- the soak of so many applications was run, by the plain policy alone
pub record RanSoak {D : Type 0} (view : D → DiskView) (number : ℕ) (made : Made D) (outcome : Outcome) : Type 0 where
  pub alloc : Global
  pub ran : RanBy view (by_letters []) alloc soak_settings (soak_of number) made outcome

-- how a soak ends, by its outcome; no other outcome comes: it was run, or memory ran out before that. It reads no file, and has no schedule that could be refused
abbrev pub SoakEnds : {D : Type 0} → (D → DiskView) → ℕ → Made D → Outcome → Type 0
SoakEnds view number made Done = RanSoak view number made Done
SoakEnds view number made Usage = ⊥
SoakEnds view number made ReadFault = ⊥
SoakEnds view number made (WriteFault took_nothing) = RanSoak view number made (WriteFault took_nothing)
SoakEnds view number made (ClusterRefused place) = ⊥
SoakEnds view number made (ScriptRefused line) = ⊥
SoakEnds view number made (ScheduleRefused place) = ⊥
SoakEnds view number made DiskFault = RanSoak view number made DiskFault
SoakEnds view number made (StoreDamaged offset) = RanSoak view number made (StoreDamaged offset)
SoakEnds view number made (StoreFull needed room) = RanSoak view number made (StoreFull needed room)
SoakEnds view number made EpochsSpent = RanSoak view number made EpochsSpent
SoakEnds view number made (DeviceSmall size) = ⊥
SoakEnds view number made Memory = RanSoak view number made Memory ⊎ RanNothing made
