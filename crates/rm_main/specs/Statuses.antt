-- The exit status of each outcome. This project's own.
use Rattle.std.specs.Prelude.{ℕ}
use Rattle.rm_types.specs.declared.outcomes.Outcome.{Outcome}
use Rattle.rm_types.specs.declared.outcomes.Outcome.TheVariants.{Done, Usage, ReadFault, WriteFault, ClusterRefused, ScriptRefused, ScheduleRefused, DiskFault, StoreDamaged, StoreFull, EpochsSpent, DeviceSmall, Memory}

-- the status with which the program ends
abbrev pub status_of : Outcome → ℕ
status_of Done = 0
status_of Usage = 1
status_of ReadFault = 2
status_of (WriteFault took_nothing) = 3
status_of (ClusterRefused place) = 4
status_of (ScriptRefused line) = 5
status_of (ScheduleRefused place) = 6
status_of DiskFault = 7
status_of (StoreDamaged offset) = 8
status_of (StoreFull needed room) = 9
status_of EpochsSpent = 10
status_of Memory = 11
status_of (DeviceSmall size) = 12
