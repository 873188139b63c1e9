-- Which files of a run were read, by what it came to.
use Rattle.std.proofs.Common.{ℕ, List, Option, inl, inr}
use Rattle.rm_types.specs.declared.outcomes.Outcome.{Outcome}
use Rattle.rm_types.specs.declared.outcomes.Outcome.TheVariants.{Done, Usage, ReadFault, WriteFault, ClusterRefused, ScriptRefused, ScheduleRefused, DiskFault, StoreDamaged, StoreFull, EpochsSpent, Memory, DeviceSmall}
use Rattle.rm_main.specs.Inputs.{IsUnread, StopsAtCluster, StopsAtScript}
use Rattle.rm_main.specs.modes.RunReads.{ReadsAllFiles, ReadsBy, ReadsScript}
use Rattle.rm_outside.specs.Shelves.{ShelfTells}
use Rattle.rm_main.specs.Ways.{IsOfRun}

module _ {F : Type 0} (reads : List ℕ → F → F → Type 0) (told : ShelfTells) (cluster script : List ℕ) (schedule : Option (List ℕ)) (old new : F) where
  -- a run that stopped at its cluster file read that alone
  pub at_cluster : (bytes : Option (List ℕ)) (outcome : Outcome) → StopsAtCluster bytes outcome → reads cluster old new → ReadsBy reads told cluster script schedule outcome old new
  at_cluster bytes ReadFault stops read = inl read
  at_cluster bytes (ClusterRefused place) stops read = read
  at_cluster bytes Memory stops read = inr (inl read)
  at_cluster bytes Done stops read = absurd stops
  at_cluster bytes Usage stops read = absurd stops
  at_cluster bytes (WriteFault took_nothing) stops read = absurd stops
  at_cluster bytes (ScriptRefused line) stops read = absurd stops
  at_cluster bytes (ScheduleRefused place) stops read = absurd stops
  at_cluster bytes DiskFault stops read = absurd stops
  at_cluster bytes (StoreDamaged offset) stops read = absurd stops
  at_cluster bytes (StoreFull needed room) stops read = absurd stops
  at_cluster bytes EpochsSpent stops read = absurd stops
  at_cluster bytes (DeviceSmall size) stops read = absurd stops

  -- one that stopped at its script read the cluster file and the script's
  pub at_script : (bytes : Option (List ℕ)) (outcome : Outcome) → StopsAtScript bytes outcome → ReadsScript reads told cluster script old new → ReadsBy reads told cluster script schedule outcome old new
  at_script bytes ReadFault stops read = inr (inl read)
  at_script bytes (ScriptRefused line) stops read = read
  at_script bytes Memory stops read = inr (inr (inl read))
  at_script bytes Done stops read = absurd stops
  at_script bytes Usage stops read = absurd stops
  at_script bytes (WriteFault took_nothing) stops read = absurd stops
  at_script bytes (ClusterRefused place) stops read = absurd stops
  at_script bytes (ScheduleRefused place) stops read = absurd stops
  at_script bytes DiskFault stops read = absurd stops
  at_script bytes (StoreDamaged offset) stops read = absurd stops
  at_script bytes (StoreFull needed room) stops read = absurd stops
  at_script bytes EpochsSpent stops read = absurd stops
  at_script bytes (DeviceSmall size) stops read = absurd stops

  -- one that stopped at its schedule read all
  pub at_schedule : (outcome : Outcome) → IsUnread outcome → ReadsAllFiles reads told cluster script schedule old new → ReadsBy reads told cluster script schedule outcome old new
  at_schedule ReadFault unread read = inr (inr read)
  at_schedule Memory unread read = inr (inr (inr read))
  at_schedule Done unread read = absurd unread
  at_schedule Usage unread read = absurd unread
  at_schedule (WriteFault took_nothing) unread read = absurd unread
  at_schedule (ClusterRefused place) unread read = absurd unread
  at_schedule (ScriptRefused line) unread read = absurd unread
  at_schedule (ScheduleRefused place) unread read = absurd unread
  at_schedule DiskFault unread read = absurd unread
  at_schedule (StoreDamaged offset) unread read = absurd unread
  at_schedule (StoreFull needed room) unread read = absurd unread
  at_schedule EpochsSpent unread read = absurd unread
  at_schedule (DeviceSmall size) unread read = absurd unread

  -- one that was made read all
  pub of_run : (outcome : Outcome) → IsOfRun outcome → ReadsAllFiles reads told cluster script schedule old new → ReadsBy reads told cluster script schedule outcome old new
  of_run Done of read = read
  of_run (WriteFault took_nothing) of read = read
  of_run (ScheduleRefused place) of read = read
  of_run DiskFault of read = read
  of_run (StoreDamaged offset) of read = read
  of_run (StoreFull needed room) of read = read
  of_run EpochsSpent of read = read
  of_run (DeviceSmall size) of read = absurd of
  of_run Memory of read = inr (inr (inr read))
  of_run Usage of read = absurd of
  of_run ReadFault of read = absurd of
  of_run (ClusterRefused place) of read = absurd of
  of_run (ScriptRefused line) of read = absurd of
