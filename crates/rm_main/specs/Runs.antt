-- What holds of a call in each mode: what its files hold, what a run made, and what the sink took. This project's own.
use Rattle.std.specs.Prelude.{◌≡◌, ℕ, ◌≤◌, List, [], ◌++◌, true, false, Option, None, Some, length, take}
use Rattle.std.specs.Io.KnownBytes.{Appends}
use Rattle.std.specs.declared.alloc.Global.{Global}
use Rattle.rm_types.specs.declared.outcomes.Outcome.{Outcome}
use Rattle.rm_types.specs.declared.outcomes.Outcome.TheVariants.{Done, Usage, ReadFault, WriteFault, ClusterRefused, ScriptRefused, ScheduleRefused, DiskFault, StoreDamaged, StoreFull, EpochsSpent, Memory}
use Rattle.rm_types.specs.declared.scripts.Script.{Script}
use Rattle.rm_types.specs.declared.settings.Settings.{Settings}
use Rattle.rm_types.specs.Counts.{Rose}
use Rattle.rm_disk.specs.Disk.{DiskView}
use Rattle.rm_model.specs.Downs.{AllGoDownAtRest}
use Rattle.rm_model.specs.Lawful.{Lawful, IsDone}
use Rattle.rm_model.specs.State.{opening_state}
use Rattle.rm_outside.specs.Shelves.{ShelfTells, WereRead}
use Rattle.rm_outside.specs.Writes.{AppendsPart}
use Rattle.rm_cluster.specs.Clusters.{IsCluster, IsNoCluster}
use Rattle.rm_cluster.specs.declared.clusters.ClusterError.TheVariants.{Refused}
use Rattle.rm_script.specs.Refusals.{IsFirstRefused}
use Rattle.rm_script.specs.Scripts.{IsScript}
use Rattle.rm_lives.specs.Falls.{falls_of}
use Rattle.rm_core.specs.Words.{new_manager}
use Rattle.rm_lives.specs.Order.{Order}
use Rattle.rm_lives.specs.Stops.{IsDue, IsStoppedBy}
use Rattle.rm_lives.specs.declared.halts.Stop.TheVariants as halted
use Rattle.rm_main.specs.Laws.{MeetsLaws}
use Rattle.rm_main.specs.Made.{Made}

-- the settings are those of the bytes that were read of a file
pub record AreSettings (told : Option (List ℕ)) (settings : Settings) : Type 0 where
  pub bytes : List ℕ
  pub read : WereRead told bytes
  pub cluster : IsCluster bytes settings

-- the script is that of the bytes that were read of a file
pub record IsScriptOf (told : Option (List ℕ)) (script : Script) : Type 0 where
  pub bytes : List ℕ
  pub read : WereRead told bytes
  pub spelled : IsScript bytes script

-- the bytes are those that were read of a schedule; without one there are none
abbrev pub AreMoves : ShelfTells → Option (List ℕ) → List ℕ → Type 0
AreMoves told None bytes = bytes ≡ []
AreMoves told (Some schedule) bytes = WereRead (told schedule) bytes

-- the bytes that were read of a file break a rule of the cluster file, and this is the first one's place
pub record HasNoSettings (told : Option (List ℕ)) (place : ℕ) : Type 0 where
  pub bytes : List ℕ
  pub read : WereRead told bytes
  pub none : IsNoCluster bytes (Refused place)

-- the bytes that were read of a file are no script, and this is the first line that is refused
pub record HasNoScript (told : Option (List ℕ)) (line : ℕ) : Type 0 where
  pub bytes : List ℕ
  pub read : WereRead told bytes
  pub none : IsFirstRefused bytes line

-- why the device, the store or the schedule stopped a run, by its outcome
abbrev pub IsCausedBy : {D : Type 0} → (D → DiskView) → Type 0 → (ℕ → Type 0) → Made D → Outcome → Type 0
IsCausedBy view due stops made DiskFault = IsStoppedBy view due stops made.before made.after made.opening made.log halted.DiskFault
IsCausedBy view due stops made (StoreDamaged offset) = IsStoppedBy view due stops made.before made.after made.opening made.log (halted.Damaged offset)
IsCausedBy view due stops made (StoreFull needed room) = IsStoppedBy view due stops made.before made.after made.opening made.log (halted.Full needed room)
IsCausedBy view due stops made (ScheduleRefused place) = IsStoppedBy view due stops made.before made.after made.opening made.log (halted.Schedule place)
IsCausedBy view due stops made EpochsSpent = IsStoppedBy view due stops made.before made.after made.opening made.log halted.EpochsSpent
IsCausedBy view due stops made _ = Unit {0}

-- a run of these settings and this script was made in this order of moves: the log is lawful for them over the opening list, and so meets the laws; the lanes moved in that order,
-- and where the order rests lives went down at rest; each that went down let the device fall once more; where the outcome is Done the run came to its end and used up the order, and where
-- the device, the store or the schedule stopped it, it had its cause; a script without lives makes no call of the device
pub record RanBy {D : Type 0} (view : D → DiskView) (order : Order) (alloc : Global) (settings : Settings) (script : Script) (made : Made D) (outcome : Outcome) : Type 0 where
  pub lawful : Lawful settings script made.opening made.log
  pub laws : MeetsLaws settings made.opening made.log
  pub moves : order.keeps (new_manager alloc settings) script made.opening made.log
  pub used_up : outcome ≡ Done → order.ends made.log
  pub downs : order.rests → AllGoDownAtRest settings (opening_state made.opening) made.log
  pub fallen : made.after.falls ≡ made.before.falls ++ falls_of script made.opening made.log
  pub done : outcome ≡ Done → IsDone settings script made.opening made.log
  pub caused : IsCausedBy view (IsDue script made.opening made.log) (order.stops (new_manager alloc settings) script made.opening made.log) made outcome
  pub idle : script.lives ≡ [] → (made.log ≡ []) × (made.after ≡ made.before)

-- nothing was run, and the device did not fall
pub record RanNothing {D : Type 0} (made : Made D) : Type 0 where
  pub empty : made.log ≡ []
  pub fallen : made.after.falls ≡ made.before.falls

-- the outcome of a call that stopped before it used the device
abbrev pub StopsBefore : Outcome → Type 0
StopsBefore Usage = Unit {0}
StopsBefore ReadFault = Unit {0}
StopsBefore (ClusterRefused place) = Unit {0}
StopsBefore (ScriptRefused line) = Unit {0}
StopsBefore _ = ⊥

-- the sink took a beginning of the bytes
abbrev pub AppendsPrefix : Option (List ℕ) → Option (List ℕ) → List ℕ → Type 0
AppendsPrefix old new bytes = (n : ℕ) × (n ≤ length bytes) × Appends old new (take n bytes)

-- what the sink took in the call: the page, where the call is Done or its store or its schedule stopped it; a part of it, where the sink
-- failed; a beginning of it, or all of it, where memory ran out; and else nothing
abbrev pub Writes : Outcome → Option (List ℕ) → Option (List ℕ) → List ℕ → Type 0
Writes Done old new bytes = Appends old new bytes
Writes (WriteFault took_nothing) old new bytes = AppendsPart old new bytes
Writes DiskFault old new bytes = Appends old new bytes
Writes (StoreDamaged offset) old new bytes = Appends old new bytes
Writes (StoreFull needed room) old new bytes = Appends old new bytes
Writes (ScheduleRefused place) old new bytes = Appends old new bytes
Writes EpochsSpent old new bytes = Appends old new bytes
Writes Memory old new bytes = AppendsPrefix old new bytes
Writes _ old new bytes = Appends old new []

-- the page was written whole
abbrev pub IsWritten : Outcome → Type 0
IsWritten (WriteFault took_nothing) = ⊥
IsWritten Memory = ⊥
IsWritten _ = Unit {0}

-- what a call wrote to its sink, whose counts are those of its faults and of its idle writes: a fault of writing comes only where one of
-- them rose; where the page was written whole neither did; and where the page is empty the sink is as it was
pub record WritesPage {K : Type 0} (taken : K → Option (List ℕ)) (faults idle : K → ℕ) (old new : K) (page : List ℕ) (outcome : Outcome) : Type 0 where
  pub writes : Writes outcome (taken old) (taken new) page
  pub write_fault : outcome ≡ WriteFault false → Rose (faults old) (faults new)
  pub took_nothing : outcome ≡ WriteFault true → Rose (idle old) (idle new)
  pub quiet : IsWritten outcome → (faults new ≡ faults old) × (idle new ≡ idle old)
  pub untouched : page ≡ [] → new ≡ old
