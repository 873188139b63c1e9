-- How a run of a script under a cluster file ends: the mode of `plain`, `replay` and `threads`. This project's own.
use Rattle.std.specs.Prelude.{◌⊎◌, ℕ, List, Option}
use Rattle.std.specs.declared.alloc.Global.{Global}
use Rattle.rm_types.specs.declared.outcomes.Outcome.{Outcome}
use Rattle.rm_types.specs.declared.outcomes.Outcome.TheVariants.{Done, Usage, ReadFault, WriteFault, ClusterRefused, ScriptRefused, ScheduleRefused, DiskFault, StoreDamaged, StoreFull, DeviceSmall, EpochsSpent, Memory}
use Rattle.rm_types.specs.declared.scripts.Script.{Script}
use Rattle.rm_types.specs.declared.settings.Settings.{Settings}
use Rattle.rm_disk.specs.Disk.{DiskView}
use Rattle.rm_lives.specs.Order.{Order}
use Rattle.rm_outside.specs.Shelves.{ShelfTells}
use Rattle.rm_plain.specs.Schedule.{by_letters, steps_of}
use Rattle.rm_workers.specs.AnyOrder.{any_order}
use Rattle.rm_main.specs.Inputs.{StopsEarly}
use Rattle.rm_main.specs.Made.{Made}
use Rattle.rm_main.specs.Runs.{AreMoves, AreSettings, IsScriptOf, RanBy, RanNothing}
use Rattle.rm_words.specs.Words.{Mover, OneThread, Workers}

-- the order of moves: workers move any lane that is ready, and one thread the one that the schedule's letter or, after the last one, the plain policy says
abbrev pub order_by : Mover → List ℕ → Order
order_by OneThread schedule = by_letters (steps_of schedule)
order_by Workers schedule = any_order

-- a run was made of the settings, the script and the schedule that these files hold, in the order of moves of its mover
pub record RanFromFiles {D : Type 0} (view : D → DiskView) (told : ShelfTells) (cluster_file script_file : List ℕ) (schedule_file : Option (List ℕ)) (mover : Mover) (made : Made D) (outcome : Outcome) : Type 0 where
  pub settings : Settings
  pub of_cluster : AreSettings (told cluster_file) settings
  pub script : Script
  pub of_script : IsScriptOf (told script_file) script
  pub schedule : List ℕ
  pub of_schedule : AreMoves told schedule_file schedule
  pub alloc : Global
  pub ran : RanBy view (order_by mover schedule) alloc settings script made outcome

-- how a run ends, by its outcome; no other outcome comes: it was made, or one of its files stopped it, or memory ran out before it began
abbrev pub RunEnds : {D : Type 0} → (D → DiskView) → ShelfTells → List ℕ → List ℕ → Option (List ℕ) → Mover → Made D → Outcome → Type 0
RunEnds view told cluster script schedule mover made Done = RanFromFiles view told cluster script schedule mover made Done
RunEnds view told cluster script schedule mover made Usage = ⊥
RunEnds view told cluster script schedule mover made ReadFault = RanNothing made
RunEnds view told cluster script schedule mover made (WriteFault took_nothing) = RanFromFiles view told cluster script schedule mover made (WriteFault took_nothing)
RunEnds view told cluster script schedule mover made (ClusterRefused place) = StopsEarly told cluster script (ClusterRefused place) × RanNothing made
RunEnds view told cluster script schedule mover made (ScriptRefused line) = StopsEarly told cluster script (ScriptRefused line) × RanNothing made
RunEnds view told cluster script schedule mover made (ScheduleRefused place) = RanFromFiles view told cluster script schedule mover made (ScheduleRefused place)
RunEnds view told cluster script schedule mover made DiskFault = RanFromFiles view told cluster script schedule mover made DiskFault
RunEnds view told cluster script schedule mover made (StoreDamaged offset) = RanFromFiles view told cluster script schedule mover made (StoreDamaged offset)
RunEnds view told cluster script schedule mover made (StoreFull needed room) = RanFromFiles view told cluster script schedule mover made (StoreFull needed room)
RunEnds view told cluster script schedule mover made EpochsSpent = RanFromFiles view told cluster script schedule mover made EpochsSpent
RunEnds view told cluster script schedule mover made (DeviceSmall size) = ⊥
RunEnds view told cluster script schedule mover made Memory = RanFromFiles view told cluster script schedule mover made Memory ⊎ RanNothing made
