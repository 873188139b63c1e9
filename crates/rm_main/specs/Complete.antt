-- A run that nothing stands in the way of.
use Rattle.std.specs.Prelude.{◌≡◌, ℕ, List, Option, None, Some}
use Rattle.std.specs.declared.alloc.Global.{Global}
use Rattle.rm_types.specs.declared.scripts.Script.{Script}
use Rattle.rm_types.specs.declared.settings.Settings.{Settings}
use Rattle.rm_types.specs.Counts.{Rose}
use Rattle.rm_disk.specs.Disk.{DiskView}
use Rattle.rm_outside.specs.Shelves.{bytes_read, ShelfTells, WereRead}
use Rattle.rm_cluster.specs.Clusters.{IsCluster}
use Rattle.rm_script.specs.Scripts.{IsScript}
use Rattle.rm_core.specs.Words.{new_manager}
use Rattle.rm_lives.specs.Order.{run_after}
use Rattle.rm_plain.specs.Schedule.{StopsAt, letters_left, steps_of}
use Rattle.rm_lives.specs.Complete.{HasPlace}
use Rattle.rm_lives.specs.Stops.{IsDue}
use Rattle.rm_soak.specs.Scripts.{soak_of}
use Rattle.rm_main.specs.Made.{Made}
use Rattle.rm_main.specs.Runs.{AreSettings, IsScriptOf}
use Rattle.rm_words.specs.Words.{Asked, Run, Soak, Listing, OneThread}

-- a shelf tells of two files that they hold settings and a script
pub record AreAccepted (told : ShelfTells) (cluster_file script_file : List ℕ) : Type 0 where
  pub cluster_bytes : List ℕ
  pub cluster_told : told cluster_file ≡ Some cluster_bytes
  pub settings : Settings
  pub of_cluster : IsCluster (bytes_read cluster_bytes) settings
  pub script_bytes : List ℕ
  pub script_told : told script_file ≡ Some script_bytes
  pub script : Script
  pub of_script : IsScript (bytes_read script_bytes) script

-- the words ask for a run, and the files that they name hold settings and a script; or for a soak or a listing, which read none
abbrev pub IsAccepted : ShelfTells → Option Asked → Type 0
IsAccepted told (Some (Run cluster_file script_file schedule_file mover)) = AreAccepted told cluster_file script_file
IsAccepted told (Some (Soak number)) = Unit {0}
IsAccepted told (Some Listing) = Unit {0}
IsAccepted told None = ⊥

-- a life of the script that was asked for is due behind the log
abbrev pub LifeIsDue : {D : Type 0} → ShelfTells → Option Asked → Made D → Type 0
LifeIsDue told (Some (Run cluster_file script_file schedule_file mover)) made = (script : Script) × IsScriptOf (told script_file) script × IsDue script made.opening made.log
LifeIsDue told (Some (Soak number)) made = IsDue (soak_of number) made.opening made.log
LifeIsDue told _ made = ⊥

-- nothing of the device stands in the way of what was asked for: it held a store and counted no fault, at each start an epoch and a stamp are left, and an operation that was handed
-- to it has room
abbrev pub HasPlaceFor : {D : Type 0} → (D → DiskView) → ShelfTells → Option Asked → Made D → Type 0
HasPlaceFor view told asked made = HasPlace view made.before made.after (LifeIsDue told asked made) made.opening made.log

-- Where moves are told by a schedule, each of its letters that is reached is known and its lane ready: none stops the run.
abbrev pub ScheduleIsFollowed : {D : Type 0} → ShelfTells → Option Asked → Made D → Type 0
ScheduleIsFollowed told (Some (Run cluster_file script_file (Some schedule_file) OneThread)) made =
    (alloc : Global) (settings : Settings) (script : Script) (schedule : List ℕ) (place : ℕ) → AreSettings (told cluster_file) settings → IsScriptOf (told script_file) script
    → WereRead (told schedule_file) schedule → StopsAt (letters_left (steps_of schedule) made.log) (run_after (new_manager alloc settings) script made.opening made.log) place → ⊥
ScheduleIsFollowed told _ made = Unit {0}

-- each count of the shelf and the sink stays below its end and does not rise
pub record NoneRose (read_old read_new write_old write_new idle_old idle_new : ℕ) : Type 0 where
  pub reads : Rose read_old read_new → ⊥
  pub writes : Rose write_old write_new → ⊥
  pub idle : Rose idle_old idle_new → ⊥
