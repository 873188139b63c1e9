-- Which files a run of a script under a cluster file reads. This project's own.
use Rattle.std.specs.Prelude.{◌≡◌, ◌⊎◌, ℕ, List, Option, None, Some}
use Rattle.rm_types.specs.declared.outcomes.Outcome.{Outcome}
use Rattle.rm_types.specs.declared.outcomes.Outcome.TheVariants.{ReadFault, ClusterRefused, ScriptRefused, Memory}
use Rattle.rm_types.specs.declared.scripts.Script.{Script}
use Rattle.rm_types.specs.declared.settings.Settings.{Settings}
use Rattle.rm_outside.specs.Shelves.{ShelfTells}
use Rattle.rm_main.specs.Runs.{AreSettings, IsScriptOf}

-- the cluster file was read, which holds settings, and then the script's file
pub record ReadsScript {F : Type 0} (reads : List ℕ → F → F → Type 0) (told : ShelfTells) (cluster script : List ℕ) (old new : F) : Type 0 where
  pub settings : Settings
  pub of_cluster : AreSettings (told cluster) settings
  pub mid : F
  pub first : reads cluster old mid
  pub second : reads script mid new

-- these two were read, the script's file holds a script, and then the file of the schedule was read
pub record ReadsSchedule {F : Type 0} (reads : List ℕ → F → F → Type 0) (told : ShelfTells) (cluster script schedule : List ℕ) (old new : F) : Type 0 where
  pub spelled : Script
  pub of_script : IsScriptOf (told script) spelled
  pub mid : F
  pub front : ReadsScript reads told cluster script old mid
  pub last : reads schedule mid new

-- all files of a run were read, that of the schedule if there is one
abbrev pub ReadsAllFiles : {F : Type 0} → (List ℕ → F → F → Type 0) → ShelfTells → List ℕ → List ℕ → Option (List ℕ) → F → F → Type 0
ReadsAllFiles reads told cluster script None old new = ReadsScript reads told cluster script old new
ReadsAllFiles reads told cluster script (Some schedule) old new = ReadsSchedule reads told cluster script schedule old new

-- a beginning of the files of a run was read, each of them only where those before it hold what they are to hold
abbrev pub ReadsSome : {F : Type 0} → (List ℕ → F → F → Type 0) → ShelfTells → List ℕ → List ℕ → Option (List ℕ) → F → F → Type 0
ReadsSome reads told cluster script schedule old new = reads cluster old new ⊎ (ReadsScript reads told cluster script old new ⊎ ReadsAllFiles reads told cluster script schedule old new)

-- which files of a run were read, by its outcome: a refused cluster file alone; that and the script's where this one is refused; where a file couldn't be read those
-- up to it, and where memory ran out those up to then; and else all
abbrev pub ReadsBy : {F : Type 0} → (List ℕ → F → F → Type 0) → ShelfTells → List ℕ → List ℕ → Option (List ℕ) → Outcome → F → F → Type 0
ReadsBy reads told cluster script schedule (ClusterRefused place) old new = reads cluster old new
ReadsBy reads told cluster script schedule (ScriptRefused line) old new = ReadsScript reads told cluster script old new
ReadsBy reads told cluster script schedule ReadFault old new = ReadsSome reads told cluster script schedule old new
ReadsBy reads told cluster script schedule Memory old new = (new ≡ old) ⊎ ReadsSome reads told cluster script schedule old new
ReadsBy reads told cluster script schedule _ old new = ReadsAllFiles reads told cluster script schedule old new
