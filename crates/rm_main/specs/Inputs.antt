-- Why an input stops the program before anything is run.
use Rattle.std.specs.Prelude.{◌≡◌, ℕ, List, Option, None, Some}
use Rattle.std.specs.Option.{option_copied}
use Rattle.rm_types.specs.declared.outcomes.Outcome.{Outcome}
use Rattle.rm_types.specs.declared.outcomes.Outcome.TheVariants.{ReadFault, ClusterRefused, ScriptRefused, Memory}
use Rattle.rm_types.specs.declared.settings.Settings.{Settings}
use Rattle.rm_main.specs.declared.inputs.Files.{Files}
use Rattle.rm_main.specs.Runs.{AreSettings, HasNoSettings, HasNoScript}
use Rattle.rm_outside.specs.Shelves.{ShelfTells}
use Rattle.rm_words.specs.Words.{Asked, Mover, Run}

-- the cluster file couldn't be read, or breaks a rule, the first of them at the place
abbrev pub StopsAtCluster : Option (List ℕ) → Outcome → Type 0
StopsAtCluster bytes ReadFault = Unit {0}
StopsAtCluster bytes (ClusterRefused place) = HasNoSettings bytes place
StopsAtCluster bytes Memory = Unit {0}
StopsAtCluster bytes _ = ⊥

-- the script couldn't be read, or its file holds none, and the line is the first that is refused
abbrev pub StopsAtScript : Option (List ℕ) → Outcome → Type 0
StopsAtScript bytes ReadFault = Unit {0}
StopsAtScript bytes (ScriptRefused line) = HasNoScript bytes line
StopsAtScript bytes Memory = Unit {0}
StopsAtScript bytes _ = ⊥

-- the file couldn't be read
abbrev pub IsUnread : Outcome → Type 0
IsUnread ReadFault = Unit {0}
IsUnread Memory = Unit {0}
IsUnread _ = ⊥

-- one more file was read, if there is one
abbrev pub IsOneMore : {F : Type 0} → (List ℕ → F → F → Type 0) → Option (List ℕ) → F → F → Type 0
IsOneMore reads None old new = new ≡ old
IsOneMore reads (Some name) old new = reads name old new

-- a run by these files is asked for
abbrev pub asked_of : Mover → Files → Asked
asked_of mover files = Run files.cluster.now files.script.now (option_copied files.schedule) mover

-- one of the inputs stops the program: a file couldn't be read, the cluster file breaks a rule, or it holds settings and
-- the script's file no script
abbrev pub StopsEarly : ShelfTells → List ℕ → List ℕ → Outcome → Type 0
StopsEarly told cluster script ReadFault = Unit {0}
StopsEarly told cluster script (ClusterRefused place) = HasNoSettings (told cluster) place
StopsEarly told cluster script (ScriptRefused line) = (settings : Settings) × AreSettings (told cluster) settings × HasNoScript (told script) line
StopsEarly told cluster script Memory = Unit {0}
StopsEarly told cluster script _ = ⊥
