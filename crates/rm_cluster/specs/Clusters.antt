-- The cluster file: the bytes that hold one JSON value, and the settings or the broken rule of that value.
use Rattle.std.specs.Prelude.{◌≡◌, ◌≤◌, ◌⊎◌, ℕ, List, length, Some, None, IsUtf8}
use Rattle.serde_json.specs.Data.{Data}
use Rattle.serde_json.specs.Read.{read}
use Rattle.rm_types.specs.declared.settings.Settings.{Settings}
use Rattle.rm_cluster.specs.declared.limits.TheConstants.{GREATEST_LENGTH}
use Rattle.rm_cluster.specs.Rules.{first_broken, IsSettingsOf}
use Rattle.rm_cluster.specs.declared.clusters.ClusterError.{ClusterError}
use Rattle.rm_cluster.specs.declared.clusters.ClusterError.TheVariants.{Refused, Memory}

-- the greatest length of a cluster file, in bytes
abbrev pub greatest_cluster_length : ℕ
greatest_cluster_length = GREATEST_LENGTH

-- the bytes are few enough, are UTF-8, and are read as this value
pub record FileHolds (bytes : List ℕ) (file : Data) : Type 0 where
  pub short : length bytes ≤ greatest_cluster_length
  pub utf8 : IsUtf8 bytes
  pub value : read bytes ≡ Some file

-- the first rule breaks: the bytes are too many, are not UTF-8, or are read as no value
abbrev pub HoldsNone : List ℕ → Type 0
HoldsNone bytes = length bytes ≤ greatest_cluster_length → IsUtf8 bytes → read bytes ≡ None

-- the settings of the bytes: they hold a value that breaks no rule, and these are its settings
pub record IsCluster (bytes : List ℕ) (settings : Settings) : Type 0 where
  pub file : Data
  pub holds : FileHolds bytes file
  pub settled : IsSettingsOf file settings

-- the bytes hold a value, and this is the place of the first rule that it breaks
pub record Breaks (bytes : List ℕ) (place : ℕ) : Type 0 where
  pub file : Data
  pub holds : FileHolds bytes file
  pub broken : first_broken file ≡ Some place

-- this place is that of the first rule that the value breaks; or there was no memory
abbrev pub IsBrokenBy : Data → ClusterError → Type 0
IsBrokenBy file (Refused place) = first_broken file ≡ Some place
IsBrokenBy file Memory = Unit {0}

-- the rule at the place is broken, and none at a lesser place: at place 1 the bytes hold no value, and from place 2 on they
-- hold one; or there was no memory
abbrev pub IsNoCluster : List ℕ → ClusterError → Type 0
IsNoCluster bytes (Refused place) = ((place ≡ 1) × HoldsNone bytes) ⊎ Breaks bytes place
IsNoCluster bytes Memory = Unit {0}
