-- The settings of a cluster file keep the rules and limits that a manager rests on: their queues begin with the root, and they allow few attempts.
use Rattle.std.proofs.Common.{◌≡◌, List, [], ◌∷◌, true, ap, Some}
use Rattle.std.specs.Prelude.{option_map, slice_get}
use Rattle.std.specs.Str.{bytes_eq}
use Rattle.std.proofs.lemmas.Slice.Eq.{bytes_eq-Decides}
use Rattle.rm_types.specs.declared.settings.QueueSpec.{QueueSpec}
use Rattle.rm_types.specs.declared.settings.Settings.{Settings}
use Rattle.rm_types.specs.Rights.{root_name}
use Rattle.rm_types.proofs.TestLemmas.{and_first}
use Rattle.rm_queues.specs.Rules.{KeepsRules}
use Rattle.rm_invariant.specs.messages.Ranges.{KeepsLimits}
use Rattle.rm_cluster.specs.Queues.{all_follow, is_tree}
use Rattle.rm_cluster.specs.Ranges.{SettingsInRange}

first_is : (queues : List QueueSpec) → is_tree queues ≡ true → option_map (λ queue. queue.name) (slice_get queues 0) ≡ Some root_name
first_is [] h = cc
first_is (first ∷ more) h = let same = and_first (bytes_eq first.name root_name) (all_follow (first ∷ []) more) h in let named : first.name ≡ root_name = (bytes_eq-Decides first.name root_name).0 same in ap (λ name. Some name) named

pub rooted : (settings : Settings) → SettingsInRange settings → KeepsRules settings
rooted settings within = record { first_is_root = first_is settings.queues within.queues.tree }

pub limited : (settings : Settings) → SettingsInRange settings → KeepsLimits settings
limited settings within = within.max_attempts
