-- The rules of the cluster file, one for each place. They are this project's own, but that an application has two attempts
-- and that a manager waits ten seconds after a restart, where nothing else is set, is after YARN's documentation.
use Rattle.std.specs.Prelude.{◌≡◌, ℕ, List, [], ◌∷◌, Bool, false, not, Option, Some, None, is_some, option_map, find, codes}
use Rattle.std.specs.List.{list_any}
use Rattle.std.specs.Str.{bytes_eq}
use Rattle.serde_json.specs.Data.{Data}
use Rattle.serde_json.specs.Find.{as_bool}
use Rattle.rm_types.specs.declared.settings.QueueSpec.{QueueSpec}
use Rattle.rm_types.specs.declared.settings.Settings.{Settings}
use Rattle.rm_types.specs.declared.settings.UserGroups.{UserGroups}
use Rattle.rm_types.specs.declared.texts.TextKind.TheVariants.{AclText}
use Rattle.rm_types.specs.Limits.{greatest_attempts, greatest_memory_mb, greatest_vcores}
use Rattle.rm_cluster.specs.declared.limits.TheConstants.{DEFAULT_APPS, DEFAULT_ATTEMPTS, DEFAULT_COMPLETED, DEFAULT_MEMORY_MB, DEFAULT_VCORES, DEFAULT_WAIT_MS}
use Rattle.rm_cluster.specs.Limits.{longest_wait_ms, most_apps, most_completed}
use Rattle.rm_cluster.specs.Queues.{queue_tree_of}
use Rattle.rm_cluster.specs.Readings.{at_key, number_within, string_of, user_groups_of, has_only}

-- the keys that may stand in the file
abbrev pub known_keys : List (List ℕ)
known_keys =
    codes "max_attempts" ∷ codes "max_completed" ∷ codes "max_apps" ∷ codes "wait_ms" ∷ codes "acl_enable" ∷ codes "admin_acl"
    ∷ codes "max_memory_mb" ∷ codes "max_vcores" ∷ codes "groups" ∷ codes "queues" ∷ codes "recover_ended_containers" ∷ []

-- the key is one of them
unfoldable pub is_known : List ℕ → Bool
is_known key = list_any (bytes_eq key) known_keys

-- the file is an object, and has known keys alone
unfoldable pub has_known_keys : Data → Bool
has_known_keys = has_only is_known

-- the global bound on attempts: 1 to the most, and the default where the key is absent
unfoldable pub max_attempts_of : Data → Option ℕ
max_attempts_of = at_key (codes "max_attempts") (number_within 1 greatest_attempts) DEFAULT_ATTEMPTS

-- how many completed applications are remembered: 0 to the most, and the default where the key is absent
unfoldable pub max_completed_of : Data → Option ℕ
max_completed_of = at_key (codes "max_completed") (number_within 0 most_completed) DEFAULT_COMPLETED

-- how many applications may run: 1 to the most, and the default where the key is absent
unfoldable pub max_apps_of : Data → Option ℕ
max_apps_of = at_key (codes "max_apps") (number_within 1 most_apps) DEFAULT_APPS

-- how long a recovered manager waits, in milliseconds: 0 to the longest, and the default where the key is absent
unfoldable pub wait_ms_of : Data → Option ℕ
wait_ms_of = at_key (codes "wait_ms") (number_within 0 longest_wait_ms) DEFAULT_WAIT_MS

-- whether rights are checked: false where the key is absent
unfoldable pub acl_enable_of : Data → Option Bool
acl_enable_of = at_key (codes "acl_enable") as_bool false

-- who administers all: an access control list, and `*` where the key is absent
unfoldable pub admin_acl_of : Data → Option (List ℕ)
admin_acl_of = at_key (codes "admin_acl") (string_of AclText) (codes "*")

-- the memory of the greatest container, in MB: 1 to the most, and the default where the key is absent
unfoldable pub max_memory_of : Data → Option ℕ
max_memory_of = at_key (codes "max_memory_mb") (number_within 1 greatest_memory_mb) DEFAULT_MEMORY_MB

-- the cores of the greatest container: 1 to the most, and the default where the key is absent
unfoldable pub max_vcores_of : Data → Option ℕ
max_vcores_of = at_key (codes "max_vcores") (number_within 1 greatest_vcores) DEFAULT_VCORES

-- the groups of users: none where the key is absent
unfoldable pub groups_of : Data → Option (List UserGroups)
groups_of = at_key (codes "groups") user_groups_of []

-- a queue without lists
abbrev pub bare_queue : List ℕ → QueueSpec
bare_queue name = record { name = name; submit = None; admin = None }

-- the queues of a file without the key
abbrev pub default_queues : List QueueSpec
default_queues = bare_queue (codes "root") ∷ bare_queue (codes "root.default") ∷ []

-- the queues: `root` and `root.default` where the key is absent
unfoldable pub queues_of : Data → Option (List QueueSpec)
queues_of = at_key (codes "queues") queue_tree_of default_queues

-- whether containers are recovered that ended while no manager stood: false where the key is absent
unfoldable pub recover_ended_containers_of : Data → Option Bool
recover_ended_containers_of = at_key (codes "recover_ended_containers") as_bool false

-- each place from 2 on in the order of the table, and whether the file keeps its rule
abbrev pub rules : Data → List (ℕ × Bool)
rules file =
    (2, has_known_keys file) ∷
    (3, is_some (max_attempts_of file)) ∷
    (4, is_some (max_completed_of file)) ∷
    (5, is_some (max_apps_of file)) ∷
    (6, is_some (wait_ms_of file)) ∷
    (7, is_some (acl_enable_of file)) ∷
    (8, is_some (admin_acl_of file)) ∷
    (9, is_some (max_memory_of file)) ∷
    (10, is_some (max_vcores_of file)) ∷
    (11, is_some (groups_of file)) ∷
    (12, is_some (queues_of file)) ∷
    (13, is_some (recover_ended_containers_of file)) ∷
    []

-- the place of the first rule that the file breaks, if there is one
unfoldable pub first_broken : Data → Option ℕ
first_broken file = option_map (λ rule. rule.0) (find (λ rule. not rule.1) (rules file))

-- the file breaks no rule, and these are the settings that its keys give
pub record IsSettingsOf (file : Data) (settings : Settings) : Type 0 where
  pub unbroken : first_broken file ≡ None
  pub max_attempts : max_attempts_of file ≡ Some settings.max_attempts
  pub max_completed : max_completed_of file ≡ Some settings.max_completed
  pub max_apps : max_apps_of file ≡ Some settings.max_apps
  pub wait_ms : wait_ms_of file ≡ Some settings.wait_ms
  pub acl_enable : acl_enable_of file ≡ Some settings.acl_enable
  pub admin_acl : admin_acl_of file ≡ Some settings.admin_acl
  pub max_memory : max_memory_of file ≡ Some settings.greatest.memory_mb
  pub max_vcores : max_vcores_of file ≡ Some settings.greatest.vcores
  pub groups : groups_of file ≡ Some settings.groups
  pub queues : queues_of file ≡ Some settings.queues
  pub recover_ended_containers : recover_ended_containers_of file ≡ Some settings.recover_ended_containers
