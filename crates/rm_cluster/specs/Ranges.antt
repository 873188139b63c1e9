-- The ranges in which the settings of a cluster file stand. This project's own.
use Rattle.std.specs.Prelude.{◌≡◌, ◌≤◌, ℕ, List, length, true, Option, None, Some, All}
use Rattle.rm_types.specs.Ranges.{IsText, IsWithin}
use Rattle.rm_types.specs.declared.settings.QueueSpec.{QueueSpec}
use Rattle.rm_types.specs.declared.settings.Settings.{Settings}
use Rattle.rm_types.specs.declared.settings.UserGroups.{UserGroups}
use Rattle.rm_types.specs.declared.texts.TextKind.TheVariants.{Name, AclText, Queue}
use Rattle.rm_types.specs.Limits.{greatest_attempts, greatest_memory_mb, greatest_vcores}
use Rattle.rm_cluster.specs.Limits.{longest_wait_ms, most_apps, most_completed, most_queues}
use Rattle.rm_cluster.specs.Queues.{is_tree}

-- the user and each of its groups are names
pub record HasNames (member : UserGroups) : Type 0 where
  pub user : IsText Name member.user
  pub groups : All (IsText Name) member.groups

-- a list that may be absent is an access control list
abbrev pub IsAclList : Option (List ℕ) → Type 0
IsAclList None = Unit {0}
IsAclList (Some text) = IsText AclText text

-- the name of a queue and its lists are texts of their kinds
pub record HasTexts (queue : QueueSpec) : Type 0 where
  pub name : IsText Queue queue.name
  pub submit : IsAclList queue.submit
  pub admin : IsAclList queue.admin

-- the queues are not too many, have their texts, and are a tree
pub record AreQueues (queues : List QueueSpec) : Type 0 where
  pub few : length queues ≤ most_queues
  pub texts : All HasTexts queues
  pub tree : is_tree queues ≡ true

-- each of the settings is in its range
pub record SettingsInRange (settings : Settings) : Type 0 where
  pub max_attempts : IsWithin 1 greatest_attempts settings.max_attempts
  pub max_completed : IsWithin 0 most_completed settings.max_completed
  pub max_apps : IsWithin 1 most_apps settings.max_apps
  pub wait_ms : IsWithin 0 longest_wait_ms settings.wait_ms
  pub admin_acl : IsText AclText settings.admin_acl
  pub max_memory : IsWithin 1 greatest_memory_mb settings.greatest.memory_mb
  pub max_vcores : IsWithin 1 greatest_vcores settings.greatest.vcores
  pub groups : All HasNames settings.groups
  pub queues : AreQueues settings.queues
