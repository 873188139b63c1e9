-- The settings of a soak beside those of a cluster file without keys.
use Rattle.std.proofs.Common.{◌≡◌, [], ◌∷◌, Some, codes, refl, arith}
use lib.Utf8
use Rattle.json.specs.Json.{value}
use Rattle.json.specs.Lex.{lex, punctuate}
use Rattle.serde_json.specs.Data.{object, no_members}
use Rattle.serde_json.specs.Read.{read}
use Rattle.rm_cluster.specs.Rules.{IsSettingsOf, first_broken, max_attempts_of, max_completed_of, max_apps_of, wait_ms_of, acl_enable_of, admin_acl_of, max_memory_of, max_vcores_of, groups_of, queues_of, recover_ended_containers_of, has_known_keys}
use Rattle.rm_soak.specs.Settings.{AreDefault, soak_settings}

empty_read : read (codes "{}") ≡ Some (object no_members)
unfolding value lex punctuate
empty_read = refl

empty_set : IsSettingsOf (object no_members) (record soak_settings { max_completed = 1000 })
unfolding first_broken max_attempts_of max_completed_of max_apps_of wait_ms_of acl_enable_of admin_acl_of max_memory_of max_vcores_of groups_of queues_of recover_ended_containers_of has_known_keys
empty_set =
    record {
      unbroken = refl;
      max_attempts = refl;
      max_completed = refl;
      max_apps = refl;
      wait_ms = refl;
      acl_enable = refl;
      admin_acl = refl;
      max_memory = refl;
      max_vcores = refl;
      groups = refl;
      queues = refl;
      recover_ended_containers = refl;
    }

-- the settings of a soak are those of the cluster file `{}`, but for how many completed applications are remembered
pub soak_default : AreDefault soak_settings
unfolding lib.Utf8.encode
soak_default = record { file = object no_members; holds = record { short = omega arith; utf8 = (123 ∷ 125 ∷ [], (refl, refl)); value = empty_read }; settled = empty_set }
