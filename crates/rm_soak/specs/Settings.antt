-- The settings of a soak. This project's own.
use Rattle.std.specs.Prelude.{codes}
use Rattle.rm_types.specs.Empty.{no_settings}
use Rattle.rm_types.specs.declared.settings.Settings.{Settings}
use Rattle.rm_cluster.specs.declared.limits.TheConstants.{DEFAULT_APPS, DEFAULT_ATTEMPTS, DEFAULT_COMPLETED, DEFAULT_MEMORY_MB, DEFAULT_VCORES, DEFAULT_WAIT_MS}
use Rattle.rm_cluster.specs.Clusters.{IsCluster}
use Rattle.rm_cluster.specs.Rules.{default_queues}
use Rattle.rm_soak.specs.Limits.{soak_completed}

-- the settings of a cluster file without keys, but that fewer completed applications are remembered
abbrev pub soak_settings : Settings
soak_settings =
    record no_settings {
      max_attempts = DEFAULT_ATTEMPTS;
      max_completed = soak_completed;
      max_apps = DEFAULT_APPS;
      wait_ms = DEFAULT_WAIT_MS;
      admin_acl = codes "*";
      greatest = record { memory_mb = DEFAULT_MEMORY_MB; vcores = DEFAULT_VCORES };
      queues = default_queues;
    }

-- these are the settings of the cluster file `{}`, but for how many completed applications are remembered
abbrev pub AreDefault : Settings → Type 0
AreDefault settings = IsCluster (codes "{}") (record settings { max_completed = DEFAULT_COMPLETED })
