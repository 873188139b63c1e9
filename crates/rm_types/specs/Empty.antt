-- A submission and settings that say nothing: what a caller doesn't say is as here. This project's own.
use Rattle.std.specs.Prelude.{[], false}
use Rattle.rm_types.specs.declared.operations.Submission.{Submission}
use Rattle.rm_types.specs.declared.settings.Settings.{Settings}

-- a submission of which no part is said
abbrev pub no_submission : Submission
no_submission = record { user = []; queue = []; name = []; master = record { memory_mb = 0; vcores = 0 }; attempts = 0; keep = false; modify = [] }

-- settings of which no part is said
abbrev pub no_settings : Settings
no_settings = record {
  max_attempts = 0;
  max_completed = 0;
  max_apps = 0;
  wait_ms = 0;
  recover_ended_containers = false;
  acl_enable = false;
  admin_acl = [];
  greatest = record { memory_mb = 0; vcores = 0 };
  groups = [];
  queues = [];
}
