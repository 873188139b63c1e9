-- The greatest values that a cluster file alone may set. This project's own.
use Rattle.std.specs.Prelude.{ℕ}
use Rattle.rm_cluster.specs.declared.limits.TheConstants.{LONGEST_WAIT_MS, MOST_APPS, MOST_COMPLETED, MOST_QUEUES, MOST_DOTS}

-- how many completed applications are remembered
abbrev pub most_completed : ℕ
most_completed = MOST_COMPLETED

-- how many applications may run
abbrev pub most_apps : ℕ
most_apps = MOST_APPS

-- how long a recovered manager waits, in milliseconds
abbrev pub longest_wait_ms : ℕ
longest_wait_ms = LONGEST_WAIT_MS

-- how many queues a tree may have
abbrev pub most_queues : ℕ
most_queues = MOST_QUEUES

-- how many dots the name of a queue may have: its parts are one more
abbrev pub most_dots : ℕ
most_dots = MOST_DOTS
