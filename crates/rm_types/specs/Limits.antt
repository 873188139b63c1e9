-- The greatest values that sizes, counts and stamps have wherever they stand: in a cluster file, a script, a message or a
-- store. This project's own.
use Rattle.std.specs.Prelude.{ℕ}
use Rattle.rm_types.specs.declared.limits.TheConstants.{GREATEST_MEMORY_MB, GREATEST_VCORES, GREATEST_ATTEMPTS, GREATEST_STAMP, MOST_LINES, MOST_LISTED, MOST_SERVED, GREATEST_PRIORITY, GREATEST_COUNT}

-- the most memory, in megabytes, of a container or a node: 16 TiB
abbrev pub greatest_memory_mb : ℕ
greatest_memory_mb = GREATEST_MEMORY_MB

-- the most virtual cores of a container or a node
abbrev pub greatest_vcores : ℕ
greatest_vcores = GREATEST_VCORES

-- the most attempts that an application may have
abbrev pub greatest_attempts : ℕ
greatest_attempts = GREATEST_ATTEMPTS

-- the greatest stamp with which a life starts
abbrev pub greatest_stamp : ℕ
greatest_stamp = GREATEST_STAMP

-- how many lines a script may have
abbrev pub most_lines : ℕ
most_lines = MOST_LINES

-- how many messages are served in one life at most: an id is given by a message of its own, so that ids stay below 2^31; a message leads to at most
-- 256 grants, so that sequences stay below 2^40; and to at most 10^9 milliseconds, so that the clock stays below 2^63
abbrev pub most_served : ℕ
most_served = MOST_SERVED

-- how many items a list of a message has at most
abbrev pub most_listed : ℕ
most_listed = MOST_LISTED

-- the greatest priority of an ask; 1 is the least
abbrev pub greatest_priority : ℕ
greatest_priority = GREATEST_PRIORITY

-- how many containers one ask is for at most
abbrev pub greatest_count : ℕ
greatest_count = GREATEST_COUNT
