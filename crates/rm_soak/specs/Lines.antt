-- The line of a soak, with its counts over the log. This project's own.
use Rattle.std.specs.Prelude.{ℕ, List, [], ◌++◌, Bool, true, false, if◌then◌else◌, count_by, sum_by, codes}
use Rattle.std.specs.Fmt.{decimal}
use Rattle.rm_types.specs.declared.entries.Entry.{Entry}
use Rattle.rm_types.specs.declared.entries.Entry.TheVariants.{Opened, Served, Kept}
use Rattle.rm_types.specs.declared.operations.Op.{Op}
use Rattle.rm_types.specs.declared.operations.Op.TheVariants.{AppEnd}
use Rattle.rm_types.specs.Lists.{is_nil}
use Rattle.rm_types.specs.Records.{is_finished}
use Rattle.rm_types.specs.Entries.{granted_count}

-- the entry begins a life
abbrev pub is_opened : Entry → Bool
is_opened (Opened landed epoch stamp) = true
is_opened entry = false

-- the entry answers a message
abbrev pub is_served : Entry → Bool
is_served (Served sender message reply) = true
is_served entry = false

-- the entry keeps an operation
abbrev pub keeps_op : Entry → Bool
keeps_op (Kept op) = true
keeps_op entry = false

-- the operation says that an application finished
abbrev pub finishes_app : Op → Bool
finishes_app (AppEnd id how text) = is_finished how
finishes_app op = false

-- the entry keeps such an operation
abbrev pub keeps_finished : Entry → Bool
keeps_finished (Kept op) = finishes_app op
keeps_finished entry = false

-- the line of a soak of so many applications: the lives that were opened, the messages that were served, the containers
-- that passes granted, the applications that were kept as finished, and the operations that were kept
abbrev pub soak_line : ℕ → List Entry → List ℕ
soak_line number log =
    codes "soak " ++ decimal number
    ++ codes " lives=" ++ decimal (count_by is_opened log)
    ++ codes " served=" ++ decimal (count_by is_served log)
    ++ codes " grants=" ++ decimal (sum_by granted_count log)
    ++ codes " finished=" ++ decimal (count_by keeps_finished log)
    ++ codes " kept=" ++ decimal (count_by keeps_op log)
    ++ codes "\n"

-- what a soak writes: its line, and nothing where the log is empty
abbrev pub soak_page : ℕ → List Entry → List ℕ
soak_page number log = if is_nil log then [] else soak_line number log
