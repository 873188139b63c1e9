-- What is counted of an entry.
use Rattle.std.specs.Prelude.{ℕ, length}
use Rattle.rm_types.specs.declared.entries.Entry.{Entry}
use Rattle.rm_types.specs.declared.entries.Entry.TheVariants.{Pass}

-- the containers that an entry grants
abbrev pub granted_count : Entry → ℕ
granted_count (Pass node grants) = length grants
granted_count entry = 0
