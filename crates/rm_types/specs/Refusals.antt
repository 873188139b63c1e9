-- Want of memory, as clauses name it. This project's own.
use Rattle.rm_types.specs.declared.duplicate.NoMemory.{NoMemory}

-- the one value of that error
abbrev pub no_memory : NoMemory
no_memory = record {}
