-- The sizes of a soak. This project's own.
use Rattle.std.specs.Prelude.{ℕ}
use Rattle.rm_soak.specs.declared.limits.TheConstants.{MOST_SOAKED, MOST_IN_LIFE, FIRST_STAMP, SOAK_COMPLETED}

-- how many applications a soak has at most
abbrev pub most_soaked : ℕ
most_soaked = MOST_SOAKED

-- how many applications a life has; the last one may have fewer
abbrev pub most_in_life : ℕ
most_in_life = MOST_IN_LIFE

-- the stamp with which each life starts; as the stamps in a store rise, it is that of the first life
abbrev pub first_stamp : ℕ
first_stamp = FIRST_STAMP

-- how many completed applications are remembered in a soak
abbrev pub soak_completed : ℕ
soak_completed = SOAK_COMPLETED
