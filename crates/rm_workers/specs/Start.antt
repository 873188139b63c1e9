-- Whether a life's workers have all come. This project's own.
use Rattle.std.specs.Prelude.{ℕ, ◌-◌, nat_le, if◌then◌else◌, Bool, true, false, Option, None, Some}
use Rattle.rm_workers.specs.declared.start.Arrivals.{Arrivals}
use Rattle.rm_workers.specs.declared.start.Arrivals.TheVariants.{Awaited, Complete, GivenUp}

-- how many workers a life has
abbrev pub all_workers : ℕ
all_workers = 7

-- one of the awaited has come, and the last one completes them; what is decided stays
abbrev pub with_one_more : Arrivals → Arrivals
with_one_more (Awaited missing) = if nat_le missing 1 then Complete else Awaited (missing - 1)
with_one_more Complete = Complete
with_one_more GivenUp = GivenUp

-- nobody waits any longer for those who are missing; what is decided stays
abbrev pub given_up : Arrivals → Arrivals
given_up (Awaited missing) = GivenUp
given_up Complete = Complete
given_up GivenUp = GivenUp

-- whether all have come, once that is decided
abbrev pub decision : Arrivals → Option Bool
decision (Awaited missing) = None
decision Complete = Some true
decision GivenUp = Some false
