-- Counts that rise and never fall, in numbers of 64 bits.
use Rattle.std.specs.Prelude.{ℕ, ◌+◌, ◌-◌, ◌^◌, ◌≤◌, min}

-- A count one higher: it stands still at 2^64 - 1, its type's end.
abbrev pub risen : ℕ → ℕ
risen count = min (count + 1) (2 ^ 64 - 1)

-- A count rose, or one of the counters that it is made of stands at its type's end, where it can't rise.
abbrev pub Rose : ℕ → ℕ → Type 0
Rose before now = risen before ≤ now
