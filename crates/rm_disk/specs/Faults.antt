-- Counts of faults, one call after another.
use Rattle.std.proofs.Common.{ℕ, ◌≤◌, arith}
use Rattle.rm_types.specs.Counts.{Rose}

-- A count that rose after it had not fallen rose since then.
pub rose_later : (first second third : ℕ) → first ≤ second → Rose second third → Rose first third
rose_later first second third le rose = omega (arith, le, rose)
