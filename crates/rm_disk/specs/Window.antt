-- A window over a disk.
use Rattle.std.specs.Prelude.{◌≡◌, ◌+◌, ◌≤◌, ℕ, List, length, take, drop}
use Rattle.rm_disk.specs.Disk.{DiskView, IfTold}

-- These are the disk's bytes from the first place on, as many as there are of them: they lie within it, and where it
-- tells its bytes they are what it tells.
pub record ShowsBytes (disk : DiskView) (first : ℕ) (bytes : List ℕ) : Type 0 where
  pub inside : first + length bytes ≤ disk.size
  pub told : IfTold disk (λ told. bytes ≡ take (length bytes) (drop first told))
