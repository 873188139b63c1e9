-- The areas of a disk while what they hold is read for the first time. This project's own.
use Rattle.std.specs.Prelude.{◌≡◌, ◌≢◌, ◌⊎◌, ◌+◌, ◌<◌, ◌≤◌, ◌/◌, ◌^◌, ℕ, Bool, true, false, not}
use Rattle.rm_disk.specs.Disk.{DiskView, IfTold}
use Rattle.rm_journal.specs.Walk.{WalkAt, IsWalking}
use Rattle.rm_formats.specs.declared.TheConstants.{GENERATION_RECORD}
use Rattle.rm_journal.specs.two_areas.Areas.{IsGeneration, area_of, area_from, area_end}

-- which area is the current one, by the generations of both
pub record IsPicked (v : DiskView) (half : ℕ) (second : Bool) (g o : ℕ) : Type 0 where
  pub current : IfTold v (λ bytes. IsGeneration (area_of half second bytes) g)
  pub other : IfTold v (λ bytes. IsGeneration (area_of half (not second) bytes) o)
  pub less : (o ≡ 0) ⊎ (o < g)
  pub zero_is : g ≡ 0 → second ≡ true
  pub high : g < 2 ^ 64
  pub room : g ≢ 0 → area_from half second + GENERATION_RECORD < area_end half second

-- Areas that are being read, as contracts see them: the size of each, whether the current one is the second, its
-- generation, whether the other one is live, and the walk over the current one.
pub record ReadingAt : Type 0 where
  pub half : ℕ
  pub second : Bool
  pub generation : ℕ
  pub other_live : Bool
  pub walk : WalkAt

-- they are read on a disk
pub record IsReading (disk : DiskView) (r : ReadingAt) : Type 0 where
  pub half : r.half ≡ disk.size / 2
  pub inside : r.half + r.half ≤ disk.size
  pub from : r.walk.from ≡ area_from r.half r.second
  pub end : r.walk.end ≡ area_end r.half r.second
  pub walking : IsWalking disk r.walk
  pub other : ℕ
  pub picked : IsPicked disk r.half r.second r.generation other
  pub alive : r.other_live ≡ true → other ≢ 0
  pub dead : r.other_live ≡ false → other ≡ 0
