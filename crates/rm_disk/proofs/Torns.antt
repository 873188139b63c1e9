-- What a torn write does to the disk under it.
use Rattle.std.proofs.Common.{ℕ, ◌≤◌, arith}
use Rattle.rm_disk.specs.Disk.{DiskView, MayWrite}
use Rattle.rm_disk.specs.Torn.{torn_view}
use Rattle.rm_disk.proofs.Views.{write_wider}

-- A write of a part of the bytes, with a fault counted beside it, is one that may change all of them.
pub torn_write : (at many part : ℕ) (a b : DiskView) (torn torn' : ℕ) → part ≤ many → torn ≤ torn' → MayWrite at part a b → MayWrite at many (torn_view a torn) (torn_view b torn')
torn_write at many part a b torn torn' le later ab =
    write_wider at many at part (torn_view a torn) (torn_view b torn') (omega arith) (omega arith) (record {
      goes_on = record { size = ab.goes_on.size; tells = ab.goes_on.tells; past = ab.goes_on.past; faults = omega (arith, ab.goes_on.faults) };
      told = ab.told;
      images = ab.images;
      time = record { later = ab.time.later; each = ab.time.each };
    })
