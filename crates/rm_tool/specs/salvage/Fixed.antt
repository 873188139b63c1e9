-- Bytes as a disk that is only read, as contracts see it. This project's own.
use Rattle.std.specs.Prelude.{◌≡◌, ℕ, List, Some, length}
use Rattle.rm_disk.specs.Disk.{DiskView}

-- a disk of these bytes, which a read gives and which are all that a crash leaves; it never fails
abbrev pub fixed_view : List ℕ → DiskView
fixed_view bytes = record { size = length bytes; told = Some bytes; images = λ image. image ≡ bytes; moment = 0; left_since = λ from image. image ≡ bytes; faults = 0 }
