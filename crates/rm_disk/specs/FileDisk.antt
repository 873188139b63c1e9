-- A disk in a file, as contracts see it.
use Rattle.std.specs.Prelude.{ℕ, None}
use Rattle.rm_formats.specs.declared.TheConstants.{STORE_SIZE}
use Rattle.rm_disk.specs.Disk.{DiskView}

-- A disk of a store's size that tells none of its bytes, and so claims nothing of what a crash leaves.
abbrev pub file_view : ℕ → DiskView
file_view faults = record { size = STORE_SIZE; told = None; images = λ _. ⊥; moment = 0; left_since = λ _ _. ⊥; faults = faults }
