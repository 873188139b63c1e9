-- What the calls do by which an area is written anew. This project's own.
use Rattle.std.specs.Prelude.{◌≡◌, ◌≤◌, ℕ, List, false}
use Rattle.rm_disk.specs.Disk.{DiskView, IfTold, IsLaterView}
use Rattle.rm_journal.specs.declared.fault.JournalError.{JournalError}
use Rattle.rm_journal.specs.declared.fault.JournalError.TheVariants.{DiskFault, Memory}
use Rattle.rm_journal.specs.two_areas.Areas.{AreasAt, AreasInvariant, AreasHold, LeavesPayloads}

-- On every outcome: at each moment a crash leaves the payloads from before.
pub record KeepsPayloads (old new : DiskView) (before after : AreasAt) : Type 0 where
  pub stands : AreasInvariant new after
  pub half : after.half ≡ before.half
  pub generation : after.generation ≡ before.generation
  pub goes_on : IsLaterView old new
  pub later : old.moment ≤ new.moment
  pub moment : before.is_broken ≡ false → IfTold old (λ bytes. (payloads : List (List ℕ)) → AreasHold before payloads bytes → LeavesPayloads old new before.half payloads)

-- Where they succeed, a read gives the payloads from before too.
pub record TellsPayloads (old new : DiskView) (before after : AreasAt) : Type 0 where
  pub unbroken : after.is_broken ≡ false
  pub told : IfTold old (λ bytes. (payloads : List (List ℕ)) → AreasHold before payloads bytes → IfTold new (AreasHold after payloads))

-- They fail with one of these.
abbrev pub IsChangeError : JournalError → Type 0
IsChangeError DiskFault = Unit {0}
IsChangeError Memory = Unit {0}
IsChangeError _ = ⊥
