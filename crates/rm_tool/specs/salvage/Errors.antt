-- The errors of writing a store anew.
use Rattle.std.specs.Prelude.{ℕ}
use Rattle.rm_journal.specs.declared.fault.JournalError.{JournalError}
use Rattle.rm_journal.specs.declared.fault.JournalError.TheVariants as journal
use Rattle.rm_tool.specs.declared.salvage.errors.WriteError.{WriteError}
use Rattle.rm_tool.specs.declared.salvage.errors.WriteError.TheVariants.{DiskFault, Damaged, Full, Memory}

-- an error of the areas, as the writer tells it; of two areas that are just begun none needs to be opened again
abbrev pub write_error : JournalError → WriteError
write_error journal.DiskFault = DiskFault
write_error (journal.Damaged offset) = Damaged offset
write_error (journal.Full needed room) = Full room
write_error journal.NeedsReopen = DiskFault
write_error journal.Memory = Memory
