-- The errors of a store.
use Rattle.std.specs.Prelude.{Bool, true, Result, Err}
use Rattle.rm_journal.specs.declared.fault.JournalError.{JournalError}
use Rattle.rm_journal.specs.declared.fault.JournalError.TheVariants as journal
use Rattle.rm_store.specs.declared.fault.StoreError.{StoreError}
use Rattle.rm_store.specs.declared.fault.StoreError.TheVariants.{DiskFault, Damaged, Stray, Full, NeedsReopen, Memory}

-- An error of the journal, as the store tells it.
abbrev pub of_journal : JournalError → StoreError
of_journal journal.DiskFault = DiskFault
of_journal (journal.Damaged offset) = Damaged offset
of_journal (journal.Full needed room) = Full needed room
of_journal journal.NeedsReopen = NeedsReopen
of_journal journal.Memory = Memory

-- A store is not opened with one of these.
abbrev pub IsOpenError : StoreError → Type 0
IsOpenError (Full _ _) = ⊥
IsOpenError NeedsReopen = ⊥
IsOpenError _ = Unit {0}

-- An append gives up with one of these.
abbrev pub IsStoreAppendError : StoreError → Type 0
IsStoreAppendError (Damaged _) = ⊥
IsStoreAppendError (Stray _ _) = ⊥
IsStoreAppendError _ = Unit {0}

-- A whole store gives up with one of these.
abbrev pub IsWriteError : StoreError → Type 0
IsWriteError NeedsReopen = ⊥
IsWriteError error = IsStoreAppendError error

-- These an append answers before it touches anything.
abbrev pub IsStoreRefusal : StoreError → Type 0
IsStoreRefusal NeedsReopen = Unit {0}
IsStoreRefusal (Full _ _) = Unit {0}
IsStoreRefusal _ = ⊥

-- An append that fails on the disk, or finds no memory, breaks the store.
abbrev pub store_broken_after : {T : Type 0} → Result T StoreError → Bool → Bool
store_broken_after (Err DiskFault) was = true
store_broken_after (Err Memory) was = true
store_broken_after _ was = was
