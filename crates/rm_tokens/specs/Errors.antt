-- The errors of tokens.
use Rattle.std.specs.Prelude.{Option, None, Some, Result, Ok, Err}
use Rattle.rm_journal.specs.declared.fault.JournalError.{JournalError}
use Rattle.rm_journal.specs.declared.fault.JournalError.TheVariants as journal
use Rattle.rm_tokens.specs.declared.fault.TokenError.{TokenError}
use Rattle.rm_tokens.specs.declared.fault.TokenError.TheVariants.{DiskFault, Damaged, Full, NeedsReopen, Memory}

-- An error of the journal, as the tokens tell it.
abbrev pub as_token_error : JournalError → TokenError
as_token_error journal.DiskFault = DiskFault
as_token_error (journal.Damaged offset) = Damaged offset
as_token_error (journal.Full needed room) = Full needed room
as_token_error journal.NeedsReopen = NeedsReopen
as_token_error journal.Memory = Memory

-- Tokens are not opened with one of these.
abbrev pub IsOpenError : TokenError → Type 0
IsOpenError DiskFault = Unit {0}
IsOpenError (Damaged _) = Unit {0}
IsOpenError Memory = Unit {0}
IsOpenError _ = ⊥

-- A record that has room is not kept with one of these.
abbrev pub IsWriteError : TokenError → Type 0
IsWriteError DiskFault = Unit {0}
IsWriteError Memory = Unit {0}
IsWriteError _ = ⊥

-- Why a call did not succeed, or nothing where it did.
abbrev pub failure : {T : Type 0} → Result T TokenError → Option TokenError
failure (Ok _) = None
failure (Err error) = Some error
