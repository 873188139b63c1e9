-- What each call answers and does. This project's own.
use Rattle.std.specs.Prelude.{◌≡◌, ◌⊎◌, ◌+◌, ℕ, nat_le, nat_lt, min, max, true, ◌||◌, List, [], ◌∷◌, ◌++◌, length, Option, None, Some, is_some, IfSome, if◌then◌else◌}
use Rattle.std.specs.Str.{bytes_eq}
use Rattle.rm_disk.specs.Disk.{DiskView}
pub use Rattle.rm_tokens.specs.declared.command.Command.{Command}
pub use Rattle.rm_tokens.specs.declared.command.Command.TheVariants.{Issue, Renew, Cancel}
use Rattle.rm_tokens.specs.declared.fault.TokenError.{TokenError}
use Rattle.rm_tokens.specs.declared.fault.TokenError.TheVariants.{Unknown, NotRenewer, NotHolder, Ended, Full, NeedsReopen}
use Rattle.rm_tokens.specs.declared.token.Token.{Token}
use Rattle.rm_tokens.specs.declared.token.TokenLimits.{TokenLimits}
use Rattle.rm_tokens.specs.declared.token.TokenRecord.{TokenRecord}
use Rattle.rm_tokens.specs.declared.token.TokenRecord.TheVariants.{Issued, Renewed, Cancelled}
use Rattle.rm_tokens.specs.Errors.{IsWriteError}
use Rattle.rm_tokens.specs.Held.{TokensAt, Stand, LeavesRecords, needed_for, room_of}
use Rattle.rm_tokens.specs.Rows.{row_at}

-- What comes of a call that is to keep a record: a refusal that leaves all as it was, or a record to be kept.
pub data Verdict : Type 0 where
  Refuse : TokenError → Verdict
  Keep : TokenRecord → Verdict

-- A token that is issued now is valid for as long as a renewal lasts, and is renewed for its life at most.
abbrev pub issued_token : TokenLimits → List ℕ → List ℕ → ℕ → Token
issued_token limits owner renewer now = record { until = now + limits.renew; last = now + limits.life; owner = owner; renewer = renewer }

-- The date to which a token is renewed now: as long as a renewal lasts, but not beyond its last date, and not before its own.
abbrev pub renewed_until : TokenLimits → Token → ℕ → ℕ
renewed_until limits token now = max token.until (min (now + limits.renew) token.last)

-- A renewal is refused where there is no such token, where another than the renewer asks, and where the token's date is over.
abbrev pub renewal : TokenLimits → Option Token → List ℕ → ℕ → ℕ → Verdict
renewal limits None who number now = Refuse Unknown
renewal limits (Some token) who number now =
    if bytes_eq token.renewer who then (if nat_le token.until now then Refuse (Ended token.until) else Keep (Renewed number (renewed_until limits token now)))
    else Refuse NotRenewer

-- A cancellation is refused where there is no such token, and where another than its owner and its renewer asks.
abbrev pub cancellation : Option Token → List ℕ → ℕ → Verdict
cancellation None who number = Refuse Unknown
cancellation (Some token) who number = if bytes_eq token.owner who || bytes_eq token.renewer who then Keep (Cancelled number) else Refuse NotHolder

-- What a call asks for by the rules of tokens; the numbers of issues follow each other from 1.
abbrev pub ruling : TokensAt → Command → Verdict
ruling tokens (Issue owner renewer now) = Keep (Issued (length tokens.rows + 1) (issued_token tokens.limits owner renewer now))
ruling tokens (Renew who number now) = renewal tokens.limits (row_at tokens.rows number) who number now
ruling tokens (Cancel who number) = cancellation (row_at tokens.rows number) who number

-- Why a record of so many bytes is not kept: an earlier call failed, or there is no room for it.
abbrev pub journal_refusal : TokensAt → ℕ → Option TokenError
journal_refusal tokens needed =
    if tokens.is_broken then Some NeedsReopen else (if nat_lt (room_of tokens) needed then Some (Full needed (room_of tokens)) else None)

-- A record is kept unless there is a reason against it.
abbrev pub kept_unless : Option TokenError → TokenRecord → Verdict
kept_unless None entry = Keep entry
kept_unless (Some error) entry = Refuse error

-- What is to be kept is kept where the journal admits it.
abbrev pub journal_verdict : TokensAt → Verdict → Verdict
journal_verdict tokens (Refuse error) = Refuse error
journal_verdict tokens (Keep entry) = kept_unless (journal_refusal tokens (needed_for entry)) entry

-- What comes of a call: the refusals of tokens are tried first, and then those of the journal.
abbrev pub verdict : TokensAt → Command → Verdict
verdict tokens command = journal_verdict tokens (ruling tokens command)

-- The records after a call that was to keep one more.
abbrev pub kept_after : List TokenRecord → TokenRecord → Option TokenError → List TokenRecord
kept_after entries entry None = entries ++ entry ∷ []
kept_after entries entry (Some error) = entries

-- A record was to be kept. Where the call fails it answers DiskFault or Memory, and the tokens must be opened anew; it failed before it touched the
-- disk, or the journal's append failed. Where it succeeds the tokens stand with the record, and else with the records from before; and at every
-- moment each image holds those, or those and the new one.
pub record KeepsRecord {D : Type 0} (view : D → DiskView) (old new : D) (before after : TokensAt) (entry : TokenRecord) (why : Option TokenError) : Type 0 where
  pub errors : IfSome why IsWriteError
  pub broken : after.is_broken ≡ is_some why
  pub early : (error : TokenError) → why ≡ Some error → (new ≡ old) ⊎ (after.journal.is_broken ≡ true)
  pub limits : after.limits ≡ before.limits
  pub stands : (entries : List TokenRecord) → Stand (view old) before entries → Stand (view new) after (kept_after entries entry why)
  pub moments : (entries : List TokenRecord) → Stand (view old) before entries → LeavesRecords (view old) (view new) entries entry

-- What a call does after its verdict.
abbrev pub Does : {D : Type 0} → (D → DiskView) → Verdict → D → D → TokensAt → TokensAt → Option TokenError → Type 0
Does view (Refuse error) old new before after why = (why ≡ Some error) × (after ≡ before) × (new ≡ old)
Does view (Keep entry) old new before after why = KeepsRecord view old new before after entry why
