-- What a device of tokens holds, and tokens that stand on it. This project's own.
use Rattle.std.specs.Prelude.{◌≡◌, ◌⊎◌, ◌+◌, ◌-◌, ◌≤◌, ℕ, Bool, true, false, List, [], ◌∷◌, ◌++◌, length, map, All, Option}
use Rattle.rm_formats.specs.Device.{HasPayloads, journal_records, IsDamagedAt}
use Rattle.rm_formats.specs.declared.TheConstants.{RECORD_FRAME}
use Rattle.rm_disk.specs.Disk.{DiskView, IfTold, EachImage, AtEachMoment}
use Rattle.rm_journal.specs.Journal.{JournalPlace, JournalInvariant}
use Rattle.rm_tokens.specs.declared.fault.TokenError.{TokenError}
use Rattle.rm_tokens.specs.declared.fault.TokenError.TheVariants.{Damaged}
use Rattle.rm_tokens.specs.declared.token.Token.{Token}
use Rattle.rm_tokens.specs.declared.token.TokenLimits.{TokenLimits}
use Rattle.rm_tokens.specs.declared.token.TokenRecord.{TokenRecord}
use Rattle.rm_tokens.specs.declared.token.TheConstants.{GREATEST_LIMIT}
use Rattle.rm_tokens.specs.Frames.{IsTokenRecord, IsFrameOf, token_frame}
use Rattle.rm_tokens.specs.Records.{fits, fit_in_order}
use Rattle.rm_tokens.specs.Rows.{AreRows}

-- Records whose parts are in their ranges, and of which each may stand behind those before it.
pub record AreTokenRecords (entries : List TokenRecord) : Type 0 where
  pub ranges : All IsTokenRecord entries
  pub fit : fit_in_order entries ≡ true

-- A device holds these records: they are token records, and their frames are the payloads of the journal that its bytes are.
pub record HoldsRecords (bytes : List ℕ) (entries : List TokenRecord) : Type 0 where
  pub payloads : HasPayloads bytes (map token_frame entries)
  pub are : AreTokenRecords entries

-- The device holds these records, or these and one more.
abbrev pub HoldsEither : List TokenRecord → TokenRecord → List ℕ → Type 0
HoldsEither entries entry bytes = HoldsRecords bytes entries ⊎ HoldsRecords bytes (entries ++ entry ∷ [])

-- The limits are in their ranges.
pub record AreLimits (limits : TokenLimits) : Type 0 where
  pub renew : 1 ≤ limits.renew
  pub order : limits.renew ≤ limits.life
  pub life : limits.life ≤ GREATEST_LIMIT

-- Tokens as contracts see them: their journal, their rows, their limits, and whether a call failed so that they must be opened anew.
pub record TokensAt : Type 0 where
  pub journal : JournalPlace
  pub rows : List (Option Token)
  pub limits : TokenLimits
  pub is_broken : Bool

-- A journal stands on a whole disk.
pub record IsWhole (disk : DiskView) (journal : JournalPlace) : Type 0 where
  pub stands : JournalInvariant disk journal
  pub from : journal.from ≡ 0
  pub end : journal.end ≡ disk.size

-- Tokens stand on a disk with these records: their rows are those of the records, and unless the tokens are broken each image of
-- the disk holds these records, and so does what a read gives, which is one of the images.
pub record Stand (disk : DiskView) (tokens : TokensAt) (entries : List TokenRecord) : Type 0 where
  pub journal : tokens.is_broken ≡ false → IsWhole disk tokens.journal
  pub unbroken : tokens.is_broken ≡ false → tokens.journal.is_broken ≡ false
  pub are : AreTokenRecords entries
  pub rows : AreRows tokens.rows entries
  pub read : tokens.is_broken ≡ false → IfTold disk (λ bytes. HoldsRecords bytes entries)
  pub images : tokens.is_broken ≡ false → IfTold disk (λ _. EachImage disk (λ image. HoldsRecords image entries))

-- Tokens stand on a disk with some records: nothing but these tokens changed its bytes since they were opened.
abbrev pub IsSound : DiskView → TokensAt → Type 0
IsSound disk tokens = (entries : List TokenRecord) × Stand disk tokens entries

-- At each moment each image holds the records from before, or these and the new one.
abbrev pub LeavesRecords : DiskView → DiskView → List TokenRecord → TokenRecord → Type 0
LeavesRecords old new entries entry = IfTold old (λ _. AtEachMoment old new (HoldsEither entries entry))

-- How many bytes the journal must have left for one record more: its frame's, a length's, and two gates'.
abbrev pub needed_for : TokenRecord → ℕ
needed_for entry = length (token_frame entry) + RECORD_FRAME

-- How many bytes the journal has left behind its records.
abbrev pub room_of : TokensAt → ℕ
room_of tokens = tokens.journal.end - tokens.journal.gate

-- How many bytes a device of so many has left behind these records.
abbrev pub room_behind : ℕ → List TokenRecord → ℕ
room_behind size entries = size - length (journal_records (map token_frame entries))

-- The bytes hold these records, and behind them a payload whose gate stands at the offset.
pub record ReadsUpTo (bytes : List ℕ) (entries : List TokenRecord) (payload : List ℕ) (offset : ℕ) : Type 0 where
  pub more : List (List ℕ)
  pub payloads : HasPayloads bytes (map token_frame entries ++ payload ∷ more)
  pub are : AreTokenRecords entries
  pub place : offset ≡ length (journal_records (map token_frame entries))

-- Behind such records the payload at the offset is no token record, or one that doesn't fit them.
pub record HasNoTokenAt (bytes : List ℕ) (offset : ℕ) : Type 0 where
  pub entries : List TokenRecord
  pub payload : List ℕ
  pub reads : ReadsUpTo bytes entries payload offset
  pub no_token : (entry : TokenRecord) → IsFrameOf payload entry → fits entries entry ≡ false

-- The bytes are why tokens are not opened: they are damaged as a journal, or as one of tokens. Other refusals have no cause in the bytes.
abbrev pub IsWhy : List ℕ → TokenError → Type 0
IsWhy bytes (Damaged offset) = IsDamagedAt bytes offset ⊎ HasNoTokenAt bytes offset
IsWhy bytes _ = Unit {0}

-- The bytes are damaged in neither way.
pub record IsFaultless (bytes : List ℕ) : Type 0 where
  pub undamaged : (offset : ℕ) → IsDamagedAt bytes offset → ⊥
  pub tokens : (offset : ℕ) → HasNoTokenAt bytes offset → ⊥
