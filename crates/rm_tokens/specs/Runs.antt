-- Lists of calls, crashes and openings, and the tokens after them. This project's own.
use Rattle.std.specs.Prelude.{◌≡◌, ◌⊎◌, false, List, [], ◌∷◌, Option, None, Some, is_some, ℕ, ◌≤◌}
use Rattle.rm_disk.specs.Disk.{DiskView, IfTold, EachImage, IsQuiet, IsLaterView, Falls}
use Rattle.rm_tokens.specs.declared.fault.TokenError.{TokenError}
use Rattle.rm_tokens.specs.declared.token.Token.{Token}
use Rattle.rm_tokens.specs.declared.token.TokenRecord.{TokenRecord}
use Rattle.rm_tokens.specs.Calls.{Command, Verdict, Refuse, Keep, verdict, KeepsRecord}
use Rattle.rm_tokens.specs.Held.{TokensAt, HoldsRecords, HoldsEither, Stand}

-- A disk, and the tokens that were opened on it.
pub record TokensOnDisk (D : Type 0) : Type 0 where
  pub disk : D
  pub tokens : TokensAt

-- What can happen: a call keeps its record; a call answers DiskFault or Memory, and its record is lost or not; a call is refused; the disk
-- falls; the tokens are opened anew; and opening them fails.
pub data Event : Type 0 where
  Kept : Command → TokenRecord → Event
  Lost : Command → TokenRecord → Event
  Refused : Command → TokenError → Event
  Fell : Event
  Opened : Event
  NotOpened : Event

-- The event that a call is, by its verdict and its failure.
abbrev pub event_of : Command → Verdict → Option TokenError → Event
event_of command (Refuse error) why = Refused command error
event_of command (Keep entry) None = Kept command entry
event_of command (Keep entry) (Some error) = Lost command entry

-- The tokens after an opening are those of the records that a read of the disk gave, and a read gives what it gave.
pub record OpensAnew (old new : DiskView) (tokens : TokensAt) : Type 0 where
  pub quiet : IsQuiet old new
  pub unbroken : tokens.is_broken ≡ false
  pub read : (entries : List TokenRecord) → IfTold old (λ bytes. HoldsRecords bytes entries → Stand new tokens entries)

-- What each event does, as the contracts of the calls say it.
abbrev pub Happens : {D : Type 0} → (D → DiskView) → Event → TokensOnDisk D → TokensOnDisk D → Type 0
Happens view (Kept command entry) old new =
    (verdict old.tokens command ≡ Keep entry) × KeepsRecord view old.disk new.disk old.tokens new.tokens entry None × IsLaterView (view old.disk) (view new.disk)
Happens view (Lost command entry) old new =
    (error : TokenError) × (verdict old.tokens command ≡ Keep entry) × KeepsRecord view old.disk new.disk old.tokens new.tokens entry (Some error) × IsLaterView (view old.disk) (view new.disk)
Happens view (Refused command error) old new = (verdict old.tokens command ≡ Refuse error) × (new.tokens ≡ old.tokens) × (new.disk ≡ old.disk)
Happens view Fell old new = Falls (view old.disk) (view new.disk) × (new.tokens ≡ old.tokens)
Happens view Opened old new = OpensAnew (view old.disk) (view new.disk) new.tokens
Happens view NotOpened old new = IsQuiet (view old.disk) (view new.disk) × (new.tokens ≡ old.tokens)

-- Events lead from one moment to another.
abbrev pub Run : {D : Type 0} → (D → DiskView) → List Event → TokensOnDisk D → TokensOnDisk D → Type 0
Run view [] from to = to ≡ from
Run {D} view (event ∷ events) from to = (next : TokensOnDisk D) × Happens view event from next × Run view events next to

-- The records that events add: that of each call that was answered, in order, and of one that was lost its record or none.
abbrev pub AddRecords : List Event → List TokenRecord → Type 0
AddRecords [] added = added ≡ []
AddRecords (Kept command entry ∷ events) added = (later : List TokenRecord) × (added ≡ entry ∷ later) × AddRecords events later
AddRecords (Lost command entry ∷ events) added = AddRecords events added ⊎ ((later : List TokenRecord) × (added ≡ entry ∷ later) × AddRecords events later)
AddRecords (Refused command error ∷ events) added = AddRecords events added
AddRecords (Fell ∷ events) added = AddRecords events added
AddRecords (Opened ∷ events) added = AddRecords events added
AddRecords (NotOpened ∷ events) added = AddRecords events added

-- The bytes hold these records, or, where a call was lost since the last opening, these and its record.
abbrev pub HoldsWithLost : Option TokenRecord → List TokenRecord → List ℕ → Type 0
HoldsWithLost None entries bytes = HoldsRecords bytes entries
HoldsWithLost (Some entry) entries bytes = HoldsEither entries entry bytes

-- The tokens are those of these records, and each image of the disk holds these; only where a call was lost and no opening followed
-- it yet, an image may hold its record too, and every call is refused until then.
pub record AreTokensOf (disk : DiskView) (tokens : TokensAt) (entries : List TokenRecord) : Type 0 where
  pub stand : Stand disk tokens entries
  pub tells : (bytes : List ℕ) × (disk.told ≡ Some bytes)
  pub lost : Option TokenRecord
  pub images : EachImage disk (HoldsWithLost lost entries)
  pub broken : tokens.is_broken ≡ is_some lost

-- A token lives on: it keeps its last date and its names, its date does not fall, and its date is at most its last one.
pub record LivesOn (old new : Token) : Type 0 where
  pub until : old.until ≤ new.until
  pub bound : new.until ≤ new.last
  pub last : new.last ≡ old.last
  pub owner : new.owner ≡ old.owner
  pub renewer : new.renewer ≡ old.renewer
