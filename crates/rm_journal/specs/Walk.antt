-- A walk over the records of a journal in a region of a disk, before it is known how many there are.
use Rattle.std.specs.Prelude.{◌≡◌, ◌+◌, ◌<◌, ◌≤◌, ℕ, Bool, true, List, [], ◌∷◌, ◌++◌, length, All, Option, None, Some}
use Rattle.rm_formats.specs.Device.{IsPayload, journal_records, HasPayloads}
use Rattle.rm_disk.specs.Disk.{DiskView, IfTold, IsDurable}
use Rattle.rm_journal.specs.Journal.{region_of}

-- A walk as contracts see it: its region's first place and end, the gate that it looks at next, and whether it has come
-- to the closed gate.
pub record WalkAt : Type 0 where
  pub from : ℕ
  pub end : ℕ
  pub gate : ℕ
  pub is_done : Bool

-- From the region's first place to the gate stand the records of these payloads.
pub record HasWalked (walk : WalkAt) (bytes : List ℕ) (given : List (List ℕ)) : Type 0 where
  pub sizes : All IsPayload given
  pub are : region_of walk.from walk.gate bytes ≡ journal_records given
  pub place : walk.gate ≡ walk.from + length (journal_records given)

-- Bytes begin with the records of these payloads, and a next gate.
pub record BeginsWith (bytes : List ℕ) (payloads : List (List ℕ)) : Type 0 where
  pub sizes : All IsPayload payloads
  pub next : ℕ
  pub rest : List ℕ
  pub is : bytes ≡ journal_records payloads ++ next ∷ rest

-- A walk stands on a disk from which nothing is unsynced.
pub record IsWalking (disk : DiskView) (walk : WalkAt) : Type 0 where
  pub inside : walk.end ≤ disk.size
  pub low : walk.from ≤ walk.gate
  pub high : walk.gate ≤ walk.end
  pub room : walk.from < walk.end → walk.gate < walk.end
  pub durable : IsDurable disk
  pub walked : IfTold disk (λ bytes. (given : List (List ℕ)) × HasWalked walk bytes given)
  pub done : walk.is_done ≡ true → IfTold disk (λ bytes. (given : List (List ℕ)) → HasWalked walk bytes given → HasPayloads (region_of walk.from walk.end bytes) given)

-- What a walk gives after some payloads: nothing where these are all, or the next one with its gate.
abbrev pub GivesWalked : WalkAt → WalkAt → List ℕ → List ℕ → List (List ℕ) → Option ℕ → Type 0
GivesWalked old new now bytes given None = (new ≡ record old { is_done = true }) × HasPayloads (region_of old.from old.end bytes) given
GivesWalked old new now bytes given (Some gate) =
    (gate ≡ old.gate) × HasWalked new bytes (given ++ now ∷ []) × BeginsWith (region_of old.from old.end bytes) (given ++ now ∷ [])
