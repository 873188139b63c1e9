-- Two areas of a disk, each with a journal: of those that are live, the one of the greater generation is the current one. This project's own,
-- after the two areas of log-structured stores, of which one is written anew while the other stands.
use Rattle.std.specs.Prelude.{◌≡◌, ◌≢◌, ◌⊎◌, ◌+◌, ◌-◌, ◌<◌, ◌≤◌, ◌/◌, ◌^◌, ℕ, zero, suc, Bool, true, false, not, List, [], ◌∷◌, ◌++◌, length, drop, All, Option, Some, option_map}
use Rattle.std.specs.Int.{w64, to_be_bytes}
use Rattle.rm_formats.specs.Device.{IsPayload, journal_record, journal_records, HasPayloads, IsDamagedAt}
use Rattle.rm_disk.specs.Disk.{DiskView, IfTold, EachImage, AtEachMoment, IsDurable, IsQuiet, MayWrite, put}
use Rattle.rm_journal.specs.Journal.{JournalPlace, JournalInvariant, region_of}

-- where an area begins: the first at 0, the second in the middle
abbrev pub area_from : ℕ → Bool → ℕ
area_from half false = 0
area_from half true = half

-- where an area ends
abbrev pub area_end : ℕ → Bool → ℕ
area_end half second = area_from half second + half

-- the bytes of an area
abbrev pub area_of : ℕ → Bool → List ℕ → List ℕ
area_of half second bytes = region_of (area_from half second) (area_end half second) bytes

-- the first payload of an area that is live: its generation; 0 stands for one that isn't
abbrev pub head_of : ℕ → List (List ℕ)
head_of zero = []
head_of (suc n) = to_be_bytes w64 (suc n) ∷ []

-- an area is not live: its first gate isn't in it, or is closed
pub data IsShut (area : List ℕ) : Type 0 where
  empty : area ≡ [] → IsShut area
  closed : (gate : ℕ) (rest : List ℕ) → gate ≢ 1 → area ≡ gate ∷ rest → IsShut area

-- an area is live, and its first record is a generation
pub record HasGeneration (area : List ℕ) (generation : ℕ) : Type 0 where
  pub low : 1 ≤ generation
  pub high : generation < 2 ^ 64
  pub next : ℕ
  pub rest : List ℕ
  pub is : area ≡ journal_record (to_be_bytes w64 generation) ++ next ∷ rest

-- an area is live, with a lower generation
pub record IsBefore (area : List ℕ) (generation : ℕ) : Type 0 where
  pub before : ℕ
  pub has : HasGeneration area before
  pub less : before < generation

-- an area isn't live, or has a lower generation
pub data IsOlder (area : List ℕ) (generation : ℕ) : Type 0 where
  shut : IsShut area → IsOlder area generation
  older : IsBefore area generation → IsOlder area generation

-- the area that isn't the current one is known to be live or not
abbrev pub OtherIs : Bool → List ℕ → ℕ → Type 0
OtherIs false area generation = IsShut area
OtherIs true area generation = IsBefore area generation

-- an area is the current one, of this generation and with these payloads; where none is live, the second stands for it, of generation 0
pub record HasCurrent (half : ℕ) (second : Bool) (generation : ℕ) (payloads : List (List ℕ)) (bytes : List ℕ) : Type 0 where
  pub size : half ≡ length bytes / 2
  pub high : generation < 2 ^ 64
  pub holds : HasPayloads (area_of half second bytes) (head_of generation ++ payloads)
  pub none : generation ≡ 0 → (second ≡ true) × (payloads ≡ [])
  pub other : IsOlder (area_of half (not second) bytes) generation

-- the bytes of a disk hold these payloads
pub record HasLayout (half : ℕ) (payloads : List (List ℕ)) (bytes : List ℕ) : Type 0 where
  pub second : Bool
  pub generation : ℕ
  pub current : HasCurrent half second generation payloads bytes

-- Two areas as contracts see them: the size of each, whether the current one is the second, its generation, its journal, whether the other one is
-- live, the closed gate of what is built in the other one, and whether a fault broke them.
pub record AreasAt : Type 0 where
  pub half : ℕ
  pub second : Bool
  pub generation : ℕ
  pub journal : JournalPlace
  pub other_live : Bool
  pub build : Option ℕ
  pub is_broken : Bool

-- where the other area begins
abbrev pub other_from : AreasAt → ℕ
other_from a = area_from a.half (not a.second)

-- where it ends
abbrev pub other_end : AreasAt → ℕ
other_end a = other_from a + a.half

-- the current area has these payloads
abbrev pub AreasHold : AreasAt → List (List ℕ) → List ℕ → Type 0
AreasHold a payloads bytes = HasCurrent a.half a.second a.generation payloads bytes

-- what is built in the other area: its first gate is closed in each image, and behind it stands what follows an open one before the next generation
-- and the added payloads
pub record IsBuilt (disk : DiskView) (a : AreasAt) (added : List (List ℕ)) : Type 0 where
  pub gate : ℕ
  pub begun : a.build ≡ Some gate
  pub dead : a.other_live ≡ false
  pub place : gate ≡ other_from a + length (journal_records (head_of (suc a.generation) ++ added))
  pub room : gate < other_end a
  pub next : suc a.generation < 2 ^ 64
  pub sizes : All IsPayload (head_of (suc a.generation) ++ added)
  pub built : IfTold disk (λ bytes. (rest : List ℕ) × (region_of (other_from a + 1) (other_end a) bytes ≡ drop 1 (journal_records (head_of (suc a.generation) ++ added)) ++ 0 ∷ rest))
  pub shut : EachImage disk (λ image. IsShut (area_of a.half (not a.second) image))

-- two areas stand on a disk: nothing but they changed its bytes since they were opened
pub record AreasInvariant (disk : DiskView) (a : AreasAt) : Type 0 where
  pub half : a.half ≡ disk.size / 2
  pub inside : a.half + a.half ≤ disk.size
  pub from : a.journal.from ≡ area_from a.half a.second
  pub end : a.journal.end ≡ area_end a.half a.second
  pub stands : JournalInvariant disk a.journal
  pub unbroken : a.is_broken ≡ false → a.journal.is_broken ≡ false
  pub has : a.is_broken ≡ false → IfTold disk (λ bytes. (payloads : List (List ℕ)) × EachImage disk (AreasHold a payloads))
  pub other : a.is_broken ≡ false → EachImage disk (λ image. OtherIs a.other_live (area_of a.half (not a.second) image) a.generation)
  pub build : a.is_broken ≡ false → (gate : ℕ) → a.build ≡ Some gate → (added : List (List ℕ)) × IsBuilt disk a added

-- at each moment a crash leaves these payloads
abbrev pub LeavesPayloads : DiskView → DiskView → ℕ → List (List ℕ) → Type 0
LeavesPayloads old new half payloads = AtEachMoment old new (HasLayout half payloads)

-- at each moment a crash leaves these payloads, or those
abbrev pub LeavesEitherLayout : DiskView → DiskView → ℕ → List (List ℕ) → List (List ℕ) → Type 0
LeavesEitherLayout old new half payloads others = AtEachMoment old new (λ image. HasLayout half payloads image ⊎ HasLayout half others image)

-- a disk has these payloads: each image has, and so has what it tells
pub record HoldsPayloads (disk : DiskView) (half : ℕ) (payloads : List (List ℕ)) : Type 0 where
  pub now : IfTold disk (HasLayout half payloads)
  pub images : EachImage disk (HasLayout half payloads)

-- an open gate was closed, and lasts so; one that wasn't open was left alone
abbrev pub ClosesGate : Bool → ℕ → DiskView → DiskView → Type 0
ClosesGate true gate old new = (new.told ≡ option_map (put gate (0 ∷ [])) old.told) × IsDurable new × MayWrite gate 1 old new
ClosesGate false gate old new = IsQuiet old new

-- the generation of an area, 0 where it isn't live
abbrev pub IsGeneration : List ℕ → ℕ → Type 0
IsGeneration area zero = IsShut area
IsGeneration area (suc n) = HasGeneration area (suc n)

-- an area is live, and its first record is no generation
pub record HasBadHead (area : List ℕ) : Type 0 where
  pub rest : List ℕ
  pub live : area ≡ 1 ∷ rest
  pub never : (generation : ℕ) → HasGeneration area generation → ⊥

-- the bytes of a disk are damaged at an offset: an area is live without a generation, both have the same one, or an open gate of the current one
-- stands before no record
pub data IsDamagedLayout (half : ℕ) (bytes : List ℕ) (offset : ℕ) : Type 0 where
  first_head : HasBadHead (area_of half false bytes) → offset ≡ 0 → IsDamagedLayout half bytes offset
  second_head : (HasBadHead (area_of half false bytes) → ⊥) → HasBadHead (area_of half true bytes) → offset ≡ half → IsDamagedLayout half bytes offset
  twice : (generation : ℕ) → HasGeneration (area_of half false bytes) generation → HasGeneration (area_of half true bytes) generation → offset ≡ half → IsDamagedLayout half bytes offset
  later : (second : Bool) (generation : ℕ) → HasGeneration (area_of half second bytes) generation → IsOlder (area_of half (not second) bytes) generation → area_from half second ≤ offset
      → IsDamagedAt (area_of half second bytes) (offset - area_from half second) → IsDamagedLayout half bytes offset
