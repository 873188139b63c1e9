-- What a device of two areas holds: its content, which is the operations that stand there, and each list of which the same is left as of the
-- content. This project's own.
use Rattle.std.specs.Prelude.{◌≡◌, ◌+◌, ◌-◌, ◌/◌, ℕ, List, [], ◌∷◌, length, map, sum, All, None}
use Rattle.rm_types.specs.declared.operations.Op.{Op}
use Rattle.rm_types.specs.Folded.{folded}
use Rattle.rm_types.specs.Ranges.{IsOperation}
use Rattle.rm_types.specs.Records.{stray}
use Rattle.rm_formats.specs.declared.TheConstants.{RECORD_HEAD}
use Rattle.rm_formats.specs.Frames.{frame, Reads}
use Rattle.rm_formats.specs.declared.TheConstants.{GENERATION_RECORD}
use Rattle.rm_journal.specs.two_areas.Areas.{HasLayout}

-- The size of an area: half of the device's bytes, rounded down.
abbrev pub half_of : List ℕ → ℕ
half_of bytes = length bytes / 2

-- The payload is a frame of this operation, whose parts are in their ranges: it reads as it. An App that doesn't keep has two frames.
pub record IsFrameOf (payload : List ℕ) (op : Op) : Type 0 where
  pub can : IsOperation op
  pub is : Reads payload op

-- The payloads are frames of these operations, one by one: they read as them.
abbrev pub ReadsAs : List (List ℕ) → List Op → Type 0
ReadsAs [] [] = Unit {0}
ReadsAs [] (op ∷ ops) = ⊥
ReadsAs (payload ∷ payloads) [] = ⊥
ReadsAs (payload ∷ payloads) (op ∷ ops) = IsFrameOf payload op × ReadsAs payloads ops

-- The content of a device: the operations as which the payloads of its current area read, in order, of which none is stray.
pub record HasContent (bytes : List ℕ) (content : List Op) : Type 0 where
  pub payloads : List (List ℕ)
  pub layout : HasLayout (half_of bytes) payloads bytes
  pub reads : ReadsAs payloads content
  pub none_stray : stray content ≡ None

-- The payloads of a device's current area are the frames of these operations as they are written now, so that none is the older one of an App.
pub record HasFrames (bytes : List ℕ) (ops : List Op) : Type 0 where
  pub can : All IsOperation ops
  pub layout : HasLayout (half_of bytes) (map frame ops) bytes

-- So they are for some operations.
abbrev pub HoldsFrames : List ℕ → Type 0
HoldsFrames bytes = (ops : List Op) × HasFrames bytes ops

-- A device holds these operations: what is left of them is what is left of its content. So it holds them whether or not
-- those that say nothing any more were left out when an area was written anew.
pub record DeviceHolds (bytes : List ℕ) (ops : List Op) : Type 0 where
  pub content : List Op
  pub has : HasContent bytes content
  pub same : folded content ≡ folded ops

-- How many bytes an area of this size has behind a generation's record and the records of what is left of these
-- operations, as they are written now.
abbrev pub room_for : ℕ → List Op → ℕ
room_for half ops = half - GENERATION_RECORD - sum (map (λ op. length (frame op) + RECORD_HEAD) (folded ops))
