-- A store's content on two areas of a disk, and what an append leaves there. This project's own.
use Rattle.std.specs.Prelude.{◌≡◌, ◌⊎◌, ◌+◌, ◌-◌, ◌<◌, ◌^◌, ℕ, List, [], ◌∷◌, ◌++◌, false, All, None, Some, length, nat_eq, if◌then◌else◌}
use Rattle.rm_types.specs.declared.operations.Op.{Op}
use Rattle.rm_types.specs.Folded.{folded}
use Rattle.rm_types.specs.Ranges.{IsOperation}
use Rattle.rm_formats.specs.declared.TheConstants.{RECORD_FRAME}
use Rattle.rm_formats.specs.Frames.{frame}
use Rattle.rm_disk.specs.Disk.{DiskView, IfTold, AtEachMoment, EachImage}
use Rattle.rm_journal.specs.declared.fault.JournalError.{JournalError}
use Rattle.rm_journal.specs.declared.fault.JournalError.TheVariants.{DiskFault, Full, Memory}
use Rattle.rm_journal.specs.two_areas.Areas.{AreasAt, AreasInvariant, AreasHold}
use Rattle.rm_store.specs.Content.{ReadsAs, HasFrames, HoldsFrames, DeviceHolds, room_for}

-- A content stands on two areas of a disk: they stand there, nothing is built, and the payloads of the current one read as
-- these operations.
pub record IsKept (disk : DiskView) (areas : AreasAt) (content : List Op) : Type 0 where
  pub stands : AreasInvariant disk areas
  pub unbroken : areas.is_broken ≡ false
  pub no_build : areas.build ≡ None
  pub framed : All IsOperation content
  pub has : IfTold disk (λ bytes. (payloads : List (List ℕ)) × AreasHold areas payloads bytes × ReadsAs payloads content)

-- The disk tells its bytes, and they hold these operations.
pub record HasOps (disk : DiskView) (ops : List Op) : Type 0 where
  pub bytes : List ℕ
  pub told : disk.told ≡ Some bytes
  pub holds : DeviceHolds bytes ops

-- At each moment a crash leaves these operations, or these and the new one.
abbrev pub LeavesOps : DiskView → DiskView → List Op → Op → Type 0
LeavesOps old new ops op = AtEachMoment old new (λ image. DeviceHolds image ops ⊎ DeviceHolds image (ops ++ op ∷ []))

-- The disk has these operations and the new one, and a crash now leaves them.
pub record AddsOp (disk : DiskView) (ops : List Op) (op : Op) : Type 0 where
  pub now : HasOps disk (ops ++ op ∷ [])
  pub images : EachImage disk (λ image. DeviceHolds image (ops ++ op ∷ []))

-- A disk's payloads are the frames of these operations as they are written now, and those of whatever a crash now leaves of it.
abbrev pub TellsFrames : DiskView → List Op → Type 0
TellsFrames disk ops = IfTold disk (λ bytes. HasFrames bytes ops × EachImage disk (λ image. HasFrames image ops))

-- Where a disk's payloads are frames as they are written now, each moment leaves such frames alone.
abbrev pub KeepsFrames : DiskView → DiskView → Type 0
KeepsFrames old new = IfTold old (λ bytes. HoldsFrames bytes → AtEachMoment old new HoldsFrames)

-- How many bytes an area must have left for one more operation: its frame's, a length's, and two gates'.
abbrev pub needed_for : Op → ℕ
needed_for op = length (frame op) + RECORD_FRAME

-- How many bytes the current area has from its closed gate on.
abbrev pub room_here : AreasAt → ℕ
room_here areas = areas.journal.end - areas.journal.gate

-- Neither the current area has room for an operation, nor one that is written anew, where there is a generation left for
-- it.
pub record IsFull (areas : AreasAt) (content : List Op) (op : Op) : Type 0 where
  pub here : (areas.generation ≡ 0) ⊎ (room_here areas < needed_for op)
  pub anew : (areas.generation ≡ 2 ^ 64 - 1) ⊎ (room_for areas.half content < needed_for op)

-- The room that a full store tells: at the last generation what the current area has, else what one that is written anew
-- would have.
abbrev pub told_room : AreasAt → List Op → ℕ
told_room areas content = if nat_eq areas.generation (2 ^ 64 - 1) then room_here areas else room_for areas.half content

-- How many writes and syncs an area takes that is written anew with what is left of a content, at most: one for each
-- operation, and two more where the other area is live, since its gate is then closed first.
abbrev pub calls_of_change : AreasAt → List Op → ℕ
calls_of_change areas content = length (folded content) + (if areas.other_live then 6 else 4)

-- An append to a store that isn't broken fails with one of these.
abbrev pub IsPutError : JournalError → Type 0
IsPutError DiskFault = Unit {0}
IsPutError Memory = Unit {0}
IsPutError (Full _ _) = Unit {0}
IsPutError _ = ⊥
