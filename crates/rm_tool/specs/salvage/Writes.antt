-- How a store is written anew on a disk. This project's own.
use Rattle.std.specs.Prelude.{◌≡◌, ◌⊎◌, ◌+◌, ◌≤◌, ℕ, Bool, List, [], map, sum, length}
use Rattle.rm_types.specs.declared.operations.Op.{Op}
use Rattle.rm_formats.specs.declared.TheConstants.{GENERATION_RECORD, RECORD_HEAD}
use Rattle.rm_formats.specs.Frames.{frame}
use Rattle.rm_disk.specs.Disk.{DiskView, AtEachMoment, EachImage, IfTold}
use Rattle.rm_journal.specs.two_areas.Areas.{HasCurrent}
use Rattle.rm_store.specs.Content.{HasContent, HasFrames, half_of}
use Rattle.rm_tool.specs.declared.salvage.errors.WriteError.{WriteError}
use Rattle.rm_tool.specs.declared.salvage.errors.WriteError.TheVariants.{Damaged, Used, Full}

-- how many bytes an area has up to the gate behind these operations, as they are written now
abbrev pub bytes_before : List Op → ℕ
bytes_before ops = GENERATION_RECORD + sum (map (λ op. length (frame op) + RECORD_HEAD) ops)

-- an area of the bytes is live
pub record HasLiveArea (bytes : List ℕ) : Type 0 where
  pub second : Bool
  pub generation : ℕ
  pub live : 1 ≤ generation
  pub payloads : List (List ℕ)
  pub current : HasCurrent (half_of bytes) second generation payloads bytes

-- at each moment a crash leaves a store without operations, or one with them all
abbrev pub LeavesNoneOrAll : DiskView → DiskView → List Op → Type 0
LeavesNoneOrAll old new ops = AtEachMoment old new (λ image. HasContent image [] ⊎ HasContent image ops)

-- a disk holds these operations, and so does whatever a crash leaves of it; its payloads are their frames as they are written now
pub record HoldsAll (disk : DiskView) (ops : List Op) : Type 0 where
  pub now : IfTold disk (λ bytes. HasContent bytes ops)
  pub images : EachImage disk (λ image. HasContent image ops)
  pub frames : IfTold disk (λ bytes. HasFrames bytes ops)
  pub image_frames : EachImage disk (λ image. HasFrames image ops)

-- the disk is refused: it isn't a new one, or too small
abbrev pub IsDiskRefusal : WriteError → Type 0
IsDiskRefusal (Damaged offset) = Unit {0}
IsDiskRefusal Used = Unit {0}
IsDiskRefusal (Full size) = Unit {0}
IsDiskRefusal error = ⊥
