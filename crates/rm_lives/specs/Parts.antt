-- A run up to some moment, over the disk that was handed to it at first. It is told over every opening list, script and first disk, so that it can be told
-- of a run whose script grows. This project's own.
use Rattle.std.specs.Prelude.{◌≡◌, ◌≢◌, ◌⊎◌, ℕ, List, [], ◌++◌, None, Some}
use Rattle.rm_types.specs.declared.operations.Op.{Op}
use Rattle.rm_types.specs.declared.scripts.Script.{Script}
use Rattle.rm_types.specs.Records.{stray}
use Rattle.rm_disk.specs.declared.fallen.Fallen.{Fallen}
use Rattle.rm_disk.specs.Disk.{DiskView, Leaves, IfTold}
use Rattle.rm_disk.specs.Fuse.{Fused}
use Rattle.rm_store.specs.Content.{HasContent}
use Rattle.rm_store.specs.Store.{seen}
use Rattle.rm_desk.specs.View.{DeskView}
use Rattle.rm_lives.specs.Goes.{IsRun}
use Rattle.rm_lives.specs.Keeping.{IsKeptOn}
use Rattle.rm_lives.specs.Order.{Order}
use Rattle.rm_lives.specs.Starts.{DiskStays}
use Rattle.rm_lives.specs.Survives.{HoldsWithin}

-- a run of the script so far, from the disk that was handed in to the disk now: over what that held, the log is lawful along the
-- script, its lanes moved in this order; the disk fell once for each life that went down; it has what is kept, and at each moment a crash left what it could have left at first, or what was
-- kept at some moment of the log, or this and the operation that awaited there
pub record RunsOn (order : Order) {D : Type 0} (view : D → DiskView) (opening : List Op) (script : Script) (disk now : Fused D) (d : DeskView) : Type 0 where
  pub lives : script.lives ≢ []
  pub read_back : stray opening ≡ None
  pub fallen : List Fallen
  pub run : IsRun order opening script fallen d
  pub some : d.core.log ≢ []
  pub falls : now.falls ≡ disk.falls ++ fallen
  pub stays : DiskStays view disk now
  pub opened : IfTold (seen view disk) (λ bytes. HasContent bytes opening)
  pub kept : (bytes : List ℕ) → (seen view disk).told ≡ Some bytes → IsKeptOn opening d.core.log (seen view now)
  pub time : IfTold (seen view disk) (λ bytes. Leaves (seen view disk) (seen view now) (λ image. (seen view disk).images image ⊎ HoldsWithin opening d.core.log image))
