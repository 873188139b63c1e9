-- What becomes of the device of a call that logged nothing.
use Rattle.std.proofs.Common.{◌≡◌, ◌⊎◌, List, [], None, false, refl, inl, arith}
use Rattle.rm_types.specs.declared.operations.Op.{Op}
use Rattle.rm_disk.specs.Disk.{DiskView, IsQuiet, IfTold}
use Rattle.rm_disk.specs.Fuse.{Fused}
use Rattle.rm_disk.proofs.Views.{leaves_of, quiet_same}
use Rattle.rm_store.specs.Content.{HasContent}
use Rattle.rm_lives.specs.Starts.{DiskStays}
use Rattle.rm_lives.specs.Survives.{HoldsWithin}
use Rattle.rm_store.specs.Store.{seen}
use Rattle.rm_main.specs.Made.{LeavesDevice}

-- it changed no byte
pub left_alone : {D : Type 0} (view : D → DiskView) (opening : List Op) (before after : Fused D) → IsQuiet (seen view before) (seen view after) → DiskStays view before after → after.armed ≡ None → (before.blown ≡ false → after.blown ≡ false)
    → (opening ≡ []) ⊎ IfTold (seen view before) (λ bytes. HasContent bytes opening) → LeavesDevice view (record { opening = opening; log = []; before = before; after = after })
left_alone view opening before after quiet stays unarmed unblown held =
    record {
      stays = stays;
      unarmed = unarmed;
      unblown = unblown;
      opening = λ some. absurd (some refl);
      held = held;
      quiet = λ none. quiet;
      images = λ bytes told.
          record {
            so_far = leaves_of (seen view before) (seen view after) (seen view before).images (λ image. (seen view before).images image ⊎ HoldsWithin opening [] image) (λ image was. inl was) quiet.time;
            now = λ image now. inl (quiet.images image now);
          };
      images_now = λ some. absurd (some refl);
    }

-- it made no call of it
pub left_as_it_was : {D : Type 0} (view : D → DiskView) (disk : Fused D) → disk.armed ≡ None → LeavesDevice view (record { opening = []; log = []; before = disk; after = disk })
left_as_it_was view disk unarmed = left_alone view [] disk disk (quiet_same (seen view disk)) (record { unarmed_falls = refl; size = refl; faults = omega arith }) unarmed (λ unblown. unblown) (inl refl)
