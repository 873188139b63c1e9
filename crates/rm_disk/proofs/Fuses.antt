-- What a fuse does to the disk under it.
use Rattle.std.proofs.Common.{ℕ, ◌≤◌, refl, arith}
use Rattle.rm_disk.specs.Disk.{DiskView, IsQuiet}
use Rattle.rm_disk.specs.Fuse.{fused_view}
use Rattle.rm_disk.proofs.Views.{quiet_counted}

-- A fuse that refuses counts, and does nothing else.
pub refusal_quiet : (view : DiskView) (refused refused' : ℕ) → refused ≤ refused' → IsQuiet (fused_view view refused) (fused_view view refused')
refusal_quiet view refused refused' le =
    quiet_counted (fused_view view refused) (fused_view view refused') refl refl refl (λ image is. is) (λ from image left. left) (λ from image left. left) (omega arith)
