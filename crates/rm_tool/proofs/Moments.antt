-- What a crash leaves of a new disk at each moment of a call.
use Rattle.std.proofs.Common.{◌⊎◌, ℕ, List, [], inl, inr}
use Rattle.rm_types.specs.declared.operations.Op.{Op}
use Rattle.rm_disk.specs.Disk.{DiskView, EachImage, IfTold}
use Rattle.rm_disk.proofs.Views.{leaves_of, leaves_same}
use Rattle.rm_store.specs.Content.{HasContent}
use Rattle.rm_tool.specs.salvage.Writes.{LeavesNoneOrAll}
use Rattle.rm_tool.specs.Runs.{IsStore, KeepsStore}

-- a disk that is left alone
pub store_untouched : (v : DiskView) → KeepsStore v v
store_untouched v = λ bytes told empty. record { so_far = leaves_same v IsStore; now = λ image is. ([], empty image is) }

either_store : (ops : List Op) (image : List ℕ) → HasContent image [] ⊎ HasContent image ops → IsStore image
either_store ops image (inl empty) = ([], empty)
either_store ops image (inr all) = (ops, all)

-- a disk on which these operations are written
pub store_written : (ops : List Op) (v w : DiskView) → IfTold v (λ _. EachImage v (λ image. HasContent image []) → LeavesNoneOrAll v w ops) → KeepsStore v w
store_written ops v w written = λ bytes told empty.
    let moment = written bytes told empty in
    record {
      so_far = leaves_of v w (λ image. HasContent image [] ⊎ HasContent image ops) IsStore (either_store ops) moment.so_far;
      now = λ image is. either_store ops image (moment.now image is);
    }
