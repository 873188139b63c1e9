-- What holds of each image of a disk in memory.
use Rattle.std.proofs.Common.{◌≡◌, ℕ, ◌≤◌, Some, List, length, sym, ◌∙◌, ap, subst, arith}
use Rattle.std.proofs.lemmas.List.{take_all}
use Rattle.rm_disk.specs.declared.calls.Call.{Call}
use Rattle.rm_disk.specs.Memory.{replayed, IsImage, LeftSince, IsReplayed}

module _ (first bytes synced : List ℕ) (calls : List Call) (settled : ℕ) (kept : IsReplayed first bytes synced calls settled) where
  pub image_size : (image : List ℕ) → IsImage (replayed first calls) image → length image ≡ length first
  image_size image is = is.size ∙ sym (ap length kept.synced_then) ∙ kept.size_synced

  pub now_is_image : (told : List ℕ) → Some bytes ≡ Some told → IsImage (replayed first calls) told
  now_is_image told same = let told_is : bytes ≡ told = cc same in subst (λ (l : List ℕ). IsImage (replayed first calls) l) told_is kept.image

-- This moment is the last of those since an earlier one.
pub now_since : (first : List ℕ) (calls : List Call) (from : ℕ) (image : List ℕ) → from ≤ length calls → IsImage (replayed first calls) image → LeftSince first calls from image
now_since first calls from image le is =
    (length calls, le, omega arith, subst (λ (l : List Call). IsImage (replayed first l) image) (sym (take_all (length calls) calls (omega arith))) is)

-- Since this moment there is no other.
pub since_now : (first : List ℕ) (calls : List Call) (image : List ℕ) → LeftSince first calls (length calls) image → IsImage (replayed first calls) image
since_now first calls image (many, low, high, is) = subst (λ (l : List Call). IsImage (replayed first l) image) (take_all many calls low) is
