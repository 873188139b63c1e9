-- What an append writes has the frames of now alone.
use Rattle.rm_store.proofs.Common.{◌≡◌, ◌⊎◌, ℕ, List, [], ◌∷◌, ◌++◌, map, Some, inl, inr, refl, sym, ◌∙◌, ap, subst, All, Op, IsOperation, frame, DiskView, IfTold, AtEachMoment, AreasAt, AreasHold, HasLayout, one_layout, moment_of, each_has, layout}
use Rattle.std.proofs.lemmas.List.{map-append}
use Rattle.rm_disk.specs.Disk.{IsLaterView}
use Rattle.rm_disk.proofs.Views.{told_before, told_after}
use Rattle.rm_journal.specs.two_areas.Areas.{HoldsPayloads, LeavesEitherLayout}
use Rattle.rm_journal.proofs.two_areas.Moments.{at_once, moment_on}
use Rattle.rm_store.specs.Content.{HasFrames, HoldsFrames, half_of}
use Rattle.rm_store.specs.Kept.{IsKept, TellsFrames, KeepsFrames}
use Rattle.rm_store.proofs.Ops.{framed_push}
use Rattle.rm_store.proofs.Puts.{IsAnew, own_half, left_framed}

-- a layout of frames
frames_in : (half : ℕ) (payloads : List (List ℕ)) (ops : List Op) (image : List ℕ) → payloads ≡ map frame ops → All IsOperation ops → HasLayout half payloads image → HasFrames image ops
frames_in half payloads ops image are can there = record { can = can; layout = subst (λ (l : List (List ℕ)). HasLayout (half_of image) l image) are (own_half half payloads image there) }

frames_push : (payloads : List (List ℕ)) (ops : List Op) (op : Op) → payloads ≡ map frame ops → payloads ++ frame op ∷ [] ≡ map frame (ops ++ op ∷ [])
frames_push payloads ops op are = ap (λ (l : List (List ℕ)). l ++ frame op ∷ []) are ∙ sym (map-append frame ops (op ∷ []))

-- a moment that leaves one or the other of two such lists
either_leaves : (v w : DiskView) (half : ℕ) (one other : List (List ℕ)) (ops more : List Op) → one ≡ map frame ops → other ≡ map frame more → All IsOperation ops → All IsOperation more
    → LeavesEitherLayout v w half one other → AtEachMoment v w HoldsFrames
either_leaves v w half one other ops more are others can could leaves = moment_of (λ image. HasLayout half one image ⊎ HasLayout half other image) HoldsFrames v w each leaves
  where
    each : (image : List ℕ) → HasLayout half one image ⊎ HasLayout half other image → HoldsFrames image
    each image (inl there) = (ops, frames_in half one ops image are can there)
    each image (inr there) = (more, frames_in half other more image others could there)

-- the payloads of a content that stands on frames alone are frames
are_frames : (v : DiskView) (a : AreasAt) (content ops : List Op) (bytes : List ℕ) (payloads : List (List ℕ)) → AreasHold a payloads bytes → HasFrames bytes ops → payloads ≡ map frame ops
are_frames v a content ops bytes payloads has frames = one_layout (half_of bytes) payloads (map frame ops) bytes (own_half a.half payloads bytes (layout a payloads bytes has)) frames.layout

-- without a call
pub still_frames : (v : DiskView) (a : AreasAt) (content : List Op) → IsKept v a content → ((bytes : List ℕ) → v.told ≡ Some bytes → v.images bytes) → KeepsFrames v v
still_frames v a content kept reads bytes told frames =
    let on = kept.has bytes told in
    let are = are_frames v a content frames.0 bytes on.0 on.1 frames.1 in
    moment_of (AreasHold a on.0) HoldsFrames v v (λ image has. (frames.0, frames_in a.half on.0 frames.0 image are frames.1.can (layout a on.0 image has)))
    (at_once (AreasHold a on.0) v (each_has v a kept.stands kept.unbroken reads bytes on.0 told on.1))

-- one more is put
pub put_frames : (v w : DiskView) (a : AreasAt) (content : List Op) (op : Op) → IsKept v a content → IsOperation op
    → IfTold v (λ bytes. (payloads : List (List ℕ)) → AreasHold a payloads bytes → LeavesEitherLayout v w a.half payloads (payloads ++ frame op ∷ [])) → KeepsFrames v w
put_frames v w a content op kept can put bytes told frames =
    let on = kept.has bytes told in
    let are = are_frames v a content frames.0 bytes on.0 on.1 frames.1 in
    either_leaves v w a.half on.0 (on.0 ++ frame op ∷ []) frames.0 (frames.0 ++ op ∷ []) are (frames_push on.0 frames.0 op are) frames.1.can (framed_push frames.0 op frames.1.can can) (put bytes told on.0 on.1)

-- an area changes
pub changed_frames : {a : AreasAt} {content : List Op} (v w : DiskView) (left : List Op) → IsKept v a content → All IsOperation left
    → IfTold v (λ bytes. (payloads : List (List ℕ)) → AreasHold a payloads bytes → LeavesEitherLayout v w a.half payloads (map frame left)) → KeepsFrames v w
changed_frames {a} {content} v w left kept can change bytes told frames =
    let on = kept.has bytes told in
    let are = are_frames v a content frames.0 bytes on.0 on.1 frames.1 in
    either_leaves v w a.half on.0 (map frame left) frames.0 left are refl frames.1.can can (change bytes told on.0 on.1)

-- and one more is put there
module _ {v0 v1 : DiskView} {a a1 : AreasAt} {content left : List Op} {op : Op} (anew : IsAnew v0 v1 a a1 content left op) where
  pub both_frames : (v2 : DiskView) → IfTold v0 (λ bytes. (payloads : List (List ℕ)) → AreasHold a payloads bytes → LeavesEitherLayout v0 v1 a.half payloads (map frame left))
      → IfTold v1 (λ bytes. (payloads : List (List ℕ)) → AreasHold a1 payloads bytes → LeavesEitherLayout v1 v2 a1.half payloads (payloads ++ frame op ∷ [])) → KeepsFrames v0 v2
  both_frames v2 change put bytes told frames =
      let b = told_after v0 v1 anew.goes_on bytes told in
      let can = left_framed anew in
      let first = changed_frames v0 v1 left anew.kept can change bytes told frames in
      let second = either_leaves v1 v2 a1.half (map frame left) (map frame left ++ frame op ∷ []) left (left ++ op ∷ []) refl (frames_push (map frame left) left op refl) can (framed_push left op can anew.can) (put b.0 b.1 (map frame left) (anew.now b.0 b.1)) in
      moment_on HoldsFrames v0 v1 v2 first second

  pub both_tell : {v2 : DiskView} {more : List Op} → more ≡ left ++ op ∷ [] → IsLaterView v1 v2
      → IfTold v1 (λ bytes. (payloads : List (List ℕ)) → AreasHold a1 payloads bytes → HoldsPayloads v2 a1.half (payloads ++ frame op ∷ [])) → TellsFrames v2 more
  both_tell {v2} {more} is goes put bytes told =
      let was = told_before v1 v2 goes bytes told in
      let holds = put was.0 was.1 (map frame left) (anew.now was.0 was.1) in
      let are : map frame left ++ frame op ∷ [] ≡ map frame more = frames_push (map frame left) left op refl ∙ ap (λ (l : List Op). map frame l) (sym is) in
      let can : All IsOperation more = subst (λ (l : List Op). All IsOperation l) (sym is) (framed_push left op (left_framed anew) anew.can) in (
        frames_in a1.half (map frame left ++ frame op ∷ []) more bytes are can (holds.now bytes told),
        λ image now. frames_in a1.half (map frame left ++ frame op ∷ []) more image are can (holds.images image now),
      )
