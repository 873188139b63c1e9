-- What stands on a disk on which a store is written anew.
use Rattle.std.proofs.Common.{◌≡◌, ◌⊎◌, inl, inr, ℕ, suc, ◌+◌, ◌≤◌, ◌<◌, ◌/◌, None, List, [], ◌∷◌, ◌++◌, length, map, sum, refl, ◌∙◌, subst, arith, length-append}
use Rattle.std.specs.Prelude.{All}
use Rattle.std.specs.Int.{w64, to_be_bytes}
use Rattle.std.proofs.lemmas.List.Sums.{sum_by-cons, sum-map}
use Rattle.rm_types.specs.declared.operations.Op.{Op}
use Rattle.rm_types.specs.Ranges.{IsOperation}
use Rattle.rm_types.specs.Records.{stray}
use Rattle.rm_formats.specs.Frames.{frame}
use Rattle.rm_formats.specs.Device.{journal_record, journal_records}
use Rattle.rm_disk.specs.Disk.{DiskView, EachImage, IfTold, IsQuiet}
use Rattle.rm_disk.proofs.Views.{leaves_of, leaves_trans}
use Rattle.rm_journal.proofs.Payloads.{length-journal_record}
use Rattle.rm_journal.specs.two_areas.Areas.{AreasAt, AreasHold, HasCurrent, HasLayout, LeavesEitherLayout, head_of}
use Rattle.rm_journal.proofs.two_areas.Steps.{layout}
use Rattle.rm_store.specs.Content.{HasContent, HasFrames}
use Rattle.rm_store.proofs.Framed.{reads_frames}
use Rattle.rm_store.proofs.Puts.{own_half}
use Rattle.rm_store.proofs.SoFar.{content_of}
use Rattle.rm_tool.specs.salvage.Writes.{HasLiveArea, HoldsAll, LeavesNoneOrAll, bytes_before}

-- how long the records of operations are
records_long : (ops : List Op) → length (journal_records (map frame ops)) ≡ sum (map (λ op. length (frame op) + 5) ops)
records_long [] = refl
records_long (op ∷ ops) =
    let a = length-append (journal_record (frame op)) (journal_records (map frame ops)) in
    let b = length-journal_record (frame op) in
    let h = records_long ops in
    let c = sum_by-cons (λ (one : Op). length (frame one) + 5) op ops in
    let d = sum-map (λ (one : Op). length (frame one) + 5) (op ∷ ops) in
    let e = sum-map (λ (one : Op). length (frame one) + 5) ops in
    omega (arith, a, b, c, d, e, h)

-- and with a generation's before them
pub area_long : (ops : List Op) (n : ℕ) → length (journal_records (head_of (suc n) ++ map frame ops)) ≡ bytes_before ops
area_long ops n =
    let h = records_long ops in
    let a = length-append (journal_record (to_be_bytes w64 (suc n))) (journal_records (map frame ops)) in
    let b = length-journal_record (to_be_bytes w64 (suc n)) in
    let c : length (to_be_bytes w64 (suc n)) ≡ 8 = refl in
    omega (arith, h, a, b, c)

content_in : (half : ℕ) (ops : List Op) (image : List ℕ) → All IsOperation ops → stray ops ≡ None → HasLayout half (map frame ops) image → HasContent image ops
content_in half ops image framed none has = record { payloads = map frame ops; layout = own_half half (map frame ops) image has; reads = reads_frames ops framed; none_stray = none }

none_in : (half : ℕ) (image : List ℕ) → HasLayout half [] image → HasContent image []
none_in half image has = record { payloads = []; layout = own_half half [] image has; reads = tt; none_stray = refl }

-- calls that change no byte leave a store without operations as it is
pub quiet_none : (old new : DiskView) (ops : List Op) → IsQuiet old new → EachImage old (λ image. HasContent image []) → LeavesNoneOrAll old new ops
quiet_none old new ops quiet none = record {
  so_far = leaves_of old new old.images (λ image. HasContent image [] ⊎ HasContent image ops) (λ image is. inl (none image is)) quiet.time;
  now = λ image is. inl (none image (quiet.images image is));
}

-- areas of which none is live have no payloads
no_payloads : (a : AreasAt) (payloads : List (List ℕ)) (bytes : List ℕ) → a.generation ≡ 0 → AreasHold a payloads bytes → payloads ≡ []
no_payloads a payloads bytes zero has = (has.none zero).1

-- a build behind that leaves none or all
pub built_leaves : (old between new : DiskView) (a : AreasAt) (ops : List Op) (bytes : List ℕ) (payloads : List (List ℕ)) → All IsOperation ops → stray ops ≡ None → IsQuiet old between → EachImage old (λ image. HasContent image [])
    → a.generation ≡ 0 → AreasHold a payloads bytes → LeavesEitherLayout between new a.half payloads (map frame ops) → LeavesNoneOrAll old new ops
built_leaves old between new a ops bytes payloads framed none quiet empty zero has leaves =
    let is = no_payloads a payloads bytes zero has in
    let P : List ℕ → Type 0 = λ image. HasContent image [] ⊎ HasContent image ops in
    let each : (image : List ℕ) → HasLayout a.half payloads image ⊎ HasLayout a.half (map frame ops) image → P image =
    λ image either. elim either [
      | inl l ↦ inl (none_in a.half image (subst (λ (p : List (List ℕ)). HasLayout a.half p image) is l))
      | inr l ↦ inr (content_in a.half ops image framed none l)
    ] in
    let first = quiet_none old between ops quiet empty in
    record {
      so_far = leaves_trans old between new P first.so_far (leaves_of between new (λ image. HasLayout a.half payloads image ⊎ HasLayout a.half (map frame ops) image) P each leaves.so_far);
      now = λ image image_is. each image (leaves.now image image_is);
    }

frames_in : (a : AreasAt) (ops : List Op) (image : List ℕ) → All IsOperation ops → AreasHold a (map frame ops) image → HasFrames image ops
frames_in a ops image framed has = record { can = framed; layout = own_half a.half (map frame ops) image (layout a (map frame ops) image has) }

pub holds_all : (v : DiskView) (a : AreasAt) (ops : List Op) → All IsOperation ops → stray ops ≡ None → IfTold v (AreasHold a (map frame ops)) × EachImage v (AreasHold a (map frame ops)) → HoldsAll v ops
holds_all v a ops framed none has = record {
  now = λ bytes told. content_of a (map frame ops) ops bytes (has.0 bytes told) (reads_frames ops framed) none;
  images = λ image is. content_of a (map frame ops) ops image (has.1 image is) (reads_frames ops framed) none;
  frames = λ bytes told. frames_in a ops bytes framed (has.0 bytes told);
  image_frames = λ image is. frames_in a ops image framed (has.1 image is);
}

pub live_area : (a : AreasAt) (payloads : List (List ℕ)) (bytes : List ℕ) → 1 ≤ a.generation → AreasHold a payloads bytes → HasLiveArea bytes
live_area a payloads bytes live has = record {
  second = a.second;
  generation = a.generation;
  live = live;
  payloads = payloads;
  current = subst (λ (n : ℕ). HasCurrent n a.second a.generation payloads bytes) has.size has;
}
