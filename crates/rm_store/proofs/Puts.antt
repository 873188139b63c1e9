-- What an append leaves.
use Rattle.rm_store.proofs.Common.{◌≡◌, ◌⊎◌, ℕ, suc, ◌+◌, ◌-◌, ◌<◌, ◌≤◌, ◌/◌, true, false, List, [], ◌∷◌, ◌++◌, map, sum, take, slice_get, length, None, Some, Ok, Err, Result, inl, inr, refl, sym, ◌∙◌, ap, subst, arith, All, OnOk, Op, frame, DiskView, IfTold, AtEachMoment, length-append, IsOperation, records, fits_records, stray, journal_record, journal_records, folded, told_after, AreasAt, AreasInvariant, AreasHold, HasLayout, head_of, one_layout, moment_of, each_has, layout}
use Rattle.rm_disk.specs.Disk.{IsLaterView}
use Rattle.std.proofs.lemmas.List.{take_at}
use Rattle.std.proofs.lemmas.List.Sums.{sum_by-append, sum_by-cons, sum-map}
use Rattle.std.specs.List.{sum_by}
use Rattle.rm_store.proofs.Changes.{take_got}
use Rattle.std.specs.Int.{w64, to_be_bytes}
use Rattle.rm_journal.proofs.Payloads.{length-journal_record}
use Rattle.rm_store.specs.Content.{ReadsAs, DeviceHolds, half_of, room_for}
use Rattle.rm_store.proofs.Framed.{framed_now, reads_frames, reads_more, reads_one}
use Rattle.rm_store.proofs.Contents.{unchanged, added, refolded, framed_left, folded_twice}
use Rattle.rm_store.proofs.compaction.Folded.{folded_none_stray}
use Rattle.rm_disk.proofs.Views.{told_before}
use Rattle.rm_journal.specs.two_areas.Areas.{HoldsPayloads, LeavesEitherLayout}
use Rattle.rm_journal.proofs.two_areas.Moments.{at_once, moment_on}
use Rattle.rm_store.specs.Kept.{IsKept, HasOps, LeavesOps, AddsOp}
use Rattle.rm_store.proofs.Ops.{framed_push}

-- a layout of this half is one of its bytes' own
pub own_half : (half : ℕ) (payloads : List (List ℕ)) (image : List ℕ) → HasLayout half payloads image → HasLayout (half_of image) payloads image
own_half half payloads image l = subst (λ (n : ℕ). HasLayout n payloads image) l.current.size l

pub ok_of : {X E : Type 0} {P Q : Type 0} (r : Result X E) → (P → Q) → OnOk r P → OnOk r Q
ok_of (Ok x) f p = f p
ok_of (Err e) f p = tt

-- the room behind an area's records
records_long : (ops : List Op) → length (journal_records (map frame ops)) ≡ sum (map (λ op. length (frame op) + 5) ops)
records_long [] = refl
records_long (op ∷ ops) =
    let a = length-append (journal_record (frame op)) (journal_records (map frame ops)) in
    let b = length-journal_record (frame op) in
    let h = records_long ops in
    let c = sum_by-cons (λ (one : Op). length (frame one) + 5) op ops in
    let d = sum-map (λ (one : Op). length (frame one) + 5) (op ∷ ops) in
    let e = sum-map (λ (one : Op). length (frame one) + 5) ops in
    omega (arith, a, b, c, d, e, h)

head_long : (n : ℕ) (ops : List Op) → length (journal_records (head_of (suc n) ++ map frame ops)) ≡ 13 + length (journal_records (map frame ops))
head_long n ops =
    let a = length-append (journal_record (to_be_bytes w64 (suc n))) (journal_records (map frame ops)) in
    let b = length-journal_record (to_be_bytes w64 (suc n)) in
    let c : length (to_be_bytes w64 (suc n)) ≡ 8 = refl in
    omega (arith, a, b, c)

room_is : (half : ℕ) (left content : List Op) → left ≡ folded content → room_for half content ≡ half - 13 - sum (map (λ op. length (frame op) + 5) left)
room_is half left content is = ap (λ (l : List Op). half - 13 - sum (map (λ op. length (frame op) + 5) l)) (sym is)

pub room_enough : {left : List Op} (half n needed : ℕ) (content : List Op) → left ≡ folded content → needed + 6 ≤ room_for half content → length (journal_records (head_of (suc n) ++ map frame left)) < half
room_enough {left} half n needed content is fits = let a = records_long left in let b = head_long n left in let c = room_is half left content is in omega (arith, a, b, c, fits)

pub room_after : {left : List Op} (half n needed : ℕ) (content : List Op) → left ≡ folded content → needed + 6 ≤ room_for half content → needed + 6 ≤ half - length (journal_records (head_of (suc n) ++ map frame left))
room_after {left} half n needed content is fits = let a = records_long left in let b = head_long n left in let c = room_is half left content is in omega (arith, a, b, c, fits)

pub both_ok : {X E : Type 0} {P Q R : Type 0} (r : Result X E) → (P → Q → R) → OnOk r P → OnOk r Q → OnOk r R
both_ok (Ok x) f p q = f p q
both_ok (Err e) f p q = tt

-- WHAT EACH MOMENT HOLDS

module _ (payloads : List (List ℕ)) (content ops : List Op) (op : Op) (reads : ReadsAs payloads content) (none : stray content ≡ None) (same : folded content ≡ folded ops) (fits : fits_records (records ops) op ≡ true) (can : IsOperation op) where
  was_holds : (half : ℕ) (image : List ℕ) → HasLayout half payloads image → DeviceHolds image ops
  was_holds half image there = unchanged image payloads content ops reads none same (own_half half payloads image there)

  folded_holds : (half : ℕ) (image : List ℕ) → HasLayout half (map frame (folded content)) image → DeviceHolds image ops
  folded_holds half image there = refolded image payloads content ops reads none same (own_half half (map frame (folded content)) image there)

  -- an area changes
  pub refold_leaves : (v0 v1 : DiskView) (half : ℕ) (left : List Op) → left ≡ folded content
      → AtEachMoment v0 v1 (λ image. HasLayout half payloads image ⊎ HasLayout half (map frame left) image) → AtEachMoment v0 v1 (λ image. DeviceHolds image ops)
  refold_leaves v0 v1 half left is at = moment_of (λ image. HasLayout half payloads image ⊎ HasLayout half (map frame left) image) (λ image. DeviceHolds image ops) v0 v1 either at
    where
      either : (image : List ℕ) → HasLayout half payloads image ⊎ HasLayout half (map frame left) image → DeviceHolds image ops
      either image (inl a) = was_holds half image a
      either image (inr b) = folded_holds half image (subst (λ (x : List Op). HasLayout half (map frame x) image) is b)

  -- one more is put
  added_holds : (half : ℕ) (image : List ℕ) → HasLayout half (payloads ++ frame op ∷ []) image → DeviceHolds image (ops ++ op ∷ [])
  added_holds half image there = added image payloads content ops op reads none same can fits (own_half half (payloads ++ frame op ∷ []) image there)

  pub put_leaves : (v0 v1 : DiskView) (half : ℕ) → LeavesEitherLayout v0 v1 half payloads (payloads ++ frame op ∷ []) → LeavesOps v0 v1 ops op
  put_leaves v0 v1 half at = moment_of (λ image. HasLayout half payloads image ⊎ HasLayout half (payloads ++ frame op ∷ []) image) (λ image. DeviceHolds image ops ⊎ DeviceHolds image (ops ++ op ∷ [])) v0 v1 either at
    where
      either : (image : List ℕ) → HasLayout half payloads image ⊎ HasLayout half (payloads ++ frame op ∷ []) image → DeviceHolds image ops ⊎ DeviceHolds image (ops ++ op ∷ [])
      either image (inl a) = inl (was_holds half image a)
      either image (inr b) = inr (added_holds half image b)

  pub put_adds : (v0 v1 : DiskView) (bytes : List ℕ) → v0.told ≡ Some bytes → IsLaterView v0 v1 → (half : ℕ) → HoldsPayloads v1 half (payloads ++ frame op ∷ []) → AddsOp v1 ops op
  put_adds v0 v1 bytes told goes half k =
      let now = told_after v0 v1 goes bytes told in
      record { now = record { bytes = now.0; told = now.1; holds = added_holds half now.0 (k.now now.0 now.1) }; images = λ image is. added_holds half image (k.images image is) }

-- THE CONTENT

-- what is known where a content stands on a disk that holds operations: its payloads, that none is stray, and that the same is left of both
pub record IsThere (v : DiskView) (a : AreasAt) (content ops : List Op) : Type 0 where
  pub bytes : List ℕ
  pub told : v.told ≡ Some bytes
  pub payloads : List (List ℕ)
  pub has : AreasHold a payloads bytes
  pub reads : ReadsAs payloads content
  pub none : stray content ≡ None
  pub same : folded content ≡ folded ops

pub there_is : (v : DiskView) (a : AreasAt) (content ops : List Op) → IsKept v a content → HasOps v ops → IsThere v a content ops
there_is v a content ops kept has =
    let on = kept.has has.bytes has.told in
    let h = has.holds.has in
    let layouts : on.0 ≡ h.payloads = one_layout (half_of has.bytes) on.0 h.payloads has.bytes (own_half a.half on.0 has.bytes (layout a on.0 has.bytes on.1)) h.layout in
    let one : content ≡ has.holds.content = reads_one h.payloads content has.holds.content (subst (λ (l : List (List ℕ)). ReadsAs l content) layouts on.2) h.reads in
    record { bytes = has.bytes; told = has.told; payloads = on.0; has = on.1; reads = on.2; none = ap stray one ∙ h.none_stray; same = ap folded one ∙ has.holds.same }

-- with no call at all
pub ops_same : (v : DiskView) (a : AreasAt) (content : List Op) → IsKept v a content → ((bytes : List ℕ) → v.told ≡ Some bytes → v.images bytes) → (op : Op) → IsOperation op
    → (ops : List Op) → HasOps v ops → fits_records (records ops) op ≡ true → LeavesOps v v ops op
ops_same v a content kept reads op can ops has fits =
    let t = there_is v a content ops kept has in
    moment_of (AreasHold a t.payloads) (λ image. DeviceHolds image ops ⊎ DeviceHolds image (ops ++ op ∷ [])) v v (λ image h. inl (unchanged image t.payloads content ops t.reads t.none t.same (own_half a.half t.payloads image (layout a t.payloads image h))))
    (at_once (AreasHold a t.payloads) v (each_has v a kept.stands kept.unbroken reads t.bytes t.payloads t.told t.has))

-- before any call
pub put_same : (v : DiskView) (a : AreasAt) → AreasInvariant v a → a.is_broken ≡ false → ((bytes : List ℕ) → v.told ≡ Some bytes → v.images bytes) → (more : List ℕ)
    → IfTold v (λ bytes. (payloads : List (List ℕ)) → AreasHold a payloads bytes → LeavesEitherLayout v v a.half payloads (payloads ++ more ∷ []))
put_same v a stands sound reads more bytes told payloads has =
    moment_of (AreasHold a payloads) (λ image. HasLayout a.half payloads image ⊎ HasLayout a.half (payloads ++ more ∷ []) image) v v (λ image h. inl (layout a payloads image h))
    (at_once (AreasHold a payloads) v (each_has v a stands sound reads bytes payloads told has))

-- areas on which payloads stand have them
pub now_has : (v : DiskView) (a : AreasAt) (half : ℕ) (payloads : List (List ℕ)) → AreasInvariant v a → a.is_broken ≡ false → half ≡ a.half → ((bytes : List ℕ) → v.told ≡ Some bytes → v.images bytes) → HoldsPayloads v half payloads → IfTold v (AreasHold a payloads)
now_has v a half payloads stands sound same reads keeps bytes told =
    let own = stands.has sound bytes told in
    let here = own.1 bytes (reads bytes told) in
    let one : own.0 ≡ payloads = one_layout a.half own.0 payloads bytes (layout a own.0 bytes here) (subst (λ (n : ℕ). HasLayout n payloads bytes) same (keeps.now bytes told)) in
    subst (λ (l : List (List ℕ)). AreasHold a l bytes) one here

-- two areas of a disk that goes on have the size that they had
pub same_half : (v w : DiskView) (a b : AreasAt) → AreasInvariant v a → AreasInvariant w b → IsLaterView v w → a.half ≡ b.half
same_half v w a b one two goes = one.half ∙ ap (λ (n : ℕ). n / 2) (sym goes.size) ∙ sym two.half

-- a content stands on, with one more operation
pub kept_more : (v w : DiskView) (a b : AreasAt) (content more : List Op) (op : Op) → IsOperation op → All IsOperation content → AreasInvariant w b → b.is_broken ≡ false → b.build ≡ None → more ≡ content ++ op ∷ [] → IsLaterView v w
    → IfTold v (λ bytes. (payloads : List (List ℕ)) × AreasHold a payloads bytes × ReadsAs payloads content)
    → IfTold v (λ bytes. (payloads : List (List ℕ)) → AreasHold a payloads bytes → IfTold w (AreasHold b (payloads ++ frame op ∷ []))) → IsKept w b more
kept_more v w a b content more op can framed stands sound no_build is goes had put = record {
  stands = stands;
  unbroken = sound;
  no_build = no_build;
  framed = subst (λ (l : List Op). All IsOperation l) (sym is) (framed_push content op framed can);
  has = λ bytes told.
      let was = told_before v w goes bytes told in
      let h = had was.0 was.1 in (
        h.0 ++ frame op ∷ [],
        put was.0 was.1 h.0 h.1 bytes told,
        subst (λ (l : List Op). ReadsAs (h.0 ++ frame op ∷ []) l) (sym is) (reads_more h.0 content (frame op) op h.2 (framed_now op can)),
      );
}

-- an area changes, or doesn't
pub refold_only : {v0 : DiskView} {a : AreasAt} {content left : List Op} (v1 : DiskView) (op : Op) → IsOperation op → IsKept v0 a content → left ≡ folded content → (ops : List Op) → HasOps v0 ops → fits_records (records ops) op ≡ true
    → IfTold v0 (λ bytes. (payloads : List (List ℕ)) → AreasHold a payloads bytes → LeavesEitherLayout v0 v1 a.half payloads (map frame left)) → LeavesOps v0 v1 ops op
refold_only {v0} {a} {content} {left} v1 op can kept is ops has fits at =
    let t = there_is v0 a content ops kept has in
    moment_of (λ image. DeviceHolds image ops) (λ image. DeviceHolds image ops ⊎ DeviceHolds image (ops ++ op ∷ [])) v0 v1 (λ image h. inl h)
    (refold_leaves t.payloads content ops op t.reads t.none t.same fits can v0 v1 a.half left is (at t.bytes t.told t.payloads t.has))

-- AN AREA CHANGES, AND ONE MORE IS PUT

-- what is left of a content was written to the other area anew, and an operation is to be put behind it
pub record IsAnew (v0 v1 : DiskView) (a a1 : AreasAt) (content left : List Op) (op : Op) : Type 0 where
  pub can : IsOperation op
  pub kept : IsKept v0 a content
  pub is : left ≡ folded content
  pub goes_on : IsLaterView v0 v1
  pub half : a1.half ≡ a.half
  pub now : IfTold v1 (AreasHold a1 (map frame left))

module _ {v0 v1 : DiskView} {a a1 : AreasAt} {content left : List Op} {op : Op} (anew : IsAnew v0 v1 a a1 content left op) where
  pub left_framed : All IsOperation left
  left_framed = subst (λ (l : List Op). All IsOperation l) (sym anew.is) (framed_left content anew.kept.framed)

  module _ (ops : List Op) (has : HasOps v0 ops) (fits : fits_records (records ops) op ≡ true) where
    there : IsThere v0 a content ops
    there = there_is v0 a content ops anew.kept has

    left_same : folded left ≡ folded ops
    left_same = ap folded anew.is ∙ folded_twice content ∙ there.same

    left_none : stray left ≡ None
    left_none = ap stray anew.is ∙ folded_none_stray content there.none

    pub both_leave : (v2 : DiskView) → IfTold v0 (λ bytes. (payloads : List (List ℕ)) → AreasHold a payloads bytes → LeavesEitherLayout v0 v1 a.half payloads (map frame left))
        → IfTold v1 (λ bytes. (payloads : List (List ℕ)) → AreasHold a1 payloads bytes → LeavesEitherLayout v1 v2 a1.half payloads (payloads ++ frame op ∷ [])) → LeavesOps v0 v2 ops op
    both_leave v2 at second =
        let t = there in
        let b = told_after v0 v1 anew.goes_on t.bytes t.told in
        moment_on (λ image. DeviceHolds image ops ⊎ DeviceHolds image (ops ++ op ∷ [])) v0 v1 v2 (refold_only v1 op anew.can anew.kept anew.is ops has fits at)
        (put_leaves (map frame left) left ops op (reads_frames left left_framed) left_none left_same fits anew.can v1 v2 a1.half (second b.0 b.1 (map frame left) (anew.now b.0 b.1)))

    pub both_add : {v2 : DiskView} → IsLaterView v1 v2 → IfTold v1 (λ bytes. (payloads : List (List ℕ)) → AreasHold a1 payloads bytes → HoldsPayloads v2 a1.half (payloads ++ frame op ∷ [])) → AddsOp v2 ops op
    both_add {v2} goes put =
        let t = there in
        let b = told_after v0 v1 anew.goes_on t.bytes t.told in
        put_adds (map frame left) left ops op (reads_frames left left_framed) left_none left_same fits anew.can v1 v2 b.0 b.1 goes a1.half (put b.0 b.1 (map frame left) (anew.now b.0 b.1))

  now_reads : IfTold v1 (λ bytes. (payloads : List (List ℕ)) × AreasHold a1 payloads bytes × ReadsAs payloads left)
  now_reads bytes told = (map frame left, anew.now bytes told, reads_frames left left_framed)

  -- what is left is kept with the operation
  pub both_kept : {v2 : DiskView} {b : AreasAt} {more : List Op} → AreasInvariant v2 b → b.is_broken ≡ false → b.build ≡ None → more ≡ left ++ op ∷ [] → IsLaterView v1 v2
      → IfTold v1 (λ bytes. (payloads : List (List ℕ)) → AreasHold a1 payloads bytes → IfTold v2 (AreasHold b (payloads ++ frame op ∷ []))) → IsKept v2 b more
  both_kept {v2} {b} {more} stands sound no_build is goes put = kept_more v1 v2 a1 b left more op anew.can left_framed stands sound no_build is goes now_reads put

-- what stands in front of the operation that was pushed is what was left of the content
pub left_in_front : {left grown : List Op} {many : ℕ} (content : List Op) (op : Op) → grown ≡ left ++ op ∷ [] → many ≡ length left → left ≡ folded content → take many grown ≡ folded content
left_in_front {left} {grown} {many} content op is counted folds = ap (λ (l : List Op). take many l) is ∙ take_at left (op ∷ []) many (sym counted) ∙ folds

pub sums_got : (f : Op → ℕ) (ops : List Op) (place : ℕ) (x : Op) → slice_get ops place ≡ Some x → sum (map f (take (place + 1) ops)) ≡ sum (map f (take place ops)) + f x
sums_got f ops place x is =
    let a = sum-map f (take (place + 1) ops) in
    let b = sum-map f (take place ops) in
    let c : sum_by f (take (place + 1) ops) ≡ sum_by f (take place ops ++ x ∷ []) = ap (λ (l : List Op). sum_by f l) (take_got ops place x is) in
    let d = sum_by-append f (take place ops) (x ∷ []) in
    let e = sum_by-cons f x [] in
    omega (arith, a, b, c, d, e)
