-- What stands after an append to the current area.
use Rattle.std.proofs.Common.{◌≡◌, ◌⊎◌, ⊎_elim, inl, inr, ℕ, ◌+◌, ◌-◌, ◌≤◌, ◌/◌, false, not, List, [], ◌∷◌, ◌++◌, Option, None, Some, Result, Ok, Err, sym, ◌∙◌, ap, subst, arith, append_assoc}
use Rattle.std.specs.Prelude.{OnOk, IfErr}
use Rattle.std.proofs.lemmas.Bool.{true≢false}
use Rattle.rm_disk.specs.Disk.{DiskView, EachImage, IfTold, AtEachMoment, AnyIn, MayWrite, SameElsewhere}
use Rattle.rm_disk.proofs.Views.{told_before}
use Rattle.rm_formats.specs.Device.{HasPayloads}
use Rattle.rm_journal.specs.Fault.{IsAppendError, IsRefusal}
use Rattle.rm_journal.specs.Journal.{JournalPlace, JournalInvariant, RegionHas, StaysInRegion, LeavesEither, AppendsPayload, broken_after, region_of}
use Rattle.rm_journal.specs.declared.fault.JournalError.{JournalError}
use Rattle.rm_journal.specs.declared.fault.JournalError.TheVariants.{DiskFault, Damaged, Full, NeedsReopen, Memory}
use Rattle.rm_journal.specs.two_areas.Areas.{AreasAt, AreasInvariant, AreasHold, HasLayout, IsOlder, OtherIs, HoldsPayloads, area_of, area_from, area_end, head_of}
use Rattle.rm_journal.proofs.two_areas.Bytes.{outside, apart_back}
use Rattle.rm_journal.proofs.two_areas.Moments.{moment_of}
use Rattle.rm_journal.proofs.two_areas.Steps.{each_has, layout, from_inside}

both_moments : (P Q : List ℕ → Type 0) (a b : DiskView) → AtEachMoment a b P → AtEachMoment a b Q → AtEachMoment a b (λ image. P image × Q image)
both_moments P Q a b one two = record {
  so_far = record {
    later = one.so_far.later;
    each = λ from image le since. ⊎_elim (λ was. inl was) (λ p. ⊎_elim (λ was. inl was) (λ q. inr (p, q)) (two.so_far.each from image le since)) (one.so_far.each from image le since);
  };
  now = λ image is. (one.now image is, two.now image is);
}

-- a payload is written in the journal of areas that stand on a disk, of which no fault broke any
pub record IsAdding (v0 v1 : DiskView) (a : AreasAt) (payload : List ℕ) : Type 0 where
  pub stands : AreasInvariant v0 a
  pub sound : a.is_broken ≡ false
  pub reads : (bytes : List ℕ) → v0.told ≡ Some bytes → v0.images bytes
  pub live : 1 ≤ a.generation
  pub wrote : MayWrite a.journal.from (a.journal.end - a.journal.from) v0 v1

module _ (v0 v1 : DiskView) (a : AreasAt) (payload : List ℕ) (adding : IsAdding v0 v1 a payload) where
  abbrev first : ℕ
  first = a.journal.from

  abbrev range : ℕ
  range = a.journal.end - a.journal.from

  end_is : first + range ≡ area_end a.half a.second
  end_is = omega (arith, adding.stands.from, adding.stands.end)

  abbrev all_of : List (List ℕ) → List (List ℕ)
  all_of payloads = head_of a.generation ++ payloads

  in_area : (image : List ℕ) (all : List (List ℕ)) → RegionHas a.journal image all → HasPayloads (area_of a.half a.second image) all
  in_area image all has = subst (λ (n : ℕ). HasPayloads (region_of n (area_end a.half a.second) image) all) adding.stands.from (subst (λ (n : ℕ). HasPayloads (region_of a.journal.from n image) all) adding.stands.end has)

  in_region : (image : List ℕ) (all : List (List ℕ)) → HasPayloads (area_of a.half a.second image) all → RegionHas a.journal image all
  in_region image all has = subst (λ (n : ℕ). HasPayloads (region_of a.journal.from n image) all) (sym adding.stands.end) (subst (λ (n : ℕ). HasPayloads (region_of n (area_end a.half a.second) image) all) (sym adding.stands.from) has)

  other_same : (x y : List ℕ) → SameElsewhere first range x y → area_of a.half (not a.second) y ≡ area_of a.half (not a.second) x
  other_same x y same = outside first range (area_from a.half (not a.second)) (area_end a.half (not a.second)) x y (from_inside a.half (not a.second)) same (apart_back a.half a.second first range (omega (arith, adding.stands.from)) (omega (arith, end_is)))

  -- what a crash leaves of the current area, and the other area as it was
  has_more : (before payloads : List (List ℕ)) → EachImage v0 (AreasHold a before) → (image : List ℕ) → AnyIn first range v0 image → RegionHas a.journal image (all_of payloads) → AreasHold a payloads image
  has_more before payloads each image any has =
      let was = each any.0 any.1 in
      record {
        size = was.size ∙ ap (λ (n : ℕ). n / 2) (sym any.2.size);
        high = was.high;
        holds = in_area image (all_of payloads) has;
        none = λ never. absurd (omega (arith, adding.live, never));
        other = subst (λ (l : List ℕ). IsOlder l a.generation) (sym (other_same any.0 image any.2)) was.other;
      }

  pushed : (payloads : List (List ℕ)) (image : List ℕ) → RegionHas a.journal image (all_of payloads ++ payload ∷ []) → RegionHas a.journal image (all_of (payloads ++ payload ∷ []))
  pushed payloads image has = subst (λ (l : List (List ℕ)). RegionHas a.journal image l) (append_assoc (head_of a.generation) payloads (payload ∷ [])) has

  pub appending : LeavesEither v0 v1 a.journal payload → (bytes : List ℕ) (payloads : List (List ℕ)) → v0.told ≡ Some bytes → AreasHold a payloads bytes
      → AtEachMoment v0 v1 (λ image. HasLayout a.half payloads image ⊎ HasLayout a.half (payloads ++ payload ∷ []) image)
  appending leaves bytes payloads told has =
      let each = each_has v0 a adding.stands adding.sound adding.reads bytes payloads told has in
      let any : AtEachMoment v0 v1 (AnyIn first range v0) = record { so_far = adding.wrote.time; now = adding.wrote.images } in
      moment_of (λ image. (RegionHas a.journal image (all_of payloads) ⊎ RegionHas a.journal image (all_of payloads ++ payload ∷ [])) × AnyIn first range v0 image)
      (λ image. HasLayout a.half payloads image ⊎ HasLayout a.half (payloads ++ payload ∷ []) image) v0 v1
      (λ image both. ⊎_elim
      (λ one. inl (layout a payloads image (has_more payloads payloads each image both.1 one)))
      (λ more. inr (layout a (payloads ++ payload ∷ []) image (has_more payloads (payloads ++ payload ∷ []) each image both.1 (pushed payloads image more)))) both.0)
      (both_moments (λ image. RegionHas a.journal image (all_of payloads) ⊎ RegionHas a.journal image (all_of payloads ++ payload ∷ [])) (AnyIn first range v0) v0 v1
      (leaves bytes told (all_of payloads) (in_region bytes (all_of payloads) has.holds)) any)

  -- after Ok
  module _ (adds : AppendsPayload v0 v1 a.journal payload) (reads1 : (bytes : List ℕ) → v1.told ≡ Some bytes → v1.images bytes) where
    appended_images : (bytes : List ℕ) (payloads : List (List ℕ)) → v0.told ≡ Some bytes → AreasHold a payloads bytes → EachImage v1 (AreasHold a (payloads ++ payload ∷ []))
    appended_images bytes payloads told has image is =
        let each = each_has v0 a adding.stands adding.sound adding.reads bytes payloads told has in
        has_more payloads (payloads ++ payload ∷ []) each image (adding.wrote.images image is)
        (pushed payloads image ((adds bytes told (all_of payloads) (in_region bytes (all_of payloads) has.holds)).0 image is))

    pub appended : (bytes : List ℕ) (payloads : List (List ℕ)) → v0.told ≡ Some bytes → AreasHold a payloads bytes → HoldsPayloads v1 a.half (payloads ++ payload ∷ [])
    appended bytes payloads told has = record {
      now = λ now told1. layout a (payloads ++ payload ∷ []) now (appended_images bytes payloads told has now (reads1 now told1));
      images = λ image is. layout a (payloads ++ payload ∷ []) image (appended_images bytes payloads told has image is);
    }

  other_kept : EachImage v1 (λ image. OtherIs a.other_live (area_of a.half (not a.second) image) a.generation)
  other_kept image is = let any = adding.wrote.images image is in subst (λ (l : List ℕ). OtherIs a.other_live l a.generation) (sym (other_same any.0 image any.2)) (adding.stands.other adding.sound any.0 any.1)

  pub append_stands : (r : Result (Unit {0}) JournalError) (j : JournalPlace) → JournalInvariant v1 j → StaysInRegion a.journal j → (broken_after r false ≡ false → j.is_broken ≡ false) → a.build ≡ None
      → ((bytes : List ℕ) → v1.told ≡ Some bytes → v1.images bytes) → OnOk r (AppendsPayload v0 v1 a.journal payload) → IfErr r (λ e. IsRefusal e → ((payloads : List (List ℕ)) → EachImage v0 (AreasHold a payloads) → EachImage v1 (AreasHold a payloads))) → IfErr r IsAppendError
      → AreasInvariant v1 (record a { journal = j; is_broken = broken_after r false })
  append_stands r j on region unbroken none reads1 added refused errors = record {
    half = adding.stands.half ∙ ap (λ (n : ℕ). n / 2) (sym adding.wrote.goes_on.size);
    inside = omega (arith, adding.stands.inside, adding.wrote.goes_on.size);
    from = region.from ∙ adding.stands.from;
    end = region.end ∙ adding.stands.end;
    stands = on;
    unbroken = unbroken;
    has = λ whole bytes told.
        let was = told_before v0 v1 adding.wrote.goes_on bytes told in
        let own = adding.stands.has adding.sound was.0 was.1 in
        by r whole added refused errors was.0 was.1 own.0 own.1;
    other = λ _. other_kept;
    build = λ _ gate is. let never : ◌≡◌ {A = Option ℕ} None (Some gate) = sym none ∙ is in cc;
  }
    where
      by : (r : Result (Unit {0}) JournalError) → broken_after r false ≡ false → OnOk r (AppendsPayload v0 v1 a.journal payload) → IfErr r (λ e. IsRefusal e → ((payloads : List (List ℕ)) → EachImage v0 (AreasHold a payloads) → EachImage v1 (AreasHold a payloads))) → IfErr r IsAppendError
          → (bytes : List ℕ) → v0.told ≡ Some bytes → (payloads : List (List ℕ)) → EachImage v0 (AreasHold a payloads) → (payloads : List (List ℕ)) × EachImage v1 (AreasHold a payloads)
      by (Ok u) whole adds refused errors bytes told payloads each = (payloads ++ payload ∷ [], appended_images adds reads1 bytes payloads told (each bytes (adding.reads bytes told)))
      by (Err DiskFault) whole adds refused errors bytes told payloads each = absurd (true≢false whole)
      by (Err Memory) whole adds refused errors bytes told payloads each = absurd (true≢false whole)
      by (Err (Damaged offset)) whole adds refused errors bytes told payloads each = absurd errors
      by (Err NeedsReopen) whole adds refused errors bytes told payloads each = (payloads, refused tt payloads each)
      by (Err (Full needed room)) whole adds refused errors bytes told payloads each = (payloads, refused tt payloads each)

  pub added_all : ((bytes : List ℕ) → v1.told ≡ Some bytes → v1.images bytes) → (r : Result (Unit {0}) JournalError) → OnOk r (AppendsPayload v0 v1 a.journal payload)
      → OnOk r (IfTold v0 (λ bytes. (payloads : List (List ℕ)) → AreasHold a payloads bytes → HoldsPayloads v1 a.half (payloads ++ payload ∷ [])))
  added_all reads1 (Ok u) adds = λ bytes told payloads has. appended adds reads1 bytes payloads told has
  added_all reads1 (Err e) adds = tt

pub refused_view : (r : Result (Unit {0}) JournalError) (P Q R : Type 0) → (Q → R) → IfErr r (λ e. IsRefusal e → P × Q) → IfErr r (λ e. IsRefusal e → R)
refused_view (Ok u) P Q R view refused = tt
refused_view (Err e) P Q R view refused = λ is. view (refused is).1
