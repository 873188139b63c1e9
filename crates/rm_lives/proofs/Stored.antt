-- What the store of a run holds, one operation after the other.
use Rattle.rm_lives.proofs.Common.{◌⊎◌, ℕ, List, [], ◌∷◌, ◌++◌, Bool, true, false, None, Some, Option, refl, sym, ◌∙◌, ap, subst, inl, inr, ⊎_elim, append_assoc, fold_push, Entry, Blown, Op, records, DiskView, leaves_same, leaves_trans, leaves_of, DeviceHolds, Manager, LifeState, opening_state, after, after_where, state_after, Seen, HasBlown, DeskView}
use Rattle.std.proofs.Common.{◌≡◌, slice_get}
use Rattle.rm_types.specs.declared.entries.Entry.TheVariants.{Kept as KeptEntry}
use Rattle.rm_types.specs.declared.operations.Op.TheVariants as ops
use Rattle.rm_types.specs.Records.{fits_records}
use Rattle.rm_disk.specs.Disk.{IsLaterView}
use Rattle.rm_disk.proofs.Views.{told_after}
use Rattle.rm_model.specs.Changes.{life_keeps}
use Rattle.rm_lives.specs.Survives.{HoldsKept, HoldsWithin}
use Rattle.rm_store.specs.Kept.{HasOps, AddsOp, LeavesOps}
use Rattle.rm_core.specs.Seen.{IsToBeKept}
use Rattle.rm_lives.specs.Keeping.{HoldsBy, HoldsIn, IsKeptOn, KeepsOn, IsUnkept, StoresOn, has_blown}

-- what a part of a log left is left of it all
pub within_longer : (opening : List Op) (log longer more : List Entry) → longer ≡ log ++ more → (image : List ℕ) → HoldsWithin opening log image → HoldsWithin opening longer image
within_longer opening log longer more grows image h =
    record {
      before = h.before;
      later = h.later ++ more;
      whole = grows ∙ ap (λ (l : List Entry). l ++ more) h.whole ∙ append_assoc h.before h.later more;
      holds = h.holds;
    }

-- WHAT THE BYTES HOLD

-- in a state that isn't blown they hold just what is kept
pub holds_just : (s : Manager) (image : List ℕ) → has_blown s ≡ false → HoldsIn s image → DeviceHolds image s.kept
holds_just s image unblown h = subst (λ (b : Bool). HoldsBy b s image) unblown h

pub just_holds : (s : Manager) (image : List ℕ) → has_blown s ≡ false → DeviceHolds image s.kept → HoldsIn s image
just_holds s image unblown h = subst (λ (b : Bool). HoldsBy b s image) (sym unblown) h

-- in one that is they may also hold the first operation that awaits
pub kept_holds : (s : Manager) (image : List ℕ) → has_blown s ≡ true → HoldsKept s image → HoldsIn s image
kept_holds s image blown h = subst (λ (b : Bool). HoldsBy b s image) (sym blown) h

-- in either they do so at most
pub holds_kept : (s : Manager) (image : List ℕ) → HoldsIn s image → HoldsKept s image
holds_kept s image h = by (has_blown s) h
  where
    by : (b : Bool) → HoldsBy b s image → HoldsKept s image
    by true holds = holds
    by false holds = inl holds

-- they hold what they may still, where as much is kept and the same operation awaits first
pub holds_on : (s next : Manager) → has_blown next ≡ has_blown s → next.kept ≡ s.kept → ((op : Op) → slice_get s.awaiting 0 ≡ Some op → slice_get next.awaiting 0 ≡ Some op) → (image : List ℕ) → HoldsIn s image → HoldsIn next image
holds_on s next same kept first image h = subst (λ (b : Bool). HoldsBy b next image) (sym same) (by (has_blown s) h)
  where
    by : (b : Bool) → HoldsBy b s image → HoldsBy b next image
    by false holds = rw kept holds
    by true (inl holds) = inl (rw kept holds)
    by true (inr (op, at, holds)) = inr (op, first op at, rw kept holds)

-- a store that nothing was written to
pub unkept_stores : (opening : List Op) (old new : DeskView) → IsUnkept old new → (view : DiskView) → StoresOn opening old new view view
unkept_stores opening old new same view = λ k has.
    record {
      kept = record {
        bytes = has.bytes;
        told = has.told;
        holds = same.kept opening k has.bytes has.holds;
        images = λ image is. same.kept opening k image (has.images image is);
      };
      time = leaves_same view (HoldsWithin opening new.core.log);
      more = same.more;
      grows = same.grows;
    }

-- one part after the other
pub keeps_trans : (opening : List Op) (first second third : List Entry) (a b c : DiskView) → KeepsOn opening first second a b → KeepsOn opening second third b c → KeepsOn opening first third a c
keeps_trans opening first second third a b c ab bc =
    record {
      kept = bc.kept;
      time = leaves_trans a b c (HoldsWithin opening third)
          (leaves_of a b (HoldsWithin opening second) (HoldsWithin opening third) (within_longer opening second third bc.more bc.grows) ab.time) bc.time;
      more = ab.more ++ bc.more;
      grows = bc.grows ∙ ap (λ (l : List Entry). l ++ bc.more) ab.grows ∙ append_assoc first ab.more bc.more;
    }

-- AN OPERATION IS KEPT, OR REFUSED

-- what is kept leaves a life blown or not, as it was
keeps_blown : (life : LifeState) (op : Op) → (life_keeps life op).blown ≡ life.blown
keeps_blown life (ops.Epoch next stamp) = refl
keeps_blown life (ops.App id submission) = refl
keeps_blown life (ops.Attempt id master node) = refl
keeps_blown life (ops.AttemptEnd id how text) = refl
keeps_blown life (ops.AppEnd id how text) = refl
keeps_blown life (ops.Remove id) = refl

-- bytes that hold one operation more hold what they may once it is kept in a life that isn't blown
holds_more : (s : Manager) (o : Option LifeState) (op : Op) → HasBlown false o → (image : List ℕ) → DeviceHolds image (s.kept ++ op ∷ []) → HoldsIn (after_where s o (KeptEntry op)) image
holds_more s None op stands image h = absurd stands
holds_more s (Some life) op stands image h = just_holds (after_where s (Some life) (KeptEntry op)) image (keeps_blown life op ∙ stands) h

-- a disk has what is kept in a life that isn't blown
pub has_kept : (opening : List Op) (log : List Entry) (disk : DiskView) → has_blown (state_after opening log) ≡ false → IsKeptOn opening log disk → HasOps disk (state_after opening log).kept
has_kept opening log disk unblown has = record { bytes = has.bytes; told = has.told; holds = holds_just (state_after opening log) has.bytes unblown has.holds }

-- a life that isn't blown
pub unblown_life : (s : Manager) (o : Option LifeState) → s.life ≡ o → HasBlown false o → has_blown s ≡ false
unblown_life s None is h = absurd h
unblown_life s (Some life) is h = rw is h

-- the store has one operation more, the one that was next
pub op_stores : (opening : List Op) (seen next : Seen) (op : Op) (old new : DiskView) → HasBlown false (state_after opening seen.log).life → IsToBeKept opening seen op
    → next.log ≡ seen.log ++ KeptEntry op ∷ []
    → ((ops : List Op) → HasOps old ops → fits_records (records ops) op ≡ true → AddsOp new ops op)
    → ((ops : List Op) → HasOps old ops → fits_records (records ops) op ≡ true → LeavesOps old new ops op)
    → IsKeptOn opening seen.log old → KeepsOn opening seen.log next.log old new
op_stores opening seen next op old new stands to_keep added adds leaves has =
    let s = state_after opening seen.log in
    let now : state_after opening next.log ≡ after s (KeptEntry op) = ap (λ (l : List Entry). state_after opening l) added ∙ fold_push after (opening_state opening) seen.log (KeptEntry op) in
    let it = has_kept opening seen.log old (unblown_life s s.life refl stands) has in
    let has_now = adds s.kept it to_keep.fits in
    let moments = leaves s.kept it to_keep.fits in
    record {
      kept = record {
        bytes = has_now.now.bytes;
        told = has_now.now.told;
        holds = subst (λ (m : Manager). HoldsIn m has_now.now.bytes) (sym now) (holds_more s s.life op stands has_now.now.bytes has_now.now.holds);
        images = λ image is. subst (λ (m : Manager). HoldsIn m image) (sym now) (holds_more s s.life op stands image (has_now.images image is));
      };
      time = leaves_of old new _ (HoldsWithin opening next.log)
          (λ image either.
          record {
            before = seen.log;
            later = KeptEntry op ∷ [];
            whole = added;
            holds = ⊎_elim (λ before. inl before) (λ after. inr (op, to_keep.first, after)) either;
          })
          moments.so_far;
      more = KeptEntry op ∷ [];
      grows = added;
    }

-- bytes that hold what is kept, or this and the first operation that awaits, hold what they may once it is refused
holds_blown : (s : Manager) (o : Option LifeState) (passed : ℕ) → HasBlown false o → (image : List ℕ) → HoldsKept s image → HoldsIn (after_where s o (Blown passed)) image
holds_blown s None passed stands image h = absurd stands
holds_blown s (Some life) passed stands image h = kept_holds (after_where s (Some life) (Blown passed)) image refl h

-- the store refused the operation that was next, and may have it all the same
pub blown_stores : (opening : List Op) (seen next : Seen) (op : Op) (passed : ℕ) (old new : DiskView) → HasBlown false (state_after opening seen.log).life → IsToBeKept opening seen op
    → next.log ≡ seen.log ++ Blown passed ∷ [] → IsLaterView old new → ((bytes : List ℕ) → new.told ≡ Some bytes → new.images bytes)
    → ((ops : List Op) → HasOps old ops → fits_records (records ops) op ≡ true → LeavesOps old new ops op)
    → IsKeptOn opening seen.log old → KeepsOn opening seen.log next.log old new
blown_stores opening seen next op passed old new stands to_keep added goes_on as_it_reads leaves has =
    let s = state_after opening seen.log in
    let now : state_after opening next.log ≡ after s (Blown passed) = ap (λ (l : List Entry). state_after opening l) added ∙ fold_push after (opening_state opening) seen.log (Blown passed) in
    let moments = leaves s.kept (has_kept opening seen.log old (unblown_life s s.life refl stands) has) to_keep.fits in
    let told = told_after old new goes_on has.bytes has.told in
    let either : (image : List ℕ) → DeviceHolds image s.kept ⊎ DeviceHolds image (s.kept ++ op ∷ []) → HoldsKept s image = λ image is. ⊎_elim (λ before. inl before) (λ after. inr (op, to_keep.first, after)) is in
    let holds : (image : List ℕ) → new.images image → HoldsIn (state_after opening next.log) image =
    λ image is. subst (λ (m : Manager). HoldsIn m image) (sym now) (holds_blown s s.life passed stands image (either image (moments.now image is))) in
    record {
      kept = record { bytes = told.0; told = told.1; holds = holds told.0 (as_it_reads told.0 told.1); images = holds };
      time = leaves_of old new _ (HoldsWithin opening next.log) (λ image is. record { before = seen.log; later = Blown passed ∷ []; whole = added; holds = either image is }) moments.so_far;
      more = Blown passed ∷ [];
      grows = added;
    }
