-- The laws of a lent fence as a disk.
use Rattle.std.proofs.Common.{◌≡◌, inl, inr, ℕ, ◌-◌, ◌≤◌, Bool, true, false, ◌&&◌, List, length, Option, None, Some, refl, sym, ◌∙◌, ap, subst, arith}
use Rattle.std.specs.Prelude.{option_map}
use Rattle.std.proofs.lemmas.Bool.{and_parts, cases_Bool, false≢true}
use Rattle.std.proofs.lemmas.List.{length-take}
use Rattle.rm_disk.specs.Disk.{DiskView, MayWrite}
use Rattle.rm_disk.specs.Faults.{rose_later}
use Rattle.rm_disk.proofs.Views.{quiet_same, quiet_trans, quiet_writes}
use Rattle.rm_journal.proofs.Outside.{write_write}
use Rattle.rm_fence.specs.declared.TheConstants.{FENCE_SIZE}
use Rattle.rm_fence.specs.Claims.{lent_part}
use Rattle.rm_fence.specs.Lent.{LentState, with_fence, lent_view, lent_parts, as_disk, KeepsLent, FaultedLent}

-- A lent fence whose device may stay as it is may stay as it is.
pub keeps_lent_same : {D : Type 0} (view : D → DiskView) (inner : D → D → Type 0) (succeeds : Bool) (lent : LentState D) → inner lent.fence.disk lent.fence.disk → KeepsLent view inner succeeds lent lent
keeps_lent_same view inner succeeds lent same = record {
  inside = same;
  same = refl;
  refusals = omega arith;
  success = λ _. refl;
  newest = λ _. (refl, refl);
  refused = λ not_yet now. absurd (false≢true (sym not_yet ∙ now));
  older = λ _. quiet_same (view lent.fence.disk);
  lent_alone = quiet_writes 0 ((view lent.fence.disk).size - FENCE_SIZE) (view lent.fence.disk) (view lent.fence.disk) (quiet_same (view lent.fence.disk));
  faults = omega arith;
}

-- The claim and the newest one stay.
pub number_stays : {D : Type 0} (view : D → DiskView) (inner : D → D → Type 0) (succeeds : Bool) (x y : LentState D) → KeepsLent view inner succeeds x y → (y.number ≡ x.number) × (y.fence.newest ≡ x.fence.newest)
number_stays {D} view inner succeeds x y xy = (ap (λ (l : LentState D). l.number) xy.same, ap (λ (l : LentState D). l.fence.newest) xy.same)

-- A lent fence that goes on, and goes on again, goes on in one.
pub keeps_lent_on : {D : Type 0} (view : D → DiskView) (inner : Bool → D → D → Type 0) → ((one two : Bool) (x y z : D) → inner one x y → inner two y z → inner (one && two) x z)
    → (one two : Bool) (x y z : LentState D) → KeepsLent view (inner one) one x y → KeepsLent view (inner two) two y z → KeepsLent view (inner (one && two)) (one && two) x z
keeps_lent_on {D} view inner on one two x y z xy yz =
    let stays = number_stays view (inner one) one x y xy in
    record {
      inside = on one two x.fence.disk y.fence.disk z.fence.disk xy.inside yz.inside;
      same = yz.same ∙ ap (λ (l : LentState D). with_fence l z.fence.disk z.fence.refusals z.has_refused) xy.same;
      refusals = omega (arith, xy.refusals, yz.refusals);
      success = λ both. let parts = and_parts one two both in yz.success parts.1 ∙ xy.success parts.0;
      newest = λ is. let later = yz.newest (stays.0 ∙ is ∙ sym stays.1) in let first = xy.newest is in (later.0 ∙ first.0, later.1 ∙ first.1);
      refused = λ not_yet now. elim (cases_Bool y.has_refused) [
        | inl then ↦ let rose = xy.refused not_yet then in omega (arith, rose, yz.refusals)
        | inr still ↦ rose_later x.fence.refusals y.fence.refusals z.fence.refusals xy.refusals (yz.refused still now)
      ];
      older = λ older. quiet_trans (view x.fence.disk) (view y.fence.disk) (view z.fence.disk) (xy.older older) (yz.older (λ is. older (sym stays.0 ∙ is ∙ stays.1)));
      lent_alone =
          write_write 0 ((view x.fence.disk).size - FENCE_SIZE) (view x.fence.disk) (view y.fence.disk) (view z.fence.disk) xy.lent_alone
          (subst (λ (size : ℕ). MayWrite 0 (size - FENCE_SIZE) (view y.fence.disk) (view z.fence.disk)) xy.lent_alone.goes_on.size yz.lent_alone);
      faults = omega (arith, xy.faults, yz.faults);
    }

-- A lent fence that goes on, and then shows a fault, shows it from the first on.
pub faulted_lent_later : {D : Type 0} (view : D → DiskView) (keeps : Bool → D → D → Type 0) (inner : D → D → Type 0)
    → ((succeeds : Bool) (x y z : D) → keeps succeeds x y → (view x).faults ≤ (view y).faults → inner y z → inner x z)
    → (succeeds : Bool) (x y z : LentState D) → KeepsLent view (keeps succeeds) succeeds x y → (as_disk view x).faults ≤ (as_disk view y).faults
    → FaultedLent view inner y z → FaultedLent view inner x z
faulted_lent_later view keeps inner later succeeds x y z xy le yz =
    let stays = number_stays view (keeps succeeds) succeeds x y xy in
    record {
      counted = rose_later (as_disk view x).faults (as_disk view y).faults (as_disk view z).faults le yz.counted;
      whose = elim yz.whose [
        | inl fault ↦ inl (later succeeds x.fence.disk y.fence.disk z.fence.disk xy.inside xy.faults fault)
        | inr refused ↦ inr (refused.0, λ is. refused.1 (stays.0 ∙ is ∙ sym stays.1))
      ];
    }

-- The part that is lent of so many bytes.
pub length-lent_part : (bytes : List ℕ) → length (lent_part bytes) ≡ length bytes - FENCE_SIZE
length-lent_part bytes = omega (arith, length-take (length bytes - FENCE_SIZE) bytes)

-- Each image has the size.
pub lent_size : (device : DiskView) (refusals : ℕ) → ((image : List ℕ) → device.images image → length image ≡ device.size) → (part : List ℕ) → (lent_view device refusals).images part → length part ≡ (lent_view device refusals).size
lent_size device refusals sizes part (whole, is, part_is) = omega (arith, ap length part_is, length-lent_part whole, sizes whole is)

-- As it reads it is one of its images.
pub lent_reads : (device : DiskView) (refusals : ℕ) → ((bytes : List ℕ) → device.told ≡ Some bytes → device.images bytes) → (part : List ℕ) → (lent_view device refusals).told ≡ Some part → (lent_view device refusals).images part
lent_reads device refusals reads part told = go device.told refl told
  where
    go : (o : Option (List ℕ)) → device.told ≡ o → option_map lent_part o ≡ Some part → lent_parts device.images part
    go None is never = cc
    go (Some whole) is told = (whole, reads whole is, cc)
