-- The laws of a fuse as a disk.
use Rattle.std.proofs.Common.{◌≡◌, ℕ, ◌≤◌, Bool, true, false, ◌&&◌, Some, refl, sym, ◌∙◌, ap, arith}
use Rattle.std.proofs.lemmas.Bool.{and_parts, cases_Bool}
use Rattle.std.proofs.Common.{inl, inr}
use Rattle.rm_disk.specs.Disk.{DiskView}
use Rattle.rm_disk.specs.Faults.{rose_later}
use Rattle.rm_disk.specs.Fuse.{Fused, fused_view, FaultedFuse, KeepsFuse}

-- false is not true
differ : false ≡ true → ⊥
differ is = cc is

-- A fuse over a disk that may stay as it is may stay as it is.
pub keeps_fuse_same : {D : Type 0} (view : D → DiskView) (inner : D → D → Type 0) (succeeds : Bool) (fuse : Fused D) → inner fuse.inner fuse.inner → KeepsFuse view inner succeeds fuse fuse
keeps_fuse_same view inner succeeds fuse same = record {
  inside = same;
  armed = refl;
  falls = refl;
  unarmed_falls = refl;
  passed = omega arith;
  within = λ passes is le. le;
  success = λ _. refl;
  stays_blown = λ is. is;
  halted = λ _. refl;
  blew = λ no yes. absurd (differ (sym no ∙ yes));
  unrefused = λ _. refl;
  faults = omega arith;
}

-- A fuse that goes on, and goes on again, goes on in one.
pub keeps_fuse_on : {D : Type 0} (view : D → DiskView) (inner : Bool → D → D → Type 0) → ((one two : Bool) (x y z : D) → inner one x y → inner two y z → inner (one && two) x z)
    → (one two : Bool) (x y z : Fused D) → KeepsFuse view (inner one) one x y → KeepsFuse view (inner two) two y z → KeepsFuse view (inner (one && two)) (one && two) x z
keeps_fuse_on view inner on one two x y z xy yz = record {
  inside = on one two x.inner y.inner z.inner xy.inside yz.inside;
  armed = yz.armed ∙ xy.armed;
  falls = yz.falls ∙ xy.falls;
  unarmed_falls = yz.unarmed_falls ∙ xy.unarmed_falls;
  passed = omega (arith, xy.passed, yz.passed);
  within = λ passes is le. yz.within passes (xy.armed ∙ is) (xy.within passes is le);
  success = λ both. let parts = and_parts one two both in yz.success parts.1 ∙ xy.success parts.0;
  stays_blown = λ is. yz.stays_blown (xy.stays_blown is);
  halted = λ is. yz.halted (xy.stays_blown is) ∙ xy.halted is;
  blew = λ never now. elim (cases_Bool y.blown) [
    | inl then ↦ yz.armed ∙ xy.blew never then ∙ ap (λ (n : ℕ). Some n) (sym (yz.halted then))
    | inr not_yet ↦ yz.blew not_yet now
  ];
  unrefused = λ never. elim (cases_Bool y.blown) [
    | inl then ↦ absurd (differ (sym never ∙ yz.stays_blown then))
    | inr not_yet ↦ yz.unrefused never ∙ xy.unrefused not_yet
  ];
  faults = omega (arith, xy.faults, yz.faults);
}

-- A fuse that goes on, and then shows a fault, shows it from the first on.
pub faulted_fuse_later : {D : Type 0} (view : D → DiskView) (keeps : Bool → D → D → Type 0) (inner : D → D → Type 0)
    → ((succeeds : Bool) (x y z : D) → keeps succeeds x y → (view x).faults ≤ (view y).faults → inner y z → inner x z)
    → (succeeds : Bool) (x y z : Fused D) → KeepsFuse view (keeps succeeds) succeeds x y
    → (fused_view (view x.inner) x.refused).faults ≤ (fused_view (view y.inner) y.refused).faults
    → FaultedFuse view inner y z → FaultedFuse view inner x z
faulted_fuse_later view keeps inner later succeeds x y z xy le yz = record {
  counted = rose_later (fused_view (view x.inner) x.refused).faults (fused_view (view y.inner) y.refused).faults (fused_view (view z.inner) z.refused).faults le yz.counted;
  stays_blown = λ is. yz.stays_blown (xy.stays_blown is);
  inside = λ never. elim (cases_Bool y.blown) [
    | inl then ↦ absurd (differ (sym never ∙ yz.stays_blown then))
    | inr not_yet ↦ later succeeds x.inner y.inner z.inner xy.inside (let same = xy.unrefused not_yet in omega (arith, le, same)) (yz.inside never)
  ];
}
