-- The laws of a disk of which one write is torn.
use Rattle.std.proofs.Common.{◌≤◌, Bool, ◌&&◌, refl, ◌∙◌, arith}
use Rattle.std.proofs.lemmas.Bool.{and_from, and_parts}
use Rattle.rm_disk.specs.Disk.{DiskView}
use Rattle.rm_disk.specs.Faults.{rose_later}
use Rattle.rm_disk.specs.Torn.{Tearing, torn_view, FaultedTorn, KeepsTorn}

-- A torn disk over one that may stay as it is may stay as it is.
pub keeps_torn_same : {D : Type 0} (view : D → DiskView) (inner : Bool → D → D → Type 0) (succeeds : Bool) (disk : Tearing D) → inner succeeds disk.inner disk.inner → KeepsTorn view inner succeeds disk disk
keeps_torn_same view inner succeeds disk same = record {
  inside = (succeeds, same, λ is. is);
  left = omega arith;
  torn = omega arith;
  success = λ _. refl;
  before = λ _. refl;
  behind = λ _. refl;
  faults = omega arith;
}

-- A torn disk that goes on, and goes on again, goes on in one.
pub keeps_torn_on : {D : Type 0} (view : D → DiskView) (inner : Bool → D → D → Type 0) → ((one two : Bool) (x y z : D) → inner one x y → inner two y z → inner (one && two) x z)
    → (one two : Bool) (x y z : Tearing D) → KeepsTorn view inner one x y → KeepsTorn view inner two y z → KeepsTorn view inner (one && two) x z
keeps_torn_on view inner on one two x y z xy yz = record {
  inside =
      let first = xy.inside in
      let second = yz.inside in
      (first.0 && second.0, on first.0 second.0 x.inner y.inner z.inner first.1 second.1, λ both. let parts = and_parts one two both in and_from first.0 second.0 (first.2 parts.0) (second.2 parts.1));
  left = omega (arith, xy.left, yz.left);
  torn = omega (arith, xy.torn, yz.torn);
  success = λ both. let parts = and_parts one two both in yz.success parts.1 ∙ xy.success parts.0;
  before = λ some. yz.before some ∙ xy.before (omega (arith, some, yz.left));
  behind = λ none. yz.behind (omega (arith, none, xy.left)) ∙ xy.behind none;
  faults = omega (arith, xy.faults, yz.faults);
}

-- A disk that goes on, and then shows a fault, shows it from the first on.
pub faulted_torn_later : {D : Type 0} (view : D → DiskView) (keeps : Bool → D → D → Type 0) (inner : D → D → Type 0)
    → ((succeeds : Bool) (x y z : D) → keeps succeeds x y → (view x).faults ≤ (view y).faults → inner y z → inner x z)
    → (succeeds : Bool) (x y z : Tearing D) → KeepsTorn view keeps succeeds x y
    → (torn_view (view x.inner) x.torn).faults ≤ (torn_view (view y.inner) y.torn).faults
    → FaultedTorn view inner y z → FaultedTorn view inner x z
faulted_torn_later view keeps inner later succeeds x y z xy le yz =
    let goes_on : inner y.inner z.inner → inner x.inner z.inner = λ fault. later xy.inside.0 x.inner y.inner z.inner xy.inside.1 xy.faults fault in
    record {
      counted = rose_later (torn_view (view x.inner) x.torn).faults (torn_view (view y.inner) y.torn).faults (torn_view (view z.inner) z.torn).faults le yz.counted;
      before = λ some. goes_on (yz.before some);
      behind = λ none. goes_on (yz.behind (omega (arith, none, xy.left)));
    }
