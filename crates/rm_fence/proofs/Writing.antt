-- A write through a lent fence.
use Rattle.std.proofs.Common.{ℕ, ◌+◌, ◌-◌, ◌≤◌, Bool, true, false, refl, sym, ◌∙◌, arith}
use Rattle.std.proofs.lemmas.Bool.{false≢true}
use Rattle.rm_types.specs.Counts.{Rose}
use Rattle.rm_disk.specs.Disk.{DiskView, MayWrite}
use Rattle.rm_disk.proofs.Views.{quiet_same, quiet_writes, write_wider}
use Rattle.rm_fence.specs.declared.TheConstants.{FENCE_SIZE}
use Rattle.rm_fence.specs.Lent.{LentState, lent_view, with_fence, with_device, IsNewest, IsOlder, KeepsLent}
use Rattle.rm_fence.proofs.Parts.{part_quiet}

-- One that is refused writes nothing.
pub refused_writes : (at many : ℕ) (v : DiskView) (r s : ℕ) → r ≤ s → MayWrite at many (lent_view v r) (lent_view v s)
refused_writes at many v r s le = quiet_writes at many (lent_view v r) (lent_view v s) (part_quiet v v r s le (quiet_same v))

pub refused_keeps : {D : Type 0} (view : D → DiskView) (inner : D → D → Type 0) (lent : LentState D) (refusals : ℕ) → inner lent.fence.disk lent.fence.disk → lent.fence.refusals ≤ refusals → Rose lent.fence.refusals refusals → IsOlder lent
    → KeepsLent view inner false lent (with_fence lent lent.fence.disk refusals true)
refused_keeps view inner lent refusals same le rose older = record {
  inside = same;
  same = refl;
  refusals = le;
  success = λ never. absurd (false≢true never);
  newest = λ is. absurd (older is);
  refused = λ _ _. rose;
  older = λ _. quiet_same (view lent.fence.disk);
  lent_alone = quiet_writes 0 ((view lent.fence.disk).size - FENCE_SIZE) (view lent.fence.disk) (view lent.fence.disk) (quiet_same (view lent.fence.disk));
  faults = omega arith;
}

-- One under the newest claim is the device's.
pub written_keeps : {D : Type 0} (view : D → DiskView) (inner : D → D → Type 0) (succeeds : Bool) (lent : LentState D) (disk : D) (at many : ℕ) → inner lent.fence.disk disk → IsNewest lent
    → at + many ≤ (view lent.fence.disk).size - FENCE_SIZE → MayWrite at many (view lent.fence.disk) (view disk) → KeepsLent view inner succeeds lent (with_device lent disk)
written_keeps view inner succeeds lent disk at many inside is fits wrote = record {
  inside = inside;
  same = refl;
  refusals = omega arith;
  success = λ _. refl;
  newest = λ _. (refl, refl);
  refused = λ not_yet now. absurd (false≢true (sym not_yet ∙ now));
  older = λ older. absurd (older is);
  lent_alone = write_wider 0 ((view lent.fence.disk).size - FENCE_SIZE) at many (view lent.fence.disk) (view disk) (omega arith) (omega (arith, fits)) wrote;
  faults = wrote.goes_on.faults;
}
