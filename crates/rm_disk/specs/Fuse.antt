-- A fuse over a disk, as contracts see it.
use Rattle.std.specs.Prelude.{◌≡◌, ◌≤◌, ◌+◌, ℕ, nat_le, Bool, true, false, List, [], ◌∷◌, ◌++◌, Option, None, Some, option_map, Result, Err, if◌then◌else◌}
use Rattle.rm_types.specs.Counts.{risen, Rose}
use Rattle.rm_disk.specs.Disk.{DiskView}
use Rattle.rm_disk.specs.declared.device.DiskError.{DiskError}
use Rattle.rm_disk.specs.declared.device.DiskError.TheVariants.{Memory}
use Rattle.rm_disk.specs.declared.fallen.Fallen.{Fallen}
use Rattle.rm_disk.specs.declared.fallen.Armed.{Armed}

-- A disk under a fuse: its falls while it was armed, how often it fell when it wasn't, the number that it is armed
-- with, how many calls it let pass since it was armed, whether it refused one since, and how many it refused in all.
pub record Fused (D : Type 0) : Type 0 where
  pub inner : D
  pub falls : List Fallen
  pub unarmed_falls : ℕ
  pub armed : Option ℕ
  pub passed : ℕ
  pub blown : Bool
  pub refused : ℕ

-- The disk that a fuse makes: the inner one, with the refusals counted among its faults.
abbrev pub fused_view : DiskView → ℕ → DiskView
fused_view inner refused = record inner { faults = inner.faults + refused }

-- Whether a fuse refuses the next write or sync: it is armed, and as many passed as it was armed with.
abbrev pub is_spent : Option ℕ → ℕ → Bool
is_spent None passed = false
is_spent (Some passes) passed = nat_le passes passed

-- A fuse after a call that it refused.
abbrev pub refusing : {D : Type 0} → Fused D → Fused D
refusing fuse = record fuse { blown = true; refused = risen fuse.refused }

-- Whether a call counts as one that passed: not where it found no memory.
abbrev pub counts_call : {T : Type 0} → Result T DiskError → Bool
counts_call (Err Memory) = false
counts_call _ = true

-- How many passed after one more call of the inner disk; only an armed fuse counts.
abbrev pub passed_after : {T : Type 0} → Option ℕ → Result T DiskError → ℕ → ℕ
passed_after None outcome passed = passed
passed_after (Some passes) outcome passed = if counts_call outcome then passed + 1 else passed

-- A fuse after a call that went through to the inner disk and left it so.
abbrev pub passing : {D T : Type 0} → Fused D → D → Result T DiskError → Fused D
passing fuse inner outcome = record fuse { inner = inner; passed = passed_after fuse.armed outcome fuse.passed }

-- The falls after one more: an armed fuse adds the number it was armed with, the image, and whether it was blown.
abbrev pub falls_after : List Fallen → Option ℕ → ℕ → Bool → List Fallen
falls_after falls None image blown = falls
falls_after falls (Some passes) image blown = falls ++ record { calls = passes; image = image; blown = blown } ∷ []

-- How often a fuse fell unarmed, after one more fall.
abbrev pub unarmed_falls_after : ℕ → Option ℕ → ℕ
unarmed_falls_after count None = risen count
unarmed_falls_after count (Some passes) = count

-- A fall disarms an armed fuse.
abbrev pub blown_after_fall : Option ℕ → Bool → Bool
blown_after_fall None blown = blown
blown_after_fall (Some passes) blown = false

-- A fuse after a fall that left the inner disk so.
abbrev pub fallen_fuse : {D : Type 0} → Fused D → D → ℕ → Fused D
fallen_fuse fuse inner image =
    record fuse {
      inner = inner;
      falls = falls_after fuse.falls fuse.armed image fuse.blown;
      unarmed_falls = unarmed_falls_after fuse.unarmed_falls fuse.armed;
      armed = None;
      blown = blown_after_fall fuse.armed fuse.blown;
    }

-- A fall of a fuse is a fall of the inner disk to the same image, and is shown.
pub record FallsThrough {D : Type 0} (inner : ℕ → D → D → Type 0) (image : ℕ) (old new : Fused D) : Type 0 where
  pub inside : inner image old.inner new.inner
  pub shown : new ≡ fallen_fuse old new.inner image

-- The number that a fuse is armed with.
abbrev pub passes_of : Option Armed → Option ℕ
passes_of armed = option_map (λ (a : Armed). a.passes) armed

-- What a fuse holds together: an armed one has the list that its fall will show, with one more fall, and no more
-- passed than it was armed with; a blown one is armed, and just as many passed.
pub record IsFuse (falls : List Fallen) (armed : Option Armed) (passed : ℕ) (blown : Bool) : Type 0 where
  pub next_falls : (a : Armed) → armed ≡ Some a → a.falls ≡ falls ++ record { calls = a.passes; image = 0; blown = false } ∷ []
  pub within : (a : Armed) → armed ≡ Some a → passed ≤ a.passes
  pub spent : blown ≡ true → passes_of armed ≡ Some passed

-- What a fault of a fuse shows: its count rose, a blown fuse stays blown, and where it isn't blown afterwards the inner
-- disk failed.
pub record FaultedFuse {D : Type 0} (view : D → DiskView) (inner : D → D → Type 0) (old new : Fused D) : Type 0 where
  pub counted : Rose (fused_view (view old.inner) old.refused).faults (fused_view (view new.inner) new.refused).faults
  pub stays_blown : old.blown ≡ true → new.blown ≡ true
  pub inside : new.blown ≡ false → inner old.inner new.inner

-- What every call but a fall keeps of a fuse, whether it succeeds or not. The number that it is armed with and its
-- falls stay. More may pass, but never beyond that number. A call that succeeds leaves it blown or not, as it was;
-- once blown it stays blown and lets nothing more pass; where it blows, just as many passed as it was armed with; and
-- one that isn't blown afterwards refused nothing. The inner disk has no fewer faults.
pub record KeepsFuse {D : Type 0} (view : D → DiskView) (inner : D → D → Type 0) (succeeds : Bool) (old new : Fused D) : Type 0 where
  pub inside : inner old.inner new.inner
  pub armed : new.armed ≡ old.armed
  pub falls : new.falls ≡ old.falls
  pub unarmed_falls : new.unarmed_falls ≡ old.unarmed_falls
  pub passed : old.passed ≤ new.passed
  pub within : (passes : ℕ) → old.armed ≡ Some passes → old.passed ≤ passes → new.passed ≤ passes
  pub success : succeeds ≡ true → new.blown ≡ old.blown
  pub stays_blown : old.blown ≡ true → new.blown ≡ true
  pub halted : old.blown ≡ true → new.passed ≡ old.passed
  pub blew : old.blown ≡ false → new.blown ≡ true → new.armed ≡ Some new.passed
  pub unrefused : new.blown ≡ false → new.refused ≡ old.refused
  pub faults : (view old.inner).faults ≤ (view new.inner).faults
