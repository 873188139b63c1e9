-- A disk of which one write is torn, as contracts see it.
use Rattle.std.specs.Prelude.{◌≡◌, ◌⊎◌, ◌≤◌, ◌+◌, ◌-◌, ◌/◌, ℕ, Bool, true, List, length, take, option_map, Result, if◌then◌else◌}
use Rattle.rm_types.specs.Counts.{risen, Rose}
use Rattle.rm_disk.specs.Disk.{DiskView, MayWrite, put}
use Rattle.rm_disk.specs.Fuse.{counts_call}
use Rattle.rm_disk.specs.declared.device.DiskError.{DiskError}

-- A disk over an inner one: of how many writes from now on the last one is torn, which is 0 where none is any more; and how
-- many were torn.
pub record Tearing (D : Type 0) : Type 0 where
  pub inner : D
  pub left : ℕ
  pub torn : ℕ

-- The disk that it makes: the inner one, with the torn writes counted among its faults.
abbrev pub torn_view : DiskView → ℕ → DiskView
torn_view inner torn = record inner { faults = inner.faults + torn }

-- The first half of some bytes, rounded down.
abbrev pub first_half : List ℕ → List ℕ
first_half bytes = take (length bytes / 2) bytes

-- The disk after a write that isn't torn and left the inner disk so: one fewer is left, unless it found no memory.
abbrev pub wrote : {D T : Type 0} → Tearing D → D → Result T DiskError → Tearing D
wrote disk inner outcome = record disk { inner = inner; left = if counts_call outcome then disk.left - 1 else disk.left }

-- The disk after its torn write, which left the inner disk so: none is left, and it is counted.
abbrev pub tore : {D : Type 0} → Tearing D → D → Tearing D
tore disk inner = record disk { inner = inner; left = 0; torn = risen disk.torn }

-- What a torn write does to the inner disk: it writes the first half of the bytes and touches no others, and that half is
-- written unless the inner disk failed too.
pub record WritesHalf {D : Type 0} (view : D → DiskView) (faulted : D → D → Type 0) (at : ℕ) (bytes : List ℕ) (old new : D) : Type 0 where
  pub in_range : MayWrite at (length (first_half bytes)) (view old) (view new)
  pub half : ((view new).told ≡ option_map (put at (first_half bytes)) (view old).told) ⊎ faulted old new

-- What every call but a fall keeps. The inner disk keeps what it does of calls that succeed, where these do; what was
-- torn stays counted; nothing is torn by calls that succeed, before the last write that is left, nor once none is left.
pub record KeepsTorn {D : Type 0} (view : D → DiskView) (inner : Bool → D → D → Type 0) (succeeds : Bool) (old new : Tearing D) : Type 0 where
  pub inside : (all : Bool) × inner all old.inner new.inner × (succeeds ≡ true → all ≡ true)
  pub left : new.left ≤ old.left
  pub torn : old.torn ≤ new.torn
  pub success : succeeds ≡ true → new.torn ≡ old.torn
  pub before : 1 ≤ new.left → new.torn ≡ old.torn
  pub behind : old.left ≡ 0 → new.torn ≡ old.torn
  pub faults : (view old.inner).faults ≤ (view new.inner).faults

-- What a fault shows: the count rose; and before the last write that is left, and once none is left, it was the inner disk's.
pub record FaultedTorn {D : Type 0} (view : D → DiskView) (inner : D → D → Type 0) (old new : Tearing D) : Type 0 where
  pub counted : Rose (torn_view (view old.inner) old.torn).faults (torn_view (view new.inner) new.torn).faults
  pub before : 1 ≤ new.left → inner old.inner new.inner
  pub behind : old.left ≡ 0 → inner old.inner new.inner

-- A fall is one of the inner disk to the same image, and nothing else.
pub record FallsUnder {D : Type 0} (inner : ℕ → D → D → Type 0) (image : ℕ) (old new : Tearing D) : Type 0 where
  pub inside : inner image old.inner new.inner
  pub same : new ≡ record old { inner = new.inner }
