-- What a worker knows between two holds. This project's own.
use Rattle.std.specs.Prelude.{◌≡◌, ◌≤◌, ℕ, Bool, true, false, List, [], ◌∷◌, ◌++◌, Some, slice_get}
use Rattle.rm_types.specs.declared.entries.Entry.{Entry}
use Rattle.rm_types.specs.declared.operations.Op.{Op}
use Rattle.rm_types.specs.Counts.{Rose}
use Rattle.rm_types.specs.Records.{records, fits_records}
use Rattle.rm_disk.specs.Disk.{DiskView, IsLaterView}
use Rattle.rm_model.specs.Lawful.{state_after}
use Rattle.rm_model.specs.Place.{close_left}
use Rattle.rm_store.specs.Kept.{AddsOp, HasOps, LeavesOps}
use Rattle.rm_store.specs.Store.{StoreState, StoreInvariant, IsBelowLast, seen}
use Rattle.rm_core.specs.Seen.{StandsFor}
use Rattle.rm_desk.specs.Effects.{HasHanded, IsHanded}
use Rattle.crossbeam_queue.specs.Passes.{Pass}
use Rattle.rm_baton.specs.declared.baton.Baton.{Baton}
use Rattle.rm_baton.specs.Passes.{IsPassOf}
use Rattle.rm_baton.specs.Views.{IsIdle, view}
use Rattle.rm_lives.specs.declared.halts.Halt.{Halt}
use Rattle.rm_lives.specs.declared.halts.Halt.TheVariants.{DiskFault, Full, Schedule, Memory}
use Rattle.rm_lives.specs.Falls.{fall}
use Rattle.rm_lives.specs.Keeping.{IsFullFor, IsKeptOn, KeepsOn, LeavesOn, armed_by, has_blown}
use Rattle.rm_workers.specs.Began.{Began, seen_then}
use Rattle.rm_workers.specs.Came.{came}
use Rattle.rm_workers.specs.Carried.{HeldView, PassView}

-- THE PASSES

-- a pass that doesn't have the baton, and isn't the store's
pub record IsHelper (v : PassView) : Type 0 where
  pub idle : IsIdle v
  pub helps : v.store ≡ false

-- a helper's pass of this baton
abbrev pub IsHelperOf : Baton HeldView (Unit {0}) → Pass HeldView PassView → Type 0
IsHelperOf baton pass = IsPassOf baton pass × IsHelper (view pass)

-- the store's pass, of whose latest log this holds
pub record Knows (Is : List Entry → Type 0) (v : PassView) : Type 0 where
  pub idle : IsIdle v
  pub mark : v.store ≡ true
  pub fact : Is v.latest

-- THE STORE

-- the operation is with the store in a life that isn't blown: it is the first that awaits, was handed, and fits what is kept by then
pub record IsWithStore (opening : List Op) (log : List Entry) (op : Op) : Type 0 where
  pub first : slice_get (state_after opening log).awaiting 0 ≡ Some op
  pub handed : HasHanded (state_after opening log).life
  pub fits : fits_records (records (state_after opening log).kept) op ≡ true
  pub unblown : has_blown (state_after opening log) ≡ false

-- over each opening list over which the life began, on a device that had what was kept by then
abbrev pub OverBegan : Began → (List Op → Type 0) → Type 0
OverBegan began P = (opening : List Op) → StandsFor opening began.desk.core → IsKeptOn opening began.desk.core.log (seen_then began) → P opening

-- the operation is with the store, over each opening list over which the life began
abbrev pub Awaits : Began → List Entry → Op → Type 0
Awaits began log op = (opening : List Op) → StandsFor opening began.desk.core → IsWithStore opening log op

-- why a worker halted the life: the disk inside the fuse counted a fault since it began, while an operation was with the store; or it was full
abbrev pub IsWhyHalted : Began → DiskView → List Entry → Halt → Type 0
IsWhyHalted began inner log DiskFault = Rose began.inner.faults inner.faults × ((opening : List Op) → StandsFor opening began.desk.core → (op : Op) × IsHanded opening log op)
IsWhyHalted began inner log (Full needed room) =
    (opening : List Op) → StandsFor opening began.desk.core → IsFullFor (IsKeptOn opening began.desk.core.log (seen_then began) × IsBelowLast inner) opening log inner.size needed room
IsWhyHalted began inner log (Schedule place) = ⊥
IsWhyHalted began inner log Memory = Unit {0}

-- the log goes on from the one with which the life began, and the life stands behind it
pub record ContinuesLife (began : Began) (log : List Entry) : Type 0 where
  pub more : List Entry
  pub grows : log ≡ began.desk.core.log ++ more
  pub standing : (came began.desk log).standing ≡ true

module _ {D : Type 0} (view : D → DiskView) (began : Began) (store : StoreState D) where
  -- the fuse showed no fall since the life began, and its disk has its size and no fewer faults
  pub record Stays : Type 0 where
    pub falls : store.disk.falls ≡ began.falls
    pub unarmed_falls : store.disk.unarmed_falls ≡ began.unarmed_falls
    pub size : (view store.disk.inner).size ≡ began.inner.size
    pub faults : began.inner.faults ≤ (view store.disk.inner).faults

  -- the store serves the life: no append failed, unless the life blew; the fuse is armed as the current segment says, and blown where the life is;
  -- no more calls passed than it is armed with, and just as many where it is blown; and the store has what is kept
  pub record Serving (log : List Entry) : Type 0 where
    pub stands : ContinuesLife began log
    pub stays : Stays
    pub sound : StoreInvariant view store
    pub unbroken : (came began.desk log).blown ≡ false → store.is_broken ≡ false
    pub armed : store.disk.armed ≡ armed_by (close_left (came began.desk log).place.segments)
    pub blown : store.disk.blown ≡ (came began.desk log).blown
    pub within : (calls : ℕ) → store.disk.armed ≡ Some calls → store.disk.passed ≤ calls
    pub spent : store.disk.blown ≡ true → store.disk.armed ≡ Some store.disk.passed
    pub kept : OverBegan began (λ opening. KeepsOn opening began.desk.core.log log (seen_then began) (seen view store.disk))

  -- and this operation is with it
  pub record Owing (op : Op) (log : List Entry) : Type 0 where
    pub serving : Serving log
    pub unblown : (came began.desk log).blown ≡ false
    pub next : Awaits began log op

  -- a worker halted the life
  pub record Halting (halt : Halt) (log : List Entry) : Type 0 where
    pub stands : ContinuesLife began log
    pub stays : Stays
    pub why : IsWhyHalted began (view store.disk.inner) log halt
    pub left : OverBegan began (λ opening. LeavesOn opening began.desk.core.log log (seen_then began) (seen view store.disk))

  -- the life went down, and the device is to fall to the image
  pub record Sunk (image : ℕ) (log : List Entry) : Type 0 where
    pub more : List Entry
    pub grows : log ≡ began.desk.core.log ++ more
    pub down : (came began.desk log).standing ≡ false
    pub stays : Stays
    pub sound : StoreInvariant view store
    pub calls : ℕ
    pub blew : Bool
    pub armed : store.disk.armed ≡ Some calls
    pub blown : store.disk.blown ≡ blew
    pub within : store.disk.passed ≤ calls
    pub spent : blew ≡ true → store.disk.passed ≡ calls
    pub falls : (came began.desk log).falls ≡ fall calls image blew ∷ []
    pub kept : OverBegan began (λ opening. KeepsOn opening began.desk.core.log log (seen_then began) (seen view store.disk))

module _ {D : Type 0} (view : D → DiskView) (began : Began) (store : StoreState D) where
  -- an append of the operation that was with the store before: at each moment a crash left what was kept, or this and the operation
  pub record Tried (op : Op) (log : List Entry) : Type 0 where
    pub before : StoreState D
    pub owing : Owing view began before op log
    pub stays : Stays view began store
    pub sound : StoreInvariant view store
    pub armed : store.disk.armed ≡ before.disk.armed
    pub within : (calls : ℕ) → store.disk.armed ≡ Some calls → store.disk.passed ≤ calls
    pub leaves : (ops : List Op) → HasOps (seen view before.disk) ops → fits_records (records ops) op ≡ true → LeavesOps (seen view before.disk) (seen view store.disk) ops op

  -- it was written
  pub record Wrote (op : Op) (log : List Entry) : Type 0 where
    pub tried : Tried op log
    pub unbroken : store.is_broken ≡ false
    pub blown : store.disk.blown ≡ tried.before.disk.blown
    pub adds : (ops : List Op) → HasOps (seen view tried.before.disk) ops → fits_records (records ops) op ≡ true → AddsOp (seen view store.disk) ops op

  -- or the fuse refused it, after so many calls
  pub record Refused (passed : ℕ) (log : List Entry) : Type 0 where
    pub op : Op
    pub tried : Tried op log
    pub blown : store.disk.blown ≡ true
    pub passes : store.disk.passed ≡ passed
    pub spent : store.disk.armed ≡ Some store.disk.passed
    pub goes_on : IsLaterView (seen view tried.before.disk) (seen view store.disk)
    pub reads : (bytes : List ℕ) → (seen view store.disk).told ≡ Some bytes → (seen view store.disk).images bytes
