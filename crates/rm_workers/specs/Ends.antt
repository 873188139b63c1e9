-- How a life ended, or halted, by its beginning. This project's own.
use Rattle.std.specs.Prelude.{◌≡◌, ◌≤◌, ℕ, Bool, true, false, [], ◌∷◌, None, Some, Result, Ok, Err}
use Rattle.rm_disk.specs.Disk.{DiskView}
use Rattle.rm_store.specs.Store.{StoreState, StoreInvariant, seen}
use Rattle.rm_core.specs.Words.{stands}
use Rattle.rm_desk.specs.View.{DeskView}
use Rattle.rm_lives.specs.declared.halts.Halt.{Halt}
use Rattle.rm_lives.specs.declared.moves.LifeEnd.{LifeEnd}
use Rattle.rm_lives.specs.declared.moves.LifeEnd.TheVariants.{Rest, Down}
use Rattle.rm_lives.specs.Falls.{fall}
use Rattle.rm_lives.specs.Goes.{ExtendsRun, IsOver}
use Rattle.rm_lives.specs.Keeping.{KeepsOn, LeavesOn}
use Rattle.rm_workers.specs.AnyOrder.{any_order}
use Rattle.rm_workers.specs.Began.{Began, seen_then}
use Rattle.rm_workers.specs.Work.{IsWhyHalted, OverBegan, Stays}

module _ {D : Type 0} (view : D → DiskView) (began : Began) (d : DeskView) (store : StoreState D) where
  -- the store is whole, and has what is kept
  pub record LeavesStoreWhole : Type 0 where
    pub stays : Stays view began store
    pub sound : StoreInvariant view store
    pub kept : OverBegan began (λ opening. KeepsOn opening began.desk.core.log d.core.log (seen_then began) (seen view store.disk))

  -- the run is at its end
  pub record Rested : Type 0 where
    pub goes : ExtendsRun any_order [] began.desk d
    pub over : IsOver d
    pub unarmed : store.disk.armed ≡ None
    pub unblown : store.disk.blown ≡ false
    pub keeps : LeavesStoreWhole

  -- the life went down, and the device is to fall to the image
  pub record WentDown (image : ℕ) : Type 0 where
    pub calls : ℕ
    pub blew : Bool
    pub armed : store.disk.armed ≡ Some calls
    pub blown : store.disk.blown ≡ blew
    pub within : store.disk.passed ≤ calls
    pub spent : blew ≡ true → store.disk.passed ≡ calls
    pub goes : ExtendsRun any_order (fall calls image blew ∷ []) began.desk d
    pub down : stands d.core ≡ false
    pub keeps : LeavesStoreWhole

  -- a worker halted it
  pub record Halted (halt : Halt) : Type 0 where
    pub goes : ExtendsRun any_order [] began.desk d
    pub stays : Stays view began store
    pub why : IsWhyHalted began (view store.disk.inner) d.core.log halt
    pub left : OverBegan began (λ opening. LeavesOn opening began.desk.core.log d.core.log (seen_then began) (seen view store.disk))

  abbrev pub Ended : Result LifeEnd Halt → Type 0
  Ended (Ok Rest) = Rested
  Ended (Ok (Down image)) = WentDown image
  Ended (Err halt) = Halted halt
