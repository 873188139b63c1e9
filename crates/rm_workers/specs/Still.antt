-- What stays of a state while other workers add entries. This project's own.
use Rattle.std.specs.Prelude.{◌≡◌, Option, None, Some, slice_get}
use Rattle.rm_types.specs.declared.operations.Op.{Op}
use Rattle.rm_model.specs.State.{LifeState, Manager}

-- a life stands where one stood, and of it an operation is with the store, or was refused, where one was
abbrev pub SameLife : Option LifeState → Option LifeState → Type 0
SameLife None new = new ≡ None
SameLife (Some life) None = ⊥
SameLife (Some life) (Some new) = (new.handed ≡ life.handed) × (new.blown ≡ life.blown)

-- as much is kept, the operation that awaited first does so still, and the life is the same in this
pub record Still (s t : Manager) : Type 0 where
  pub kept : t.kept ≡ s.kept
  pub first : (op : Op) → slice_get s.awaiting 0 ≡ Some op → slice_get t.awaiting 0 ≡ Some op
  pub life : SameLife s.life t.life
  pub blew : t.blew ≡ s.blew
