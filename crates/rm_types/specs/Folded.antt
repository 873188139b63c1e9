-- What is left of a list of store operations once those that say nothing any more are left out: an Epoch before a later one, each operation
-- on an application that is removed later, and the removal itself. This project's own; YARN's state store likewise keeps one epoch, and
-- nothing of a removed application.
use Rattle.std.specs.Prelude.{List, [], ◌∷◌, Bool, true, false, not, if◌then◌else◌}
use Rattle.std.specs.List.{list_any}
use Rattle.rm_types.specs.declared.ids.AppId.{AppId}
use Rattle.rm_types.specs.declared.operations.Op.{Op}
use Rattle.rm_types.specs.declared.operations.Op.TheVariants.{Epoch, App, Attempt, AttemptEnd, AppEnd, Remove}
use Rattle.rm_types.specs.Ids.{is_app}

-- the operation is an Epoch
abbrev pub is_epoch : Op → Bool
is_epoch (Epoch next stamp) = true
is_epoch (App id submission) = false
is_epoch (Attempt id master node) = false
is_epoch (AttemptEnd id how text) = false
is_epoch (AppEnd id how text) = false
is_epoch (Remove id) = false

-- the operation removes the application
abbrev pub is_removal : AppId → Op → Bool
is_removal one (Epoch next stamp) = false
is_removal one (App id submission) = false
is_removal one (Attempt id master node) = false
is_removal one (AttemptEnd id how text) = false
is_removal one (AppEnd id how text) = false
is_removal one (Remove id) = is_app one id

-- one of these removes the application
abbrev pub is_gone : AppId → List Op → Bool
is_gone id ops = list_any (is_removal id) ops

-- an operation is left, where these stand behind it
abbrev pub stays : Op → List Op → Bool
stays (Epoch next stamp) later = not (list_any is_epoch later)
stays (App id submission) later = not (is_gone id later)
stays (Attempt id master node) later = not (is_gone id.app later)
stays (AttemptEnd id how text) later = not (is_gone id.app later)
stays (AppEnd id how text) later = not (is_gone id later)
stays (Remove id) later = false

-- an operation before others, where it is left
abbrev pub put_where : Bool → Op → List Op → List Op
put_where true op ops = op ∷ ops
put_where false op ops = ops

-- the operations that are left, in order
abbrev pub folded : List Op → List Op
folded [] = []
folded (op ∷ ops) = put_where (stays op ops) op (folded ops)
