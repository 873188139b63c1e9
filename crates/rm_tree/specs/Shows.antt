-- Whether an operation is among those that records come from, as far as they tell. This project's own.
use Rattle.std.specs.Prelude.{Bool, not, nat_lt, is_some, is_none, length}
use Rattle.rm_types.specs.declared.operations.Op.{Op}
use Rattle.rm_types.specs.declared.operations.Op.TheVariants.{Epoch, App, Attempt, AttemptEnd, AppEnd, Remove}
use Rattle.rm_types.specs.Records.{Records, is_some_and, record_of}
use Rattle.rm_tree.specs.Changes.{is_end_recorded}

-- an Epoch shows in a next epoch that is no lower than its own; an App and an Attempt where the application, or as many attempts of it, are
-- recorded; an AttemptEnd where the attempt is recorded with its end; an AppEnd in an end; and a Remove where the application is gone
abbrev pub shows : Records → Op → Bool
shows r (Epoch next stamp) = not (nat_lt r.next_epoch next)
shows r (App id submission) = is_some (record_of r.apps id)
shows r (Attempt id master node) = is_some_and (λ app. not (nat_lt (length app.attempts) id.number)) (record_of r.apps id.app)
shows r (AttemptEnd id how text) = is_some_and (λ app. is_end_recorded id app) (record_of r.apps id.app)
shows r (AppEnd id how text) = is_some_and (λ app. is_some app.ending) (record_of r.apps id)
shows r (Remove id) = is_none (record_of r.apps id)
