-- What holds of the records of a store whose operations each fit: the attempts of an application are numbered one by one, each has ended
-- before the next, and all have where the application has. This project's own.
use Rattle.std.specs.Prelude.{◌≡◌, ℕ, ◌+◌, List, [], ◌∷◌, true, Some, is_some}
use Rattle.rm_types.specs.declared.ids.AppId.{AppId}
use Rattle.rm_types.specs.declared.records.AppRecord.{AppRecord}
use Rattle.rm_types.specs.declared.records.AttemptRecord.{AttemptRecord}
use Rattle.rm_types.specs.Records.{all_ended, record_of}

-- the attempts of an application are numbered on from a number
abbrev pub Numbered : AppId → ℕ → List AttemptRecord → Type 0
Numbered id n [] = Unit {0}
Numbered id n (one ∷ more) = (one.id ≡ record { app = id; number = n + 1 }) × Numbered id (n + 1) more

-- all but the last have ended
abbrev pub FrontEnded : List AttemptRecord → Type 0
FrontEnded [] = Unit {0}
FrontEnded (one ∷ []) = Unit {0}
FrontEnded (one ∷ next ∷ more) = (is_some one.ending ≡ true) × FrontEnded (next ∷ more)

-- the record of an application
pub record IsSoundRecord (id : AppId) (one : AppRecord) : Type 0 where
  pub numbered : Numbered id 0 one.attempts
  pub front : FrontEnded one.attempts
  pub over : is_some one.ending ≡ true → all_ended one.attempts ≡ true

-- the record of every application
abbrev pub RecordsAreSound : List AppRecord → Type 0
RecordsAreSound apps = (id : AppId) (one : AppRecord) → record_of apps id ≡ Some one → IsSoundRecord id one
