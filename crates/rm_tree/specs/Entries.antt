-- Records under their applications' ids. This project's own.
use Rattle.std.specs.Prelude.{◌≡◌, List, [], ◌∷◌}
use Rattle.rm_types.specs.declared.ids.AppId.{AppId}
use Rattle.rm_types.specs.declared.records.AppRecord.{AppRecord}
use Rattle.rm_tree.specs.Numbers.{AreAttemptsFrom}

-- an id, and the record under it
abbrev pub RecordEntry : Type 0
RecordEntry = AppId × AppRecord

-- the record is of this application, and its attempts are numbered
pub record IsRecordOf (id : AppId) (app : AppRecord) : Type 0 where
  pub same : app.id ≡ id
  pub numbered : AreAttemptsFrom id 0 app.attempts

-- each record is of the application whose id it stands under
abbrev pub AreOwn : List RecordEntry → Type 0
AreOwn [] = Unit
AreOwn (entry ∷ entries) = IsRecordOf entry.0 entry.1 × AreOwn entries
