-- Attempts that were kept when the life that stands began. This project's own.
use Rattle.std.specs.Prelude.{◌≡◌, ◌⊎◌, List, Bool, true, Option, None, Some, is_some, find}
use Rattle.std.specs.List.{list_any}
use Rattle.rm_types.specs.declared.ids.AppId.{AppId}
use Rattle.rm_types.specs.declared.ids.AttemptId.{AttemptId}
use Rattle.rm_types.specs.declared.operations.Op.{Op}
use Rattle.rm_types.specs.declared.records.AppRecord.{AppRecord}
use Rattle.rm_types.specs.Ids.{is_attempt}
use Rattle.rm_types.specs.Records.{record_of, records}
use Rattle.rm_model.specs.Facts.{attempts_in, has_app}
use Rattle.rm_model.specs.State.{LifeState}

-- an attempt stands in the records of these applications
abbrev pub attempt_stands : List AppRecord → AttemptId → Bool
attempt_stands apps id = is_some (find (λ one. is_attempt one.id id) (attempts_in (record_of apps id.app)))

-- an attempt stands in the records, or its application has no record and was retired
abbrev pub IsKeptOrGone : List AppRecord → List AppId → AttemptId → Type 0
IsKeptOrGone apps retired id = (attempt_stands apps id ≡ true) ⊎ ((record_of apps id.app ≡ None) × (has_app retired id.app ≡ true))

-- an attempt was kept when a life began
abbrev pub was_kept_first : LifeState → AttemptId → Bool
was_kept_first life id = list_any (λ one. is_attempt one.id id) (attempts_in (record_of life.first.apps id.app))

-- where an attempt was kept when the life that stands began, if one does, it is kept, or its application has no record and was retired
abbrev pub FirstStays : AttemptId → List Op → Option LifeState → Type 0
FirstStays id kept None = Unit {0}
FirstStays id kept (Some life) = was_kept_first life id ≡ true → IsKeptOrGone (records kept).apps life.apps.retired id
