-- Which attempt of an application is its current one, by what is recorded. This project's own.
use Rattle.std.specs.Prelude.{◌≡◌, ◌≤◌, ◌⊎◌, ◌+◌, ◌||◌, List, Bool, true, Option, None, Some, length}
use Rattle.rm_types.specs.declared.ids.AppId.{AppId}
use Rattle.rm_types.specs.declared.records.AppRecord.{AppRecord}
use Rattle.rm_types.specs.declared.records.AttemptRecord.{AttemptRecord}
use Rattle.rm_types.specs.Lists.{is_nil}
use Rattle.rm_types.specs.Records.{is_some_and, last_attempt, record_of}
use Rattle.rm_model.specs.Attempts.{has_failed}
use Rattle.rm_model.specs.Facts.{attempts_in}
use Rattle.rm_tables.specs.declared.rows.AppRow.{AppRow}
use Rattle.rm_tables.specs.declared.rows.Current.{Current}
use Rattle.rm_tables.specs.declared.rows.Dialogue.{Dialogue}
use Rattle.rm_tables.specs.declared.tables.Tables.{Tables}
use Rattle.rm_tables.specs.Rows.{row_of}

-- another attempt may follow these: there are none, or the last one has failed
abbrev pub may_go_on : List AttemptRecord → Bool
may_go_on attempts = is_nil attempts || is_some_and has_failed (last_attempt attempts)

-- the current attempt is the last recorded one; or it is the next one, with whose master nobody spoke, and may follow
abbrev pub FitsCurrent : Option AppRecord → Option Dialogue → Option Current → Type 0
FitsCurrent found dialogue None = Unit {0}
FitsCurrent found dialogue (Some current) =
    ((1 ≤ current.number) × (current.number ≡ length (attempts_in found)))
    ⊎ ((current.number ≡ length (attempts_in found) + 1) × (may_go_on (attempts_in found) ≡ true) × (dialogue ≡ None))

-- and so is that of every row
abbrev pub EachRowFits : Tables → Type 0
EachRowFits t = (id : AppId) (row : AppRow) → row_of t.rows id ≡ Some row → FitsCurrent (record_of t.tree.apps id) row.dialogue row.current
