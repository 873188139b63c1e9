-- Which attempts ask for something, and what is granted to them in order. This project's own.
use Rattle.std.specs.Prelude.{◌≡◌, ℕ, ◌+◌, ◌==◌, List, [], ◌∷◌, ◌++◌, Bool, true, false, not, Option, None, Some, slice_get}
use Rattle.std.specs.List.{list_any}
use Rattle.rm_types.specs.declared.containers.Ask.{Ask}
use Rattle.rm_types.specs.declared.containers.Grant.{Grant}
use Rattle.rm_types.specs.declared.ids.AppId.{AppId}
use Rattle.rm_types.specs.declared.ids.AttemptId.{AttemptId}
use Rattle.rm_types.specs.declared.ids.ContainerId.{ContainerId}
use Rattle.rm_types.specs.declared.records.AppRecord.{AppRecord}
use Rattle.rm_book.specs.AskTables.{attempt_asks}
use Rattle.rm_model.specs.Attempts.{attempt_at}
use Rattle.rm_tables.specs.declared.rows.AppRow.{AppRow}
use Rattle.rm_tables.specs.declared.rows.Current.{Current}
use Rattle.rm_tables.specs.declared.tables.Tables.{Tables}
use Rattle.rm_tables.specs.Passing.{asks_some}
use Rattle.rm_tables.specs.Rows.{row_of}
use Rattle.rm_refinement.specs.Agreement.{grants_of}

-- the current attempt has this number
abbrev pub is_numbered : ℕ → Option Current → Bool
is_numbered number None = false
is_numbered number (Some current) = current.number == number

-- the current attempt of a row has this number
abbrev pub is_numbered_in : ℕ → Option AppRow → Bool
is_numbered_in number None = false
is_numbered_in number (Some row) = is_numbered number row.current

-- the attempt is the current one of its application
abbrev pub is_current_number : List (AppId × Option AppRow) → AttemptId → Bool
is_current_number rows attempt = is_numbered_in attempt.number (row_of rows attempt.app)

-- where the attempt that an application is at asks for something, it is the application's current one
abbrev pub AskersCurrent : Tables → Type 0
AskersCurrent t = (place : ℕ) (app : AppRecord) → slice_get t.tree.apps place ≡ Some app → asks_some t.asks (attempt_at app) ≡ true → is_current_number t.rows (attempt_at app) ≡ true

-- some of these asks are for something besides a master's container
abbrev pub asks_others : List Ask → Bool
asks_others asks = list_any (λ ask. not (ask.priority == 0)) asks

-- an attempt that asks for something besides its master's container is the current one of its application
abbrev pub OthersCurrent : Tables → Type 0
OthersCurrent t = (attempt : AttemptId) → asks_others (attempt_asks t.asks attempt) ≡ true → is_current_number t.rows attempt ≡ true

-- each of these grants is of its application's current attempt, and its sequence is one above how many were granted to that attempt before
abbrev pub AreNext : List (AppId × Option AppRow) → List ContainerId → List Grant → Type 0
AreNext rows granted [] = Unit {0}
AreNext rows granted (grant ∷ grants) =
    (is_current_number rows grant.id.attempt ≡ true) × (grant.id.seq ≡ grants_of granted grant.id.attempt + 1) × AreNext rows (granted ++ grant.id ∷ []) grants
