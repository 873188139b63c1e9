-- The rows of applications, as a map by id. This project's own.
use Rattle.std.specs.Prelude.{List, Bool, true, false, Option, None, Some, option_map}
use Rattle.std.specs.Map.{lookup, set_value}
use Rattle.rm_types.specs.declared.ids.AppId.{AppId}
use Rattle.rm_types.specs.Ids.{is_app}
use Rattle.rm_tables.specs.declared.rows.AppRow.{AppRow}

-- the slot of an application: none where the life never knew it, an empty one where it was removed
abbrev pub slot_of : List (AppId × Option AppRow) → AppId → Option (Option AppRow)
slot_of rows id = lookup (is_app id) rows

-- what a slot holds
abbrev pub row_in : Option (Option AppRow) → Option AppRow
row_in None = None
row_in (Some slot) = slot

-- the row of an application, if the life knows it
abbrev pub row_of : List (AppId × Option AppRow) → AppId → Option AppRow
row_of rows id = row_in (slot_of rows id)

-- the slot is there and empty
abbrev pub is_empty_slot : Option (Option AppRow) → Bool
is_empty_slot None = false
is_empty_slot (Some None) = true
is_empty_slot (Some (Some row)) = false

-- an application was removed in this life
abbrev pub is_retired : List (AppId × Option AppRow) → AppId → Bool
is_retired rows id = is_empty_slot (slot_of rows id)

-- the rows with that of one application changed, whose slot is found or isn't
abbrev pub with_slot : (AppRow → AppRow) → AppId → List (AppId × Option AppRow) → Option (Option AppRow) → List (AppId × Option AppRow)
with_slot change id rows None = rows
with_slot change id rows (Some slot) = set_value (is_app id) rows (option_map change slot)

-- the rows with that of one application changed, where there is one
abbrev pub with_row : (AppRow → AppRow) → AppId → List (AppId × Option AppRow) → List (AppId × Option AppRow)
with_row change id rows = with_slot change id rows (slot_of rows id)

-- the rows with one application removed, which has a slot or hasn't
abbrev pub without_slot : AppId → List (AppId × Option AppRow) → Option (Option AppRow) → List (AppId × Option AppRow)
without_slot id rows None = rows
without_slot id rows (Some slot) = set_value (is_app id) rows None

-- the rows with one application removed, where it has a slot
abbrev pub without_row : AppId → List (AppId × Option AppRow) → List (AppId × Option AppRow)
without_row id rows = without_slot id rows (slot_of rows id)
