-- A change of what isn't there changes nothing.
use Rattle.std.proofs.Common.{◌≡◌, List, Option, None, Some, refl}
use Rattle.std.proofs.lemmas.Map.Steps.{set_value_same}
use Rattle.rm_types.specs.declared.ids.AppId.{AppId}
use Rattle.rm_types.specs.Ids.{is_app}
use Rattle.rm_tables.specs.declared.rows.AppRow.{AppRow}
use Rattle.rm_tables.specs.Rows.{row_in, row_of, slot_of, with_slot, with_row}

slot_stays : (change : AppRow → AppRow) (id : AppId) (rows : List (AppId × Option AppRow)) (slot : Option (Option AppRow)) → slot_of rows id ≡ slot → row_in slot ≡ None
    → with_slot change id rows slot ≡ rows
slot_stays change id rows None is none = refl
slot_stays change id rows (Some None) is none = set_value_same (is_app id) rows None is
slot_stays change id rows (Some (Some row)) is none = cc

-- the rows, where the application that changes has none
pub unknown_stays : (change : AppRow → AppRow) (id : AppId) (rows : List (AppId × Option AppRow)) → row_of rows id ≡ None → with_row change id rows ≡ rows
unknown_stays change id rows none = slot_stays change id rows (slot_of rows id) refl none
