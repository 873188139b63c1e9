-- Endings that masters are to be told, in a list for each application: the lists are made before any row changes, and then take the
-- places of the rows' own. This project's own.
use Rattle.std.specs.Prelude.{List, [], ◌∷◌, ◌++◌, Bool, Option, is_some, if◌then◌else◌}
use Rattle.std.specs.Map.{lookup}
use Rattle.rm_types.specs.declared.containers.ClosingOf.{ClosingOf}
use Rattle.rm_types.specs.declared.ids.AppId.{AppId}
use Rattle.rm_types.specs.Ids.{is_app}
use Rattle.rm_tables.specs.declared.rows.AppRow.{AppRow}
use Rattle.rm_tables.specs.Leaving.{telling}
use Rattle.rm_tables.specs.Rows.{with_row}

-- there is a list of an application
abbrev pub has_list : AppId → List (AppId × List ClosingOf) → Bool
has_list id lists = is_some (lookup (is_app id) lists)

-- the lists with one more ending, where there is one of its application
abbrev pub with_closing : List (AppId × List ClosingOf) → ClosingOf → List (AppId × List ClosingOf)
with_closing [] closing = []
with_closing (list ∷ lists) closing =
    if is_app closing.attempt.app list.0 then (list.0, list.1 ++ closing ∷ []) ∷ lists else list ∷ with_closing lists closing

-- the rows with these lists in the places of their own
abbrev pub with_lists : List (AppId × List ClosingOf) → List (AppId × Option AppRow) → List (AppId × Option AppRow)
with_lists [] rows = rows
with_lists (list ∷ lists) rows = with_row (telling list.1) list.0 (with_lists lists rows)
