-- What holds of the completed applications of the tables: they stand in the order in which their ends were kept. This project's own.
use Rattle.std.specs.Prelude.{◌≤◌, ◌<◌, ℕ, List, [], ◌∷◌, Bool, true, false, Option, None, Some, count_by, length}
use Rattle.rm_types.specs.declared.ids.AppId.{AppId}
use Rattle.rm_types.specs.declared.records.AppRecord.{AppRecord}
use Rattle.rm_types.specs.Ids.{is_app}
use Rattle.rm_types.specs.Records.{record_of}
use Rattle.rm_tables.specs.declared.events.MainEvent.{MainEvent}
use Rattle.rm_tables.specs.declared.events.MainEvent.TheVariants as mains
use Rattle.rm_tables.specs.declared.tables.Tables.{Tables}

-- when the end of an application was kept, as a place among the operations
abbrev pub order_in : Option AppRecord → ℕ
order_in None = 0
order_in (Some one) = one.end_order

-- when the end of the application with this id was kept, as a place among the operations
abbrev pub completion_order : List AppRecord → AppId → ℕ
completion_order apps id = order_in (record_of apps id)

-- the end of each of these was kept no earlier
abbrev pub AllLater : List AppRecord → ℕ → List AppId → Type 0
AllLater apps n [] = Unit {0}
AllLater apps n (id ∷ more) = (n ≤ completion_order apps id) × AllLater apps n more

-- the end of each of these was kept no later than those of the ones after it
abbrev pub InOrder : List AppRecord → List AppId → Type 0
InOrder apps [] = Unit {0}
InOrder apps (id ∷ more) = AllLater apps (completion_order apps id) more × InOrder apps more

-- the event looks for an application to remove
abbrev pub is_retire : MainEvent → Bool
is_retire mains.Retire = true
is_retire _ = false

-- no two records are of one application; the completed stand in order, and none ended after what is recorded; and where there are more of
-- them than are remembered, one is still to be removed
pub record Completes (t : Tables) : Type 0 where
  pub once : (id : AppId) → count_by (λ app. is_app app.id id) t.tree.apps ≤ 1
  pub in_order : InOrder t.tree.apps t.ended
  pub early : (id : AppId) → completion_order t.tree.apps id ≤ t.tree.applied
  pub retires : t.settings.max_completed < length t.ended → 1 ≤ count_by is_retire t.main
