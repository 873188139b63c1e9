use Rattle.std.proofs.Common.{◌≡◌, ℕ, ◌<◌, Some, true, option_map, slice_get}
use Rattle.rm_types.specs.declared.ids.AppId.{AppId}
use Rattle.rm_tables.specs.Rows.{row_of}
use Rattle.rm_conditions.specs.Passes.{is_early}
use Rattle.rm_conditions.proofs.passes.are_early.Given as goal

abbrev pub invariant-slots : goal.invariant-slots
invariant-slots l = (place : ℕ) (id : AppId) → place < l.place → option_map (λ slot. slot.0) (slice_get l.rows place) ≡ Some id → is_early (row_of l.rows id) ≡ true
