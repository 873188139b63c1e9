use Rattle.std.proofs.Common.{◌≡◌, ℕ, ◌<◌, Some, length, slice_get}
use Rattle.rm_types.specs.declared.records.AppRecord.{AppRecord}
use Rattle.rm_conditions.proofs.counts.have_fewer.Given as goal

abbrev pub invariant-records : goal.invariant-records
invariant-records l = (place : ℕ) (app : AppRecord) → place < l.place → slice_get l.tree.apps place ≡ Some app → length app.attempts < l.bound
