use Rattle.std.proofs.Common.{◌≡◌, ℕ, ◌<◌, Some, true, slice_get}
use Rattle.rm_types.specs.declared.records.AppRecord.{AppRecord}
use Rattle.rm_model.specs.Attempts.{attempt_at}
use Rattle.rm_conditions.specs.Passes.{may_have_turn}
use Rattle.rm_conditions.proofs.passes.may_have_turns.Given as goal

abbrev pub invariant-records : goal.invariant-records
invariant-records l = (place : ℕ) (app : AppRecord) → place < l.place → slice_get l.t.tree.apps place ≡ Some app → may_have_turn l.t (attempt_at app) ≡ true
