use Rattle.std.proofs.Common.{◌≡◌, ◌++◌, drop}
use Rattle.std.specs.Prelude.{option_map}
use Rattle.serde_json.specs.View.{items_view}
use Rattle.rm_cluster.specs.Readings.{names_of}
use Rattle.rm_cluster.proofs.groups.names_of.Given as goal

-- what is read so far, before what the values that are left are read as
abbrev pub invariant-loop-value : goal.invariant-loop-value
invariant-loop-value l = option_map (λ rest. l.names ++ rest) (names_of (items_view (drop l.value-index l.values))) ≡ names_of (items_view l.values)
