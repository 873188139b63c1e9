use Rattle.std.proofs.Common.{◌≡◌, ◌++◌, drop}
use Rattle.std.specs.Prelude.{option_map}
use Rattle.serde_json.specs.View.{items_view}
use Rattle.rm_cluster.specs.Queues.{queue_list_of}
use Rattle.rm_cluster.proofs.queues.queue_list_of.Given as goal

-- what is read so far, before what the values that are left are read as
abbrev pub invariant-loop-value : goal.invariant-loop-value
invariant-loop-value l = option_map (λ rest. l.queues ++ rest) (queue_list_of (items_view (drop l.value-index l.values))) ≡ queue_list_of (items_view l.values)
