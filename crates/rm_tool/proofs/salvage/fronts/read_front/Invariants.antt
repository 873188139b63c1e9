use Rattle.std.proofs.Common.{◌≡◌, ◌-◌, ◌<◌, ◌≤◌, ℕ, List, []}
use Rattle.rm_types.specs.Records.{records}
use Rattle.rm_tool.specs.salvage.Steps.{ReadsTo}
use Rattle.rm_tool.proofs.salvage.fronts.read_front.Given as goal

abbrev pub invariant-records : goal.invariant-records
invariant-records l = record {
  same : l.disk ≡ l.fn.disk;
  before : l.reader.gate < l.end;
  amounts : l.reader.tree ≡ records l.reader.ops;
  reads : (start : ℕ) (heads : List (List ℕ)) → ReadsTo l.fn.disk start l.end heads l.fn.gate [] → ReadsTo l.fn.disk start l.end heads l.reader.gate l.reader.ops;
}

abbrev pub decreases-records : goal.decreases-records
decreases-records l = l.end - l.reader.gate
