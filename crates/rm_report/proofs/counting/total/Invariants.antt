use Rattle.std.proofs.Common.{◌≡◌, ◌*◌, ◌^◌, ◌≤◌, take}
use Rattle.std.specs.Prelude.{sum_by}
use Rattle.rm_report.proofs.counting.total.Given as goal

abbrev pub invariant-entries : goal.invariant-entries
invariant-entries g l = record { few : l.total ≤ l.entry-index * 2 ^ 64; counted : l.total ≡ sum_by g.M.Measure.weight (take l.entry-index l.entries) }
