use Rattle.std.proofs.Common.{◌≡◌, ◌*◌, ◌^◌, ◌≤◌, take}
use Rattle.std.specs.Prelude.{sum_by}
use Rattle.rm_report.specs.Counting.{kept_bytes_in}
use Rattle.rm_report.proofs.summaries.kept_bytes.Given as goal

abbrev pub invariant-entries : goal.invariant-entries
invariant-entries l = record { few : l.total ≤ l.entry-index * 2 ^ 64; counted : l.total ≡ sum_by kept_bytes_in (take l.entry-index l.entries) }
