use Rattle.std.proofs.Common.{◌≡◌, ◌≤◌, take, count_by}
use Rattle.std.specs.Prelude.{Some}
use Rattle.rm_report.specs.Summaries.{is_same_name}
use Rattle.rm_report.proofs.tallies.count_of.Given as goal

abbrev pub invariant-entries : goal.invariant-entries
invariant-entries g l = record { few : l.count ≤ l.entry-index; counted : l.count ≡ count_by (λ other. is_same_name (Some l.name) (g.N.Naming.name other)) (take l.entry-index l.entries) }
