use Rattle.std.proofs.Common.{◌≡◌, ◌≤◌, take, count_by}
use Rattle.rm_report.specs.Naming.{names_subject}
use Rattle.rm_report.proofs.following.lines_naming.Given as goal

abbrev pub invariant-entries : goal.invariant-entries
invariant-entries l = record { few : l.naming ≤ l.entry-index; counted : l.naming ≡ count_by (names_subject l.subject) (take l.entry-index l.entries) }
