use Rattle.std.proofs.Common.{◌≡◌, length}
use Rattle.std.specs.Prelude.{max}
use Rattle.rm_report.specs.Summaries.{longest}
use Rattle.rm_report.proofs.longest.longest.Given as goal

abbrev pub invariant-entries : goal.invariant-entries
invariant-entries l = max l.most (longest l.rest) ≡ longest l.initial.rest

abbrev pub decreases-entries : goal.decreases-entries
decreases-entries l = length l.rest
