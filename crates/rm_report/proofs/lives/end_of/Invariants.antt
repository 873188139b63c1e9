use Rattle.std.proofs.Common.{◌≡◌, length}
use Rattle.rm_report.specs.Summaries.{end_of}
use Rattle.rm_report.proofs.lives.end_of.Given as goal

abbrev pub invariant-entries : goal.invariant-entries
invariant-entries l = end_of l.rest ≡ end_of l.initial.rest

abbrev pub decreases-entries : goal.decreases-entries
decreases-entries l = length l.rest
