use Rattle.std.proofs.Common.{◌≡◌, ◌++◌, [], length}
use Rattle.rm_report.specs.Summaries.{tally}
use Rattle.rm_report.proofs.tallies.put_tally.Given as goal

abbrev pub invariant-entries : goal.invariant-entries
invariant-entries g l = l.initial.sheet ++ tally g.N.Naming.name [] l.initial.rest ≡ l.sheet ++ tally g.N.Naming.name l.before l.rest

abbrev pub decreases-entries : goal.decreases-entries
decreases-entries g l = length l.rest
