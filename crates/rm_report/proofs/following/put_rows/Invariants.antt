use Rattle.std.proofs.Common.{◌≡◌, ◌+◌, ◌++◌, length}
use Rattle.rm_report.specs.Following.{rows}
use Rattle.rm_report.proofs.following.put_rows.Given as goal

abbrev pub invariant-entries : goal.invariant-entries
invariant-entries l = record {
  count : l.above + length l.rest ≡ length l.initial.rest;
  told : l.initial.sheet ++ rows l.subject 0 l.initial.rest ≡ l.sheet ++ rows l.subject l.above l.rest;
}

abbrev pub decreases-entries : goal.decreases-entries
decreases-entries l = length l.rest
