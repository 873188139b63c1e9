use Rattle.std.proofs.Common.{◌≡◌, ◌+◌, ◌≤◌, ◌++◌, length}
use Rattle.rm_report.specs.Summaries.{lives_text}
use Rattle.rm_report.proofs.lives.put_lives.Given as goal

abbrev pub invariant-entries : goal.invariant-entries
invariant-entries l = record {
  few : l.number + length l.rest ≤ length l.initial.rest;
  told : l.initial.sheet ++ lives_text 0 l.initial.rest ≡ l.sheet ++ lives_text l.number l.rest;
}

abbrev pub decreases-entries : goal.decreases-entries
decreases-entries l = length l.rest
