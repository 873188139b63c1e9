use Rattle.std.proofs.Common.{◌≡◌, ◌≤◌, take, is_some, count_by}
use Rattle.rm_sched.proofs.passing.count_ended.Given as goal

abbrev pub invariant-attempts : goal.invariant-attempts
invariant-attempts l = record {
  ended : l.ended ≡ count_by (λ one. is_some one.ending) (take l.one-index l.attempts);
  within : l.ended ≤ l.one-index;
}
