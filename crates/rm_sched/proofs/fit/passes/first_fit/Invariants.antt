use Rattle.std.proofs.Common.{◌≡◌, ◌+◌, ◌≤◌, ◌++◌, drop, length}
use Rattle.rm_book.specs.AskTables.{attempt_asks}
use Rattle.rm_sched.proofs.fit.Passing.{pass_grants}
use Rattle.rm_sched.proofs.fit.passes.first_fit.Given as goal

abbrev pub invariant-turns : goal.invariant-turns
invariant-turns l = record {
  grants : l.grants ++ pass_grants l.node l.epoch (attempt_asks l.asks) l.left (drop l.turn-index l.order) ≡ pass_grants l.node l.epoch (attempt_asks l.asks) l.initial.left l.order;
  room : length l.grants + l.left.vcores ≤ 256;
}
