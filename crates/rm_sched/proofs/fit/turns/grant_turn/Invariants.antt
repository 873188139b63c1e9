use Rattle.std.proofs.Common.{◌≡◌, ◌+◌, ◌≤◌, ◌++◌, drop}
use Rattle.rm_sched.specs.fit.Turns.{asks_by, turn_grants, turn_left}
use Rattle.rm_sched.proofs.fit.turns.grant_turn.Given as goal

abbrev pub invariant-lines : goal.invariant-lines
invariant-lines l = record {
  grants : l.grants ++ turn_grants (record { node = l.node; epoch = l.epoch; attempt = l.turn.attempt }) l.left l.seq (asks_by (drop l.line-index l.lines))
      ≡ l.initial.grants ++ turn_grants (record { node = l.node; epoch = l.epoch; attempt = l.turn.attempt }) l.initial.left l.initial.seq (asks_by l.lines);
  left : turn_left l.left (asks_by (drop l.line-index l.lines)) ≡ turn_left l.initial.left (asks_by l.lines);
  room : l.seq + l.left.vcores ≤ l.initial.seq + l.initial.left.vcores;
}
