use Rattle.std.proofs.Common.{◌≡◌, ◌-◌, ◌++◌}
use Rattle.rm_sched.specs.fit.Turns.{granted_from}
use Rattle.rm_sched.proofs.fit.turns.grant_some.Given as goal

abbrev pub invariant-loop-seq : goal.invariant-loop-seq
invariant-loop-seq l =
    l.grants ≡ l.initial.grants ++ granted_from (record { node = l.node; epoch = l.epoch; attempt = l.attempt }) l.size l.first (l.seq - l.first)
