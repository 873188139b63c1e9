use Rattle.std.proofs.Common.{ap, ◌+◌}
use Rattle.rm_sched.specs.fit.Turns.{Spot}
use Rattle.rm_sched.proofs.fit.Counting.{fitting_fits}
use Rattle.rm_sched.proofs.fit.Passing.{some_at, next_ask, turn_step, left_step, room_step}
use Rattle.rm_sched.proofs.fit.turns.grant_turn.Goals as goal

pub fitting-count-requires : goal.fitting-count-requires
fitting-count-requires c = some_at c.args.lines.now c.lines.line-index _ c.lines-test.true c.requires.sizes

pub rest-left-requires-clause-memory : goal.rest-left-requires-clause-memory
rest-left-requires-clause-memory c = rw c.fitting-count.ensures (fitting_fits _ _ c.lines.left).0

pub rest-left-requires-clause-cores : goal.rest-left-requires-clause-cores
rest-left-requires-clause-cores c = rw c.fitting-count.ensures (fitting_fits _ _ c.lines.left).1

pub lines-preserved : goal.lines-preserved
lines-preserved c =
    let spot : Spot = record { node = c.args.node.now; epoch = c.args.epoch; attempt = c.args.turn.attempt } in
    let next = next_ask c.args.lines.now c.lines.line-index _ c.lines-test.true in
    let after = ap (λ n. c.lines.seq + n) c.from-seq.ensures in
    record {
      grants = turn_step spot _ _ _ c.lines.left c.rest-left.result c.fitting-count.result c.lines.seq _ c.lines.grants c.grant_some.new.grants _
          next c.fitting-count.ensures c.rest-left.ensures after c.in_ok-grant_some.ensures c.lines.invariant.grants;
      left = left_step _ _ _ c.lines.left c.rest-left.result _ c.fitting-count.result next c.fitting-count.ensures c.rest-left.ensures c.lines.invariant.left;
      room = room_step _ _ c.lines.left c.rest-left.result c.fitting-count.result c.lines.seq _ _
          (some_at c.args.lines.now c.lines.line-index _ c.lines-test.true c.requires.sizes) c.fitting-count.ensures c.rest-left.ensures after c.lines.invariant.room;
    }
