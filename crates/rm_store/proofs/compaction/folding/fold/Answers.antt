use Rattle.rm_store.proofs.Common.{◌-◌, length, drop, ap}
use Rattle.rm_store.proofs.compaction.Walked.{one_more}
use Rattle.rm_store.proofs.compaction.folding.fold.Goals as goal

pub ops-preserved : goal.ops-preserved
ops-preserved c =
    let ops = c.args.ops.now in
    let less = rw c.len-count.ensures at c.ops-test.true in
    let more = one_more ops c.ops.done _ c.at.result.now less (ap (λ n. n - 1 - c.ops.done) c.len-count.ensures) c.at.ensures in
    rw more (c.in_ok-look.ensures (drop (length ops - c.ops.done) ops) c.ops.invariant.0 c.ops.invariant.1)
