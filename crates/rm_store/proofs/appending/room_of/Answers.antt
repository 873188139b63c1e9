use Rattle.rm_store.proofs.Common.{◌+◌, length, arith, Op, frame}
use Rattle.rm_store.proofs.Puts.{sums_got}
use Rattle.rm_store.proofs.appending.room_of.Goals as goal

pub ops-preserved : goal.ops-preserved
ops-preserved c =
    let got = sums_got (λ (one : Op). length (frame one) + 5) c.args.ops.now c.ops.place c.at.result.now c.at.ensures in
    let was = c.ops.invariant in
    let many = c.in_ok-many.ensures in
    let a = c.saturating_sub-room-in-ops.ensures in
    omega (arith, got, was, many, a)
