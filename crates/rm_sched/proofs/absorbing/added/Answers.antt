use Rattle.std.proofs.Common.{sym}
use Rattle.rm_sched.proofs.Absorbable.{absorbable}
use Rattle.rm_sched.proofs.absorbing.added.Goals as goal

pub absorb-requires-clause-once : goal.absorb-requires-clause-once
absorb-requires-clause-once c =
    let found = rw c.in-Some.is at c.find.ensures in
    rw c.in_ok-taken.ensures ((absorbable c.args.t.now c.len-living.ensures.book).once c.args.name.now c.in-Some.row.now (sym found))

pub absorb-requires-clause-fit : goal.absorb-requires-clause-fit
absorb-requires-clause-fit c =
    let found = rw c.in-Some.is at c.find.ensures in
    rw c.in_ok-taken.ensures (λ ended. (absorbable c.args.t.now c.len-living.ensures.book).fit c.args.name.now c.in-Some.row.now ended (sym found))
