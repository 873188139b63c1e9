use Rattle.std.proofs.Common.{refl}
use Rattle.rm_sched.proofs.absorbing.absorb.Goals as goal

pub take_in-requires-clause-fit : goal.take_in-requires-clause-fit
take_in-requires-clause-fit c =
    let order = rw c.as_slice.ensures at c.in_ok-not_taken.ensures in
    rw (c.as_slice-2.ensures, c.as_slice-3.ensures, c.get.ensures, c.get-2.ensures, c.in_ok-taken.ensures, c.in_ok-ended.ensures) (c.requires.fit c.in_ok-not_taken.not_taken order)

pub returns-clause-ok : goal.returns-clause-ok
returns-clause-ok c =
    let order = rw c.as_slice.ensures at c.in_ok-not_taken.ensures in
    let took = rw (c.as_slice-2.ensures, c.as_slice-3.ensures, c.get.ensures, c.get-2.ensures, c.in_ok-taken.ensures, c.in_ok-ended.ensures) at c.in_ok-take_in.ensures.ok in
    (c.in_ok-not_taken.not_taken, order, rw (c.in_ok-node.ensures, c.in_ok-logged.ensures, c.in_ok-taken.ensures, c.in_ok-ended.ensures, took) refl)
