use Rattle.rm_dispatch.proofs.deciding.done.Goals as goal

pub returns-clause-ok : goal.returns-clause-ok
returns-clause-ok c =
    let found = rw c.in-Some.is at c.find.ensures in
    rw (← found, c.in-Some-current.is) c.done_in.ensures.ok
