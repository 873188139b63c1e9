use Rattle.std.proofs.Common.{refl}
use Rattle.rm_types.specs.declared.operations.Op.TheVariants.{Epoch}
use Rattle.rm_tables.proofs.keeping.keep_epoch.Goals as goal

pub returns-clause-ok : goal.returns-clause-ok
returns-clause-ok c = λ rest e.
    let op = Epoch c.args.next c.args.stamp in
    (c.in_ok-entry.ensures op rest e, rw (c.in_ok-main.ensures, c.in_ok-sched.ensures, c.in_ok-take_up.ensures.ok op rest e) refl)
