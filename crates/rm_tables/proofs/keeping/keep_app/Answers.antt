use Rattle.std.proofs.Common.{refl}
use Rattle.rm_types.specs.declared.operations.Op.TheVariants.{App}
use Rattle.rm_tables.proofs.keeping.keep_app.Goals as goal

pub returns-clause-ok : goal.returns-clause-ok
returns-clause-ok c = λ s rest e.
    let op = App c.args.id s in
    (c.in_ok-entry.ensures op rest e, rw (c.change.ensures, c.in_ok-take_up_with.ensures.ok op rest e) refl)
