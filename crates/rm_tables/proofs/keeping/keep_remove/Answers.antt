use Rattle.std.proofs.Common.{refl}
use Rattle.rm_types.specs.declared.operations.Op.TheVariants.{Remove}
use Rattle.rm_tables.proofs.keeping.keep_remove.Goals as goal

pub returns-clause-ok : goal.returns-clause-ok
returns-clause-ok c = λ rest e.
    let op = Remove c.args.id in
    (c.in_ok-entry.ensures op rest e, rw (c.remove.ensures, c.in_ok-take_up.ensures.ok op rest e) refl)
