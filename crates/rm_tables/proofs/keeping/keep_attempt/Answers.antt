use Rattle.std.proofs.Common.{refl}
use Rattle.rm_types.specs.declared.operations.Op.TheVariants.{Attempt}
use Rattle.rm_tables.proofs.keeping.keep_attempt.Goals as goal

pub returns-clause-ok : goal.returns-clause-ok
returns-clause-ok c = λ m n rest e.
    let op = Attempt c.args.id m n in
    (c.in_ok-entry.ensures op rest e, rw (c.change.ensures, c.in_ok-take_up_with.ensures.ok op rest e) refl)
