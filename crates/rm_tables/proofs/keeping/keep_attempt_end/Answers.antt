use Rattle.std.proofs.Common.{refl}
use Rattle.rm_types.specs.declared.operations.Op.TheVariants.{AttemptEnd}
use Rattle.rm_tables.proofs.keeping.keep_attempt_end.Goals as goal

pub returns-clause-ok : goal.returns-clause-ok
returns-clause-ok c = λ x rest e.
    let op = AttemptEnd c.args.id c.args.how x in
    (c.in_ok-entry.ensures op rest e, rw (c.clear.ensures.table, c.change.ensures, c.in_ok-take_up_removing.ensures.ok op rest e) refl)
