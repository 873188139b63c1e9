use Rattle.std.proofs.Common.{refl}
use Rattle.rm_types.specs.declared.operations.Op.TheVariants.{AppEnd}
use Rattle.rm_tables.proofs.Kept.{keeps_still}
use Rattle.rm_tables.proofs.keeping.keep_app_end.Goals as goal

pub returns-clause-ok : goal.returns-clause-ok
returns-clause-ok c = λ x rest e.
    let op = AppEnd c.args.id c.args.how x in
    let still = keeps_still c.args.id c.args.how x c.args.t.now.tree.applied c.args.t.now.tree.apps in
    (c.in_ok-entry.ensures op rest e, rw (c.saturating_sub-t.ensures, c.change.ensures, c.in_ok-take_up_app_end.ensures.ok op rest e, still) refl)
