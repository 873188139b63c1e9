use Rattle.std.proofs.Common.{◌∙◌, sym}
use Rattle.std.proofs.lemmas.List.Sums.{fold_more}
use Rattle.rm_tables.specs.Absorbing.{unlaunched_here}
use Rattle.rm_sched.proofs.absorbing.unlaunch_on.Goals as goal

pub ids-preserved : goal.ids-preserved
ids-preserved c =
    let more = fold_more (unlaunched_here c.args.name.now) c.args.nodes.now c.args.ids.now c.ids.id-index _ c.ids-test.true in
    c.unlaunch_here.ensures ∙ rw c.ids.invariant (sym more)
