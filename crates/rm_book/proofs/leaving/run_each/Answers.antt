use Rattle.rm_book.proofs.Common.{◌∙◌}
use Rattle.rm_book.proofs.LeavingSteps.{none_ran, ran_more}
use Rattle.rm_book.proofs.leaving.run_each.Goals as goal

pub taken-preserved : goal.taken-preserved
taken-preserved c =
    c.step.ensures.rows ∙ ran_more c.args.taken.now c.taken.held-index _ c.args.rows.now c.taken.rows c.taken-test.true c.requires c.taken.invariant

pub taken-init : goal.taken-init
taken-init c = none_ran c.args.rows.now
