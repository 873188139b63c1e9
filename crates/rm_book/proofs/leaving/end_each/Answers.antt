use Rattle.rm_book.proofs.Common.{refl, ◌∙◌}
use Rattle.rm_book.proofs.LeavingSteps.{left_more, none_left}
use Rattle.rm_book.proofs.leaving.end_each.Goals as goal

pub ids-preserved : goal.ids-preserved
ids-preserved c = record {
  rest = c.end_row.ensures.rest ∙ left_more c.args.ids.now c.ids.id-index _ c.args.rows.now c.ids.rows c.ids-test.true c.ids.invariant.rest;
  shown = c.end_row.ensures.shown ∙ c.ids.invariant.shown;
  used = c.end_row.ensures.used;
}

pub ids-init : goal.ids-init
ids-init c = record { rest = none_left c.args.rows.now; shown = refl; used = c.requires }
