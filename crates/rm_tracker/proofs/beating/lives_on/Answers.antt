use Rattle.std.proofs.Common.{◌∙◌}
use Rattle.rm_refinement.proofs.Rows.{first_alone}
use Rattle.rm_tracker.specs.Answers.{is_row_on}
use Rattle.rm_tracker.proofs.beating.lives_on.Goals as goal

pub returns : goal.returns
returns c = c.is_on.ensures ∙ first_alone (is_row_on c.args.name.now) c.args.id c.args.book.now.rows c.requires.apart
