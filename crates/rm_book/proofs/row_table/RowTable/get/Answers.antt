use Rattle.rm_book.proofs.Common.{◌∙◌}
use Rattle.rm_book.proofs.Kept.{found_kept}
use Rattle.rm_book.proofs.row_table.RowTable.get.Goals as goal

pub returns-clause-row : goal.returns-clause-row
returns-clause-row c =
    rw (← c.self.view_is) (c.get.ensures.value ∙ found_kept c.self.invariant c.args.id)

pub returns-clause-apart : goal.returns-clause-apart
returns-clause-apart c = rw (← c.self.view_is) c.self.invariant.apart
