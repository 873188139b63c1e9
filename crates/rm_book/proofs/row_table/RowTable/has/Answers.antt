use Rattle.rm_book.proofs.Common.{is_some, ap, ◌∙◌}
use Rattle.rm_book.proofs.Kept.{has_kept}
use Rattle.rm_book.proofs.GroupSteps.{some_copied}
use Rattle.rm_book.proofs.row_table.RowTable.has.Goals as goal

pub returns : goal.returns
returns c =
    rw (← c.self.view_is) (c.is_some.ensures ∙ some_copied c.get.result ∙ ap is_some c.get.ensures.value ∙ has_kept c.self.invariant c.args.id)
