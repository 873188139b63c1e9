use Rattle.rm_book.proofs.Common.{length, ap, ◌∙◌, values_of, is_app}
use Rattle.rm_book.proofs.Kept.{count_where}
use Rattle.rm_book.proofs.row_table.RowTable.count_of.Goals as goal

pub returns : goal.returns
returns c =
    rw (← c.self.view_is) (c.count.ensures ∙ ap length (c.self.invariant.by_app c.args.app)
    ∙ count_where (λ row. is_app row.id.attempt.app c.args.app) (values_of c.self.inside.list))
