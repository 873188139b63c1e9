use Rattle.rm_book.proofs.Common.{◌&&◌, nat_lt, ap, ◌∙◌, rules, list_any, values_of, ContainerId, is_attempt, Bool}
use Rattle.std.proofs.Common.{◌==◌}
use Rattle.rm_book.proofs.IdLists.{later_ids}
use Rattle.rm_book.proofs.row_table.RowTable.has_later.Goals as goal

pub returns : goal.returns
returns c =
    let p : ContainerId → Bool = λ id. is_attempt id.attempt c.args.attempt && ((id.epoch == c.args.epoch) && nat_lt c.args.seq id.seq) in
    rw (← c.self.view_is)
    (c.any.ensures p (λ id answer r. search rules)
    ∙ ap (list_any p) (c.self.invariant.by_app c.args.attempt.app)
    ∙ later_ids c.args.attempt c.args.epoch c.args.seq (values_of c.self.inside.list))
