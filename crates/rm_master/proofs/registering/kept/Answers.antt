use Rattle.std.proofs.Common.{Bool, rules, ◌∙◌}
use Rattle.rm_types.specs.declared.containers.BookRow.{BookRow}
use Rattle.rm_master.specs.Told.{is_left_row}
use Rattle.std.proofs.lemmas.Result.{IfOk-weaker}
use Rattle.rm_master.proofs.Picked.{left_only, within_app}
use Rattle.rm_master.proofs.registering.kept.Goals as goal

pub returns : goal.returns
returns c =
    let t = c.args.t.now in
    let p : BookRow → Bool = is_left_row t c.args.attempt in
    IfOk-weaker c.grants_where.result _ _ (λ grants is. is ∙ within_app c.args.attempt.app p (left_only t c.args.attempt) t.book.rows) (c.grants_where.ensures p (λ row answer r. search rules))
