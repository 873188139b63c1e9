use Rattle.std.proofs.Common.{◌≡◌, Bool, List, subst, sym, ◌∙◌, rules}
use Rattle.rm_types.specs.declared.containers.BookRow.{BookRow}
use Rattle.rm_types.specs.declared.containers.Grant.{Grant}
use Rattle.rm_types.specs.declared.ids.AttemptId.{AttemptId}
use Rattle.rm_book.specs.Books.{IsBook}
use Rattle.rm_book.specs.Granted.{AllMayBeTold}
use Rattle.rm_master.specs.Answers.{own_grants}
use Rattle.rm_master.specs.Told.{is_told_row}
use Rattle.std.proofs.lemmas.Result.{IfOk-weaker}
use Rattle.rm_master.proofs.Picked.{own_told, told_only, within_app}
use Rattle.rm_master.proofs.allocating.late_grants.Goals as goal

pub returns-clause-grants : goal.returns-clause-grants
returns-clause-grants c =
    let t = c.args.t.now in
    let p : BookRow → Bool = is_told_row t c.args.attempt c.args.told in
    IfOk-weaker c.grants_where.result _ _ (λ grants is. is ∙ within_app c.args.attempt.app p (told_only t c.args.attempt c.args.told) t.book.rows) (c.grants_where.ensures p (λ row answer r. search rules))

pub returns-clause-told : goal.returns-clause-told
returns-clause-told c =
    let t = c.args.t.now in
    let p : BookRow → Bool = is_told_row t c.args.attempt c.args.told in
    IfOk-weaker c.grants_where.result _ _
    (λ grants is.
    subst (λ (l : List Grant). AllMayBeTold t.book.rows (own_grants c.args.attempt l)) (sym (is ∙ within_app c.args.attempt.app p (told_only t c.args.attempt c.args.told) t.book.rows))
    (own_told t c.args.attempt c.args.told t.book.rows c.len-living.ensures.book.apart))
    (c.grants_where.ensures p (λ row answer r. search rules))
