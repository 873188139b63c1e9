use Rattle.rm_book.proofs.Common.{ap, filter, ◌∙◌, rules, filter_same, is_attempt}
use Rattle.rm_book.proofs.IdLists.{attempt_ids}
use Rattle.rm_book.proofs.plain.ids_of.Goals as goal

pub returns : goal.returns
returns c =
    let left = filter_same _ (λ id. is_attempt id.attempt c.args.attempt) _ (λ x b q t. search rules) _ _ c.retain.ensures.filtered in
    left ∙ ap (filter (λ id. is_attempt id.attempt c.args.attempt)) (c.into_vec-ids.ensures ∙ c.in_ok-ids_of.ensures.ids) ∙ attempt_ids c.args.attempt c.args.rows.now
