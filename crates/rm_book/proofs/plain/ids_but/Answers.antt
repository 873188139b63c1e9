use Rattle.rm_book.proofs.Common.{not, filter, ap, ◌∙◌, rules, filter_same, is_container}
use Rattle.indexmap.specs.IndexSet.{contains}
use Rattle.rm_book.proofs.plain.ids_but.Goals as goal

pub returns : goal.returns
returns c =
    let left = filter_same _ (λ id. not (contains is_container c.in_ok-held.held id)) _ (λ x b q t. search rules) _ _ c.retain.ensures.filtered in
    left ∙ ap (filter (λ id. not (contains is_container c.in_ok-held.held id))) c.into_vec-ids.ensures ∙ (λ j. filter (λ id. not (c.in_ok-held.ensures id j)) c.args.ids)
