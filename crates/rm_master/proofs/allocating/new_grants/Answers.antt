use Rattle.std.proofs.Common.{rules, ◌∙◌, subst, sym}
use Rattle.std.proofs.lemmas.Fn.{filter_same}
use Rattle.rm_types.specs.declared.containers.Grant.{Grant}
use Rattle.rm_types.specs.Ids.{is_attempt}
use Rattle.rm_book.proofs.UntoldGrants.{told_filter}
use Rattle.rm_master.proofs.Common.{not, is_masters_in}
use Rattle.rm_master.proofs.Picked.{new_alone}
use Rattle.rm_master.proofs.allocating.new_grants.Goals as goal

pub returns-clause-grants : goal.returns-clause-grants
returns-clause-grants c =
    rw (filter_same _ (λ grant. not (is_masters_in c.args.t.now.tree.apps grant.id)) _ (λ x b q t. search rules) _ _ c.retain.ensures, c.in_ok-grants.ensures.grants)
    (new_alone c.args.t.now c.args.attempt c.args.told c.requires c.args.t.now.book.rows)

pub returns-clause-told : goal.returns-clause-told
returns-clause-told c =
    rw (filter_same _ (λ grant. not (is_masters_in c.args.t.now.tree.apps grant.id)) _ (λ x b q t. search rules) _ _ c.retain.ensures)
    (told_filter _ (λ grant. is_attempt grant.id.attempt c.args.attempt) _ (told_filter _ (λ grant. not (is_masters_in c.args.t.now.tree.apps grant.id)) _ c.in_ok-grants.ensures.told))
