use Rattle.rm_master.proofs.Common.{ap, ◌∙◌, List, ContainerId, BookOf}
use Rattle.rm_book.specs.Books.{with_handed_over}
use Rattle.rm_master.specs.Answers.{handed_over}
use Rattle.rm_master.proofs.HandedOver.{more_kept, none_handed, one_handed}
use Rattle.rm_master.proofs.registering.hand_over_all.Goals as goal

pub grants-init : goal.grants-init
grants-init c = none_handed c.args.book.now

pub grants-preserved : goal.grants-preserved
grants-preserved c =
    c.hand_over.ensures
    ∙ ap (λ (book : BookOf). with_handed_over book c.grant-item.result.id) c.grants.invariant
    ∙ one_handed _ c.grant-item.result.id c.args.book.now
    ∙ ap (λ (told : List ContainerId). handed_over told c.args.book.now) (more_kept c.args.grants.now c.grants.grant-index c.grant-item.result c.grants-test.true c.grant-item.is)
