use Rattle.rm_master.proofs.Common.{ap, ◌∙◌, sym, List, take, ContainerId, Acquired, BookOf}
use Rattle.rm_book.specs.Books.{with_state}
use Rattle.rm_master.specs.Answers.{acquired, ids_granted, own_grants}
use Rattle.rm_master.proofs.Acquired.{more_granted, none_acquired, none_granted, one_acquired, told_at}
use Rattle.rm_master.proofs.allocating.acquire_all.Goals.{then-eq, else-eq}
use Rattle.rm_master.proofs.allocating.acquire_all.Goals as goal

pub grants-init : goal.grants-init
grants-init c = none_acquired c.args.book.now

pub grants-preserved : goal.grants-preserved
grants-preserved c =
    elim c.if-eq.branch [
      | then-eq w ↦
          rw w.book-is (w.tell.ensures.state
          ∙ ap (λ (book : BookOf). with_state book c.grant-item.result.id Acquired) c.grants.invariant
          ∙ one_acquired _ c.grant-item.result.id c.args.book.now
          ∙ ap (λ (told : List ContainerId). acquired told c.args.book.now)
          (more_granted c.args.attempt c.args.grants.now c.grants.grant-index c.grant-item.result c.grants-test.true c.grant-item.is (sym c.eq.ensures ∙ w.if-eq.true)))
      | else-eq w ↦
          rw w.book-is (c.grants.invariant
          ∙ ap (λ (told : List ContainerId). acquired told c.args.book.now)
          (none_granted c.args.attempt c.args.grants.now c.grants.grant-index c.grant-item.result c.grants-test.true c.grant-item.is (sym c.eq.ensures ∙ w.if-eq.false)))
    ]

pub tell-requires : goal.tell-requires
tell-requires c =
    rw c.grants.invariant
    (told_at c.args.attempt (ids_granted (own_grants c.args.attempt (take c.grants.grant-index c.args.grants.now))) c.args.book.now.rows c.args.grants.now c.grants.grant-index c.grant-item.result c.requires
    (sym c.eq.ensures ∙ c.if-eq.true) c.grants-test.true c.grant-item.is)
