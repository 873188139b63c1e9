use Rattle.std.proofs.Common.{sym, ap, ◌∙◌}
use Rattle.rm_queues.specs.Acls.{allows, meaning_of}
use Rattle.rm_queues.proofs.Alternatives.{on_and_second}
use Rattle.rm_queues.proofs.trees.QueueTree.is_allowed.Goals as goal

pub returns-else-is_admitted_along : goal.returns-else-is_admitted_along
returns-else-is_admitted_along c =
    let tree = rw c.self.view_is at c.self.invariant in
    let on = rw c.self.view_is at c.if-not-self.false in
    let fails = sym c.is_admitted_along.ensures ∙ c.if-is_admitted_along.false in
    let is =
    c.allows.ensures
    ∙ ap (λ acl. allows acl c.args.user.now c.groups_of-groups.result.now) tree.all
    ∙ ap (allows (meaning_of c.args.self.now.admin_acl) c.args.user.now) c.groups_of-groups.ensures in
    on_and_second c.args.self.now.acl_enable _ _ c.allows.result on fails is
