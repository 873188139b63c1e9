use Rattle.std.proofs.Common.{sym, ap, ◌∙◌}
use Rattle.std.specs.Str.{bytes_eq}
use Rattle.rm_types.specs.Rights.{home, may_administer}
use Rattle.rm_queues.specs.Acls.{allows, meaning_of}
use Rattle.rm_queues.proofs.Alternatives.{second_passes, third_decides}
use Rattle.rm_queues.proofs.trees.QueueTree.may_kill.Goals as goal

pub returns-then-may_administer : goal.returns-then-may_administer
returns-then-may_administer c =
    let at_home = c.home.ensures ∙ ap (home c.args.self.now.queues) c.bytes-2.ensures in
    let passes = ap (may_administer c.args.self.now c.args.user.now) (sym at_home) ∙ sym c.may_administer.ensures ∙ c.if-may_administer.true in
    second_passes _ _ _ passes

pub returns : goal.returns
returns c =
    let other = ap (bytes_eq c.args.user.now) (sym c.bytes.ensures) ∙ sym c.if-eq.ensures in
    let at_home = c.home.ensures ∙ ap (home c.args.self.now.queues) c.bytes-2.ensures in
    let fails = ap (may_administer c.args.self.now c.args.user.now) (sym at_home) ∙ sym c.may_administer.ensures ∙ c.if-may_administer.false in
    let is =
    c.allows.ensures
    ∙ ap (λ acl. allows acl c.args.user.now c.groups_of.result.now) (c.in_ok-modify.ensures.meaning ∙ ap meaning_of c.bytes-3.ensures)
    ∙ ap (allows (meaning_of c.args.submission.now.modify) c.args.user.now) c.groups_of.ensures in
    third_decides _ _ _ c.allows.result other fails is
