use Rattle.std.proofs.Common.{not, ap, ◌∙◌}
use Rattle.rm_types.specs.Rights.{parents_of, acl_of}
use Rattle.rm_queues.specs.Acls.{meaning_of}
use Rattle.rm_queues.specs.Places.{first_known_place}
use Rattle.rm_queues.specs.Trees.{any_below}
use Rattle.rm_queues.proofs.Alternatives.{node_by_parts}
use Rattle.rm_queues.proofs.FirstPlaces.{first_in-first_place}
use Rattle.rm_queues.proofs.nodes.Node.of_queue.Goals as goal

pub returns : goal.returns
returns c =
    let queues = c.args.queues.now in
    let queue = c.args.queue.now in
    let name = c.bytes-name.ensures in
    let parent =
    c.nearest_parent-parent.ensures
    ∙ ap (λ one. first_known_place c.args.places.now (parents_of one)) name
    ∙ first_in-first_place queues c.args.places.now (parents_of queue.name) c.requires in
    let leaf = ap not (c.any_below-is_leaf.ensures ∙ ap (any_below queues) name) in
    let submit = c.in_ok-submit.ensures.meaning ∙ ap meaning_of (c.acl_text.ensures ∙ ap (λ one. acl_of one queue.submit) name) in
    let admin = c.in_ok-admin.ensures.meaning ∙ ap meaning_of (c.acl_text-2.ensures ∙ ap (λ one. acl_of one queue.admin) name) in
    node_by_parts queues queue _ _ _ _ parent leaf submit admin
