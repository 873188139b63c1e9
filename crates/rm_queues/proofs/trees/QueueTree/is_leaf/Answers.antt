use Rattle.std.proofs.Common.{not, ◌&&◌, sym, ap, ◌∙◌}
use Rattle.rm_queues.specs.Trees.{any_below}
use Rattle.rm_queues.proofs.FirstPlaces.{IsFirstPlace-from_place, is_queue-some, is_queue-none}
use Rattle.rm_queues.proofs.Homes.{node_at}
use Rattle.rm_queues.proofs.trees.QueueTree.is_leaf.Goals as goal

pub returns-in-Some : goal.returns-in-Some
returns-in-Some c =
    let tree = rw c.self.view_is at c.self.invariant in
    let queues = c.args.self.now.queues in
    let place = sym (tree.by_name c.args.queue.now) ∙ sym c.place.ensures ∙ c.in-Some.is in
    let first = IsFirstPlace-from_place queues c.args.queue.now c.in-Some.place place in
    let node = node_at queues c.self.inside.nodes.items c.in-Some.place c.index.result.now first.0 tree.each c.index.ensures first.1.at in
    ap (λ one. one.is_leaf) node
    ∙ ap (λ name. not (any_below queues name)) first.2
    ∙ sym (ap (λ there. there && not (any_below queues c.args.queue.now)) (is_queue-some queues c.args.queue.now c.in-Some.place place))

pub returns-in-None : goal.returns-in-None
returns-in-None c =
    let tree = rw c.self.view_is at c.self.invariant in
    let queues = c.args.self.now.queues in
    let place = sym (tree.by_name c.args.queue.now) ∙ sym c.place.ensures ∙ c.in-None.is in
    sym (ap (λ there. there && not (any_below queues c.args.queue.now)) (is_queue-none queues c.args.queue.now place))
