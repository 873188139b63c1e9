use Rattle.std.proofs.Common.{option_and_then, sym, ap, ◌∙◌, subst}
use Rattle.std.specs.List.{slice_get}
use Rattle.rm_types.specs.Rights.{path_of}
use Rattle.rm_queues.specs.Trees.{path_admits, node_allows}
use Rattle.rm_queues.proofs.FirstPlaces.{first_in-first_place}
use Rattle.rm_queues.proofs.Homes.{turn, turn-admits, turn-goes_on, turn-next, turn-shorter}
use Rattle.rm_queues.proofs.Walks.{IsPlaceNext, IsPlaceNext-first, from_path}
use Rattle.rm_queues.proofs.trees.QueueTree.is_admitted_along.Goals as goal

pub loop-next-init : goal.loop-next-init
loop-next-init c =
    let tree = rw c.self.view_is at c.self.invariant in
    let first = c.nearest-next.ensures ∙ first_in-first_place c.args.self.now.queues c.self.inside.places (path_of c.args.queue.now) tree.by_name in
    record {
      place = subst (IsPlaceNext c.args.self.now.queues) (sym first) (IsPlaceNext-first c.args.self.now.queues (path_of c.args.queue.now));
      same =
          ap (λ next. path_admits c.args.op c.args.self.now c.args.user.now (option_and_then (slice_get c.args.self.now.queues) next)) first
          ∙ sym (from_path c.args.op c.args.self.now c.args.user.now c.args.queue.now tree.rules);
    }

pub returns-then-admits : goal.returns-then-admits
returns-then-admits c =
    let tree = rw c.self.view_is at c.self.invariant in
    let here = turn c.args.op c.args.self.now c.args.user.now c.args.queue.now c.loop-next.next c.in-Some.place c.self.inside.nodes.items c.index-node.result.now c.in-Some.is c.loop-next.invariant.place c.loop-next.invariant.same tree.each c.index-node.ensures in
    let admits = ap (node_allows c.args.op c.index-node.result.now c.args.user.now) (sym c.requires) ∙ sym c.admits.ensures ∙ c.if-admits.true in
    turn-admits c.args.op c.args.self.now c.args.user.now c.args.queue.now c.in-Some.place c.index-node.result.now here.0 tree.rules here.1 admits

pub loop-next-smaller : goal.loop-next-smaller
loop-next-smaller c =
    let tree = rw c.self.view_is at c.self.invariant in
    let here = turn c.args.op c.args.self.now c.args.user.now c.args.queue.now c.loop-next.next c.in-Some.place c.self.inside.nodes.items c.index-node.result.now c.in-Some.is c.loop-next.invariant.place c.loop-next.invariant.same tree.each c.index-node.ensures in
    turn-shorter c.args.op c.args.self.now c.args.user.now c.args.queue.now c.loop-next.next c.in-Some.place c.index-node.result.now here.0 c.in-Some.is here.1

pub loop-next-preserved : goal.loop-next-preserved
loop-next-preserved c =
    let tree = rw c.self.view_is at c.self.invariant in
    let here = turn c.args.op c.args.self.now c.args.user.now c.args.queue.now c.loop-next.next c.in-Some.place c.self.inside.nodes.items c.index-node.result.now c.in-Some.is c.loop-next.invariant.place c.loop-next.invariant.same tree.each c.index-node.ensures in
    let refuses = ap (node_allows c.args.op c.index-node.result.now c.args.user.now) (sym c.requires) ∙ sym c.admits.ensures ∙ c.if-admits.false in
    record {
      place = turn-next c.args.op c.args.self.now c.args.user.now c.args.queue.now c.in-Some.place c.index-node.result.now here.0 here.1;
      same = turn-goes_on c.args.op c.args.self.now c.args.user.now c.args.queue.now c.in-Some.place c.index-node.result.now here.0 tree.rules here.1 refuses;
    }
