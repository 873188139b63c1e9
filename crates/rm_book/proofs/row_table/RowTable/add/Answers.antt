use Rattle.rm_book.proofs.Common.{sym, ◌∙◌, bytes_eq, is_app}
use Rattle.rm_book.proofs.GroupSteps.{at_err, at_ok}
use Rattle.rm_book.proofs.Kept.{added_undone, added_kept, new_of, new_on, new_to, none_kept, same_kept}
use Rattle.rm_book.proofs.row_table.RowTable.add.Goals as goal

pub join-requires-clause-new_on : goal.join-requires-clause-new_on
join-requires-clause-new_on c =
    let new = rw (← c.self.view_is) at c.requires in
    new_on c.self.invariant c.args.id c.args.node.now new

pub join-requires-clause-new_of : goal.join-requires-clause-new_of
join-requires-clause-new_of c =
    let new = rw (← c.self.view_is) at c.requires in
    new_of c.self.invariant c.args.id c.args.id.attempt.app new

pub enter-requires-clause-none : goal.enter-requires-clause-none
enter-requires-clause-none c =
    let new = rw (← c.self.view_is) at c.requires in
    none_kept c.self.invariant c.args.id new

pub enter-requires-clause-new : goal.enter-requires-clause-new
enter-requires-clause-new c =
    let new = rw (← c.self.view_is) at c.requires in
    new_to c.self.invariant c.args.id c.args.id.attempt new

pub invariant_of-self-then-is_err : goal.invariant_of-self-then-is_err
invariant_of-self-then-is_err c =
    let new = rw (← c.self.view_is) at c.requires in
    let nodes = c.self.inside.by_node.map.entries in
    let apps = c.self.inside.by_app.map.entries in
    let err = sym c.is_err.ensures.value ∙ c.if-is_err.true in
    let stays = at_err c.enter.result err c.enter.ensures.same_list in
    let kept = same_kept c.self.invariant
    (added_undone bytes_eq (bytes_eq c.args.node.now) c.args.id nodes c.join.new.nodes.map.entries c.leave.new.nodes.map.entries
    (λ node on. new_on c.self.invariant c.args.id node new) c.in_ok-join.ensures.nodes c.leave.ensures.nodes)
    (added_undone is_app (is_app c.args.id.attempt.app) c.args.id apps c.join.new.apps.map.entries c.leave.new.apps.map.entries
    (λ app of. new_of c.self.invariant c.args.id app new) c.in_ok-join.ensures.apps c.leave.ensures.apps)
    (at_err c.enter.result err c.enter.ensures.same_untold) in
    rw stays kept

pub invariant_of-self-else-is_err : goal.invariant_of-self-else-is_err
invariant_of-self-else-is_err c =
    let new = rw (← c.self.view_is) at c.requires in
    let ok = sym c.is_err.ensures.value ∙ c.if-is_err.false in
    let added = at_ok c.enter.result ok c.enter.ensures.list in
    let name = c.in_ok-copy.ensures in
    added_kept c.self.invariant (record { id = c.args.id; node = c.args.node.now; size = c.args.size; state = c.args.state; told = c.args.told }) c.enter.new.list new (rw name at added)
    c.in_ok-join.ensures.nodes c.in_ok-join.ensures.apps (at_ok c.enter.result ok c.enter.ensures.untold)
