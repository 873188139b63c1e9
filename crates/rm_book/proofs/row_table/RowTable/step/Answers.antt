use Rattle.rm_book.proofs.Common.{◌≡◌, Some, sym, ap, ◌∙◌, rules, lookup, set_value, values_of, BookRow, is_container, next_container_state}
use Rattle.rm_book.specs.Kept.{RowsAreIndexed}
use Rattle.rm_book.proofs.Kept.{has_kept, rows_stepped, stepped_kept, unstepped_view}
use Rattle.rm_book.proofs.row_table.RowTable.step.Goals as goal

pub returns-in_default-clause-found : goal.returns-in_default-clause-found
returns-in_default-clause-found c = rw (← c.self.view_is) (c.in_default.ensures.some ∙ has_kept c.self.invariant c.args.id)

pub returns-in_default-clause-rows : goal.returns-in_default-clause-rows
returns-in_default-clause-rows c =
    rw (← c.self.view_is) (ap values_of c.in_default.ensures.none ∙ sym (unstepped_view c.self.invariant c.args.id c.args.event c.in_default.ensures.some))

stepped : (c : goal.After-leave_untold) → RowsAreIndexed c.update-former.new.self c.self.inside.by_node.map.entries c.self.inside.by_app.map.entries c.leave_untold.new.untold.map.entries
    × (values_of c.update-former.new.self ≡ rows_stepped c.self.invariant c.args.id c.args.event)
stepped c =
    let wrote : (old : BookRow) → lookup (is_container c.args.id) c.self.inside.list ≡ Some old
    → (c.in-Some.former ≡ old.state) × (c.update-former.new.self ≡ set_value (is_container c.args.id) c.self.inside.list (record old { state = next_container_state old.state c.args.event })) = λ old at. search rules in
    stepped_kept c.self.invariant c.args.id c.args.event c.in-Some.ensures.some wrote c.leave_untold.ensures

pub invariant_of-self-2 : goal.invariant_of-self-2
invariant_of-self-2 c = (stepped c).0

pub returns-clause-found : goal.returns-clause-found
returns-clause-found c = rw (← c.self.view_is) (c.in-Some.ensures.some ∙ has_kept c.self.invariant c.args.id)

pub returns-clause-rows : goal.returns-clause-rows
returns-clause-rows c = rw (← c.self.view_is) (stepped c).1
