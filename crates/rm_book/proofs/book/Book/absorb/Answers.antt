use Rattle.rm_book.proofs.Common.{◌≡◌, ◌+◌, ◌++◌, List, map, length, sym, ap, refl, subst, ◌∙◌, arith, Running, Held, total_of}
use Rattle.rm_book.specs.Books.{AreLiving, entering, with_capability}
use Rattle.rm_book.specs.Kept.{entered_rows, nodes_shown}
use Rattle.rm_book.proofs.AbsorbSteps.{absorbed_kept, entering_fits, fresh_entering, left_after, living_left, ran_after, rows_left}
use Rattle.rm_book.proofs.BookSteps.{raised_by_list, seen, used_set, within_kept}
use Rattle.rm_book.proofs.book.Book.absorb.Goals.{After-end_each}
use Rattle.rm_book.proofs.book.Book.absorb.Goals as goal

pub enter_all-requires-clause-new : goal.enter_all-requires-clause-new
enter_all-requires-clause-new g c = rw (c.deref.ensures.value, c.in_ok-list.ensures) (fresh_entering c.self.invariant c.args.node.now c.args.capability c.args.taken.now c.args.ended.now c.requires.once)

pub total_of-requires : goal.total_of-requires
total_of-requires g c =
    let fit = rw (← c.self.view_is) at c.requires.fit in
    rw (c.deref-2.ensures.value, c.in_ok-list.ensures) (entering_fits c.self.invariant c.args.node.now c.args.capability c.args.taken.now c.args.ended.now fit)

pub set-requires-clause-within : goal.set-requires-clause-within
set-requires-clause-within g c = rw (c.in_ok-name.ensures.name, c.room.ensures.same) (within_kept c.self.invariant c.args.node.now)

pub end_each-requires : goal.end_each-requires
end_each-requires g c =
    let list = entering (seen c.self.inside.nodes.map.entries c.self.inside.rows c.self.inside.added) c.args.taken.now in
    let joined : c.enter_all.new.rows ≡ c.self.inside.rows ++ entered_rows Running c.self.inside.added c.args.node.now list =
    c.in_ok-enter_all.ensures.ok ∙ ap (λ l. c.self.inside.rows ++ entered_rows Running c.self.inside.added c.args.node.now l) (c.deref.ensures.value ∙ c.in_ok-list.ensures) in
    let total : c.total_of.result ≡ total_of (map (λ held. held.size) list) = c.total_of.ensures ∙ ap (λ (l : List Held). total_of (map (λ held. held.size) l)) (c.deref-2.ensures.value ∙ c.in_ok-list.ensures) in
    let loads = rw (c.in_ok-name.ensures.name, c.room.ensures.same) at c.set.ensures.loads in
    used_set c.self.invariant c.set.new.self.map.entries (raised_by_list Running c.self.inside.added list joined total) c.args.capability loads

-- what is left of the rows with those that entered
left : (g : _) (c : After-end_each g) → c.end_each.new.rows ≡ rows_left c.self.invariant c.args.node.now c.args.capability c.args.taken.now c.args.ended.now
left g c =
    left_after c.self.invariant c.args.node.now c.args.capability c.args.taken.now c.args.ended.now
    c.in_ok-enter_all.ensures.ok (c.deref.ensures.value ∙ c.in_ok-list.ensures) c.end_each.ensures.rest (c.deref-3.ensures.value ∙ c.in_ok-gone.ensures)

-- the capabilities after it
nodes : (g : _) (c : After-end_each g) → nodes_shown c.end_each.new.nodes.map.entries ≡ with_capability c.args.node.now c.args.capability (nodes_shown c.self.inside.nodes.map.entries)
nodes g c =
    let set = rw (c.in_ok-name.ensures.name, c.room.ensures.same) at c.set.ensures.shown in
    c.end_each.ensures.shown ∙ set

-- how many rows were ever added after it
counted : (g : _) (c : After-end_each g) → c.in-Some.added ≡ c.self.inside.added + length (entering (seen c.self.inside.nodes.map.entries c.self.inside.rows c.self.inside.added) c.args.taken.now)
counted g c =
    let before = rw c.len.ensures at c.in-Some.ensures.1 in
    let many = ap length c.in_ok-list.ensures in
    omega (arith, before, many, c.in_ok-list.list.ok.0)

pub run_each-requires : goal.run_each-requires
run_each-requires g c =
    subst AreLiving (sym (left g (goal.at.run_each-requires g c).After-end_each)) (living_left c.self.invariant c.args.node.now c.args.capability c.args.taken.now c.args.ended.now)

pub invariant_of-self-2 : goal.invariant_of-self-2
invariant_of-self-2 g c =
    let there = (goal.at.invariant_of-self-2 g c).After-end_each in
    let fit = rw (← c.self.view_is) at c.requires.fit in
    absorbed_kept c.self.invariant c.args.node.now c.args.capability c.args.taken.now c.args.ended.now (left g there) c.run_each.ensures (counted g there) (nodes g there) c.end_each.ensures.used c.requires.once fit

pub returns-clause-ok : goal.returns-clause-ok
returns-clause-ok g c =
    let there = (goal.at.returns-clause-ok g c).After-end_each in
    let rows = ran_after c.self.invariant c.args.node.now c.args.capability c.args.taken.now c.args.ended.now (left g there) c.run_each.ensures in
    rw (← c.self.view_is) (rw (rows, nodes g there, counted g there) refl)
