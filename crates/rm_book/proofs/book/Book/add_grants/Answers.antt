use Rattle.rm_book.proofs.Common.{◌≡◌, ◌++◌, List, map, subst, sym, refl, ap, ◌∙◌, Granted, Held, Resource, total_of, Fits}
use Rattle.rm_book.specs.Books.{granted_rows}
use Rattle.rm_book.specs.Kept.{entered_rows, held_of}
use Rattle.rm_book.proofs.Batch.{entered_granted, fresh_grants}
use Rattle.rm_book.proofs.BookSteps.{raised_by_list, seen, sizes_held, used_raised, within_kept}
use Rattle.rm_book.proofs.Changes.{grants_entered}
use Rattle.rm_book.proofs.book.Book.add_grants.Goals.{After-raise}
use Rattle.rm_book.proofs.book.Book.add_grants.Goals as goal

pub enter_all-requires-clause-new : goal.enter_all-requires-clause-new
enter_all-requires-clause-new g c =
    let new = rw (← c.self.view_is) at c.requires.new in
    rw (c.deref.ensures.value, c.in_ok-list.ensures, c.as_slice.ensures) (fresh_grants c.self.inside.rows c.args.grants.now new)

pub total_of-requires : goal.total_of-requires
total_of-requires g c =
    let free = sym c.unwrap-free.ensures ∙ c.free_of.ensures in
    let fits = rw (sym free) at c.requires.fit in
    rw (c.deref-2.ensures.value, c.in_ok-list.ensures, c.as_slice.ensures) (subst (λ (sizes : List Resource). Fits (total_of sizes) c.unwrap-free.result) (sym (sizes_held c.args.grants.now)) fits)

pub raise-requires : goal.raise-requires
raise-requires g c = within_kept c.self.invariant c.args.node.now

-- the rows after it: those before it and those of the grants, as the list enters them
entered : (g : _) (c : After-raise g) → c.enter_all.new.rows ≡ c.self.inside.rows ++ entered_rows Granted c.self.inside.added c.args.node.now (map held_of c.args.grants.now)
entered g c =
    c.in_ok-enter_all.ensures.ok ∙ ap (λ (l : List Held). c.self.inside.rows ++ entered_rows Granted c.self.inside.added c.args.node.now l) (c.deref.ensures.value ∙ c.in_ok-list.ensures ∙ ap (map held_of) c.as_slice.ensures)

-- the same rows, as the grants are seen
granted : (g : _) (c : After-raise g) → c.enter_all.new.rows ≡ c.self.inside.rows ++ granted_rows c.self.inside.added c.args.grants.now
granted g c = entered g c ∙ ap (λ l. c.self.inside.rows ++ l) (entered_granted c.self.inside.added c.args.node.now c.args.grants.now c.requires.on)

pub invariant_of-self-2 : goal.invariant_of-self-2
invariant_of-self-2 g c =
    let there = (goal.at.invariant_of-self-2 g c).After-raise in
    let counted = rw c.len.ensures at c.in-Some.ensures.1 in
    let total : c.total_of.result ≡ total_of (map (λ held. held.size) (map held_of c.args.grants.now)) =
    c.total_of.ensures ∙ ap (λ (l : List Held). total_of (map (λ held. held.size) l)) (c.deref-2.ensures.value ∙ c.in_ok-list.ensures ∙ ap (map held_of) c.as_slice.ensures) in
    record {
      book =
          rw c.raise.ensures.shown
          (grants_entered (seen c.self.inside.nodes.map.entries c.self.inside.rows c.self.inside.added) c.args.node.now c.args.grants.now c.enter_all.new.rows c.in-Some.added c.self.invariant.book c.requires.on (rw (← c.self.view_is) at c.requires.new)
          (rw (← c.self.view_is) at c.requires.fit) (granted g there) counted);
      used = used_raised c.self.invariant c.raise.new.self.map.entries (raised_by_list Granted c.self.inside.added (map held_of c.args.grants.now) (entered g there) total) c.raise.ensures.loads;
    }

pub returns-clause-ok : goal.returns-clause-ok
returns-clause-ok g c =
    let counted = rw c.len.ensures at c.in-Some.ensures.1 in
    rw (← c.self.view_is) (rw (granted g (goal.at.returns-clause-ok g c).After-raise, c.raise.ensures.shown, counted) refl)
