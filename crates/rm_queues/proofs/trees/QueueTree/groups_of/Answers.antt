use Rattle.std.proofs.Common.{[], unwrap_or, option_map, sym, ap, ◌∙◌}
use Rattle.std.specs.Str.{bytes_eq}
use Rattle.rm_queues.proofs.FirstPlaces.{find-at_place, find-no_place}
use Rattle.rm_queues.proofs.trees.QueueTree.groups_of.Goals as goal

pub returns-in-Some : goal.returns-in-Some
returns-in-Some c =
    let tree = rw c.self.view_is at c.self.invariant in
    let at = rw c.self.view_is at c.at.ensures in
    let place = sym (tree.by_user c.args.user.now) ∙ sym c.place.ensures ∙ c.in-Some.is in
    let found = find-at_place (λ one. bytes_eq one.user c.args.user.now) c.args.self.now.groups c.in-Some.place c.at.result.now place at in
    c.as_slice.ensures ∙ sym (ap (λ one. unwrap_or (option_map (λ it. it.groups) one) []) found)

pub returns-in-None : goal.returns-in-None
returns-in-None c =
    let tree = rw c.self.view_is at c.self.invariant in
    let place = sym (tree.by_user c.args.user.now) ∙ sym c.place.ensures ∙ c.in-None.is in
    let found = find-no_place (λ one. bytes_eq one.user c.args.user.now) c.args.self.now.groups place in
    sym (ap (λ one. unwrap_or (option_map (λ it. it.groups) one) []) found)
