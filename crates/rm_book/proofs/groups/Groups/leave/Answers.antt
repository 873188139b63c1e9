use Rattle.rm_book.proofs.Common.{refl, sym, ap, ◌∙◌, length, keys_of, is_container}
use Rattle.indexmap.proofs.CallerLemmas.{keys-shift_remove_entry}
use Rattle.indexmap.specs.IndexSet.{remove_key}
use Rattle.rm_book.specs.Kept.{ids_in, ids_under}
use Rattle.rm_book.proofs.GroupSteps.{changed_group, no_group, there}
use Rattle.rm_book.proofs.groups.Groups.leave.Goals as goal

pub returns-in-Some-clause-ids : goal.returns-in-Some-clause-ids
returns-in-Some-clause-ids g c =
    let value = rw c.in-Some.is at c.get_mut.ensures.value in
    let writes = c.get_mut.follows.holds c.remove.new.self in
    changed_group g.met.K.Eq.laws c.args.key.now c.args.self.now.map.entries _ c.in-Some.group.now (sym value) (remove_key (is_container c.args.id)) c.remove.new.self
    (ap keys_of c.remove.ensures.rest ∙ keys-shift_remove_entry (is_container c.args.id) c.in-Some.group.now) ((writes.3 (there _ c.in-Some.group.now (sym value))).0)

pub returns-in-None-clause-left : goal.returns-in-None-clause-left
returns-in-None-clause-left g c =
    let value = rw c.in-None.is at c.get_mut.ensures.value in
    ap length (sym (ap (λ m. ids_under g.K.PartialEq.eq m.entries c.args.key.now) c.get_mut.follows.holds-at-none ∙ ap ids_in (sym value)))

pub returns-in-None-clause-ids : goal.returns-in-None-clause-ids
returns-in-None-clause-ids g c = λ other.
    let value = rw c.in-None.is at c.get_mut.ensures.value in
    ap (λ m. ids_under g.K.PartialEq.eq m.entries other) c.get_mut.follows.holds-at-none
    ∙ no_group g.met.K.Eq.laws c.args.key.now (remove_key (is_container c.args.id)) c.args.self.now.map.entries refl (sym value) other
