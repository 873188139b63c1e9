use Rattle.rm_book.proofs.Common.{◌∷◌, ◌++◌, [], sym, ap, ◌∙◌, keys_of, is_container}
use Rattle.rm_types.proofs.TestLemmas.{on_ok_map}
use Rattle.rm_book.proofs.GroupSteps.{absent, changed_group, kept_group, on_err_map, one_more, there}
use Rattle.rm_book.proofs.groups.Groups.add.Goals as goal

pub insert-requires : goal.insert-requires
insert-requires g c =
    let value = rw c.in-Some.is at c.get_mut.ensures.value in
    absent (is_container c.args.id) c.in-Some.group.now (rw (← value) at c.requires)

pub returns-in-Some-clause-ok : goal.returns-in-Some-clause-ok
returns-in-Some-clause-ok g c =
    let value = rw c.in-Some.is at c.get_mut.ensures.value in
    let writes = c.get_mut.follows.holds c.insert.new.self in
    on_ok_map c.insert.result
    (λ e. changed_group g.met.K.Eq.laws c.args.key.now c.args.self.now.map.entries _ c.in-Some.group.now (sym value) (λ ids. ids ++ c.args.id ∷ []) c.insert.new.self
    (ap keys_of e ∙ one_more c.in-Some.group.now c.args.id) ((writes.3 (there _ c.in-Some.group.now (sym value))).0))
    c.insert.ensures.ok

pub returns-in-Some-clause-err : goal.returns-in-Some-clause-err
returns-in-Some-clause-err g c =
    let value = rw c.in-Some.is at c.get_mut.ensures.value in
    let writes = c.get_mut.follows.holds c.insert.new.self in
    on_err_map c.insert.result
    (λ e. kept_group g.met.K.Eq.laws c.args.key.now c.args.self.now.map.entries _ c.in-Some.group.now (sym value) c.insert.new.self e
    ((writes.3 (there _ c.in-Some.group.now (sym value))).0))
    c.insert.ensures.err
