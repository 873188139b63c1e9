use Rattle.std.proofs.Common.{List, length, take, sym, ap, ◌∙◌, refl, arith}
use Rattle.std.proofs.lemmas.List.{take_all}
use Rattle.rm_book.proofs.GroupSteps.{at_err, at_ok}
use Rattle.rm_tables.specs.ContainerSets.{with_containers}
use Rattle.rm_tables.proofs.ContainerSets.{one_joined}
use Rattle.rm_tables.proofs.container_set.join_each.Goals as goal

pub ids-init : goal.ids-init
ids-init c = refl

pub returns-then-is_err-clause-keys : goal.returns-then-is_err-clause-keys
returns-then-is_err-clause-keys c = at_err c.insert.result (sym c.is_err.ensures.value ∙ c.if-is_err.true) c.insert.ensures.err ∙ c.ids.invariant

pub ids-preserved : goal.ids-preserved
ids-preserved c =
    one_joined c.args.set.now.keys c.args.ids.now c.ids.place _ c.ids.set.keys c.insert.new.self.keys c.ids-test.true c.ids.invariant
    (at_ok c.insert.result (sym c.is_err.ensures.value ∙ c.if-is_err.false) c.insert.ensures.keys)

pub returns-clause-keys : goal.returns-clause-keys
returns-clause-keys c =
    c.ids.invariant
    ∙ ap (with_containers c.args.set.now.keys) (take_all c.ids.place c.args.ids.now (omega (arith, c.ids-test.false)) ∙ sym (take_all (length c.args.ids.now) c.args.ids.now (omega arith)))
