use Rattle.std.proofs.Common.{sym, ap, ◌∙◌}
use Rattle.rm_keyed.specs.Slots.{joined}
use Rattle.rm_keyed.proofs.Slots.{found, live_unique}
use Rattle.rm_keyed.proofs.keyed.Keyed.get.Goals as goal

pub returns-in-Some-clause-value : goal.returns-in-Some-clause-value
returns-in-Some-clause-value g c =
    let h = rw c.in-Some.is at c.get.ensures.value in
    rw (← c.self.view_is) (c.as_ref.ensures.value ∙ ap joined h ∙ sym (found g.met.K.Eq.laws c.args.key.now c.self.inside.slots.entries c.self.invariant.unique))

pub returns-in-None-clause-value : goal.returns-in-None-clause-value
returns-in-None-clause-value g c =
    let h = rw c.in-None.is at c.get.ensures.value in
    rw (← c.self.view_is) (ap joined h ∙ sym (found g.met.K.Eq.laws c.args.key.now c.self.inside.slots.entries c.self.invariant.unique))

pub returns-in-Some-clause-unique : goal.returns-in-Some-clause-unique
returns-in-Some-clause-unique g c = rw (← c.self.view_is) (live_unique g.K.PartialEq.eq c.self.inside.slots.entries c.self.invariant.unique)

pub returns-in-None-clause-unique : goal.returns-in-None-clause-unique
returns-in-None-clause-unique g c = rw (← c.self.view_is) (live_unique g.K.PartialEq.eq c.self.inside.slots.entries c.self.invariant.unique)
