use Rattle.rm_keyed.proofs.Slots.{emptied, live_unique}
use Rattle.rm_keyed.proofs.keyed.Keyed.leave_gap.Goals as goal

pub overflow_sub-self : goal.overflow_sub-self
overflow_sub-self g c =
    let h = emptied g.met.K.Eq.laws c.args.key.now c.self.inside.slots.entries c.take_out-taken.new.slots.entries c.self.inside.count c.take_out-taken.result c.self.invariant c.take_out-taken.ensures.taken c.take_out-taken.ensures.entries in
    rw (c.from.ensures, c.is_some.ensures) h.0

pub invariant_of-self : goal.invariant_of-self
invariant_of-self g c =
    let h = emptied g.met.K.Eq.laws c.args.key.now c.self.inside.slots.entries c.take_out-taken.new.slots.entries c.self.inside.count c.take_out-taken.result c.self.invariant c.take_out-taken.ensures.taken c.take_out-taken.ensures.entries in
    rw (c.from.ensures, c.is_some.ensures) h.1

pub returns-clause-value : goal.returns-clause-value
returns-clause-value g c =
    let h = emptied g.met.K.Eq.laws c.args.key.now c.self.inside.slots.entries c.take_out-taken.new.slots.entries c.self.inside.count c.take_out-taken.result c.self.invariant c.take_out-taken.ensures.taken c.take_out-taken.ensures.entries in
    rw (← c.self.view_is) h.2

pub returns-clause-rest : goal.returns-clause-rest
returns-clause-rest g c =
    let h = emptied g.met.K.Eq.laws c.args.key.now c.self.inside.slots.entries c.take_out-taken.new.slots.entries c.self.inside.count c.take_out-taken.result c.self.invariant c.take_out-taken.ensures.taken c.take_out-taken.ensures.entries in
    rw (← c.self.view_is) h.3

pub returns-clause-unique : goal.returns-clause-unique
returns-clause-unique g c = rw (← c.self.view_is) (live_unique g.K.PartialEq.eq c.self.inside.slots.entries c.self.invariant.unique)
