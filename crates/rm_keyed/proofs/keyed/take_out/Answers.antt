use Rattle.std.proofs.Common.{None, sym, ap, ◌∙◌}
use Rattle.rm_keyed.proofs.Slots.{none_set}
use Rattle.rm_keyed.proofs.keyed.take_out.Goals as goal

pub returns-in-None-clause-entries : goal.returns-in-None-clause-entries
returns-in-None-clause-entries g c =
    let value = rw c.in-None.is at c.get_mut.ensures.value in
    ap (λ m. m.entries) c.get_mut.follows.holds-at-none ∙ sym (none_set g.met.K.Eq.laws c.args.key.now c.args.slots.now.entries None (sym value))
