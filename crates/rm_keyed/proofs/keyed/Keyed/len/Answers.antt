use Rattle.rm_keyed.proofs.Slots.{live_unique}
use Rattle.rm_keyed.proofs.keyed.Keyed.len.Goals as goal

pub returns-clause-unique : goal.returns-clause-unique
returns-clause-unique g c = rw (← c.self.view_is) (live_unique g.K.PartialEq.eq c.self.inside.slots.entries c.self.invariant.unique)
