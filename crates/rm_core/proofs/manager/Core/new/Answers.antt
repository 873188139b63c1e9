use Rattle.std.proofs.Common.{refl}
use Rattle.rm_core.proofs.Lives.{new_keeps, new_sound}
use Rattle.rm_core.proofs.manager.Core.new.Goals as goal

pub invariant_of-result : goal.invariant_of-result
invariant_of-result c = rw c.new.ensures (record { rules = c.requires.rules; limits = c.requires.limits; queues_are = refl; sound = new_sound c.args.alloc c.args.settings })

pub returns-clause-stands : goal.returns-clause-stands
returns-clause-stands c = λ opening. rw (c.new-2.ensures, c.new.ensures) (new_keeps opening c.args.alloc c.args.settings)
