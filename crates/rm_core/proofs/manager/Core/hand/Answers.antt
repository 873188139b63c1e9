use Rattle.rm_core.specs.declared.manager.Move.TheVariants.{Hand}
use Rattle.rm_core.proofs.Moving.{Done, core_sound, hand_done}
use Rattle.rm_core.proofs.manager.Core.hand.Goals as goal

done : (c : goal.After-hand) → Done Hand c.self.inside.tables c.hand.new.t c.self.inside.log c.hand.new.log c.hand.result
done c = hand_done c.self.inside.tables c.self.inside.log c.self.invariant.sound c.hand.new.t c.hand.new.log c.hand.result c.hand.ensures.ok c.hand.ensures.ready c.hand.ensures.err

pub invariant_of-self : goal.invariant_of-self
invariant_of-self c = core_sound c.self.inside.queues Hand c.self.inside.tables c.hand.new.t c.self.inside.log c.hand.new.log c.hand.result c.self.invariant c.hand.ensures.err (λ lives. lives.0) (done c)

pub returns-clause-does : goal.returns-clause-does
returns-clause-does c = rw (← c.self.view_is) (done c).does
