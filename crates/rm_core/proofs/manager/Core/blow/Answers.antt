use Rattle.rm_core.specs.declared.manager.Move.TheVariants.{Blown}
use Rattle.rm_core.proofs.Moving.{Done, core_sound, blow_done}
use Rattle.rm_core.proofs.manager.Core.blow.Goals as goal

done : (c : goal.After-blow) → Done (Blown c.args.passed) c.self.inside.tables c.blow.new.t c.self.inside.log c.blow.new.log c.blow.result
done c = blow_done c.self.inside.tables c.self.inside.log c.self.invariant.sound c.args.passed c.blow.new.t c.blow.new.log c.blow.result c.blow.ensures.ok c.blow.ensures.ready c.blow.ensures.err

pub invariant_of-self : goal.invariant_of-self
invariant_of-self c = core_sound c.self.inside.queues (Blown c.args.passed) c.self.inside.tables c.blow.new.t c.self.inside.log c.blow.new.log c.blow.result c.self.invariant c.blow.ensures.err (λ lives. lives.0) (done c)

pub returns-clause-does : goal.returns-clause-does
returns-clause-does c = rw (← c.self.view_is) (done c).does
