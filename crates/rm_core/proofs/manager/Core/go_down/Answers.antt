use Rattle.rm_core.specs.declared.manager.Move.TheVariants.{Down}
use Rattle.rm_core.proofs.Moving.{Done, core_sound, down_done}
use Rattle.rm_core.proofs.manager.Core.go_down.Goals as goal

done : (c : goal.After-go_down) → Done Down c.self.inside.tables c.go_down.new.t c.self.inside.log c.go_down.new.log c.go_down.result
done c = down_done c.self.inside.tables c.self.inside.log c.self.invariant.sound c.go_down.new.t c.go_down.new.log c.go_down.result c.go_down.ensures.ok c.go_down.ensures.ready c.go_down.ensures.err

pub invariant_of-self : goal.invariant_of-self
invariant_of-self c = core_sound c.self.inside.queues Down c.self.inside.tables c.go_down.new.t c.self.inside.log c.go_down.new.log c.go_down.result c.self.invariant c.go_down.ensures.err (λ lives. lives.0) (done c)

pub returns-clause-does : goal.returns-clause-does
returns-clause-does c = rw (← c.self.view_is) (done c).does
