use Rattle.rm_core.specs.declared.manager.Move.TheVariants.{Settle}
use Rattle.rm_core.proofs.Moving.{Done, settle_done}
use Rattle.rm_core.proofs.manager.Core.settle.Goals as goal

done : (c : goal.After-settle) → Done Settle c.self.inside.tables c.self.inside.tables c.self.inside.log c.settle.new.log c.settle.result
done c = settle_done c.self.inside.tables c.self.inside.log c.self.invariant.sound c.settle.new.log c.settle.result c.settle.ensures.ok c.settle.ensures.ready c.settle.ensures.err

pub returns-clause-does : goal.returns-clause-does
returns-clause-does c = rw (← c.self.view_is) (done c).does
