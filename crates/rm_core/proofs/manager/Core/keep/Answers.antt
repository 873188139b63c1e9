use Rattle.rm_core.specs.declared.manager.Move.TheVariants.{Kept}
use Rattle.rm_core.proofs.Moving.{Done, core_sound, keep_done, write_awaits, write_fits}
use Rattle.rm_core.proofs.manager.Core.keep.Goals as goal

pub keep-requires-clause-fits : goal.keep-requires-clause-fits
keep-requires-clause-fits c = λ ready. write_fits c.self.inside.tables c.self.inside.log c.self.invariant.sound ready

pub keep-requires-clause-awaits : goal.keep-requires-clause-awaits
keep-requires-clause-awaits c = λ ready. write_awaits c.self.inside.tables c.self.inside.log c.self.invariant.sound ready

done : (c : goal.After-keep) → Done Kept c.self.inside.tables c.keep.new.t c.self.inside.log c.keep.new.log c.keep.result
done c = keep_done c.self.inside.tables c.self.inside.log c.self.invariant.sound c.keep.new.t c.keep.new.log c.keep.result c.keep.ensures.ok c.keep.ensures.ready c.keep.ensures.err

pub invariant_of-self : goal.invariant_of-self
invariant_of-self c = core_sound c.self.inside.queues Kept c.self.inside.tables c.keep.new.t c.self.inside.log c.keep.new.log c.keep.result c.self.invariant c.keep.ensures.err (λ lives. lives.0) (done c)

pub returns-clause-does : goal.returns-clause-does
returns-clause-does c = rw (← c.self.view_is) (done c).does
