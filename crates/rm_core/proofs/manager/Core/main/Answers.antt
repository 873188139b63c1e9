use Rattle.rm_core.specs.declared.manager.Move.TheVariants.{Main}
use Rattle.rm_core.proofs.Moving.{Done, core_sound, main_done, main_room}
use Rattle.rm_core.proofs.manager.Core.main.Goals as goal

pub main-requires-clause-epoch : goal.main-requires-clause-epoch
main-requires-clause-epoch c = λ ready. (main_room c.self.inside.tables c.self.inside.log c.self.invariant.sound ready).0

pub main-requires-clause-few : goal.main-requires-clause-few
main-requires-clause-few c = λ ready. (main_room c.self.inside.tables c.self.inside.log c.self.invariant.sound ready).1

done : (c : goal.After-main) → Done Main c.self.inside.tables c.main.new.t c.self.inside.log c.main.new.log c.main.result
done c = main_done c.self.inside.tables c.self.inside.log c.self.invariant.sound c.main.new.t c.main.new.log c.main.result c.main.ensures.ok c.main.ensures.some c.main.ensures.err

pub invariant_of-self : goal.invariant_of-self
invariant_of-self c = core_sound c.self.inside.queues Main c.self.inside.tables c.main.new.t c.self.inside.log c.main.new.log c.main.result c.self.invariant c.main.ensures.err (λ lives. lives.0) (done c)

pub returns-clause-does : goal.returns-clause-does
returns-clause-does c = rw (← c.self.view_is) (done c).does
