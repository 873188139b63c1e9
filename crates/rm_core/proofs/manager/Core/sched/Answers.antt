use Rattle.rm_core.specs.declared.manager.Move.TheVariants.{Sched}
use Rattle.rm_core.proofs.Moving.{Done, core_sound, sched_done}
use Rattle.rm_invariant.proofs.auxiliary.Facts.{sched_facts_of}
use Rattle.rm_invariant.proofs.MessagesPreserve.{life_shown}
use Rattle.rm_invariant.proofs.bounds.Passable.{are_few, can_pass}
use Rattle.rm_invariant.proofs.Phases.{sched_open}
use Rattle.rm_core.proofs.manager.Core.sched.Goals as goal

done : (c : goal.After-sched) → Done Sched c.self.inside.tables c.sched.new.t c.self.inside.log c.sched.new.log c.sched.result
done c = sched_done c.self.inside.tables c.self.inside.log c.self.invariant.sound c.len-living.ensures.book c.sched.new.t c.sched.new.log c.sched.result c.sched.ensures.ok c.sched.ensures.some c.sched.ensures.err

pub invariant_of-self : goal.invariant_of-self
invariant_of-self c = core_sound c.self.inside.queues Sched c.self.inside.tables c.sched.new.t c.self.inside.log c.sched.new.log c.sched.result c.self.invariant c.sched.ensures.err (λ lives. lives.0) (done c)

pub returns-clause-does : goal.returns-clause-does
returns-clause-does c = rw (← c.self.view_is) (done c).does

pub sched-requires : goal.sched-requires
sched-requires c = record {
  pass = λ name rest front.
      let t = c.self.inside.tables in
      let h = c.self.invariant.sound.history in
      let r = sched_open h t _ rest c.self.invariant.sound.phase front in
      (are_few t.settings h t r.whole (sched_facts_of h t (life_shown h t r) r.sides) r.ranged, can_pass t.settings h t r.whole (sched_facts_of h t (life_shown h t r) r.sides) r.ranged);
}
