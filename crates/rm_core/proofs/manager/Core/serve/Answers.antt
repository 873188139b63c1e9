use Rattle.std.proofs.Common.{◌<◌, subst, sym}
use Rattle.rm_core.specs.Seen.{Seen}
use Rattle.rm_core.specs.declared.manager.Move.TheVariants.{Serve}
use Rattle.rm_core.proofs.Moving.{Done, core_sound, serve_done, serving_runs}
use Rattle.rm_invariant.proofs.bounds.Called.{attempts_few}
use Rattle.rm_core.proofs.manager.Core.serve.Goals as goal
use Rattle.rm_types.specs.Limits.{most_served}

pub answer_message-requires-clause-ranged : goal.answer_message-requires-clause-ranged
answer_message-requires-clause-ranged c = λ ready open_. (serving_runs c.self.inside.tables c.self.inside.log c.self.invariant.sound ready open_).ranged

pub answer_message-requires-clause-attempts : goal.answer_message-requires-clause-attempts
answer_message-requires-clause-attempts c = λ ready open_.
    let t = c.self.inside.tables in
    let r = serving_runs t c.self.inside.log c.self.invariant.sound ready open_ in
    attempts_few t.settings c.self.invariant.sound.history t r.whole r.ranged

done : (c : goal.After-answer_message) → Done (Serve c.args.message) c.self.inside.tables c.answer_message.new.t c.self.inside.log c.answer_message.new.log c.answer_message.result
done c = serve_done c.self.inside.tables c.self.inside.log c.self.invariant.sound c.len-living.ensures.book c.args.message c.requires.message (subst (λ (seen : Seen). seen.tables.served < most_served) (sym c.self.view_is) c.requires.few) c.answer_message.new.t c.answer_message.new.log c.answer_message.result c.answer_message.ensures.ok c.answer_message.ensures.ready c.answer_message.ensures.err

pub invariant_of-self : goal.invariant_of-self
invariant_of-self c = core_sound c.self.inside.queues (Serve c.args.message) c.self.inside.tables c.answer_message.new.t c.self.inside.log c.answer_message.new.log c.answer_message.result c.self.invariant c.answer_message.ensures.err (λ lives. lives.0) (done c)

pub returns-clause-does : goal.returns-clause-does
returns-clause-does c = rw (← c.self.view_is) (done c).does
