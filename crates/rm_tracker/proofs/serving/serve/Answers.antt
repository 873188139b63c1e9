use Rattle.rm_tracker.proofs.Replies.{beat_answer, register_answer}
use Rattle.rm_tracker.proofs.Served.{node_offered, node_served}
use Rattle.rm_tracker.proofs.serving.serve.Goals as goal

pub returns-in-Register-clause-shows : goal.returns-in-Register-clause-shows
returns-in-Register-clause-shows c = λ m shows offer.
    node_served m c.args.t.now c.register.new.t c.args.name.now c.args.ask.now c.register.result
    (rw (c.in-Register.is, ← register_answer m c.args.t.now c.args.name.now c.in-Register.turn shows) c.register.ensures.reply) (rw c.in-Register.is c.register.ensures.changed) shows
    c.len-living.ensures.book offer

pub returns-in-Register-clause-offers : goal.returns-in-Register-clause-offers
returns-in-Register-clause-offers c = λ offer.
    node_offered c.args.t.now c.register.new.t c.args.name.now c.args.ask.now c.register.result (rw c.in-Register.is c.register.ensures.changed) c.register.ensures.err offer

pub returns-in-Beat-clause-reply : goal.returns-in-Beat-clause-reply
returns-in-Beat-clause-reply c = λ m shows.
    rw (c.in-Beat.is, ← beat_answer m c.args.t.now c.args.name.now c.in-Beat.id c.in-Beat.running shows) c.beat.ensures.reply

pub returns-in-Beat-clause-shows : goal.returns-in-Beat-clause-shows
returns-in-Beat-clause-shows c = λ m shows offer.
    node_served m c.args.t.now c.beat.new.t c.args.name.now c.args.ask.now c.beat.result (returns-in-Beat-clause-reply c m shows) (rw c.in-Beat.is c.beat.ensures.changed) shows
    c.len-living.ensures.book offer

pub returns-in-Beat-clause-offers : goal.returns-in-Beat-clause-offers
returns-in-Beat-clause-offers c = λ offer.
    node_offered c.args.t.now c.beat.new.t c.args.name.now c.args.ask.now c.beat.result (rw c.in-Beat.is c.beat.ensures.changed) c.beat.ensures.err offer
