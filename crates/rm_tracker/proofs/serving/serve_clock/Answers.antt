use Rattle.std.proofs.Common.{refl}
use Rattle.rm_types.specs.declared.replies.Reply.TheVariants.{Ok}
use Rattle.rm_tracker.proofs.Same.{tick_same}
use Rattle.rm_tracker.proofs.Replies.{expire_answer}
use Rattle.rm_tracker.proofs.Served.{clock_offered, clock_served}
use Rattle.rm_tracker.proofs.serving.serve_clock.Goals as goal

pub returns-in-ExpireNode-clause-reply : goal.returns-in-ExpireNode-clause-reply
returns-in-ExpireNode-clause-reply c = λ m shows.
    rw (c.in-ExpireNode.is, ← expire_answer m c.args.t.now c.in-ExpireNode.name shows) c.expire_node.ensures.reply

pub returns-in-ExpireNode-clause-shows : goal.returns-in-ExpireNode-clause-shows
returns-in-ExpireNode-clause-shows c = λ m shows.
    clock_served m c.args.t.now c.expire_node.new.t c.args.ask.now c.expire_node.result (returns-in-ExpireNode-clause-reply c m shows) (rw c.in-ExpireNode.is c.expire_node.ensures.changed) shows

pub returns-in-ExpireNode-clause-offers : goal.returns-in-ExpireNode-clause-offers
returns-in-ExpireNode-clause-offers c = λ offer.
    clock_offered c.args.t.now c.expire_node.new.t c.args.ask.now c.expire_node.result (rw c.in-ExpireNode.is c.expire_node.ensures.changed) c.expire_node.ensures.err offer

pub returns-in-Tick-clause-shows : goal.returns-in-Tick-clause-shows
returns-in-Tick-clause-shows c = λ m shows. rw c.in-Tick.is (tick_same m c.args.t.now c.in-Tick.time Ok shows refl)

pub returns-in-ExpireMaster-clause-reply : goal.returns-in-ExpireMaster-clause-reply
returns-in-ExpireMaster-clause-reply c = λ m shows. rw (c.in-ExpireMaster.is, shows.live c.in-ExpireMaster.attempt) c.expire_master.ensures.reply

pub returns-in-ExpireMaster-clause-shows : goal.returns-in-ExpireMaster-clause-shows
returns-in-ExpireMaster-clause-shows c = λ m shows.
    clock_served m c.args.t.now c.expire_master.new.t c.args.ask.now c.expire_master.result (returns-in-ExpireMaster-clause-reply c m shows) (rw c.in-ExpireMaster.is c.expire_master.ensures.changed) shows
