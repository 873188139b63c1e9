use Rattle.rm_master.proofs.Served.{master_answered, master_served}
use Rattle.rm_master.proofs.serving.serve.Goals as goal

pub returns-in-Register-clause-reply : goal.returns-in-Register-clause-reply
returns-in-Register-clause-reply c = λ m shows.
    master_answered m c.args.t.now c.args.attempt c.args.ask.now c.register.result (rw c.in-Register.is c.register.ensures.reply) shows

pub returns-in-Register-clause-shows : goal.returns-in-Register-clause-shows
returns-in-Register-clause-shows c = λ m shows.
    master_served m c.args.t.now c.register.new.t c.args.attempt c.args.ask.now c.register.result (rw c.in-Register.is c.register.ensures.reply) (rw c.in-Register.is c.register.ensures.changed) shows

pub returns-in-Finish-clause-reply : goal.returns-in-Finish-clause-reply
returns-in-Finish-clause-reply c = λ m shows.
    master_answered m c.args.t.now c.args.attempt c.args.ask.now c.finish.result (rw c.in-Finish.is c.finish.ensures.reply) shows

pub returns-in-Finish-clause-shows : goal.returns-in-Finish-clause-shows
returns-in-Finish-clause-shows c = λ m shows.
    master_served m c.args.t.now c.finish.new.t c.args.attempt c.args.ask.now c.finish.result (rw c.in-Finish.is c.finish.ensures.reply) (rw c.in-Finish.is c.finish.ensures.changed) shows

pub returns-in-Allocate-clause-reply : goal.returns-in-Allocate-clause-reply
returns-in-Allocate-clause-reply c = λ m shows.
    master_answered m c.args.t.now c.args.attempt c.args.ask.now c.allocate.result (rw c.in-Allocate.is c.allocate.ensures.reply) shows

pub returns-in-Allocate-clause-shows : goal.returns-in-Allocate-clause-shows
returns-in-Allocate-clause-shows c = λ m shows.
    master_served m c.args.t.now c.allocate.new.t c.args.attempt c.args.ask.now c.allocate.result (rw c.in-Allocate.is c.allocate.ensures.reply) (rw c.in-Allocate.is c.allocate.ensures.changed) shows
