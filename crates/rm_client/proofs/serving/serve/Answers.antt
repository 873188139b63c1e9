use Rattle.std.proofs.Common.{Ok}
use Rattle.rm_client.proofs.Served.{client_life_served, client_served, report_life_served, report_served}
use Rattle.rm_client.proofs.serving.serve.Goals as goal

pub returns-in-New-clause-shows : goal.returns-in-New-clause-shows
returns-in-New-clause-shows c = λ m shows.
    client_served m c.args.t.now c.give.new.t c.args.user.now c.args.ask.now (Ok c.give.result) (rw c.in-New.is (c.give.ensures.reply m shows)) (rw c.in-New.is c.give.ensures.changed) shows

pub returns-in-New-clause-shows_life : goal.returns-in-New-clause-shows_life
returns-in-New-clause-shows_life c = λ m shows life.
    client_life_served m c.args.t.now c.give.new.t c.args.user.now c.args.ask.now (Ok c.give.result) (rw c.in-New.is (c.give.ensures.reply m shows)) (rw c.in-New.is c.give.ensures.changed) shows life

pub returns-in-Submit-clause-shows : goal.returns-in-Submit-clause-shows
returns-in-Submit-clause-shows c = λ m shows.
    client_served m c.args.t.now c.submit.new.t c.args.user.now c.args.ask.now c.submit.result (rw c.in-Submit.is (c.submit.ensures.reply m shows)) (rw c.in-Submit.is c.submit.ensures.changed) shows

pub returns-in-Submit-clause-shows_life : goal.returns-in-Submit-clause-shows_life
returns-in-Submit-clause-shows_life c = λ m shows life.
    client_life_served m c.args.t.now c.submit.new.t c.args.user.now c.args.ask.now c.submit.result (rw c.in-Submit.is (c.submit.ensures.reply m shows)) (rw c.in-Submit.is c.submit.ensures.changed) shows life

pub returns-in-Report-clause-shows : goal.returns-in-Report-clause-shows
returns-in-Report-clause-shows c = λ m shows. rw c.in-Report.is (report_served m c.args.t.now c.in-Report.id c.report.result shows)

pub returns-in-Report-clause-shows_life : goal.returns-in-Report-clause-shows_life
returns-in-Report-clause-shows_life c = λ m shows life. rw c.in-Report.is (report_life_served m c.args.t.now c.in-Report.id c.report.result life)

pub returns-in-Kill-clause-shows : goal.returns-in-Kill-clause-shows
returns-in-Kill-clause-shows c = λ m shows.
    client_served m c.args.t.now c.kill.new.t c.args.user.now c.args.ask.now c.kill.result (rw c.in-Kill.is (c.kill.ensures.reply m shows)) (rw c.in-Kill.is c.kill.ensures.changed) shows

pub returns-in-Kill-clause-shows_life : goal.returns-in-Kill-clause-shows_life
returns-in-Kill-clause-shows_life c = λ m shows life.
    client_life_served m c.args.t.now c.kill.new.t c.args.user.now c.args.ask.now c.kill.result (rw c.in-Kill.is (c.kill.ensures.reply m shows)) (rw c.in-Kill.is c.kill.ensures.changed) shows life
