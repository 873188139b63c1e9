use Rattle.std.proofs.Common.{ap, ◌∙◌}
use Rattle.rm_formats.specs.Page.{line_of}
use Rattle.rm_page_reader.specs.Answers.{served_entry}
use Rattle.rm_page_reader.proofs.EntryLines.{reply_there, reply_same, answered_line, still_answers, stops_line}
use Rattle.rm_page_reader.proofs.entries.served.Goals as goal

pub returns-in_err-reply-clause-only : goal.returns-in_err-reply-clause-only
returns-in_err-reply-clause-only c = λ message reply scripted is e.
    let halves = c.in_ok-asked.ensures.halves message reply is e in
    stops_line c.from_residual-in_err-reply.result c.in_err-reply.field-0.0 (served_entry message reply) _ reply c.from_residual-in_err-reply.ensures.1 c.in_err-reply.ensures
    (reply_there reply c.in_ok-asked.answered.now is.reply_is halves.1)

pub returns-then-not-may_answer-clause-only : goal.returns-then-not-may_answer-clause-only
returns-then-not-may_answer-clause-only c = λ message reply scripted is e.
    let halves = c.in_ok-asked.ensures.halves message reply is e in
    let may = c.may_answer.ensures.1 (still_answers message c.in_ok-message.message reply c.in_ok-reply.reply c.in_ok-asked.answered.now is (c.in_ok-message.ensures.only message scripted halves.0) halves.1 c.in_ok-reply.ensures) in
    let not = c.if-not-may_answer.true in
    absurd cc

pub returns-clause-only : goal.returns-clause-only
returns-clause-only c = λ message reply scripted is e.
    let halves = c.in_ok-asked.ensures.halves message reply is e in
    ap line_of (c.in_ok-served_of.ensures ∙ ap (λ one. served_entry one c.in_ok-reply.reply) (c.in_ok-message.ensures.only message scripted halves.0))
    ∙ answered_line message c.in_ok-reply.reply reply (reply_same reply c.in_ok-reply.reply c.in_ok-asked.answered.now halves.1 c.in_ok-reply.ensures)
