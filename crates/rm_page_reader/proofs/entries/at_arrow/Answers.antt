use Rattle.std.proofs.Common.{◌∙◌}
use Rattle.rm_page_reader.proofs.Arrows.{first_arrow, last_arrow, some_arrow, free_found, free_fails}
use Rattle.rm_page_reader.proofs.entries.at_arrow.Goals as goal

pub returns-in_err-may_have_spaces-clause-some : goal.returns-in_err-may_have_spaces-clause-some
returns-in_err-may_have_spaces-clause-some c = λ message reply is e.
    absurd (free_fails message reply c.args.text.now c.in_err-may_have_spaces.field-0.0 is e c.in_err-may_have_spaces.ensures)

pub returns-in-Some-clause-halves : goal.returns-in-Some-clause-halves
returns-in-Some-clause-halves c = λ message reply is e.
    last_arrow message reply c.args.text.now c.in-Some.front.now c.in-Some.back.now is e
    (free_found message reply c.args.text.now c.in_ok-may_have_spaces.field-0 is e c.in_ok-may_have_spaces.ensures ∙ c.if-branch.true) c.in-Some.ensures.halves

pub returns-in-None-clause-some : goal.returns-in-None-clause-some
returns-in-None-clause-some c = λ message reply is e. some_arrow message reply c.args.text.now e (c.last_halves.ensures.none c.in-None.is)

pub returns-in-Some-halves-clause-halves : goal.returns-in-Some-halves-clause-halves
returns-in-Some-halves-clause-halves c = λ message reply is e.
    first_arrow message reply c.args.text.now c.in-Some-halves.front.now c.in-Some-halves.back.now is e
    (free_found message reply c.args.text.now c.in_ok-may_have_spaces.field-0 is e c.in_ok-may_have_spaces.ensures ∙ c.if-branch.false) c.in-Some-halves.ensures.halves

pub returns-in-None-halves-clause-some : goal.returns-in-None-halves-clause-some
returns-in-None-halves-clause-some c = λ message reply is e. some_arrow message reply c.args.text.now e (c.halves.ensures.none c.in-None-halves.is)
