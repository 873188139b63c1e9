use Rattle.rm_states.specs.app.Table.{AppTransition}
use Rattle.rm_states.proofs.app.Rows.{row_of_end, end_answered}
use Rattle.rm_states.proofs.app.transitions.step.Goals as goal

pub returns-in-New-Start-clause-row : goal.returns-in-New-Start-clause-row
returns-in-New-Start-clause-row c = rw (c.in-New-Start.is-0, c.in-New-Start.is-1) AppTransition.start

pub returns-in-NewSaving-Kept-clause-row : goal.returns-in-NewSaving-Kept-clause-row
returns-in-NewSaving-Kept-clause-row c = rw (c.in-NewSaving-Kept.is-0, c.in-NewSaving-Kept.is-1) AppTransition.kept

pub returns-in-Submitted-Accept-clause-row : goal.returns-in-Submitted-Accept-clause-row
returns-in-Submitted-Accept-clause-row c = rw (c.in-Submitted-Accept.is-0, c.in-Submitted-Accept.is-1) AppTransition.accept

pub returns-in-Submitted-End-clause-row : goal.returns-in-Submitted-End-clause-row
returns-in-Submitted-End-clause-row c = rw (c.in-Submitted-End.is-0, c.in-Submitted-End.is-1) AppTransition.end_submitted

pub returns-in-Accepted-Register-clause-row : goal.returns-in-Accepted-Register-clause-row
returns-in-Accepted-Register-clause-row c = rw (c.in-Accepted-Register.is-0, c.in-Accepted-Register.is-1) AppTransition.register

pub returns-in-Accepted-Kill-clause-row : goal.returns-in-Accepted-Kill-clause-row
returns-in-Accepted-Kill-clause-row c = rw (c.in-Accepted-Kill.is-0, c.in-Accepted-Kill.is-1) AppTransition.kill_accepted

pub returns-in-Accepted-End-clause-row : goal.returns-in-Accepted-End-clause-row
returns-in-Accepted-End-clause-row c = rw (c.in-Accepted-End.is-0, c.in-Accepted-End.is-1) AppTransition.end_accepted

pub returns-in-Running-Failed-clause-row : goal.returns-in-Running-Failed-clause-row
returns-in-Running-Failed-clause-row c = rw (c.in-Running-Failed.is-0, c.in-Running-Failed.is-1) AppTransition.attempt_failed

pub returns-in-Running-Kill-clause-row : goal.returns-in-Running-Kill-clause-row
returns-in-Running-Kill-clause-row c = rw (c.in-Running-Kill.is-0, c.in-Running-Kill.is-1) AppTransition.kill_running

pub returns-in-Running-End-clause-row : goal.returns-in-Running-End-clause-row
returns-in-Running-End-clause-row c = rw (c.in-Running-End.is-0, c.in-Running-End.is-1) AppTransition.end_running

pub returns-in-Killing-End-clause-row : goal.returns-in-Killing-End-clause-row
returns-in-Killing-End-clause-row c = rw (c.in-Killing-End.is-0, c.in-Killing-End.is-1) AppTransition.end_killing

pub returns-in-FinalSaving-EndKept-clause-row : goal.returns-in-FinalSaving-EndKept-clause-row
returns-in-FinalSaving-EndKept-clause-row c =
    rw (c.in-FinalSaving-EndKept.is-0, c.in-FinalSaving-EndKept.is-1, c.ended_state.ensures) (row_of_end c.in-FinalSaving-EndKept.how)

pub returns-in-FinalSaving-EndKept-clause-answered : goal.returns-in-FinalSaving-EndKept-clause-answered
returns-in-FinalSaving-EndKept-clause-answered c = λ next action row.
    rw c.ended_state.ensures
    (end_answered c.in-FinalSaving-EndKept.how next action (rw (c.in-FinalSaving-EndKept.is-0, c.in-FinalSaving-EndKept.is-1) at row))
