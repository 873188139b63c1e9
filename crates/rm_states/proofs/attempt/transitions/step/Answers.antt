use Rattle.rm_states.specs.attempt.Table.{AttemptTransition}
use Rattle.rm_states.proofs.attempt.transitions.step.Goals as goal

pub returns-in-Scheduled-Grant-clause-row : goal.returns-in-Scheduled-Grant-clause-row
returns-in-Scheduled-Grant-clause-row c = rw (c.in-Scheduled-Grant.is-0, c.in-Scheduled-Grant.is-1) AttemptTransition.grant

pub returns-in-Granted-Requeue-clause-row : goal.returns-in-Granted-Requeue-clause-row
returns-in-Granted-Requeue-clause-row c = rw (c.in-Granted-Requeue.is-0, c.in-Granted-Requeue.is-1) AttemptTransition.requeue

pub returns-in-Granted-Issue-clause-row : goal.returns-in-Granted-Issue-clause-row
returns-in-Granted-Issue-clause-row c = rw (c.in-Granted-Issue.is-0, c.in-Granted-Issue.is-1) AttemptTransition.issue

pub returns-in-Saving-Kept-clause-row : goal.returns-in-Saving-Kept-clause-row
returns-in-Saving-Kept-clause-row c = rw (c.in-Saving-Kept.is-0, c.in-Saving-Kept.is-1) AttemptTransition.kept

pub returns-in-Live-Register-clause-row : goal.returns-in-Live-Register-clause-row
returns-in-Live-Register-clause-row c = rw (c.in-Live-Register.is-0, c.in-Live-Register.is-1) AttemptTransition.register

pub returns-in-Registered-Finish-clause-row : goal.returns-in-Registered-Finish-clause-row
returns-in-Registered-Finish-clause-row c = rw (c.in-Registered-Finish.is-0, c.in-Registered-Finish.is-1) AttemptTransition.finish

pub returns-in-Live-End-clause-row : goal.returns-in-Live-End-clause-row
returns-in-Live-End-clause-row c = rw (c.in-Live-End.is-0, c.in-Live-End.is-1) AttemptTransition.end_live

pub returns-in-Registered-End-clause-row : goal.returns-in-Registered-End-clause-row
returns-in-Registered-End-clause-row c = rw (c.in-Registered-End.is-0, c.in-Registered-End.is-1) AttemptTransition.end_registered

pub returns-in-Finishing-End-clause-row : goal.returns-in-Finishing-End-clause-row
returns-in-Finishing-End-clause-row c = rw (c.in-Finishing-End.is-0, c.in-Finishing-End.is-1) AttemptTransition.end_finishing

pub returns-in-Ending-EndKept-clause-row : goal.returns-in-Ending-EndKept-clause-row
returns-in-Ending-EndKept-clause-row c = rw (c.in-Ending-EndKept.is-0, c.in-Ending-EndKept.is-1) AttemptTransition.end_kept

pub returns-in-Scheduled-Drop-clause-row : goal.returns-in-Scheduled-Drop-clause-row
returns-in-Scheduled-Drop-clause-row c = rw (c.in-Scheduled-Drop.is-0, c.in-Scheduled-Drop.is-1) AttemptTransition.drop_scheduled

pub returns-in-Granted-Drop-clause-row : goal.returns-in-Granted-Drop-clause-row
returns-in-Granted-Drop-clause-row c = rw (c.in-Granted-Drop.is-0, c.in-Granted-Drop.is-1) AttemptTransition.drop_granted
