use Rattle.rm_states.specs.container.Table.{ContainerTransition}
use Rattle.rm_states.proofs.container.transitions.step.Goals as goal

pub returns-in-Granted-Tell-clause-row : goal.returns-in-Granted-Tell-clause-row
returns-in-Granted-Tell-clause-row c = rw (c.in-Granted-Tell.is-0, c.in-Granted-Tell.is-1) ContainerTransition.tell

pub returns-in-Granted-Run-clause-row : goal.returns-in-Granted-Run-clause-row
returns-in-Granted-Run-clause-row c = rw (c.in-Granted-Run.is-0, c.in-Granted-Run.is-1) ContainerTransition.run_granted

pub returns-in-Acquired-Run-clause-row : goal.returns-in-Acquired-Run-clause-row
returns-in-Acquired-Run-clause-row c = rw (c.in-Acquired-Run.is-0, c.in-Acquired-Run.is-1) ContainerTransition.run_acquired

pub returns-in-Granted-End-clause-row : goal.returns-in-Granted-End-clause-row
returns-in-Granted-End-clause-row c = rw (c.in-Granted-End.is-0, c.in-Granted-End.is-1) ContainerTransition.end_granted

pub returns-in-Acquired-End-clause-row : goal.returns-in-Acquired-End-clause-row
returns-in-Acquired-End-clause-row c = rw (c.in-Acquired-End.is-0, c.in-Acquired-End.is-1) ContainerTransition.end_acquired

pub returns-in-Running-End-clause-row : goal.returns-in-Running-End-clause-row
returns-in-Running-End-clause-row c = rw (c.in-Running-End.is-0, c.in-Running-End.is-1) ContainerTransition.end_running
