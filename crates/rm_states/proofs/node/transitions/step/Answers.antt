use Rattle.rm_states.specs.node.Table.{NodeTransition}
use Rattle.rm_states.proofs.node.transitions.step.Goals as goal

pub returns-in-Absent-Register-clause-row : goal.returns-in-Absent-Register-clause-row
returns-in-Absent-Register-clause-row c = rw (c.in-Absent-Register.is-0, c.in-Absent-Register.is-1) NodeTransition.register_absent

pub returns-in-Waiting-Register-clause-row : goal.returns-in-Waiting-Register-clause-row
returns-in-Waiting-Register-clause-row c = rw (c.in-Waiting-Register.is-0, c.in-Waiting-Register.is-1) NodeTransition.register_waiting

pub returns-in-Ready-Register-clause-row : goal.returns-in-Ready-Register-clause-row
returns-in-Ready-Register-clause-row c = rw (c.in-Ready-Register.is-0, c.in-Ready-Register.is-1) NodeTransition.register_ready

pub returns-in-Lost-Register-clause-row : goal.returns-in-Lost-Register-clause-row
returns-in-Lost-Register-clause-row c = rw (c.in-Lost-Register.is-0, c.in-Lost-Register.is-1) NodeTransition.register_lost

pub returns-in-Waiting-Absorb-clause-row : goal.returns-in-Waiting-Absorb-clause-row
returns-in-Waiting-Absorb-clause-row c = rw (c.in-Waiting-Absorb.is-0, c.in-Waiting-Absorb.is-1) NodeTransition.absorb

pub returns-in-Waiting-Expire-clause-row : goal.returns-in-Waiting-Expire-clause-row
returns-in-Waiting-Expire-clause-row c = rw (c.in-Waiting-Expire.is-0, c.in-Waiting-Expire.is-1) NodeTransition.expire_waiting

pub returns-in-Ready-Expire-clause-row : goal.returns-in-Ready-Expire-clause-row
returns-in-Ready-Expire-clause-row c = rw (c.in-Ready-Expire.is-0, c.in-Ready-Expire.is-1) NodeTransition.expire_ready
