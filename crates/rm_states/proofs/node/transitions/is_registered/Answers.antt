use Rattle.std.proofs.Common.{refl, ⊎_elim}
use Rattle.rm_states.specs.node.Table.{NodeTransition}
use Rattle.rm_states.proofs.node.transitions.is_registered.Goals as goal

pub returns-in-Waiting-clause-can_be_lost : goal.returns-in-Waiting-clause-can_be_lost
returns-in-Waiting-clause-can_be_lost c = (λ yes. ⊎_elim (λ waiting. rw waiting NodeTransition.expire_waiting) (λ ready. rw ready NodeTransition.expire_ready) c.in-Waiting.is, λ row. refl)
