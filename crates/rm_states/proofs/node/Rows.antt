-- Rows of the table, one by one.
use Rattle.std.proofs.Common.{◌≡◌, ◌⊎◌, inl, inr, Option, Some, None, refl, ap, ◌∙◌, sym, rules}
use Rattle.rm_states.specs.declared.node.states.NodeState.{NodeState}
use Rattle.rm_states.specs.declared.node.states.NodeState.TheVariants.{Absent, Waiting, Ready, Lost}
use Rattle.rm_states.specs.declared.node.states.NodeEvent.{NodeEvent}
use Rattle.rm_states.specs.declared.node.states.NodeEvent.TheVariants.{Register, Absorb, Expire}
use Rattle.rm_states.specs.declared.node.states.NodeAction.{NodeAction}
use Rattle.rm_states.specs.declared.node.states.NodeAction.TheVariants.{PostAdded, PostLost, Nothing}
use Rattle.rm_states.specs.node.Table.{NodeTransition, node_transition, next_node_state}
use Rattle.rm_states.specs.node.Laws.{NodeRowsAreOne, RegisteredWait}

transition_of_row : {state : NodeState} {event : NodeEvent} {next : NodeState} {action : NodeAction} → NodeTransition state event next action → node_transition state event ≡ Some (next, action)
transition_of_row NodeTransition.register_absent = refl
transition_of_row NodeTransition.register_waiting = refl
transition_of_row NodeTransition.register_ready = refl
transition_of_row NodeTransition.register_lost = refl
transition_of_row NodeTransition.absorb = refl
transition_of_row NodeTransition.expire_waiting = refl
transition_of_row NodeTransition.expire_ready = refl

pub rows_are_one : NodeRowsAreOne
rows_are_one state event next other action another one two =
    let same : ◌≡◌ {A = Option (NodeState × NodeAction)} (Some (next, action)) (Some (other, another)) = sym (transition_of_row one) ∙ transition_of_row two in
    let both : ◌≡◌ {A = NodeState × NodeAction} (next, action) (other, another) = cc in
    (ap (λ (pair : NodeState × NodeAction). pair.0) both, ap (λ (pair : NodeState × NodeAction). pair.1) both)

-- a registration has a row from each state
registers : (state : NodeState) → NodeTransition state Register Waiting PostAdded
registers Absent = NodeTransition.register_absent
registers Waiting = NodeTransition.register_waiting
registers Ready = NodeTransition.register_ready
registers Lost = NodeTransition.register_lost

pub registered_wait : RegisteredWait
registered_wait = record { from_any = registers; waiting = search rules; added = search rules }

-- a row leads to the state after its event
pub row_leads : {state : NodeState} {event : NodeEvent} {next : NodeState} {action : NodeAction} → NodeTransition state event next action → next_node_state state event ≡ next
row_leads row = rw (transition_of_row row) refl

-- where there is no row the state stays
pub stays_without_row : (state : NodeState) (event : NodeEvent) → ((next : NodeState) (action : NodeAction) → ¬ NodeTransition state event next action) → next_node_state state event ≡ state
stays_without_row state Register none = absurd (none Waiting PostAdded (registers state))
stays_without_row Waiting Absorb none = absurd (none Ready Nothing NodeTransition.absorb)
stays_without_row Waiting Expire none = absurd (none Lost PostLost NodeTransition.expire_waiting)
stays_without_row Ready Expire none = absurd (none Lost PostLost NodeTransition.expire_ready)
stays_without_row _ _ none = refl

-- a state stays by an event, or a row leads to where it goes
pub stays_or_row : (state : NodeState) (event : NodeEvent) → (next_node_state state event ≡ state) ⊎ ((by : NodeEvent) × (action : NodeAction) × NodeTransition state by (next_node_state state event) action)
stays_or_row state Register = inr (Register, PostAdded, (registers state))
stays_or_row Waiting Absorb = inr (Absorb, Nothing, NodeTransition.absorb)
stays_or_row Waiting Expire = inr (Expire, PostLost, NodeTransition.expire_waiting)
stays_or_row Ready Expire = inr (Expire, PostLost, NodeTransition.expire_ready)
stays_or_row _ _ = inl refl
