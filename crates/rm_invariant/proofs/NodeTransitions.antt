-- Each move brings the state of a node along a row of its table, or leaves it.
use Rattle.rm_invariant.proofs.Common.{◌≡◌, inl, ℕ, List, [], ◌∷◌, ◌++◌, Bool, true, false, Option, None, Some, refl, sym, ◌∙◌, subst, bytes_eq, Entry, AttemptId, ContainerId, ClientAsk, ClockAsk, MasterAsk, NodeAsk, Op, Reply, same_text, MainEvent, SchedEvent, NodeRow, Tables, unlaunched_on, main_worked, sched_worked, kept, unlaunched, main_step, beaten_row, changed_row, new_node_row, node_row, ordered_row, registered_node_row, with_node, sched_step, other_added, other_row, own_row, after_client, after_master, after_clock, after_node, Message}
use Rattle.std.proofs.Common.{option_map}
use Rattle.rm_types.specs.declared.operations.Op.TheVariants as ops
use Rattle.rm_states.specs.declared.node.states.NodeState.{NodeState}
use Rattle.rm_states.specs.declared.node.states.NodeEvent.{NodeEvent}
use Rattle.rm_states.specs.declared.node.states.NodeEvent.TheVariants as events
use Rattle.rm_states.specs.node.Table.{next_node_state}
use Rattle.rm_states.proofs.node.Rows.{stays_or_row}
use Rattle.rm_tables.specs.declared.events.MainEvent.TheVariants as mains
use Rattle.rm_tables.specs.declared.nodes.NodeChange.TheVariants as of_node
use Rattle.rm_invariant.specs.events.Outcomes.{Outcome, orders}
use Rattle.rm_invariant.proofs.events.Outcomes.{main_outcome}
use Rattle.rm_invariant.specs.Transitions.{NodeFollowsTable, NodesFollowTable}
use Rattle.rm_invariant.proofs.events.SchedShapes.{NodesAfter, here_keeps, sched_shape, unlaunched_keeps}
use Rattle.rm_invariant.proofs.messages.MessageShapes.{NodesBy, message_shape}
use Rattle.rm_types.specs.declared.messages.Message.TheVariants as messages
use Rattle.rm_invariant.specs.messages.Outcomes.{after_message}

-- each node after a move was there before it, in a state from which this one may come
abbrev Back : (NodeState → NodeState → Type 0) → List (List ℕ × NodeRow) → List (List ℕ × NodeRow) → Type 0
Back R nodes next = (name : List ℕ) (now : NodeRow) → node_row next name ≡ Some now → (was : NodeRow) × (node_row nodes name ≡ Some was) × R was.state now.state

abbrev Same : NodeState → NodeState → Type 0
Same before now = now ≡ before

back_with : (R : NodeState → NodeState → Type 0) (f : NodeRow → NodeRow) (n : List ℕ) (nodes : List (List ℕ × NodeRow)) → ((row : NodeRow) → R row.state (f row).state) → ((s : NodeState) → R s s) → Back R nodes (with_node f n nodes)
back_with R f n nodes own stays name now found = by (bytes_eq n name) refl
  where
    changed : (o : Option NodeRow) → node_row nodes n ≡ o → option_map f o ≡ Some now → (was : NodeRow) × (node_row nodes n ≡ Some was) × R was.state now.state
    changed None e is = cc
    changed (Some r) e is = let same : f r ≡ now = cc in (r, e, subst (λ (row : NodeRow). R r.state row.state) same (own r))

    by : (b : Bool) → bytes_eq n name ≡ b → (was : NodeRow) × (node_row nodes name ≡ Some was) × R was.state now.state
    by true e =
        let here : node_row (with_node f n nodes) n ≡ Some now = subst (λ (m : List ℕ). node_row (with_node f n nodes) m ≡ Some now) (sym (same_text n name e)) found in
        let x = changed (node_row nodes n) refl (sym (own_row f n nodes) ∙ here) in
        (x.0, subst (λ (m : List ℕ). node_row nodes m ≡ Some x.0) (same_text n name e) x.1, x.2)
    by false e = (now, sym (other_row f n name nodes e) ∙ found, stays now.state)

back_same : (nodes : List (List ℕ × NodeRow)) → Back Same nodes nodes
back_same nodes name now found = (now, found, refl)

back_then : (R : NodeState → NodeState → Type 0) (nodes middle next : List (List ℕ × NodeRow)) → Back Same nodes middle → Back R middle next → Back R nodes next
back_then R nodes middle next first second name now found =
    let b = second name now found in
    let a = first name b.0 b.1 in
    (a.0, a.1, subst (λ (s : NodeState). R s now.state) a.2 b.2)

goes_back : (nodes next : List (List ℕ × NodeRow)) → Back NodeFollowsTable nodes next → NodesFollowTable nodes next
goes_back nodes next back name before now there then =
    let b = back name now then in
    let same : b.0 ≡ before = (let x = sym b.1 ∙ there in cc) in
    subst (λ (was : NodeRow). NodeFollowsTable was.state now.state) same b.2

same_back : (nodes next : List (List ℕ × NodeRow)) → Back Same nodes next → NodesFollowTable nodes next
same_back nodes next back = goes_back nodes next (λ name now found. let b = back name now found in (b.0, b.1, inl b.2))

pub nodes_stay : (nodes : List (List ℕ × NodeRow)) → NodesFollowTable nodes nodes
nodes_stay nodes = same_back nodes nodes (back_same nodes)

stays : (s : NodeState) → NodeFollowsTable s s
stays s = inl refl

-- a change of one node
changed_back : (event : NodeEvent) (f : NodeRow → NodeRow) → ((row : NodeRow) → (f row).state ≡ next_node_state row.state event) → (n : List ℕ) (nodes : List (List ℕ × NodeRow)) → Back NodeFollowsTable nodes (with_node f n nodes)
changed_back event f is n nodes = back_with NodeFollowsTable f n nodes (λ row. subst (NodeFollowsTable row.state) (sym (is row)) (stays_or_row row.state event)) stays

-- a launch goes
launch_back : (first : List (List ℕ × NodeRow)) (id : ContainerId) (name : List ℕ) (nodes : List (List ℕ × NodeRow)) → Back Same first nodes → Back Same first (with_node (changed_row (of_node.Unlaunch id)) name nodes)
launch_back first id name nodes before = back_then Same first nodes (with_node (changed_row (of_node.Unlaunch id)) name nodes) before (back_with Same (changed_row (of_node.Unlaunch id)) name nodes (λ r. refl) (λ s. refl))

-- the main queue
pub main_nodes : (t : Tables) (done : Entry × Tables) → Outcome t done → NodesFollowTable t.nodes (main_worked done).1.nodes
main_nodes t done (orders id container node row current at_ number alive master place) =
    same_back t.nodes (with_node (ordered_row container) node t.nodes) (back_with Same (ordered_row container) node t.nodes (λ r. refl) (λ s. refl))
main_nodes t done _ = nodes_stay t.nodes

-- the first event of the main queue
pub main_event_nodes : (t : Tables) (e : MainEvent) (rest : List MainEvent) → t.main ≡ e ∷ rest → NodesFollowTable t.nodes (main_worked (main_step e t)).1.nodes
main_event_nodes t mains.EpochStart rest front = nodes_stay t.nodes
main_event_nodes t e rest front = main_nodes t (main_step e t) (main_outcome t e rest front (λ x. cc))

module _ (t : Tables) where
  still : NodesFollowTable t.nodes t.nodes
  still = nodes_stay t.nodes

  -- the scheduler's queue
  pub sched_nodes : (e : SchedEvent) (list : List ContainerId) → NodesFollowTable t.nodes (sched_worked (sched_step e list t)).1.nodes
  sched_nodes e list = by (sched_step e list t).1.nodes (sched_shape t list e).nodes
    where
      by : (next : List (List ℕ × NodeRow)) → NodesAfter t.book t.nodes next → NodesFollowTable t.nodes next
      by next NodesAfter.same = still
      by next (NodesAfter.left_so ids) = same_back t.nodes (unlaunched t.book t.nodes ids) (unlaunched_keeps (Back Same t.nodes) (launch_back t.nodes) t.book ids t.nodes (back_same t.nodes))
      by next (NodesAfter.absorbed_so name ids) =
          goes_back t.nodes (with_node (changed_row of_node.Absorb) name (unlaunched_on name t.nodes ids))
          (back_then NodeFollowsTable t.nodes (unlaunched_on name t.nodes ids) (with_node (changed_row of_node.Absorb) name (unlaunched_on name t.nodes ids)) (here_keeps (Back Same t.nodes) (launch_back t.nodes) name ids t.nodes (back_same t.nodes))
          (changed_back events.Absorb (changed_row of_node.Absorb) (λ r. refl) name (unlaunched_on name t.nodes ids)))

  -- an operation is kept
  pub kept_nodes : (op : Op) → NodesFollowTable t.nodes (kept op t).nodes
  kept_nodes (ops.Epoch next stamp) = still
  kept_nodes _ = still

  -- messages
  message_nodes : (message : Message) (reply : Reply) → NodesFollowTable t.nodes (after_message message reply t).nodes
  message_nodes message reply = by message (after_message message reply t).nodes (message_shape t message reply).nodes
    where
      more : (name : List ℕ) (row : NodeRow) → node_row t.nodes name ≡ None → NodesFollowTable t.nodes (t.nodes ++ (name, row) ∷ [])
      more name row none q before now there then = at_name (bytes_eq name q) refl
        where
          at_name : (b : Bool) → bytes_eq name q ≡ b → NodeFollowsTable before.state now.state
          at_name true e = let x = subst (λ (m : List ℕ). node_row t.nodes m ≡ None) (same_text name q e) none in let y = sym x ∙ there in cc
          at_name false e = still q before now there (sym (other_added name q row t.nodes e) ∙ then)

      by : (message : Message) (next : List (List ℕ × NodeRow)) → NodesBy t.nodes message next → NodesFollowTable t.nodes next
      by message next (NodesBy.same one) = still
      by message next (NodesBy.put_so name turn capability running reply none) = more name (new_node_row turn capability running reply) none
      by message next (NodesBy.registered_so name turn capability running reply) =
          goes_back t.nodes (with_node (registered_node_row turn capability running reply) name t.nodes) (changed_back events.Register (registered_node_row turn capability running reply) (λ r. refl) name t.nodes)
      by message next (NodesBy.beaten_so one name id reply) = same_back t.nodes (with_node (beaten_row id reply) name t.nodes) (back_with Same (beaten_row id reply) name t.nodes (λ r. refl) (λ s. refl))
      by message next (NodesBy.lost_so one name) = goes_back t.nodes (with_node (changed_row of_node.Lose) name t.nodes) (changed_back events.Expire (changed_row of_node.Lose) (λ r. refl) name t.nodes)

  pub client_nodes : (ask : ClientAsk) (reply : Reply) → NodesFollowTable t.nodes (after_client ask reply t).nodes
  client_nodes ask reply = message_nodes (messages.Client [] ask) reply

  pub master_nodes : (attempt : AttemptId) (ask : MasterAsk) (reply : Reply) → NodesFollowTable t.nodes (after_master attempt ask reply t).nodes
  master_nodes attempt ask reply = message_nodes (messages.Master attempt ask) reply

  pub node_nodes : (name : List ℕ) (ask : NodeAsk) (reply : Reply) → NodesFollowTable t.nodes (after_node name ask reply t).nodes
  node_nodes name ask reply = message_nodes (messages.Node name ask) reply

  pub clock_nodes : (ask : ClockAsk) (reply : Reply) → NodesFollowTable t.nodes (after_clock ask reply t).nodes
  clock_nodes ask reply = message_nodes (messages.Clock ask) reply
