-- No node that registered is absent: whatever changes the table of nodes keeps it, and so does each event of the scheduler.
use Rattle.rm_invariant.proofs.Common.{◌≡◌, ℕ, List, [], ◌∷◌, ◌++◌, Bool, true, false, Option, None, Some, refl, sym, ◌∙◌, subst, arith, bytes_eq, ContainerId, same_text, SchedEvent, NodeChange, Absorb, Lose, Unlaunch, NodeRow, Tables, sched_worked, changed_row, node_row, with_node, sched_step, other_added, other_row, own_row}
use Rattle.std.proofs.Common.{◌≢◌}
use Rattle.std.specs.Prelude.{option_map}
use Rattle.rm_states.specs.declared.node.states.NodeState.TheVariants as states
use Rattle.rm_states.specs.declared.node.states.NodeState.{NodeState}
use Rattle.rm_states.specs.declared.node.states.NodeEvent.{NodeEvent}
use Rattle.rm_states.specs.declared.node.states.NodeEvent.TheVariants as events
use Rattle.rm_states.specs.node.Table.{next_node_state}
use Rattle.rm_refinement.proofs.Found.{own_added}
use Rattle.rm_invariant.specs.events.Here.{NoneAbsent}
use Rattle.rm_invariant.proofs.events.SchedShapes.{nodes_keep, sched_shape}

-- a change of a row that leaves no node absent
abbrev pub LeavesNoneAbsent : (NodeRow → NodeRow) → Type 0
LeavesNoneAbsent f = (row : NodeRow) → row.state ≢ states.Absent → (f row).state ≢ states.Absent

-- the row of a node changes
pub registered_with : (f : NodeRow → NodeRow) (name : List ℕ) (nodes : List (List ℕ × NodeRow)) → LeavesNoneAbsent f → NoneAbsent nodes → NoneAbsent (with_node f name nodes)
registered_with f name nodes keeps before q row found = by (bytes_eq name q) refl
  where
    changed : (o : Option NodeRow) → node_row nodes name ≡ o → option_map f o ≡ Some row → row.state ≢ states.Absent
    changed None e is = cc
    changed (Some r) e is = let same : f r ≡ row = cc in subst (λ (x : NodeRow). x.state ≢ states.Absent) same (keeps r (before name r e))

    by : (b : Bool) → bytes_eq name q ≡ b → row.state ≢ states.Absent
    by true e =
        let here : node_row (with_node f name nodes) name ≡ Some row = subst (λ (n : List ℕ). node_row (with_node f name nodes) n ≡ Some row) (sym (same_text name q e)) found in
        changed (node_row nodes name) refl (sym (own_row f name nodes) ∙ here)
    by false e = before q row (sym (other_row f name q nodes e) ∙ found)

-- a row is added
pub registered_more : (name : List ℕ) (row : NodeRow) (nodes : List (List ℕ × NodeRow)) → node_row nodes name ≡ None → row.state ≢ states.Absent → NoneAbsent nodes → NoneAbsent (nodes ++ (name, row) ∷ [])
registered_more name row nodes none some before q one found = by (bytes_eq name q) refl
  where
    by : (b : Bool) → bytes_eq name q ≡ b → one.state ≢ states.Absent
    by true e =
        let here : node_row (nodes ++ (name, row) ∷ []) name ≡ Some one = subst (λ (n : List ℕ). node_row (nodes ++ (name, row) ∷ []) n ≡ Some one) (sym (same_text name q e)) found in
        let own : Some row ≡ Some one = sym (own_added name row nodes none) ∙ here in
        let same : row ≡ one = cc in subst (λ (x : NodeRow). x.state ≢ states.Absent) same some
    by false e = before q one (sym (other_added name q row nodes e) ∙ found)

-- no event makes a node absent
pub still_registered : (event : NodeEvent) (s : NodeState) → s ≢ states.Absent → next_node_state s event ≢ states.Absent
still_registered event s some = grind arith

-- a change that the manager does leaves none absent
pub changes_registered : (change : NodeChange) → LeavesNoneAbsent (changed_row change)
changes_registered Absorb row some = still_registered events.Absorb row.state some
changes_registered Lose row some = still_registered events.Expire row.state some
changes_registered (Unlaunch id) row some = some

-- each event of the scheduler leaves none absent
pub sched_registered : (e : SchedEvent) (list : List ContainerId) (t : Tables) → NoneAbsent t.nodes → NoneAbsent (sched_worked (sched_step e list t)).1.nodes
sched_registered e list t before =
    nodes_keep NoneAbsent (λ id name nodes kept. registered_with (changed_row (Unlaunch id)) name nodes (changes_registered (Unlaunch id)) kept)
    (λ name nodes kept. registered_with (changed_row Absorb) name nodes (changes_registered Absorb) kept) t.book t.nodes (sched_step e list t).1.nodes before (sched_shape t list e).nodes
