-- No node reported more than a thousand containers: each move keeps it.
use Rattle.rm_invariant.proofs.Common.{◌≡◌, ◌≤◌, ℕ, List, [], ◌∷◌, ◌++◌, Bool, true, false, Option, None, Some, length, refl, sym, ◌∙◌, subst, bytes_eq, Entry, ContainerId, Op, Reply, same_text, MainEvent, SchedEvent, NodeChange, Absorb, Lose, Unlaunch, NodeRow, Tables, main_worked, sched_worked, kept, main_step, beaten_row, changed_row, new_node_row, node_row, ordered_row, registered_node_row, with_node, sched_step, other_added, other_row, own_row, Message}
use Rattle.std.specs.Prelude.{option_map}
use Rattle.rm_types.specs.declared.operations.Op.TheVariants as ops
use Rattle.rm_tables.specs.declared.events.MainEvent.TheVariants as mains
use Rattle.rm_refinement.proofs.Found.{own_added}
use Rattle.rm_invariant.specs.messages.Ranges.{IsMessage}
use Rattle.rm_invariant.specs.events.Outcomes.{Outcome, orders}
use Rattle.rm_invariant.proofs.events.Outcomes.{main_outcome}
use Rattle.rm_invariant.specs.measure.Reports.{FewReported, ReportFew}
use Rattle.rm_invariant.specs.measure.Measure.{most_reported}
use Rattle.rm_invariant.proofs.events.SchedShapes.{nodes_keep, sched_shape}
use Rattle.rm_invariant.proofs.messages.MessageShapes.{NodesBy, message_shape}
use Rattle.rm_invariant.specs.messages.Outcomes.{after_message}

-- a change of a row after which its node reported few
abbrev StaysFew : (NodeRow → NodeRow) → Type 0
StaysFew f = (row : NodeRow) → length row.running ≤ most_reported → length (f row).running ≤ most_reported

-- the row of a node changes
few_with : (f : NodeRow → NodeRow) (name : List ℕ) (nodes : List (List ℕ × NodeRow)) → StaysFew f → ReportFew nodes → ReportFew (with_node f name nodes)
few_with f name nodes keeps before q row found = by (bytes_eq name q) refl
  where
    changed : (o : Option NodeRow) → node_row nodes name ≡ o → option_map f o ≡ Some row → length row.running ≤ most_reported
    changed None e is = cc
    changed (Some r) e is = let same : f r ≡ row = cc in subst (λ (x : NodeRow). length x.running ≤ most_reported) same (keeps r (before name r e))

    by : (b : Bool) → bytes_eq name q ≡ b → length row.running ≤ most_reported
    by true e =
        let here : node_row (with_node f name nodes) name ≡ Some row = subst (λ (n : List ℕ). node_row (with_node f name nodes) n ≡ Some row) (sym (same_text name q e)) found in
        changed (node_row nodes name) refl (sym (own_row f name nodes) ∙ here)
    by false e = before q row (sym (other_row f name q nodes e) ∙ found)

-- a row is added
few_more : (name : List ℕ) (row : NodeRow) (nodes : List (List ℕ × NodeRow)) → node_row nodes name ≡ None → length row.running ≤ most_reported → ReportFew nodes → ReportFew (nodes ++ (name, row) ∷ [])
few_more name row nodes none some before q one found = by (bytes_eq name q) refl
  where
    by : (b : Bool) → bytes_eq name q ≡ b → length one.running ≤ most_reported
    by true e =
        let here : node_row (nodes ++ (name, row) ∷ []) name ≡ Some one = subst (λ (n : List ℕ). node_row (nodes ++ (name, row) ∷ []) n ≡ Some one) (sym (same_text name q e)) found in
        let own : Some row ≡ Some one = sym (own_added name row nodes none) ∙ here in
        let same : row ≡ one = cc in subst (λ (x : NodeRow). length x.running ≤ most_reported) same some
    by false e = before q one (sym (other_added name q row nodes e) ∙ found)

-- a change that the manager does leaves what was reported
changes_few : (change : NodeChange) → StaysFew (changed_row change)
changes_few Absorb row few = few
changes_few Lose row few = few
changes_few (Unlaunch id) row few = few

-- each event of the scheduler
pub sched_few : (e : SchedEvent) (list : List ContainerId) (t : Tables) → FewReported t → FewReported (sched_worked (sched_step e list t)).1
sched_few e list t before =
    nodes_keep ReportFew (λ id name nodes kept. few_with (changed_row (Unlaunch id)) name nodes (changes_few (Unlaunch id)) kept) (λ name nodes kept. few_with (changed_row Absorb) name nodes (changes_few Absorb) kept)
    t.book t.nodes (sched_step e list t).1.nodes before (sched_shape t list e).nodes

-- each event of the main queue, by what it comes to
comes_few : (t : Tables) (done : Entry × Tables) → Outcome t done → ReportFew t.nodes → ReportFew done.1.nodes
comes_few t done (orders id container node row current at_ number alive master place) before = few_with (ordered_row container) node t.nodes (λ one few. few) before
comes_few t done _ before = before

pub main_few : (e : MainEvent) (t : Tables) (rest : List MainEvent) → t.main ≡ e ∷ rest → FewReported t → FewReported (main_worked (main_step e t)).1
main_few mains.EpochStart t rest front before = before
main_few e t rest front before = comes_few t _ (main_outcome t e rest front (λ e. cc)) before

-- each operation that is kept
pub kept_few : (op : Op) (t : Tables) → FewReported t → FewReported (kept op t)
kept_few (ops.Epoch next stamp) t before = before
kept_few _ t before = before

-- each message whose parts are in their ranges
pub message_few : (message : Message) (reply : Reply) (t : Tables) → IsMessage message → FewReported t → FewReported (after_message message reply t)
message_few message reply t is before = by message (after_message message reply t).nodes is (message_shape t message reply).nodes
  where
    by : (message : Message) (next : List (List ℕ × NodeRow)) → IsMessage message → NodesBy t.nodes message next → ReportFew next
    by message next is (NodesBy.same one) = before
    by message next is (NodesBy.put_so name turn capability running reply none) = few_more name (new_node_row turn capability running reply) t.nodes none is.1.1.few before
    by message next is (NodesBy.registered_so name turn capability running reply) = few_with (registered_node_row turn capability running reply) name t.nodes (λ one some. is.1.1.few) before
    by message next is (NodesBy.beaten_so one name id reply) = few_with (beaten_row id reply) name t.nodes (λ one some. some) before
    by message next is (NodesBy.lost_so one name) = few_with (changed_row Lose) name t.nodes (changes_few Lose) before
