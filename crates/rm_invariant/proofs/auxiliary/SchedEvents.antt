-- Each event of the scheduler's queue keeps what else holds of an open life.
use Rattle.rm_invariant.proofs.Common.{◌≡◌, ◌≤◌, ℕ, List, [], ◌∷◌, ◌++◌, Bool, true, false, Option, None, Some, refl, sym, ◌∙◌, ap, subst, arith, flat_map, list_any, bytes_eq, flat_map-append, and_parts, Entry, AppId, AttemptId, ContainerId, same_text, capability_of, once, AttemptState, SchedEvent, Absorb, Unlaunch, NodeRow, AppRow, Current, Tables, unlaunched_on, sched_worked, changed, granted, is_finished_op, closed, changed_row, node_row, with_node, row_of, sched_step, finishes_by, History, OnlyNodesOffer, taken_in, drop, abstract_scene}
use Rattle.std.proofs.Common.{◌==◌, count_by}
use Rattle.std.proofs.lemmas.List.{append-nil}
use Rattle.rm_book.proofs.Nodes.{capability_in-with_capability}
use Rattle.rm_states.specs.declared.attempt.states.AttemptState.TheVariants as attempts
use Rattle.rm_tables.specs.declared.changes.AttemptChange.TheVariants as of_attempt
use Rattle.rm_tables.specs.declared.changes.RowChange.TheVariants as of_app
use Rattle.rm_refinement.specs.Services.{finishes_with}
use Rattle.rm_invariant.specs.apps.Completed.{is_retire}
use Rattle.rm_invariant.specs.apps.Submissions.{starting}
use Rattle.rm_invariant.proofs.apps.Completing.{completes_still}
use Rattle.rm_invariant.proofs.apps.Counts.{count_append}
use Rattle.rm_invariant.specs.events.Asking.{OthersCurrent, is_numbered_in}
use Rattle.rm_invariant.specs.events.Masters.{MastersAskOnce, goes_in}
use Rattle.rm_invariant.specs.events.SchedFacts.{SchedFacts}
use Rattle.rm_invariant.specs.Core.{PreservesCore}
use Rattle.rm_invariant.proofs.events.SchedFacts.{rest_served}
use Rattle.rm_invariant.proofs.events.AskedEvents.{sched_apt}
use Rattle.rm_invariant.proofs.events.Registered.{sched_registered}
use Rattle.rm_invariant.specs.auxiliary.Invariant.{MastersSingle, OthersGo, AuxInvariant, goes_by, goes_numbered}
use Rattle.rm_invariant.proofs.auxiliary.Rows.{same_with, still_node}
use Rattle.rm_tables.specs.Absorbing.{absorption_step}
use Rattle.rm_invariant.specs.events.SchedOutcomes.{SchedOutcome}
use Rattle.rm_invariant.specs.events.SchedOutcomes as outcomes
use Rattle.rm_invariant.proofs.events.SchedOutcomes.{sched_outcome}
use Rattle.rm_invariant.proofs.events.SchedShapes.{SchedShape, here_keeps, rows_keep, sched_parts, sched_shape, unlaunched_keeps}
use Rattle.rm_invariant.specs.events.Here.{AreServed}
use Rattle.rm_invariant.proofs.auxiliary.Together.{RowParts, aux_after, parts_changed, parts_with, rows_of, same_stays}

-- WHAT IS ASKED FOR, TOLD IN TWO WAYS

-- an attempt that goes on is the current one, and lives or ends
pub goes_split : (n : ℕ) (o : Option AppRow) → goes_by n o ≡ true → (is_numbered_in n o ≡ true) × (goes_in o ≡ true)
goes_split n None e = cc
goes_split n (Some row) e = by row.current e
  where
    by : (c : Option Current) → goes_numbered n c ≡ true → (is_numbered_in n (Some (record row { current = c })) ≡ true) × (goes_in (Some (record row { current = c })) ≡ true)
    by None e = cc
    by (Some current) e = and_parts (current.number == n) _ e

pub goes_join : (n : ℕ) (o : Option AppRow) → is_numbered_in n o ≡ true → goes_in o ≡ true → goes_by n o ≡ true
goes_join n None a b = cc
goes_join n (Some row) a b = by row.current a b
  where
    by : (c : Option Current) → is_numbered_in n (Some (record row { current = c })) ≡ true → goes_in (Some (record row { current = c })) ≡ true → goes_numbered n c ≡ true
    by None a b = cc
    by (Some current) a b = rw (a, b) refl

pub asks_split : (t : Tables) → OthersGo t → MastersSingle t → MastersAskOnce t × OthersCurrent t
asks_split t others single = (
  record { single = single; others = λ q some. (goes_split q.number (row_of t.rows q.app) (others q some)).1 },
  λ q some. (goes_split q.number (row_of t.rows q.app) (others q some)).0,
)

pub asks_join : (t : Tables) → MastersAskOnce t → OthersCurrent t → OthersGo t
asks_join t once current q some = goes_join q.number (row_of t.rows q.app) (current q some) (once.others q some)

-- THE ROWS

-- an attempt to which a container is granted finishes exactly where it did
granted_finishes : (id : ContainerId) (q : AttemptId) (row : AppRow) → finishes_by q (Some (changed (of_app.OfAttempt (of_attempt.Grant id)) row)) ≡ finishes_by q (Some row)
granted_finishes id q row = with_current row.current
  where
    at_state : (c : Current) (s : AttemptState) → c.state ≡ s → finishes_with q (Some (granted id c)) ≡ finishes_with q (Some c)
    at_state c attempts.Scheduled is = rw is refl
    at_state c _ is = rw is refl

    with_current : (o : Option Current) → finishes_by q (Some (changed (of_app.OfAttempt (of_attempt.Grant id)) (record row { current = o }))) ≡ finishes_by q (Some (record row { current = o }))
    with_current None = refl
    with_current (Some c) = at_state c c.state refl

-- AN EVENT

-- only a node that registered offers something
sched_offers : (t : Tables) (list : List ContainerId) → OnlyNodesOffer t → (e : SchedEvent) (done : Entry × Tables) → SchedOutcome t list e done → OnlyNodesOffer done.1
sched_offers t list offers e done (outcomes.ends one cause id ids is) = λ q none.
    offers q (unlaunched_keeps (λ (nodes : List (List ℕ × NodeRow)). node_row nodes q ≡ None → node_row t.nodes q ≡ None) (λ id name nodes before none. before (still_node (changed_row (Unlaunch id)) name q nodes none)) t.book (id ∷ ids) t.nodes (λ none. none) none)
sched_offers t list offers e done (outcomes.absorbs name turn row found waits) = λ q none. at_name q (bytes_eq name q) refl (none_before q none)
  where
    none_before : (q : List ℕ) → node_row (with_node (changed_row Absorb) name (unlaunched_on name t.nodes list)) q ≡ None → node_row t.nodes q ≡ None
    none_before q none =
        here_keeps (λ (nodes : List (List ℕ × NodeRow)). node_row nodes q ≡ None → node_row t.nodes q ≡ None) (λ id name nodes before none. before (still_node (changed_row (Unlaunch id)) name q nodes none)) name list t.nodes (λ none. none)
        (still_node (changed_row Absorb) name q (unlaunched_on name t.nodes list) none)

    at_name : (q : List ℕ) (d : Bool) → bytes_eq name q ≡ d → node_row t.nodes q ≡ None → capability_of (absorption_step name row.capability (taken_in t name row) list t).1.book q ≡ None
    at_name q true same none =
        let here : node_row t.nodes name ≡ None = subst (λ (n : List ℕ). node_row t.nodes n ≡ None) (sym (same_text name q same)) none in
        let x : Some row ≡ None = sym found ∙ here in
        cc
    at_name q false apart none = capability_in-with_capability name q row.capability t.book.nodes ∙ rw apart (offers q none)
sched_offers t list offers e done _ = offers

-- all of it after an event of the scheduler's queue
module _ (h : History) (t : Tables) (sides : AuxInvariant h t) (facts : SchedFacts t.settings h t) (e : SchedEvent) (rest : List SchedEvent) (front : t.sched ≡ e ∷ rest) (list : List ContainerId) where
  abbrev after_it : Tables
  after_it = (sched_worked (sched_step e list t)).1

  outcome : SchedOutcome t list e (sched_step e list t)
  outcome = sched_outcome t list e

  shape : SchedShape t (sched_step e list t)
  shape = sched_shape t list e

  pub sched_sides : (s : PreservesCore t.settings h t (sched_worked (sched_step e list t))) → AuxInvariant s.next after_it
  sched_sides s =
      let apt = sched_apt t (facts.once, facts.current, facts.apps) e list in
      let tree : after_it.tree ≡ t.tree = ap (λ (next : Tables). next.tree) shape.rest in
      let ended : after_it.ended ≡ t.ended = ap (λ (next : Tables). next.ended) shape.rest in
      let settings : after_it.settings ≡ t.settings = ap (λ (next : Tables). next.settings) shape.rest in
      let waits : after_it.waits ≡ t.waits = ap (λ (next : Tables). next.waits) shape.rest in
      let awaiting : after_it.awaiting ≡ t.awaiting = ap (λ (next : Tables). next.awaiting) shape.rest in
      let going : after_it.going ≡ t.going = ap (λ (next : Tables). next.going) shape.rest in
      let sched : after_it.sched ≡ drop 1 t.sched = ap (λ (next : Tables). drop 1 next.sched) shape.rest in
      let main : after_it.main ≡ t.main ++ shape.more = shape.main in
      let none : flat_map starting shape.more ≡ [] = shape.quiet.starts in
      let starts : flat_map starting after_it.main ≡ flat_map starting t.main = rw main (simp flat_map-append (rw none (append-nil (flat_map starting t.main)))) in
      let retire : 1 ≤ count_by is_retire t.main → 1 ≤ count_by is_retire after_it.main = (λ some. rw main (let all = count_append is_retire t.main shape.more in omega (arith, all, some))) in
      let served : AreServed h.endings.releases (drop 1 t.sched) = rw front (rest_served h.endings.releases e rest (subst (AreServed h.endings.releases) front sides.served)) in
      aux_after t.settings h t (sched_step e list t).0 after_it after_it s h.apps.retired h.apps.submitted h.endings.releases (sched_parts h t list e (sched_step e list t) outcome)
      (record {
        rows = rows_keep (RowParts (abstract_scene h t) h.first h.apps.retired) (λ one rows kept. parts_with (closed one) one.attempt.app rows (λ row. refl) (λ row found. same_stays row (closed one row) refl refl) kept)
            (λ id rows kept. parts_changed (of_app.OfAttempt (of_attempt.Grant id)) id.attempt.app rows (λ row found. tt) kept) t.rows after_it.rows (rows_of h t sides) shape.rows;
        completes = completes_still t after_it sides.completes tree ended settings retire;
        apt = rw tree sides.apt;
        present = sched_registered e list t facts.registered;
        others = asks_join after_it apt.0 apt.1;
        single = apt.0.single;
        waits = waits ∙ sides.waits;
        served = rw sched served;
        offers = sched_offers t list sides.offers e (sched_step e list t) outcome;
        order = rw (awaiting, starts) sides.lists.order;
        going = rw (going, tree) sides.lists.going;
        finishes = λ q. ap (list_any (is_finished_op q)) awaiting
            ∙ rows_keep (λ (rows : List (AppId × Option AppRow)). list_any (is_finished_op q) t.awaiting ≡ finishes_by q (row_of rows q.app))
            (λ one rows before. before ∙ sym (same_with (finishes_by q) (closed one) one.attempt.app q.app rows (λ row. refl)))
            (λ id rows before. before ∙ sym (same_with (finishes_by q) (changed (of_app.OfAttempt (of_attempt.Grant id))) id.attempt.app q.app rows (granted_finishes id q))) t.rows after_it.rows (sides.finishes q) shape.rows;
      })
