-- NodeAdded, as a whole step that keeps all that holds of an open life: the report of a node that waits is absorbed, where the event is of
-- its last registration; else there is nothing to do.
use Rattle.rm_invariant.proofs.Common.{◌≡◌, ℕ, List, [], ◌∷◌, Bool, true, false, not, ◌&&◌, ◌||◌, Option, None, Some, drop, filter, refl, sym, ◌∙◌, ap, subst, arith, list_all, and_from, false≢true, not-true, nat_tests, IsPermutation-sym, Held, ContainerId, Settings, is_container, Ascend, container_itself, text_itself, same_text, absorbs, taken_of, is_held, ids_on, is_living, leave, has_container, LifeState, SchedEvent, NodeRow, Tables, absorbed_by, absorbed_if, absorbed_with, taken_in, sched_popped, sched_quiet, sched_worked, is_waiting_row, node_row, EndsByEvent, is_on, sched_step, PlainNode, bare_node, plain_node, History, abstract_scene}
use Rattle.std.proofs.Common.{◌≢◌, ◌==◌}
use Rattle.rm_types.specs.declared.containers.Cause.TheVariants.{Gone}
use Rattle.rm_types.specs.declared.entries.Entry.TheVariants.{Absorbed}
use Rattle.rm_book.specs.Books.{book_row as book_row_of}
use Rattle.rm_model.specs.Absorbing.{with_taken}
use Rattle.rm_model.specs.Nodes.{is_waiting as waits_told, judged_node as node_told}
use Rattle.rm_model.specs.Containers.{is_pending}
use Rattle.rm_model.specs.Rules.{MayAbsorb}
use Rattle.rm_tables.specs.Absorbing.{is_pending_in}
use Rattle.rm_model.specs.State.{NodeState}
use Rattle.rm_states.specs.declared.node.states.NodeState.{NodeState as NodePhase}
use Rattle.rm_states.specs.declared.node.states.NodeState.TheVariants as states
use Rattle.rm_tables.specs.declared.events.SchedEvent.TheVariants as scheds
use Rattle.rm_tables.specs.Absorbing.{book_not_taken}
use Rattle.rm_tables.specs.SchedEvents.{EndsAbsorbed, EndsIf}
use Rattle.rm_refinement.specs.Agreement.{phase_of}
use Rattle.rm_invariant.specs.nodes.Invariant.{NodesInvariant}
use Rattle.rm_invariant.specs.nodes.Book.{All, BookInvariant}
use Rattle.rm_invariant.proofs.nodes.Absorbs.{taken_holds}
use Rattle.rm_invariant.proofs.nodes.Ascending.{permuted_has}
use Rattle.rm_invariant.proofs.nodes.Entries.{absorbed_good, absorbed_lawful, added_quiet_good, known_node}
use Rattle.rm_invariant.proofs.nodes.Lists.{lives_is}
use Rattle.rm_invariant.proofs.nodes.Moved.{name_of}
use Rattle.rm_invariant.specs.masters.Preserves.{PreservesContainers}
use Rattle.rm_invariant.proofs.masters.Absorbed.{absorbed_joins, absorbing, unabsorbed_joins}
use Rattle.rm_invariant.proofs.masters.LeavingEvents.{lives_there, of_passing, same_ids_on}
use Rattle.rm_invariant.specs.events.Refines.{Refines}
use Rattle.rm_invariant.specs.events.Here.{FirstsKnown, NoneAbsent, are_containers_on, astray_at}
use Rattle.rm_invariant.specs.Core.{Nothing, CoreInvariant, PreservesCore}
use Rattle.rm_invariant.proofs.events.Absorbing.{absorbed_agrees, none_taken}
use Rattle.rm_invariant.proofs.events.Knowing.{launches_here, on_node, rows_apart, rows_know}
use Rattle.rm_invariant.proofs.events.Leaving.{all_of, at_event, idle_whole, queues_agree, stepped_whole, tidied_holds}
use Rattle.rm_invariant.proofs.events.Taken.{taken_same}

-- a node that registered waits in the tables where it does for the judge
waits_same : (s : NodePhase) → s ≢ states.Absent → is_waiting_row s ≡ waits_told (phase_of s)
waits_same states.Absent some = absurd (some refl)
waits_same _ some = refl

-- the judge's test is the tables' one turned round
idle_turned : (a : Bool) (m n : ℕ) → (not (m == n) || not a) ≡ not (a && (n == m))
idle_turned true m n = by (m == n) (n == m) refl refl
  where
    by : (b c : Bool) → (m == n) ≡ b → (n == m) ≡ c → (not b || false) ≡ not c
    by true true e f = refl
    by false false e f = refl
    by true false e f = absurd (grind (arith, nat_tests))
    by false true e f = absurd (grind (arith, nat_tests))
idle_turned false m n = by (m == n)
  where
    by : (b : Bool) → (not b || true) ≡ true
    by true = refl
    by false = refl

-- a test that each of these passes, all pass
all_pass : (p : ContainerId → Bool) (ids : List ContainerId) → ((id : ContainerId) → has_container ids id ≡ true → p id ≡ true) → list_all p ids ≡ true
all_pass p ids each = by ids (all_of (λ id. p id ≡ true) ids each)
  where
    by : (list : List ContainerId) → All (λ id. p id ≡ true) list → list_all p list ≡ true
    by [] all = refl
    by (id ∷ list) all = and_from (p id) (list_all p list) all.0 (by list all.1)

-- what holds of each that is taken holds of all
all_held : (P : ContainerId → Type 0) (list : List Held) → ((id : ContainerId) → is_held list id ≡ true → P id) → All (λ held. P held.id) list
all_held P [] each = tt
all_held P (held ∷ list) each = (each held.id (let own = container_itself held.id in rw own refl), all_held P list (λ id among. each id (or_true (is_container held.id id) (is_held list id) among)))
  where
    or_true : (a b : Bool) → b ≡ true → (a || b) ≡ true
    or_true true b e = refl
    or_true false b e = e

held_pass : (ended : List ContainerId) (list : List Held) → All (λ held. has_container ended held.id ≡ false) list → none_taken ended list ≡ true
held_pass ended [] all = refl
held_pass ended (held ∷ list) all = let none = all.0 in and_from _ (none_taken ended list) (rw none refl) (held_pass ended list all.1)

module _ (settings : Settings) (h : History) (t : Tables) (w : CoreInvariant settings h t) (name : List ℕ) (turn : ℕ) (rest : List SchedEvent) (front : t.sched ≡ scheds.NodeAdded name turn ∷ rest)
    (registered : NoneAbsent t.nodes) (firsts : FirstsKnown (abstract_scene h t) t.rows) (pending : (id : ContainerId) → is_pending_in t id ≡ is_pending settings (abstract_scene h t) id) where
  stands : (node : NodeState) × (node_told h.nodes name ≡ Some node)
  stands = known_node (astray_at settings h t) h.nodes h.book t.sched name (scheds.NodeAdded name turn) rest front (text_itself name) w.nodes

  module _ (row : NodeRow) (found : node_row t.nodes name ≡ Some row) (node : NodeState) (there : node_told h.nodes name ≡ Some node) where
    alike : bare_node t.book name row ≡ plain_node node
    alike = let x : Some (bare_node t.book name row) ≡ Some (plain_node node) = let y = w.agrees.nodes name in rw (found, there) at y in cc

    named : node.name ≡ name
    named = same_text node.name name (name_of h.nodes name node there)

    abbrev waits : Bool
    waits = is_waiting_row row.state && (row.turn == turn)

    idle_same : (not (turn == node.last.turn) || not (waits_told node.phase)) ≡ not waits
    idle_same =
        let phase : phase_of row.state ≡ node.phase = ap (λ (x : PlainNode). x.phase) alike in
        let last : row.turn ≡ node.last.turn = ap (λ (x : PlainNode). x.last.turn) alike in
        let same : is_waiting_row row.state ≡ waits_told node.phase = waits_same row.state (registered name row found) ∙ ap waits_told phase in
        ap (λ (n : ℕ). not (turn == n) || not (waits_told node.phase)) (sym last)
        ∙ ap (λ (b : Bool). not (turn == row.turn) || not b) (sym same)
        ∙ idle_turned (is_waiting_row row.state) turn row.turn

    -- there is nothing to do
    quiet_whole : waits ≡ false → PreservesCore settings h t (sched_worked (sched_quiet t))
    quiet_whole none =
        idle_whole settings h t w (scheds.NodeAdded name turn) rest front t.main (record { next = h; joins = unabsorbed_joins settings h t w.keeps w.marks w.sound name turn rest front })
        (added_quiet_good (astray_at settings h t) h.nodes h.book t.sched name turn rest node front there (idle_same ∙ ap not none) w.nodes)

    -- the report is absorbed, and these end
    module _ (some : waits ≡ true) (list : List ContainerId) (ends : Ascend (book_not_taken t.book name (taken_in t name row)) list) where
      abbrev taken : List Held
      taken = taken_in t name row

      busy : (not (turn == node.last.turn) || not (waits_told node.phase)) ≡ false
      busy = idle_same ∙ ap not some

      takes : taken ≡ taken_of settings (abstract_scene h t) node
      takes =
          taken_same settings (abstract_scene h t) t pending name row node refl refl w.agrees.rows (rows_apart t.book.rows h.book w.agrees.rows w.book.apart) (rows_know settings h t w.keeps) firsts named alike

      -- of the state that stands the same are taken
      takes_standing : taken ≡ taken_of settings (at_event settings h t w (scheds.NodeAdded name turn) rest front) node
      takes_standing =
          taken_same settings (at_event settings h t w (scheds.NodeAdded name turn) rest front) t pending name row node w.keeps.recorded refl w.agrees.rows (rows_apart t.book.rows h.book w.agrees.rows w.book.apart)
          (rows_know settings h t w.keeps) firsts named alike

      told : Ascend (filter (λ id. not (is_held taken id)) (ids_on h.book name)) list
      told = subst (λ (ids : List ContainerId). Ascend (filter (λ id. not (is_held taken id)) ids) list) (same_ids_on name t.book.rows h.book w.agrees.rows) ends

      may : MayAbsorb settings (abstract_scene h t) node taken list
      may =
          record {
            registration = absorbed_lawful (astray_at settings h t) (abstract_scene h t) t.sched name turn rest node front there busy w.nodes;
            takes = takes;
            ends = subst (λ (n : List ℕ). Ascend (filter (λ id. not (is_held taken id)) (ids_on h.book n)) list) (sym named) told;
          }

      -- what ends stood there and isn't taken
      stood : (id : ContainerId) → has_container list id ≡ true → (has_container (ids_on h.book name) id ≡ true) × (not (is_held taken id) ≡ true)
      stood id among =
          of_passing (λ one. not (is_held taken one)) (ids_on h.book name) id
          (permuted_has list (filter (λ one. not (is_held taken one)) (ids_on h.book name)) id (IsPermutation-sym (filter (λ one. not (is_held taken one)) (ids_on h.book name)) list told.same) among)

      on : are_containers_on t.book name list ≡ true
      on =
          all_pass (λ id. is_on name (book_row_of t.book id)) list
          (λ id among. sym (on_node t.book.rows h.book name id w.agrees.rows (rows_apart t.book.rows h.book w.agrees.rows w.book.apart)) ∙ lives_is h.book name id ∙ (stood id among).0)

      stay : All (λ held. has_container list held.id ≡ false) taken
      stay = all_held (λ id. has_container list id ≡ false) taken (λ id held. by id held (has_container list id) refl)
        where
          by : (id : ContainerId) → is_held taken id ≡ true → (b : Bool) → has_container list id ≡ b → has_container list id ≡ false
          by id held true e = absurd (false≢true (sym (not-true (is_held taken id) (stood id e).1) ∙ held))
          by id held false e = e

      living : All (λ id. is_living h.book id ≡ true) list
      living = all_of (λ id. is_living h.book id ≡ true) list (λ id among. lives_there h.book name id (lives_is h.book name id ∙ (stood id among).0))

      abbrev life : LifeState
      life = absorbs (at_event settings h t w (scheds.NodeAdded name turn) rest front) name taken list

      book : BookInvariant life Nothing
      book =
          tidied_holds (with_taken name taken (leave (at_event settings h t w (scheds.NodeAdded name turn) rest front) Gone list)) Nothing
          (taken_holds settings (at_event settings h t w (scheds.NodeAdded name turn) rest front) Nothing name node there taken list takes_standing living stay (all_held Nothing taken (λ id held. tt)) w.book)

      both_first : (is_waiting_row row.state && (row.turn == turn)) ≡ true → is_waiting_row row.state ≡ true
      both_first e = by (is_waiting_row row.state) e
        where
          by : (b : Bool) → (b && (row.turn == turn)) ≡ true → b ≡ true
          by true e = refl
          by false e = e

      agrees : Refines life (absorbed_with name row.capability taken list t)
      agrees =
          absorbed_agrees (at_event settings h t w (scheds.NodeAdded name turn) rest front) t w.keeps.recorded w.agrees (rows_know settings h t w.keeps) w.sound
          (launches_here t.book h.book t.nodes h.nodes w.agrees.rows w.book.apart w.agrees.nodes w.book.launches) name row found taken list (both_first some) on (held_pass list taken stay)

      some_whole : PreservesCore settings h t (Absorbed name taken list, sched_popped (absorbed_with name row.capability taken list t))
      some_whole =
          let left : Tables = absorbed_with name row.capability taken list t in
          let g : History = absorbing settings h t w.keeps w.marks w.sound name turn rest front node there row.capability taken list may in
          let joins : PreservesContainers settings h t (Absorbed name taken list) g (sched_popped left) = absorbed_joins settings h t w.keeps w.marks w.sound name turn rest front node there row.capability taken list may in
          let good : NodesInvariant (astray_at settings h t) life.nodes life.book rest = absorbed_good (astray_at settings h t) (at_event settings h t w (scheds.NodeAdded name turn) rest front) t.sched name turn rest node taken list front there busy w.nodes in
          stepped_whole settings h t (Absorbed name taken list) (sched_popped left) life w.keeps refl refl (record { next = g; joins = joins }) refl w.sound (queues_agree life left left.main (drop 1 t.sched) agrees)
          (subst (NodesInvariant (astray_at settings h t) life.nodes life.book) (sym (ap (drop 1) front)) good) book

    by_test : (list : List ContainerId) (b : Bool) → waits ≡ b → EndsIf b name row t list → PreservesCore settings h t (sched_worked (absorbed_if b name row list t))
    by_test list true e ends = some_whole e list ends
    by_test list false e ends = quiet_whole e

  by_row : (list : List ContainerId) (o : Option NodeRow) → node_row t.nodes name ≡ o → EndsAbsorbed o name turn t list → PreservesCore settings h t (sched_worked (absorbed_by o name turn list t))
  by_row list None e ends = let there = stands.1 in absurd (let y = w.agrees.nodes name in let z = rw (e, there) at y in cc)
  by_row list (Some row) e ends = by_test row e stands.0 stands.1 list (is_waiting_row row.state && (row.turn == turn)) refl ends

  -- NodeAdded
  pub added_whole : (list : List ContainerId) → EndsByEvent (scheds.NodeAdded name turn) t list → PreservesCore settings h t (sched_worked (sched_step (scheds.NodeAdded name turn) list t))
  added_whole list ends = by_row list (node_row t.nodes name) refl ends
