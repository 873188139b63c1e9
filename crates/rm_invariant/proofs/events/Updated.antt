-- NodeUpdate: a pass answers the beat of a node, as a whole step that keeps all that holds of an open life.
use Rattle.rm_invariant.proofs.Common.{◌≡◌, ℕ, List, [], ◌∷◌, Bool, true, false, ◌&&◌, not, Option, None, Some, drop, fold, refl, sym, ◌∙◌, ap, subst, if◌then◌else◌, Grant, ContainerId, Resource, Settings, text_itself, passes, Allowed, LifeState, Scene, SchedEvent, NodeRow, Tables, sched_popped, sched_worked, node_row, grants_on, passed_with, rows_after_grant, still_waits, updated_by, sched_step, bare_node, plain_node, row_of, History, abstract_life, abstract_scene, live_state}
use Rattle.std.proofs.Common.{is_some}
use Rattle.std.specs.Prelude.{option_and_then, option_map}
use Rattle.rm_types.specs.declared.entries.Entry.TheVariants.{Pass}
use Rattle.rm_model.specs.Nodes.{is_ready as ready_told, judged_node}
use Rattle.rm_model.specs.Passing.{first_fit_on, pass_of, waits_for_nodes}
use Rattle.rm_model.specs.Rules.{MayPass}
use Rattle.rm_model.specs.State.{NodeState}
use Rattle.rm_tables.specs.declared.events.SchedEvent.TheVariants as scheds
use Rattle.rm_invariant.specs.apps.Invariant.{RowInvariant}
use Rattle.rm_invariant.specs.apps.View.{View}
use Rattle.rm_invariant.proofs.apps.Effects as views
use Rattle.rm_invariant.specs.masters.View.{ContainerView}
use Rattle.rm_invariant.specs.masters.Invariant.{ContainerInvariant, RemovalInvariant}
use Rattle.rm_invariant.proofs.masters.Effects.{sched_taken}
use Rattle.rm_invariant.specs.events.Masters.{AppsOnce, MastersAskOnce}
use Rattle.rm_invariant.proofs.events.OneByOne.{BothSay, all_say, history_after, tables_after}
use Rattle.rm_invariant.proofs.events.Turning.{all_ready, masters_once}
use Rattle.rm_invariant.proofs.apps.Keeping.{in_scene}
use Rattle.rm_invariant.specs.nodes.Invariant.{NodesInvariant}
use Rattle.rm_invariant.specs.nodes.Book.{All, BookInvariant, IsAbsorbed}
use Rattle.rm_invariant.proofs.nodes.Entries.{AllOn, AtBeat, known_node, pass_good, pass_lawful}
use Rattle.rm_invariant.specs.masters.Preserves.{PreservesContainersTo}
use Rattle.rm_invariant.specs.events.Asking.{AreNext, AskersCurrent, OthersCurrent}
use Rattle.rm_invariant.specs.Core.{Nothing, CoreInvariant, PreservesCore}
use Rattle.rm_invariant.proofs.events.Askers.{askers_current}
use Rattle.rm_invariant.proofs.events.Entering.{passed_holds}
use Rattle.rm_invariant.proofs.events.Leaving.{at_event, queues_agree, stepped_whole}
use Rattle.rm_invariant.proofs.events.Next.{grants_next}
use Rattle.rm_invariant.proofs.events.OnNode.{all_now, all_on}
use Rattle.rm_invariant.proofs.events.Passed.{passed_agrees}
use Rattle.rm_invariant.proofs.events.Passing.{pass_same}
use Rattle.rm_invariant.specs.events.Here.{astray_at}

module _ (settings : Settings) (h : History) (t : Tables) (w : CoreInvariant settings h t) (name : List ℕ) (rest : List SchedEvent) (front : t.sched ≡ scheds.NodeUpdate name ∷ rest)
    (others : OthersCurrent t) (waits : still_waits t ≡ waits_for_nodes settings (abstract_scene h t)) where
  current : AskersCurrent t
  current = askers_current settings h t w.keeps.all w.agrees.asks others

  -- the node has a row
  pub known_row : (row : NodeRow) × (node_row t.nodes name ≡ Some row)
  known_row = by (node_row t.nodes name) refl
    where
      by : (o : Option NodeRow) → node_row t.nodes name ≡ o → (row : NodeRow) × (node_row t.nodes name ≡ Some row)
      by None e =
          let k = known_node (astray_at settings h t) h.nodes h.book t.sched name (scheds.NodeUpdate name) rest front (text_itself name) w.nodes in
          let same = w.agrees.nodes name in
          let x : None ≡ Some (plain_node k.0) = sym (ap (option_map (bare_node t.book name)) e) ∙ same ∙ ap (option_map plain_node) k.1 in
          absurd (let y = x in cc)
      by (Some row) e = (row, e)

  module _ (row : NodeRow) (found : node_row t.nodes name ≡ Some row) where
    abbrev pub grants : List Grant
    grants = grants_on name row t

    beat : AtBeat settings (abstract_scene h t) name
    beat = pass_lawful settings (abstract_scene h t) t.sched name rest front w.nodes

    granted_same : grants ≡ pass_of settings (abstract_scene h t) beat.node
    granted_same = pass_same settings (abstract_scene h t) t refl refl w.agrees current name row beat.node waits found beat.there

    -- the judge allows the pass
    pub passed_lawful : Allowed settings (live_state h t) (Pass name grants)
    passed_lawful =
        in_scene settings h t w.keeps (Pass name grants)
        (let may : MayPass settings (abstract_scene h t) beat.node grants = record { beat = beat.beat; none_done = beat.none_done; grants_are = granted_same } in rw beat.there may)

    -- the nodes are good after it
    pub passed_nodes : NodesInvariant (astray_at settings h t) (passes (at_event settings h t w (scheds.NodeUpdate name) rest front) name grants).nodes (passes (at_event settings h t w (scheds.NodeUpdate name) rest front) name grants).book rest
    passed_nodes = pass_good (astray_at settings h t) (at_event settings h t w (scheds.NodeUpdate name) rest front) t.sched name grants rest front (all_on t name row) w.nodes

    next_grants : AreNext t.rows h.granted grants
    next_grants = grants_next (abstract_life h t) t w.agrees current name row

    -- a node offers something where it is granted something
    absorbed : All (λ grant. IsAbsorbed h.nodes grant.node) grants
    absorbed = by beat.node.capability refl
      where
        each : IsAbsorbed h.nodes name → (list : List Grant) → AllOn name list → All (λ grant. IsAbsorbed h.nodes grant.node) list
        each is [] on = tt
        each is (grant ∷ list) on = (subst (IsAbsorbed h.nodes) (sym on.0) is, each is list on.1)

        nothing : (b : Bool) → (if b then first_fit_on (abstract_scene h t) beat.node.name None else []) ≡ []
        nothing true = refl
        nothing false = refl

        by : (o : Option Resource) → beat.node.capability ≡ o → All (λ grant. IsAbsorbed h.nodes grant.node) grants
        by None e =
            let none : grants ≡ [] =
            granted_same
            ∙ ap (λ (o : Option Resource). if ready_told beat.node.phase && not (waits_for_nodes settings (abstract_scene h t)) then first_fit_on (abstract_scene h t) beat.node.name o else []) e
            ∙ nothing (ready_told beat.node.phase && not (waits_for_nodes settings (abstract_scene h t))) in
            subst (λ (list : List Grant). All (λ grant. IsAbsorbed h.nodes grant.node) list) (sym none) tt
        by (Some capability) e = each (ap (λ (o : Option NodeState). is_some (option_and_then (λ (node : NodeState). node.capability) o)) beat.there ∙ ap (λ (o : Option Resource). is_some o) e) grants (all_on t name row)

    -- and the book holds
    pub passed_book : BookInvariant (passes (at_event settings h t w (scheds.NodeUpdate name) rest front) name grants) Nothing
    passed_book = passed_holds (at_event settings h t w (scheds.NodeUpdate name) rest front) name t.rows grants w.book next_grants (all_now t name row) absorbed

    -- a pass that joins is a whole step
    pub passed_whole : PreservesContainersTo settings h t (Pass name grants, sched_popped (passed_with grants t)) → PreservesCore settings h t (Pass name grants, sched_popped (passed_with grants t))
    passed_whole joins =
        let m : Scene = at_event settings h t w (scheds.NodeUpdate name) rest front in
        let life : LifeState = passes m name grants in
        let made : Tables = passed_with grants t in
        stepped_whole settings h t (Pass name grants) (sched_popped made) life w.keeps refl refl joins refl w.sound (queues_agree life made made.main (drop 1 t.sched) (passed_agrees m t w.agrees name grants next_grants))
        (subst (NodesInvariant (astray_at settings h t) life.nodes life.book) (sym (ap (drop 1) front)) passed_nodes) passed_book

    module _ (once : MastersAskOnce t) (apps : AppsOnce t) where
      -- the history after the pass
      abbrev pub history_passed : History
      history_passed = record (history_after h grants) { nodes = (passes (at_event settings h t w (scheds.NodeUpdate name) rest front) name grants).nodes }

      -- what is said of attempts and of containers after it
      both : BothSay settings (history_after h grants) (tables_after t grants)
      both =
          all_say settings t.rows grants h t (w.keeps.all, w.marks) w.sound w.book next_grants (all_now t name row) absorbed (all_ready settings h t w.keeps.all w.agrees.asks once current name row)
          (masters_once settings h t w.keeps.all w.agrees.asks once current apps name row)

      -- the pass joins
      pub passed_joins : PreservesContainersTo settings h t (Pass name grants, sched_popped (passed_with grants t))
      passed_joins =
          record {
            next = history_passed;
            joins =
                record {
                  step =
                      record {
                        lawful = passed_lawful;
                        same = refl;
                        keeps =
                            record {
                              is_open = w.keeps.is_open;
                              recorded = w.keeps.recorded;
                              all = λ q. subst (λ (v : View). RowInvariant settings q (row_of (fold rows_after_grant t.rows grants) q.app) v) (views.sched_taken history_passed (passed_with grants t) q (scheds.NodeUpdate name) rest front) (both.0 q);
                            };
                      };
                  marks = λ c.
                      subst (λ (v : ContainerView). ContainerInvariant c (row_of (fold rows_after_grant t.rows grants) c.attempt.app) v × RemovalInvariant c v) (sched_taken history_passed (passed_with grants t) c (scheds.NodeUpdate name) rest front) (both.1 c);
                };
          }

  -- NodeUpdate
  pub pass_whole : (list : List ContainerId) → MastersAskOnce t → AppsOnce t → PreservesCore settings h t (sched_worked (sched_step (scheds.NodeUpdate name) list t))
  pass_whole list once apps =
      let k = known_row in
      let is : updated_by (node_row t.nodes name) name t ≡ (Pass name (grants_on name k.0 t), passed_with (grants_on name k.0 t) t) = ap (λ (o : Option NodeRow). updated_by o name t) k.1 in
      subst (λ done. PreservesCore settings h t (sched_worked done)) (sym is) (passed_whole k.0 k.1 (passed_joins k.0 k.1 once apps))
