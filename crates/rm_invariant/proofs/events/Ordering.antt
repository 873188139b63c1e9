-- The launch of a master is ordered at the node where it stands, as a whole step that keeps all that holds of an open life.
use Rattle.rm_invariant.proofs.Common.{◌≡◌, ℕ, List, [], ◌∷◌, ◌++◌, Bool, true, false, Option, None, Some, refl, sym, ◌∙◌, ap, subst, if◌then◌else◌, bytes_eq, Ordered, ContainerId, Settings, same_text, ids_on, lives_on, judged_node, with_judged_node, LifeState, Row, SchedEvent, Tables, main_popped, main_worked, node_at, with_order, ordered_row, PlainNode, with_same, History, abstract_life}
use Rattle.std.proofs.Common.{is_some}
use Rattle.std.specs.Prelude.{option_and_then, option_map}
use Rattle.rm_model.specs.Changes.{orders}
use Rattle.rm_model.specs.State.{NodeState}
use Rattle.rm_refinement.proofs.Found.{other_told, own_told}
use Rattle.rm_invariant.specs.nodes.Invariant.{NodesInvariant, NodeInvariant, events_of}
use Rattle.rm_invariant.specs.nodes.Book.{All, AreLaunches, BookInvariant, BookRowInvariant}
use Rattle.rm_invariant.proofs.nodes.Holds.{all_append, all_map}
use Rattle.rm_invariant.specs.masters.Preserves.{PreservesContainersTo}
use Rattle.rm_invariant.proofs.masters.Held.{same_node, stands}
use Rattle.rm_invariant.specs.events.Refines.{Refines}
use Rattle.rm_invariant.specs.Core.{Nothing, CoreInvariant, PreservesCore}
use Rattle.rm_invariant.proofs.events.Leaving.{stepped_whole}
use Rattle.rm_invariant.specs.events.Here.{astray_at}

module _ (c : ContainerId) (name : List ℕ) where
  -- a node that is to launch it too
  abbrev launching : NodeState → NodeState
  launching node = record node { launches = node.launches ++ c ∷ [] }

  -- what isn't worked off at a node is the same
  launching_good : (astray : ContainerId → Bool) (o : Option NodeState) (events : List SchedEvent) (on : List ContainerId) → NodeInvariant astray o events on → NodeInvariant astray (option_map launching o) events on
  launching_good astray None events on good = good
  launching_good astray (Some node) events on good = good

  nodes_good : (astray : ContainerId → Bool) (nodes : List NodeState) (book : List Row) (sched : List SchedEvent) → NodesInvariant astray nodes book sched → NodesInvariant astray (with_judged_node launching name nodes) book sched
  nodes_good astray nodes book sched good = λ q. by q (bytes_eq name q) refl
    where
      by : (q : List ℕ) (b : Bool) → bytes_eq name q ≡ b → NodeInvariant astray (judged_node (with_judged_node launching name nodes) q) (events_of q sched) (ids_on book q)
      by q true e =
          let here : NodeInvariant astray (judged_node (with_judged_node launching name nodes) name) (events_of name sched) (ids_on book name) =
          subst (λ (o : Option NodeState). NodeInvariant astray o (events_of name sched) (ids_on book name)) (sym (own_told launching name nodes (λ one. refl))) (launching_good astray (judged_node nodes name) (events_of name sched) (ids_on book name) (good name)) in
          subst (λ (z : List ℕ). NodeInvariant astray (judged_node (with_judged_node launching name nodes) z) (events_of z sched) (ids_on book z)) (same_text name q e) here
      by q false e = subst (λ (o : Option NodeState). NodeInvariant astray o (events_of q sched) (ids_on book q)) (sym (other_told launching name q nodes (λ one. refl) e)) (good q)

  -- what each node is to launch stands on it
  launches_stand : (book : List Row) → lives_on book name c ≡ true → (nodes : List NodeState) → All (AreLaunches book) nodes → All (AreLaunches book) (with_judged_node launching name nodes)
  launches_stand book on nodes all = all_map (AreLaunches book) (AreLaunches book) (λ node. if bytes_eq node.name name then launching node else node) (λ node here. by node (bytes_eq node.name name) refl here) nodes all
    where
      by : (node : NodeState) (b : Bool) → bytes_eq node.name name ≡ b → AreLaunches book node → AreLaunches book (if b then launching node else node)
      by node true e here =
          let same : node.name ≡ name = same_text node.name name e in
          let there : lives_on book node.name c ≡ true = rw same on in
          all_append (λ id. lives_on book node.name id ≡ true) node.launches (c ∷ []) here (there, tt)
      by node false e here = here

  -- a node offers what it did
  offers_still : (nodes : List NodeState) (q : List ℕ) → option_and_then (λ (node : NodeState). node.capability) (judged_node (with_judged_node launching name nodes) q) ≡ option_and_then (λ (node : NodeState). node.capability) (judged_node nodes q)
  offers_still nodes q = by (bytes_eq name q) refl
    where
      of : (o : Option NodeState) → option_and_then (λ (node : NodeState). node.capability) (option_map launching o) ≡ option_and_then (λ (node : NodeState). node.capability) o
      of None = refl
      of (Some node) = refl

      by : (b : Bool) → bytes_eq name q ≡ b → option_and_then (λ (node : NodeState). node.capability) (judged_node (with_judged_node launching name nodes) q) ≡ option_and_then (λ (node : NodeState). node.capability) (judged_node nodes q)
      by true e =
          subst (λ (z : List ℕ). option_and_then (λ (node : NodeState). node.capability) (judged_node (with_judged_node launching name nodes) z) ≡ option_and_then (λ (node : NodeState). node.capability) (judged_node nodes z)) (same_text name q e)
          (ap (λ (o : Option NodeState). option_and_then (λ (node : NodeState). node.capability) o) (own_told launching name nodes (λ one. refl)) ∙ of (judged_node nodes name))
      by false e = ap (λ (o : Option NodeState). option_and_then (λ (node : NodeState). node.capability) o) (other_told launching name q nodes (λ one. refl) e)

  -- the book holds
  orders_holds : (life : LifeState) → lives_on life.book name c ≡ true → BookInvariant life Nothing → BookInvariant (orders life c name) Nothing
  orders_holds life on h = record { apart = h.apart; rows = all_rows life.book h.rows; left = h.left; launches = launches_stand life.book on life.nodes h.launches }
    where
      all_rows : (rows : List Row) → All (BookRowInvariant life Nothing) rows → All (BookRowInvariant (orders life c name) Nothing) rows
      all_rows [] k = tt
      all_rows (row ∷ rows) k = ((ap is_some (offers_still life.nodes row.node) ∙ k.0.0, k.0.1, k.0.2, k.0.3), all_rows rows k.1)

module _ (settings : Settings) (h : History) (t : Tables) (w : CoreInvariant settings h t) where
  -- the launch is ordered
  pub ordered_whole : (c : ContainerId) (name : List ℕ) → node_at t.book c ≡ Some name → PreservesContainersTo settings h t (main_worked (Ordered c name, with_order c name t)) → PreservesCore settings h t (main_worked (Ordered c name, with_order c name t))
  ordered_whole c name place joins =
      let life : LifeState = orders (abstract_life h t) c name in
      let on = (stands h.book c name (sym (same_node t.book h.book c w.agrees.rows) ∙ place)).on in
      let agrees : Refines life (main_popped (with_order c name t)) =
      record {
        rows = w.agrees.rows;
        nodes =
            with_same t.book name (ordered_row c) (launching c name) t.nodes h.nodes (λ one. refl) w.agrees.nodes
            (λ row node found there alike. ap (λ (x : PlainNode). record x { launches = x.launches ++ c ∷ [] }) alike);
        asks = w.agrees.asks;
        closings = w.agrees.closings;
        masters = w.agrees.masters;
      } in
      stepped_whole settings h t (Ordered c name) (main_popped (with_order c name t)) life w.keeps refl refl joins refl w.sound agrees (nodes_good c name (astray_at settings h t) h.nodes h.book t.sched w.nodes) (orders_holds c name (abstract_life h t) on w.book)
