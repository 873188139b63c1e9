-- A node registers, as a whole step that keeps all that holds of an open life: for the first time, with a later turn, and with one that isn't
-- later, which changes nothing.
use Rattle.rm_invariant.proofs.Common.{◌≡◌, ℕ, ◌<◌, List, [], ◌∷◌, ◌++◌, Bool, true, false, Option, None, Some, refl, sym, ◌∙◌, ap, subst, arith, nat_tests, Held, Served, NodeAsk, Reply, Resource, Settings, text_itself, new_node, node_reply, node_after_registration, tidied, LifeState, Registered, Registration, Scene, Waiting, SchedEvent, NodeRow, Tables, new_node_row, registered_node_row, with_node, after_node, registered_by, OnlyNodesOffer, PlainNode, bare_node, plain_node, tidied_same, with_same, History, abstract_life, abstract_scene, ContainerId}
use Rattle.std.specs.Prelude.{nat_lt, option_map}
use Rattle.rm_types.specs.declared.messages.Message.TheVariants as messages
use Rattle.rm_types.specs.declared.messages.NodeAsk.TheVariants as asks
use Rattle.rm_types.specs.declared.messages.Sender.TheVariants as senders
use Rattle.rm_types.specs.declared.replies.Reply.TheVariants.{NodeRegistered}
use Rattle.rm_model.specs.NodeReplies.{node_register_reply}
use Rattle.rm_model.specs.Nodes.{judged_node as node_told, with_judged_node as with_told}
use Rattle.rm_model.specs.State.{NodeState}
use Rattle.rm_tables.specs.declared.events.SchedEvent.TheVariants as scheds
use Rattle.rm_tables.specs.Nodes.{node_row as node_in}
use Rattle.rm_refinement.proofs.Nodes.{added_same}
use Rattle.rm_invariant.specs.nodes.Invariant.{NodesInvariant, RegisteredInvariant, is_idle_by, node_view}
use Rattle.rm_invariant.proofs.nodes.Entries.{one_other, one_own, pushed, register_good, still_tidy}
use Rattle.rm_invariant.specs.Core.{Nothing, CoreInvariant, PreservesCore}
use Rattle.rm_invariant.proofs.events.Leaving.{tidied_holds}
use Rattle.rm_invariant.proofs.messages.Answered.{changed_whole, still_whole}
use Rattle.rm_invariant.proofs.messages.Changes.{changed_holds, joined_holds, same_held}
use Rattle.rm_invariant.specs.events.Here.{astray_at}

-- a node that registers for the first time is good, whatever its turn
first_good : (astray : ContainerId → Bool) (m : Scene) (sched : List SchedEvent) (n : List ℕ) (last : Registration) (reply : Reply) → node_told m.life.nodes n ≡ None → NodesInvariant astray m.life.nodes m.life.book sched
    → NodesInvariant astray (tidied (record m.life { nodes = m.life.nodes ++ new_node n last reply ∷ [] })).nodes m.life.book (sched ++ scheds.NodeAdded n last.turn ∷ [])
first_good astray m sched n last reply none good =
    let waits : is_idle_by Waiting last.turn [] (Registered last.turn) ≡ false = grind (arith, nat_tests) in
    let first : RegisteredInvariant (node_view astray (new_node n last reply) (scheds.NodeAdded n last.turn ∷ []) []) =
    record { half = []; paired = (refl, refl); gone = refl; clear = refl; turns = grind (arith, nat_tests); same = rw waits refl } in
    still_tidy astray (m.life.nodes ++ new_node n last reply ∷ []) m.life.book (sched ++ scheds.NodeAdded n last.turn ∷ [])
    (pushed astray m.life.nodes m.life.book sched (scheds.NodeAdded n last.turn ∷ []) n (new_node n last reply) refl none (λ q apart. one_other q (scheds.NodeAdded n last.turn) apart)
    (one_own n (scheds.NodeAdded n last.turn) (text_itself n)) first good)

module _ (settings : Settings) (h : History) (t : Tables) (w : CoreInvariant settings h t) (name : List ℕ) (turn : ℕ) (capability : Resource) (running : List Held) where
  abbrev registers : NodeAsk
  registers = asks.Register turn capability running

  abbrev last_said : Registration
  last_said = record { turn = turn; capability = capability; running = running }

  abbrev told_turn : Reply
  told_turn = NodeRegistered turn t.epoch

  -- for the first time
  first_whole : node_in t.nodes name ≡ None → node_told h.nodes name ≡ None → OnlyNodesOffer t
      → PreservesCore settings h t (Served senders.Node (messages.Node name registers) told_turn, registered_by None name turn capability running told_turn t)
  first_whole in_tables told offer =
      let joined : LifeState = record (abstract_life h t) { nodes = h.nodes ++ new_node name last_said told_turn ∷ [] } in
      changed_whole settings h t w (messages.Node name registers) told_turn (rw told refl) h.book (tidied joined).nodes t.book (t.nodes ++ (name, new_node_row turn capability running told_turn) ∷ []) (scheds.NodeAdded name turn ∷ [])
      (rw told refl)
      (record { adds = λ q. refl; queueings = λ q. refl; removals = λ c. refl }) (same_held h.book) w.agrees.rows
      (tidied_same t.book (t.nodes ++ (name, new_node_row turn capability running told_turn) ∷ []) h.book (h.nodes ++ new_node name last_said told_turn ∷ [])
      (added_same t.book name (new_node_row turn capability running told_turn) (new_node name last_said told_turn) t.nodes h.nodes refl w.agrees.nodes in_tables told (rw (offer name in_tables) refl)))
      (first_good (astray_at settings h t) (abstract_scene h t) t.sched name last_said told_turn told w.nodes)
      (let holds = tidied_holds joined Nothing (joined_holds (abstract_life h t) (new_node name last_said told_turn) Nothing refl w.book) in
      record { apart = holds.apart; rows = holds.rows; left = holds.left; launches = holds.launches })

  -- with a later turn
  later_turn_whole : (row : NodeRow) (node : NodeState) → node_told h.nodes name ≡ Some node → nat_lt row.turn turn ≡ true → nat_lt node.last.turn turn ≡ true
      → PreservesCore settings h t (Served senders.Node (messages.Node name registers) told_turn, registered_by (Some row) name turn capability running told_turn t)
  later_turn_whole row node told later_row later =
      let changed : LifeState = record (abstract_life h t) { nodes = with_told (node_after_registration last_said told_turn) name h.nodes } in
      let newer : node.last.turn < turn = grind (arith, nat_tests) in
      rw later_row
      (changed_whole settings h t w (messages.Node name registers) told_turn (rw (told, later) refl) h.book (tidied changed).nodes t.book (with_node (registered_node_row turn capability running told_turn) name t.nodes)
      (scheds.NodeAdded name turn ∷ []) (rw (told, later) refl)
      (record { adds = λ q. refl; queueings = λ q. refl; removals = λ c. refl }) (same_held h.book) w.agrees.rows
      (tidied_same t.book (with_node (registered_node_row turn capability running told_turn) name t.nodes) h.book (with_told (node_after_registration last_said told_turn) name h.nodes)
      (with_same t.book name (registered_node_row turn capability running told_turn) (node_after_registration last_said told_turn) t.nodes h.nodes (λ one. refl) w.agrees.nodes
      (λ r o a b alike. ap (λ (x : PlainNode). record x { last = last_said; phase = Waiting; last_id = 0; last_reply = told_turn }) alike)))
      (register_good (astray_at settings h t) (abstract_scene h t) t.sched name last_said told_turn (Some node) told (omega (arith, newer)) (newer_than node told newer) w.nodes)
      (let holds = tidied_holds changed Nothing (changed_holds (abstract_life h t) (node_after_registration last_said told_turn) name Nothing (λ one. refl) (λ one. refl) (λ one l. l) w.book) in
      record { apart = holds.apart; rows = holds.rows; left = holds.left; launches = holds.launches }))
    where
      newer_than : (node : NodeState) → node_told h.nodes name ≡ Some node → node.last.turn < turn → (one : NodeState) → node_told h.nodes name ≡ Some one → one.last.turn < turn
      newer_than node told newer one there =
          let same : one ≡ node = let x : Some one ≡ Some node = sym there ∙ told in cc in
          rw same newer

  by_node : (reply : Reply) (r : Option NodeRow) (o : Option NodeState) → node_in t.nodes name ≡ r → node_told h.nodes name ≡ o → option_map (bare_node t.book name) r ≡ option_map plain_node o
      → OnlyNodesOffer t → reply ≡ node_register_reply (abstract_scene h t) turn o
      → PreservesCore settings h t (Served senders.Node (messages.Node name registers) reply, registered_by r name turn capability running reply t)
  by_node reply None (Some node) in_tables told e offer is = cc
  by_node reply (Some row) None in_tables told e offer is = cc
  by_node reply None None in_tables told e offer is =
      subst (λ (one : Reply). PreservesCore settings h t (Served senders.Node (messages.Node name registers) one, registered_by None name turn capability running one t)) (sym is) (first_whole in_tables told offer)
  by_node reply (Some row) (Some node) in_tables told e offer is =
      let alike : bare_node t.book name row ≡ plain_node node = cc in
      let last : row.turn ≡ node.last.turn = ap (λ (x : PlainNode). x.last.turn) alike in
      by (nat_lt node.last.turn turn) refl (ap (λ (n : ℕ). nat_lt n turn) last) is
    where
      by : (b : Bool) → nat_lt node.last.turn turn ≡ b → nat_lt row.turn turn ≡ nat_lt node.last.turn turn → reply ≡ node_register_reply (abstract_scene h t) turn (Some node)
          → PreservesCore settings h t (Served senders.Node (messages.Node name registers) reply, registered_by (Some row) name turn capability running reply t)
      by true later same is =
          let answer : reply ≡ told_turn = rw later at is in
          subst (λ (one : Reply). PreservesCore settings h t (Served senders.Node (messages.Node name registers) one, registered_by (Some row) name turn capability running one t)) (sym answer)
          (later_turn_whole row node told (same ∙ later) later)
      by false later same is =
          let answer : reply ≡ NodeRegistered node.last.turn t.epoch = rw later at is in
          let later_row : nat_lt row.turn turn ≡ false = same ∙ later in
          subst (λ (one : Reply). PreservesCore settings h t (Served senders.Node (messages.Node name registers) one, registered_by (Some row) name turn capability running one t)) (sym answer)
          (rw later_row (still_whole settings h t w (messages.Node name registers) (NodeRegistered node.last.turn t.epoch) (rw (told, later) refl) (rw (told, later) refl)))

  -- a node registers
  pub register_whole : (reply : Reply) → OnlyNodesOffer t → reply ≡ node_reply (abstract_scene h t) name registers
      → PreservesCore settings h t (Served senders.Node (messages.Node name registers) reply, after_node name registers reply t)
  register_whole reply offer is = by_node reply (node_in t.nodes name) (node_told h.nodes name) refl refl (w.agrees.nodes name) offer is
