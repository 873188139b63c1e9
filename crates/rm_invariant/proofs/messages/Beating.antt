-- A node beats, as a whole step that keeps all that holds of an open life: a new beat changes the states of containers on the node, and the
-- node; one that is refused or repeated changes nothing. And a node is answered, whatever it says.
use Rattle.rm_invariant.proofs.Common.{◌≡◌, ℕ, ◌+◌, List, [], ◌∷◌, ◌++◌, Bool, true, false, not, ◌||◌, Option, None, Some, filter, map, refl, sym, ◌∙◌, ap, subst, arith, if◌then◌else◌, nat_tests, Held, Served, ContainerId, NodeAsk, Reply, Settings, BookOf, has_container, beaten, is_new_to_node, life_after_node, node_reply, reported, row_beaten, is_waiting, Row, SchedEvent, NodeRow, Tables, beaten_row, is_ready_row, with_node, after_node, beat_events, beaten_book, is_next_beat, OnlyNodesOffer, PlainNode, SameNodes, SameRows, bare_node, plain_node, with_same, History, abstract_life, abstract_scene}
use Rattle.std.specs.Prelude.{◌==◌, option_map}
use Rattle.std.proofs.lemmas.Bool.{eqb-true}
use Rattle.rm_types.specs.declared.messages.Message.TheVariants as messages
use Rattle.rm_types.specs.declared.messages.NodeAsk.TheVariants as asks
use Rattle.rm_types.specs.declared.messages.Sender.TheVariants as senders
use Rattle.rm_types.specs.declared.replies.Reply.TheVariants.{Beat as TellBeat, Resync}
use Rattle.rm_model.specs.NodeReplies.{beat_reply, beaten_reply, strangers}
use Rattle.rm_model.specs.Nodes.{is_ready as is_ready_told, judged_node as node_told, with_judged_node as with_told}
use Rattle.rm_model.specs.State.{NodeState}
use Rattle.rm_tables.specs.Nodes.{node_row as node_in}
use Rattle.rm_tracker.proofs.Alike.{book_at_once, rows_beaten_same}
use Rattle.rm_tracker.proofs.Replies.{ready_alike}
use Rattle.rm_tracker.proofs.Same.{all_left, none_left}
use Rattle.rm_invariant.specs.nodes.Invariant.{NodesInvariant}
use Rattle.rm_invariant.proofs.nodes.Entries.{beat_good}
use Rattle.rm_invariant.proofs.nodes.Views.{beat_events as events_told}
use Rattle.rm_invariant.specs.Core.{Nothing, CoreInvariant, PreservesCore}
use Rattle.rm_invariant.proofs.events.Knowing.{rows_apart}
use Rattle.rm_invariant.proofs.messages.Answered.{OfNodes, changed_whole, still_whole}
use Rattle.rm_invariant.proofs.messages.Changes.{beaten_held, beaten_holds}
use Rattle.rm_invariant.proofs.messages.Registering.{register_whole}
use Rattle.rm_invariant.specs.events.Here.{astray_at}

-- what a beat posts is the same by both names, and of no application
same_events : (name : List ℕ) (done : List ContainerId) → events_told name done ≡ beat_events name done
same_events name [] = refl
same_events name (id ∷ done) = refl

events_none : (name : List ℕ) (done : List ContainerId) → OfNodes (beat_events name done)
events_none name [] = record { adds = λ q. refl; queueings = λ q. refl; removals = λ c. refl }
events_none name (id ∷ done) = record { adds = λ q. refl; queueings = λ q. refl; removals = λ c. refl }

module _ (settings : Settings) (h : History) (t : Tables) (w : CoreInvariant settings h t) (name : List ℕ) (id : ℕ) (running : List Held) (done : List ContainerId) where
  abbrev beats_so : NodeAsk
  beats_so = asks.Beat id running done

  -- a new beat
  module _ (row : NodeRow) (node : NodeState) (in_tables : node_in t.nodes name ≡ Some row) (told : node_told h.nodes name ≡ Some node) (last : id ≡ node.last_id) (next : ℕ) (launched clean : List ContainerId)
      (launches : (if is_ready_row row.state then [] else row.launches) ≡ filter (λ one. not (has_container launched one)) node.launches) where
    abbrev answer : Reply
    answer = TellBeat next launched clean

    abbrev rows_now : List Row
    rows_now = map (row_beaten name (reported running) launched) h.book

    abbrev book_now : BookOf
    book_now = beaten_book name (reported running) launched t.book

    unwrapped : {r : NodeRow} → Some r ≡ Some row → r ≡ row
    unwrapped e = cc

    unwrapped_told : {o : NodeState} → Some o ≡ Some node → o ≡ node
    unwrapped_told e = cc

    beaten_alike : (r : NodeRow) (o : NodeState) → r ≡ row → o ≡ node → bare_node t.book name r ≡ plain_node o → bare_node t.book name (beaten_row (id + 1) answer r) ≡ plain_node (beaten launched done answer o)
    beaten_alike r o own own_told alike =
        let after : id + 1 ≡ o.last_id + 1 = rw (own_told, last) refl in
        let left : (if is_ready_row r.state then [] else r.launches) ≡ filter (λ one. not (has_container launched one)) o.launches = rw (own, own_told) launches in
        ap (λ (x : PlainNode). record x { last_id = id + 1; last_reply = answer; launches = if is_ready_row r.state then [] else r.launches }) alike
        ∙ ap (λ (n : ℕ). record (plain_node o) { last_id = n; last_reply = answer; launches = if is_ready_row r.state then [] else r.launches }) after
        ∙ ap (λ (l : List ContainerId). record (plain_node o) { last_id = o.last_id + 1; last_reply = answer; launches = l }) left

    rows_same : SameRows book_now.rows rows_now
    rows_same = subst (λ (book : BookOf). SameRows book.rows rows_now) (sym (book_at_once name (reported running) launched t.book (rows_apart t.book.rows h.book w.agrees.rows w.book.apart))) (rows_beaten_same name (reported running) launched t.book.rows h.book w.agrees.rows)

    nodes_same : SameNodes book_now (with_node (beaten_row (id + 1) answer) name t.nodes) (with_told (beaten launched done answer) name h.nodes)
    nodes_same =
        subst (λ (book : BookOf). SameNodes book (with_node (beaten_row (id + 1) answer) name t.nodes) (with_told (beaten launched done answer) name h.nodes)) (sym (book_at_once name (reported running) launched t.book (rows_apart t.book.rows h.book w.agrees.rows w.book.apart)))
        (with_same t.book name (beaten_row (id + 1) answer) (beaten launched done answer) t.nodes h.nodes (λ one. refl) w.agrees.nodes
        (λ r o a b alike. beaten_alike r o (unwrapped (sym a ∙ in_tables)) (unwrapped_told (sym b ∙ told)) alike))

    good_now : NodesInvariant (astray_at settings h t) (with_told (beaten launched done answer) name h.nodes) rows_now (t.sched ++ beat_events name done)
    good_now =
        subst (λ (events : List SchedEvent). NodesInvariant (astray_at settings h t) (with_told (beaten launched done answer) name h.nodes) rows_now (t.sched ++ events)) (same_events name done)
        (beat_good (astray_at settings h t) (abstract_scene h t) t.sched name running done launched answer node told w.nodes)

    new_whole : (id == node.last_id) ≡ true → (id == row.last_id) ≡ true → answer ≡ beat_reply (abstract_scene h t) id running (Some node)
        → PreservesCore settings h t (Served senders.Node (messages.Node name beats_so) answer, after_node name beats_so answer t)
    new_whole new new_row is =
        let new_told : is_new_to_node (abstract_scene h t) name id ≡ true = rw told new in
        let new_in : is_next_beat id (node_in t.nodes name) ≡ true = rw in_tables new_row in
        rw new_in
        (changed_whole settings h t w (messages.Node name beats_so) answer (rw told is) rows_now (with_told (beaten launched done answer) name h.nodes) book_now (with_node (beaten_row (id + 1) answer) name t.nodes)
        (beat_events name done) (rw new_told refl) (events_none name done) (beaten_held name (reported running) launched h.book) rows_same nodes_same good_now
        (let holds = beaten_holds name (reported running) launched (abstract_life h t) done answer Nothing w.book in
        record { apart = holds.apart; rows = holds.rows; left = holds.left; launches = holds.launches }))

  -- a beat that isn't new changes nothing, whatever it is answered
  tables_stay : (reply : Reply) → is_next_beat id (node_in t.nodes name) ≡ false → after_node name beats_so reply t ≡ t
  tables_stay (TellBeat next launched clean) new = rw new refl
  tables_stay _ new = refl

  life_stays : (reply : Reply) → is_new_to_node (abstract_scene h t) name id ≡ false → life_after_node (abstract_scene h t) name beats_so reply ≡ abstract_life h t
  life_stays (TellBeat next launched clean) new = rw new refl
  life_stays _ new = refl

  old_whole : (reply : Reply) → is_next_beat id (node_in t.nodes name) ≡ false → is_new_to_node (abstract_scene h t) name id ≡ false → reply ≡ node_reply (abstract_scene h t) name beats_so
      → PreservesCore settings h t (Served senders.Node (messages.Node name beats_so) reply, after_node name beats_so reply t)
  old_whole reply new told is =
      subst (λ (next : Tables). PreservesCore settings h t (Served senders.Node (messages.Node name beats_so) reply, next)) (sym (tables_stay reply new))
      (still_whole settings h t w (messages.Node name beats_so) reply is (life_stays reply told))

  -- a beat that is refused
  refused_whole : (reply : Reply) → reply ≡ Resync → reply ≡ node_reply (abstract_scene h t) name beats_so → PreservesCore settings h t (Served senders.Node (messages.Node name beats_so) reply, after_node name beats_so reply t)
  refused_whole reply resync is =
      subst (λ (one : Reply). PreservesCore settings h t (Served senders.Node (messages.Node name beats_so) one, after_node name beats_so one t)) (sym resync)
      (still_whole settings h t w (messages.Node name beats_so) Resync (sym resync ∙ is) refl)

  not_again : (n : ℕ) → id ≡ n → (id + 1 == n) ≡ false
  not_again n last = grind (arith, nat_tests)

  -- of a node that registered
  module _ (reply : Reply) (row : NodeRow) (node : NodeState) (in_tables : node_in t.nodes name ≡ Some row) (told : node_told h.nodes name ≡ Some node) (alike : bare_node t.book name row ≡ plain_node node)
      (is : reply ≡ beat_reply (abstract_scene h t) id running (Some node)) where
    is_told : reply ≡ node_reply (abstract_scene h t) name beats_so
    is_told = rw told is

    launches_alike : row.launches ≡ node.launches
    launches_alike = ap (λ (x : PlainNode). x.launches) alike

    by_phase : (r : Bool) → is_ready_told node.phase ≡ r → (id == node.last_id) ≡ true → (id == row.last_id) ≡ true → is_ready_row row.state ≡ is_ready_told node.phase → reply ≡ beaten_reply (abstract_scene h t) node running
        → PreservesCore settings h t (Served senders.Node (messages.Node name beats_so) reply, after_node name beats_so reply t)
    by_phase true up new new_row ready may =
        let said : reply ≡ TellBeat (node.last_id + 1) node.launches (strangers (abstract_scene h t) node.name running) = rw up at may in
        let gone : (if is_ready_row row.state then [] else row.launches) ≡ filter (λ one. not (has_container node.launches one)) node.launches = rw (ready, up) (none_left [] node.launches) in
        subst (λ (one : Reply). PreservesCore settings h t (Served senders.Node (messages.Node name beats_so) one, after_node name beats_so one t)) (sym said)
        (new_whole row node in_tables told (eqb-true id node.last_id new) (node.last_id + 1) node.launches (strangers (abstract_scene h t) node.name running) gone new new_row (sym said ∙ is))
    by_phase false up new new_row ready may =
        let said : reply ≡ TellBeat (node.last_id + 1) [] [] = rw up at may in
        let kept : (if is_ready_row row.state then [] else row.launches) ≡ filter (λ one. not (has_container [] one)) node.launches = rw (ready, up, launches_alike) (all_left node.launches) in
        subst (λ (one : Reply). PreservesCore settings h t (Served senders.Node (messages.Node name beats_so) one, after_node name beats_so one t)) (sym said)
        (new_whole row node in_tables told (eqb-true id node.last_id new) (node.last_id + 1) [] [] kept new new_row (sym said ∙ is))

    by_lease : (l : Bool) → not (is_waiting node.phase || is_ready_told node.phase) ≡ l → (id == node.last_id) ≡ true → (id == row.last_id) ≡ true → is_ready_row row.state ≡ is_ready_told node.phase
        → PreservesCore settings h t (Served senders.Node (messages.Node name beats_so) reply, after_node name beats_so reply t)
    by_lease true lost new new_row ready = refused_whole reply (rw lost at is) is_told
    by_lease false lost new new_row ready =
        by_phase (is_ready_told node.phase) refl new new_row ready (rw (lost, not_again node.last_id (eqb-true id node.last_id new), new) at is)

    by_id : (b : Bool) → (id == node.last_id) ≡ b → (id == row.last_id) ≡ (id == node.last_id) → is_ready_row row.state ≡ is_ready_told node.phase
        → PreservesCore settings h t (Served senders.Node (messages.Node name beats_so) reply, after_node name beats_so reply t)
    by_id true new same ready = by_lease (not (is_waiting node.phase || is_ready_told node.phase)) refl new (same ∙ new) ready
    by_id false new same ready = old_whole reply (rw in_tables (same ∙ new)) (rw told new) is_told

    known_whole : PreservesCore settings h t (Served senders.Node (messages.Node name beats_so) reply, after_node name beats_so reply t)
    known_whole =
        let last : row.last_id ≡ node.last_id = ap (λ (x : PlainNode). x.last_id) alike in
        by_id (id == node.last_id) refl (ap (λ (n : ℕ). id == n) last) (ready_alike t.book name row node alike)

  by_node : (reply : Reply) (r : Option NodeRow) (o : Option NodeState) → node_in t.nodes name ≡ r → node_told h.nodes name ≡ o → option_map (bare_node t.book name) r ≡ option_map plain_node o
      → reply ≡ beat_reply (abstract_scene h t) id running o → PreservesCore settings h t (Served senders.Node (messages.Node name beats_so) reply, after_node name beats_so reply t)
  by_node reply None (Some node) in_tables told e is = cc
  by_node reply (Some row) None in_tables told e is = cc
  by_node reply None None in_tables told e is = refused_whole reply is (rw told is)
  by_node reply (Some row) (Some node) in_tables told e is =
      let alike : bare_node t.book name row ≡ plain_node node = cc in known_whole reply row node in_tables told alike is

  -- a node beats
  pub beat_whole : (reply : Reply) → reply ≡ node_reply (abstract_scene h t) name beats_so → PreservesCore settings h t (Served senders.Node (messages.Node name beats_so) reply, after_node name beats_so reply t)
  beat_whole reply is = by_node reply (node_in t.nodes name) (node_told h.nodes name) refl refl (w.agrees.nodes name) is

-- a node is answered
pub node_whole : (settings : Settings) (h : History) (t : Tables) → CoreInvariant settings h t → OnlyNodesOffer t → (name : List ℕ) (ask : NodeAsk) (reply : Reply) → reply ≡ node_reply (abstract_scene h t) name ask
    → PreservesCore settings h t (Served senders.Node (messages.Node name ask) reply, after_node name ask reply t)
node_whole settings h t w offer name (asks.Register turn capability running) reply is = register_whole settings h t w name turn capability running reply offer is
node_whole settings h t w offer name (asks.Beat id running done) reply is = beat_whole settings h t w name id running done reply is
