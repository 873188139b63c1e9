-- After each message of a node and of the clock the tables show the judge's scene again, in which the life is the one after that message.
use Rattle.std.proofs.Common.{◌≡◌, ℕ, ◌+◌, List, [], ◌∷◌, ◌++◌, Bool, true, false, not, ◌&&◌, ◌||◌, Option, None, Some, filter, map, refl, sym, ◌∙◌, ap, subst, append_assoc, arith}
use Rattle.std.specs.Prelude.{if◌then◌else◌, option_map, ◌==◌, nat_lt}
use Rattle.std.proofs.lemmas.Bool.{eqb-true}
use Rattle.std.proofs.lemmas.Bool.Decides.{nat_tests}
use Rattle.rm_types.specs.declared.containers.Held.{Held}
use Rattle.rm_types.specs.declared.ids.AttemptId.{AttemptId}
use Rattle.rm_types.specs.declared.ids.ContainerId.{ContainerId}
use Rattle.rm_types.specs.declared.messages.ClockAsk.{ClockAsk}
use Rattle.rm_types.specs.declared.messages.ClockAsk.TheVariants.{Tick, ExpireNode, ExpireMaster}
use Rattle.rm_types.specs.declared.messages.NodeAsk.{NodeAsk}
use Rattle.rm_types.specs.declared.messages.NodeAsk.TheVariants.{Register as AskRegister, Beat as AskBeat}
use Rattle.rm_types.specs.declared.replies.Reply.{Reply}
use Rattle.rm_types.specs.declared.replies.Reply.TheVariants.{NodeRegistered, Resync, Beat as TellBeat, Unknown, Ok}
use Rattle.rm_types.specs.declared.resources.Resource.{Resource}
use Rattle.rm_types.specs.Ids.{is_container}
use Rattle.rm_types.proofs.IdLemmas.{container_itself}
use Rattle.std.specs.Str.{bytes_eq}
use Rattle.rm_types.specs.Containers.{is_granted}
use Rattle.rm_types.specs.declared.containers.BookRow.{BookRow}
use Rattle.rm_types.specs.declared.containers.ContainerState.TheVariants.{Acquired, Running}
use Rattle.rm_book.specs.Books.{BookOf, BookRowsAreApart, IsBook, TellUpTo}
use Rattle.rm_model.specs.MasterReplies.{is_late}
use Rattle.rm_tables.specs.LateRows.{is_late_row}
use Rattle.rm_refinement.proofs.Late.{late_as, numbers_kept, still_each}
use Rattle.rm_model.specs.State.{LifeState, NodeState, Row, Scene, Lost, Waiting}
use Rattle.rm_model.specs.Attempts.{is_live}
use Rattle.rm_model.specs.Facts.{has_container}
use Rattle.rm_model.specs.NodeReplies.{beat_reply, beaten, beaten_reply, beats, clock_reply, expired, is_new_to_node, life_after_clock, life_after_node, may_expire, new_node, node_register_reply, node_reply, node_after_registration, reported, row_beaten, strangers}
use Rattle.rm_model.specs.Nodes.{is_ready as is_ready_told, is_waiting, judged_node as node_told}
use Rattle.rm_states.specs.declared.node.states.NodeState.{NodeState as NodePhase}
use Rattle.rm_states.specs.declared.node.states.NodeState.TheVariants as states
use Rattle.rm_states.specs.declared.node.states.NodeEvent.TheVariants as node_events
use Rattle.rm_states.specs.node.Table.{next_node_state as next_node_state}
use Rattle.rm_refinement.specs.Agreement.{phase_of}
use Rattle.rm_tables.specs.Rows.{row_of}
use Rattle.rm_tables.specs.declared.events.SchedEvent.{SchedEvent}
use Rattle.rm_tables.specs.declared.nodes.NodeChange.TheVariants as of_node
use Rattle.rm_tables.specs.declared.nodes.NodeRow.{NodeRow}
use Rattle.rm_tables.specs.declared.tables.Tables.{Tables}
use Rattle.rm_tables.specs.Nodes.{beaten_row, changed_row, is_ready_row, new_node_row, node_row as node_in, registered_node_row, with_node}
use Rattle.rm_refinement.specs.Agreement.{PlainNode, SameNodes, SameRows, bare_node, plain_node}
use Rattle.rm_refinement.specs.Services.{RefinesLife}
use Rattle.rm_tracker.specs.Answers.{after_clock, after_node, beat_events, beaten_with, is_next_beat, launched_by, registered_by, registered_first}
use Rattle.rm_tracker.specs.Offers.{OnlyNodesOffer}
use Rattle.rm_refinement.proofs.Nodes.{added_same, tidied_same, with_same}
use Rattle.rm_tracker.proofs.Alike.{beaten_at_once, book_at_once, rows_beaten_same}
use Rattle.rm_tracker.proofs.Replies.{ready_alike}

-- a scene in which another life stands
abbrev pub living : Scene → LifeState → Scene
living m life = record m { life = life }

-- the tables show a scene again whose containers and nodes changed alike
again : (m : Scene) (t : Tables) (book : BookOf) (nodes : List (List ℕ × NodeRow)) (sched : List SchedEvent) (rows : List Row) (told : List NodeState) → RefinesLife m t → SameRows book.rows rows
    → SameNodes book nodes told → (t.settings.recover_ended_containers ≡ true → TellUpTo 0 book.added book.rows) → ((q : AttemptId) (n : ℕ) → map (is_late_row t q n) t.book.rows ≡ map (is_late m q) m.life.book → map (is_late_row t q n) book.rows ≡ map (is_late m q) rows)
    → RefinesLife (living m (record m.life { book = rows; nodes = told })) (record t { book = book; nodes = nodes; sched = sched })
again m t book nodes sched rows told shows same_rows same_nodes numbers late =
    record {
      records = shows.records;
      epoch = shows.epoch;
      rows = same_rows;
      nodes = same_nodes;
      asks = shows.asks;
      closings = shows.closings;
      masters = shows.masters;
      live = shows.live;
      finishes = shows.finishes;
      around = record {
        firsts = shows.around.firsts;
        departed = shows.around.departed;
        pending = shows.around.pending;
        numbers = numbers;
        late = λ recovers q. late_as m (living m (record m.life { book = rows; nodes = told })) t (record t { book = book; nodes = nodes; sched = sched }) q (λ n before. late q n before) (row_of t.rows q.app) (shows.around.late recovers q);
      };
    }

-- REGISTRATIONS

register_by : (m : Scene) (t : Tables) (name : List ℕ) (turn : ℕ) (capability : Resource) (running : List Held) (reply : Reply) (r : Option NodeRow) (o : Option NodeState) → RefinesLife m t → OnlyNodesOffer t
    → node_in t.nodes name ≡ r → node_told m.life.nodes name ≡ o → option_map (bare_node t.book name) r ≡ option_map plain_node o → reply ≡ node_register_reply m turn o
    → RefinesLife (living m (life_after_node m name (AskRegister turn capability running) reply)) (registered_by r name turn capability running reply t)
register_by m t name turn capability running reply None (Some node) shows offer in_tables told e is = cc
register_by m t name turn capability running reply (Some row) None shows offer in_tables told e is = cc
register_by m t name turn capability running reply None None shows offer in_tables told e is =
    subst (λ (one : Reply). RefinesLife (living m (life_after_node m name (AskRegister turn capability running) one)) (registered_first name turn capability running one t)) (sym is)
    (rw told
    (again m t t.book (t.nodes ++ (name, new_node_row turn capability running (NodeRegistered turn m.life.epoch)) ∷ []) _ m.life.book _ shows shows.rows
    (tidied_same t.book _ m.life.book _
    (added_same t.book name (new_node_row turn capability running (NodeRegistered turn m.life.epoch)) (new_node name (record { turn = turn; capability = capability; running = running }) (NodeRegistered turn m.life.epoch))
    t.nodes m.life.nodes refl shows.nodes in_tables told (rw (offer name in_tables) refl))) shows.around.numbers (λ q n before. before)))
register_by m t name turn capability running reply (Some row) (Some node) shows offer in_tables told e is =
    let alike : bare_node t.book name row ≡ plain_node node = cc in
    let last : row.turn ≡ node.last.turn = ap (λ (x : PlainNode). x.last.turn) alike in
    by (nat_lt node.last.turn turn) refl (ap (λ (n : ℕ). nat_lt n turn) last) is
  where
    by : (b : Bool) → nat_lt node.last.turn turn ≡ b → nat_lt row.turn turn ≡ nat_lt node.last.turn turn → reply ≡ node_register_reply m turn (Some node)
        → RefinesLife (living m (life_after_node m name (AskRegister turn capability running) reply)) (registered_by (Some row) name turn capability running reply t)
    by true later same is =
        let later_row : nat_lt row.turn turn ≡ true = same ∙ later in
        let answer : reply ≡ NodeRegistered turn m.life.epoch = rw later at is in
        subst (λ (one : Reply). RefinesLife (living m (life_after_node m name (AskRegister turn capability running) one)) (registered_by (Some row) name turn capability running one t)) (sym answer)
        (rw (told, later, later_row)
        (again m t t.book (with_node (registered_node_row turn capability running (NodeRegistered turn m.life.epoch)) name t.nodes) _ m.life.book _ shows shows.rows
        (tidied_same t.book _ m.life.book _
        (with_same t.book name (registered_node_row turn capability running (NodeRegistered turn m.life.epoch))
        (node_after_registration (record { turn = turn; capability = capability; running = running }) (NodeRegistered turn m.life.epoch)) t.nodes m.life.nodes (λ one. refl) shows.nodes
        (λ r o a b alike. ap
        (λ (x : PlainNode). record x { last = record { turn = turn; capability = capability; running = running }; phase = Waiting; last_id = 0; last_reply = NodeRegistered turn m.life.epoch })
        alike))) shows.around.numbers (λ q n before. before)))
    by false later same is =
        let later_row : nat_lt row.turn turn ≡ false = same ∙ later in
        let answer : reply ≡ NodeRegistered node.last.turn m.life.epoch = rw later at is in
        subst (λ (one : Reply). RefinesLife (living m (life_after_node m name (AskRegister turn capability running) one)) (registered_by (Some row) name turn capability running one t)) (sym answer)
        (rw (told, later, later_row) shows)

-- a node registered
pub register_same : (m : Scene) (t : Tables) (name : List ℕ) (turn : ℕ) (capability : Resource) (running : List Held) (reply : Reply) → RefinesLife m t → OnlyNodesOffer t
    → reply ≡ node_reply m name (AskRegister turn capability running)
    → RefinesLife (living m (life_after_node m name (AskRegister turn capability running) reply)) (after_node name (AskRegister turn capability running) reply t)
register_same m t name turn capability running reply shows offer is =
    register_by m t name turn capability running reply (node_in t.nodes name) (node_told m.life.nodes name) shows offer refl refl (shows.nodes name) is

-- BEATS

-- a beat that isn't new changes nothing, whatever it is answered
old_beat : (m : Scene) (t : Tables) (name : List ℕ) (id : ℕ) (running : List Held) (done : List ContainerId) (reply : Reply) → RefinesLife m t → is_next_beat id (node_in t.nodes name) ≡ false
    → is_new_to_node m name id ≡ false → RefinesLife (living m (life_after_node m name (AskBeat id running done) reply)) (after_node name (AskBeat id running done) reply t)
old_beat m t name id running done (TellBeat next launched clean) shows new told = rw (new, told) shows
old_beat m t name id running done _ shows new told = shows

is_there : (front : List ContainerId) (id : ContainerId) (ids : List ContainerId) → has_container (front ++ id ∷ ids) id ≡ true
is_there [] id ids = rw (container_itself id) refl
is_there (one ∷ front) id ids = rw (is_there front id ids) (or_true (is_container one id))
  where
    or_true : (b : Bool) → (b || true) ≡ true
    or_true true = refl
    or_true false = refl

-- of what a node was told to launch nothing is left, and all where it was told nothing
pub none_left : (front launches : List ContainerId) → [] ≡ filter (λ id. not (has_container (front ++ launches) id)) launches
none_left front [] = refl
none_left front (id ∷ launches) =
    let more : [] ≡ filter (λ one. not (has_container (front ++ id ∷ launches) one)) launches =
    subst (λ (ids : List ContainerId). [] ≡ filter (λ one. not (has_container ids one)) launches) (append_assoc front (id ∷ []) launches) (none_left (front ++ id ∷ []) launches) in
    rw (is_there front id launches) more

pub all_left : (launches : List ContainerId) → launches ≡ filter (λ id. not (has_container [] id)) launches
all_left [] = refl
all_left (id ∷ launches) = ap (λ l. id ∷ l) (all_left launches)

-- a beat leaves the rows as late as they were
brought_number : (name : List ℕ) (running launched : List ContainerId) (row : BookRow) → (beaten_at_once name running launched row).told ≡ row.told
brought_number name running launched row = refl

late_brought : (t : Tables) (q : AttemptId) (n : ℕ) (name : List ℕ) (running launched : List ContainerId) (row : BookRow) → is_late_row t q n (beaten_at_once name running launched row) ≡ is_late_row t q n row
late_brought t q n name running launched row = refl

late_beaten : (m : Scene) (q : AttemptId) (name : List ℕ) (running launched : List ContainerId) (row : Row) → is_late m q (row_beaten name running launched row) ≡ is_late m q row
late_beaten m q name running launched row = by (not (bytes_eq row.node name)) (has_container running row.id) (has_container launched row.id && is_granted row.state)
  where
    by : (a b c : Bool) → is_late m q (if a then row else (if b then record row { state = Running } else (if c then record row { state = Acquired } else row))) ≡ is_late m q row
    by true b c = refl
    by false true c = refl
    by false false true = refl
    by false false false = refl

-- a new beat
new_beat : (m : Scene) (t : Tables) (name : List ℕ) (id : ℕ) (running : List Held) (done : List ContainerId) (reply : Reply) (row : NodeRow) (node : NodeState) → RefinesLife m t → BookRowsAreApart t.book.rows
    → node_in t.nodes name ≡ Some row → node_told m.life.nodes name ≡ Some node → id ≡ node.last_id
    → (if is_ready_row row.state then [] else row.launches) ≡ filter (λ one. not (has_container (launched_by reply) one)) node.launches
    → RefinesLife (living m (beats m name running done (launched_by reply) reply)) (beaten_with name id running done reply t)
new_beat m t name id running done reply row node shows apart in_tables told last launches =
    subst (λ (book : BookOf). RefinesLife (living m (beats m name running done (launched_by reply) reply)) (record t { book = book; nodes = with_node (beaten_row (id + 1) reply) name t.nodes; sched = t.sched ++ beat_events name done }))
    (sym (book_at_once name (reported running) (launched_by reply) t.book apart))
    (again m t _ _ _ _ _ shows (rows_beaten_same name (reported running) (launched_by reply) t.book.rows m.life.book shows.rows)
    (with_same t.book name (beaten_row (id + 1) reply) (beaten (launched_by reply) done reply) t.nodes m.life.nodes (λ one. refl) shows.nodes
    (λ r o a b alike. beaten_alike r o (unwrapped (sym a ∙ in_tables)) (unwrapped_told (sym b ∙ told)) alike))
    (λ recovers. numbers_kept (beaten_at_once name (reported running) (launched_by reply)) (brought_number name (reported running) (launched_by reply)) 0 t.book.added t.book.rows (shows.around.numbers recovers))
    (λ q n before.
    still_each (is_late_row t q n) (beaten_at_once name (reported running) (launched_by reply)) (late_brought t q n name (reported running) (launched_by reply)) t.book.rows ∙ before
    ∙ sym (still_each (is_late m q) (row_beaten name (reported running) (launched_by reply)) (late_beaten m q name (reported running) (launched_by reply)) m.life.book)))
  where
    unwrapped : {r : NodeRow} → Some r ≡ Some row → r ≡ row
    unwrapped e = cc

    unwrapped_told : {o : NodeState} → Some o ≡ Some node → o ≡ node
    unwrapped_told e = cc

    beaten_alike : (r : NodeRow) (o : NodeState) → r ≡ row → o ≡ node → bare_node t.book name r ≡ plain_node o
        → bare_node t.book name (beaten_row (id + 1) reply r) ≡ plain_node (beaten (launched_by reply) done reply o)
    beaten_alike r o own own_told alike =
        let next : id + 1 ≡ o.last_id + 1 = rw (own_told, last) refl in
        let left : (if is_ready_row r.state then [] else r.launches) ≡ filter (λ one. not (has_container (launched_by reply) one)) o.launches = rw (own, own_told) launches in
        ap (λ (x : PlainNode). record x { last_id = id + 1; last_reply = reply; launches = if is_ready_row r.state then [] else r.launches }) alike
        ∙ ap (λ (n : ℕ). record (plain_node o) { last_id = n; last_reply = reply; launches = if is_ready_row r.state then [] else r.launches }) next
        ∙ ap (λ (l : List ContainerId). record (plain_node o) { last_id = o.last_id + 1; last_reply = reply; launches = l }) left

beat_by : (m : Scene) (t : Tables) (name : List ℕ) (id : ℕ) (running : List Held) (done : List ContainerId) (reply : Reply) (r : Option NodeRow) (o : Option NodeState) → RefinesLife m t → BookRowsAreApart t.book.rows
    → node_in t.nodes name ≡ r → node_told m.life.nodes name ≡ o → option_map (bare_node t.book name) r ≡ option_map plain_node o → reply ≡ beat_reply m id running o
    → RefinesLife (living m (life_after_node m name (AskBeat id running done) reply)) (after_node name (AskBeat id running done) reply t)
beat_by m t name id running done reply None (Some node) shows apart in_tables told e is = cc
beat_by m t name id running done reply (Some row) None shows apart in_tables told e is = cc
beat_by m t name id running done reply None None shows apart in_tables told e is =
    subst (λ (one : Reply). RefinesLife (living m (life_after_node m name (AskBeat id running done) one)) (after_node name (AskBeat id running done) one t)) (sym is) shows
beat_by m t name id running done reply (Some row) (Some node) shows apart in_tables told e is =
    let alike : bare_node t.book name row ≡ plain_node node = cc in
    let last : row.last_id ≡ node.last_id = ap (λ (x : PlainNode). x.last_id) alike in
    let launches : row.launches ≡ node.launches = ap (λ (x : PlainNode). x.launches) alike in
    by_id (id == node.last_id) refl (ap (λ (n : ℕ). id == n) last) launches (ready_alike t.book name row node alike) is
  where
    not_again : id ≡ node.last_id → (id + 1 == node.last_id) ≡ false
    not_again last = grind (arith, nat_tests)

    by_phase : (r : Bool) → is_ready_told node.phase ≡ r → (id == node.last_id) ≡ true → (id == row.last_id) ≡ true → row.launches ≡ node.launches → is_ready_row row.state ≡ is_ready_told node.phase
        → reply ≡ beaten_reply m node running
        → RefinesLife (living m (life_after_node m name (AskBeat id running done) reply)) (after_node name (AskBeat id running done) reply t)
    by_phase true up new new_node_row launches ready is =
        let answer : reply ≡ TellBeat (node.last_id + 1) node.launches (strangers m node.name running) = rw up at is in
        let new_told : is_new_to_node m name id ≡ true = rw told new in
        let new_in : is_next_beat id (node_in t.nodes name) ≡ true = rw in_tables new_node_row in
        let gone : (if is_ready_row row.state then [] else row.launches) ≡ filter (λ one. not (has_container node.launches one)) node.launches = rw (ready, up) (none_left [] node.launches) in
        subst (λ (one : Reply). RefinesLife (living m (life_after_node m name (AskBeat id running done) one)) (after_node name (AskBeat id running done) one t)) (sym answer)
        (rw (new_told, new_in)
        (new_beat m t name id running done (TellBeat (node.last_id + 1) node.launches (strangers m node.name running)) row node shows apart in_tables told (eqb-true id node.last_id new) gone))
    by_phase false up new new_node_row launches ready is =
        let answer : reply ≡ TellBeat (node.last_id + 1) [] [] = rw up at is in
        let new_told : is_new_to_node m name id ≡ true = rw told new in
        let new_in : is_next_beat id (node_in t.nodes name) ≡ true = rw in_tables new_node_row in
        let kept : (if is_ready_row row.state then [] else row.launches) ≡ filter (λ one. not (has_container [] one)) node.launches = rw (ready, up, launches) (all_left node.launches) in
        subst (λ (one : Reply). RefinesLife (living m (life_after_node m name (AskBeat id running done) one)) (after_node name (AskBeat id running done) one t)) (sym answer)
        (rw (new_told, new_in)
        (new_beat m t name id running done (TellBeat (node.last_id + 1) [] []) row node shows apart in_tables told (eqb-true id node.last_id new) kept))

    by_lease : (l : Bool) → not (is_waiting node.phase || is_ready_told node.phase) ≡ l → (id == node.last_id) ≡ true → (id == row.last_id) ≡ true → row.launches ≡ node.launches
        → is_ready_row row.state ≡ is_ready_told node.phase → reply ≡ beat_reply m id running (Some node)
        → RefinesLife (living m (life_after_node m name (AskBeat id running done) reply)) (after_node name (AskBeat id running done) reply t)
    by_lease true lost new new_node_row launches ready is =
        let answer : reply ≡ Resync = rw lost at is in
        subst (λ (one : Reply). RefinesLife (living m (life_after_node m name (AskBeat id running done) one)) (after_node name (AskBeat id running done) one t)) (sym answer) shows
    by_lease false lost new new_node_row launches ready is =
        by_phase (is_ready_told node.phase) refl new new_node_row launches ready (rw (lost, not_again (eqb-true id node.last_id new), new) at is)

    by_id : (b : Bool) → (id == node.last_id) ≡ b → (id == row.last_id) ≡ (id == node.last_id) → row.launches ≡ node.launches → is_ready_row row.state ≡ is_ready_told node.phase
        → reply ≡ beat_reply m id running (Some node)
        → RefinesLife (living m (life_after_node m name (AskBeat id running done) reply)) (after_node name (AskBeat id running done) reply t)
    by_id true new same launches ready is =
        by_lease (not (is_waiting node.phase || is_ready_told node.phase)) refl new (same ∙ new) launches ready is
    by_id false new same launches ready is = old_beat m t name id running done reply shows (rw in_tables (same ∙ new)) (rw told new)

-- a node beat
pub beat_same : (m : Scene) (t : Tables) (name : List ℕ) (id : ℕ) (running : List Held) (done : List ContainerId) (reply : Reply) → RefinesLife m t → IsBook t.book
    → reply ≡ node_reply m name (AskBeat id running done)
    → RefinesLife (living m (life_after_node m name (AskBeat id running done) reply)) (after_node name (AskBeat id running done) reply t)
beat_same m t name id running done reply shows book is =
    beat_by m t name id running done reply (node_in t.nodes name) (node_told m.life.nodes name) shows book.apart refl refl (shows.nodes name) is

-- a node was answered
pub node_same : (m : Scene) (t : Tables) (name : List ℕ) (ask : NodeAsk) (reply : Reply) → RefinesLife m t → IsBook t.book → OnlyNodesOffer t → reply ≡ node_reply m name ask
    → RefinesLife (living m (life_after_node m name ask reply)) (after_node name ask reply t)
node_same m t name (AskRegister turn capability running) reply shows book offer is = register_same m t name turn capability running reply shows offer is
node_same m t name (AskBeat id running done) reply shows book offer is = beat_same m t name id running done reply shows book is

-- THE CLOCK

-- the time goes on
pub tick_same : (m : Scene) (t : Tables) (time : ℕ) (reply : Reply) → RefinesLife m t → reply ≡ clock_reply m (Tick time)
    → RefinesLife (living m (life_after_clock m (Tick time) reply)) (after_clock (Tick time) reply t)
tick_same m t time reply shows is =
    subst (λ (one : Reply). RefinesLife (living m (life_after_clock m (Tick time) one)) (after_clock (Tick time) one t)) (sym is)
    (record {
      records = shows.records;
      epoch = shows.epoch;
      rows = shows.rows;
      nodes = shows.nodes;
      asks = shows.asks;
      closings = shows.closings;
      masters = shows.masters;
      live = shows.live;
      finishes = shows.finishes;
      around = record {
        firsts = shows.around.firsts;
        departed = shows.around.departed;
        pending = shows.around.pending;
        numbers = shows.around.numbers;
        late = λ recovers q. late_as m (living m (life_after_clock m (Tick time) Ok)) t (after_clock (Tick time) Ok t) q (λ n before. before) (row_of t.rows q.app) (shows.around.late recovers q);
      };
    })

-- a node's silence leaves it lost, however it stood
pub expires : (s : NodePhase) → phase_of (next_node_state s node_events.Expire) ≡ Lost
expires states.Absent = refl
expires states.Waiting = refl
expires states.Ready = refl
expires states.Lost = refl

-- a node's lease ran out
pub expired_same : (m : Scene) (t : Tables) (name : List ℕ) (reply : Reply) → RefinesLife m t → reply ≡ clock_reply m (ExpireNode name)
    → RefinesLife (living m (life_after_clock m (ExpireNode name) reply)) (after_clock (ExpireNode name) reply t)
expired_same m t name reply shows is = by (may_expire m name) refl is
  where
    by : (b : Bool) → may_expire m name ≡ b → reply ≡ clock_reply m (ExpireNode name) → RefinesLife (living m (life_after_clock m (ExpireNode name) reply)) (after_clock (ExpireNode name) reply t)
    by true may is =
        let answer : reply ≡ Ok = rw may at is in
        subst (λ (one : Reply). RefinesLife (living m (life_after_clock m (ExpireNode name) one)) (after_clock (ExpireNode name) one t)) (sym answer)
        (again m t t.book (with_node (changed_row of_node.Lose) name t.nodes) _ m.life.book _ shows shows.rows
        (tidied_same t.book _ m.life.book _
        (with_same t.book name (changed_row of_node.Lose) expired t.nodes m.life.nodes (λ one. refl) shows.nodes (λ r o a b alike. let lost = expires r.state in rw lost (ap (λ (x : PlainNode). record x { phase = Lost }) alike)))) shows.around.numbers (λ q n before. before))
    by false may is =
        let answer : reply ≡ Unknown = rw may at is in
        subst (λ (one : Reply). RefinesLife (living m (life_after_clock m (ExpireNode name) one)) (after_clock (ExpireNode name) one t)) (sym answer) shows

-- a master's lease ran out
pub master_expired_same : (m : Scene) (t : Tables) (attempt : AttemptId) (reply : Reply) → RefinesLife m t → reply ≡ clock_reply m (ExpireMaster attempt)
    → RefinesLife (living m (life_after_clock m (ExpireMaster attempt) reply)) (after_clock (ExpireMaster attempt) reply t)
master_expired_same m t attempt reply shows is = by (is_live m attempt) refl is
  where
    by : (b : Bool) → is_live m attempt ≡ b → reply ≡ clock_reply m (ExpireMaster attempt)
        → RefinesLife (living m (life_after_clock m (ExpireMaster attempt) reply)) (after_clock (ExpireMaster attempt) reply t)
    by true lives is =
        let answer : reply ≡ Ok = rw lives at is in
        subst (λ (one : Reply). RefinesLife (living m (life_after_clock m (ExpireMaster attempt) one)) (after_clock (ExpireMaster attempt) one t)) (sym answer)
        (record {
          records = shows.records;
          epoch = shows.epoch;
          rows = shows.rows;
          nodes = shows.nodes;
          asks = shows.asks;
          closings = shows.closings;
          masters = shows.masters;
          live = shows.live;
          finishes = shows.finishes;
          around = record {
            firsts = shows.around.firsts;
            departed = shows.around.departed;
            pending = shows.around.pending;
            numbers = shows.around.numbers;
            late = λ recovers q. late_as m (living m (life_after_clock m (ExpireMaster attempt) Ok)) t (after_clock (ExpireMaster attempt) Ok t) q (λ n before. before) (row_of t.rows q.app) (shows.around.late recovers q);
          };
        })
    by false lives is =
        let answer : reply ≡ Unknown = rw lives at is in
        subst (λ (one : Reply). RefinesLife (living m (life_after_clock m (ExpireMaster attempt) one)) (after_clock (ExpireMaster attempt) one t)) (sym answer) shows

-- the clock was answered
pub clock_same : (m : Scene) (t : Tables) (ask : ClockAsk) (reply : Reply) → RefinesLife m t → reply ≡ clock_reply m ask
    → RefinesLife (living m (life_after_clock m ask reply)) (after_clock ask reply t)
clock_same m t (Tick time) reply shows is = tick_same m t time reply shows is
clock_same m t (ExpireNode name) reply shows is = expired_same m t name reply shows is
clock_same m t (ExpireMaster attempt) reply shows is = master_expired_same m t attempt reply shows is
