-- What is answered from the tables is what the judge answers, in each scene that they show.
use Rattle.std.proofs.Common.{◌≡◌, ℕ, ◌+◌, List, [], ◌∷◌, Bool, true, false, not, ◌&&◌, ◌||◌, Option, None, Some, refl, sym, ◌∙◌, ap}
use Rattle.std.specs.Prelude.{option_map, ◌==◌}
use Rattle.std.specs.Str.{bytes_eq}
use Rattle.std.proofs.lemmas.Bool.{eqb-true}
use Rattle.std.proofs.lemmas.List.Elements.{filter_agree}
use Rattle.std.proofs.lemmas.Slice.Eq.{bytes_eq-Decides}
use Rattle.rm_types.specs.declared.containers.Held.{Held}
use Rattle.rm_types.specs.declared.ids.ContainerId.{ContainerId}
use Rattle.rm_types.specs.Ids.{is_container}
use Rattle.rm_types.specs.Records.{is_some_and}
use Rattle.rm_book.specs.Books.{BookOf}
use Rattle.rm_model.specs.State.{NodeState, Row, Scene}
use Rattle.rm_model.specs.Containers.{lives_on, once}
use Rattle.rm_model.specs.NodeReplies.{beat_reply, may_expire, node_register_reply, reported, strangers}
use Rattle.rm_model.specs.Nodes.{is_ready as is_ready_told, is_waiting, judged_node as node_told}
use Rattle.rm_states.specs.declared.node.states.NodeState.{NodeState as NodePhase}
use Rattle.rm_states.specs.declared.node.states.NodeState.TheVariants as states
use Rattle.rm_states.specs.node.Table.{is_known_node}
use Rattle.rm_tables.specs.declared.nodes.NodeRow.{NodeRow}
use Rattle.rm_tables.specs.declared.tables.Tables.{Tables}
use Rattle.rm_tables.specs.Nodes.{is_ready_row, node_row as node_in}
use Rattle.rm_refinement.specs.Agreement.{PlainNode, PlainRow, SameRows, bare_node, phase_of, plain_node}
use Rattle.rm_refinement.specs.Services.{RefinesLife}
use Rattle.rm_tracker.specs.Told.{beat_told, is_lost, lives_at, may_expire_in, node_register_told, strangers_in}
use Rattle.rm_refinement.proofs.Rows.{any_alike}

-- a container lives on a node by both books
lives_alike : (book : BookOf) (rows : List Row) (name : List ℕ) (id : ContainerId) → SameRows book.rows rows → lives_at book name id ≡ lives_on rows name id
lives_alike book rows name id same = any_alike (λ (row : PlainRow). is_container row.id id && bytes_eq row.node name) book.rows rows same

pub strangers_alike : (m : Scene) (book : BookOf) (name : List ℕ) (running : List Held) → SameRows book.rows m.life.book → strangers_in book name running ≡ strangers m name running
strangers_alike m book name running same =
    ap once
    (filter_agree (λ id. not (lives_at book name id)) (λ id. not (lives_on m.life.book name id))
    (λ id. ap not (lives_alike book m.life.book name id same)) (reported running))

-- a node that the judge finds under a name has it
pub named_so : (nodes : List NodeState) (name : List ℕ) (node : NodeState) → node_told nodes name ≡ Some node → node.name ≡ name
named_so [] name node found = cc
named_so (one ∷ nodes) name node found = by (bytes_eq one.name name) refl (named_so nodes name node)
  where
    by : (b : Bool) → bytes_eq one.name name ≡ b → (node_told nodes name ≡ Some node → node.name ≡ name) → node.name ≡ name
    by true e rest =
        let h : Some one ≡ Some node = rw e at found in
        let own : one ≡ node = cc in
        rw (← own) ((bytes_eq-Decides one.name name).0 e)
    by false e rest = rest (rw e at found)

-- how a node stands, by its row and by the judge
pub phases : (state : NodePhase) → (is_known_node state ≡ (is_waiting (phase_of state) || is_ready_told (phase_of state))) × (is_ready_row state ≡ is_ready_told (phase_of state))
phases states.Absent = (refl, refl)
phases states.Waiting = (refl, refl)
phases states.Ready = (refl, refl)
phases states.Lost = (refl, refl)

registered_alike : (book : BookOf) (name : List ℕ) (row : NodeRow) (node : NodeState) → bare_node book name row ≡ plain_node node
    → is_known_node row.state ≡ (is_waiting node.phase || is_ready_told node.phase)
registered_alike book name row node same =
    (phases row.state).0 ∙ ap (λ (p : PlainNode). is_waiting p.phase || is_ready_told p.phase) same

pub lost_alike : (book : BookOf) (name : List ℕ) (row : NodeRow) (node : NodeState) → bare_node book name row ≡ plain_node node
    → is_lost row.state ≡ not (is_waiting node.phase || is_ready_told node.phase)
lost_alike book name row node same = ap not (registered_alike book name row node same)

pub ready_alike : (book : BookOf) (name : List ℕ) (row : NodeRow) (node : NodeState) → bare_node book name row ≡ plain_node node → is_ready_row row.state ≡ is_ready_told node.phase
ready_alike book name row node same = (phases row.state).1 ∙ ap (λ (p : PlainNode). is_ready_told p.phase) same

register_by : (m : Scene) (book : BookOf) (name : List ℕ) (turn : ℕ) (row : Option NodeRow) (node : Option NodeState) → option_map (bare_node book name) row ≡ option_map plain_node node
    → node_register_told m.life.epoch turn row ≡ node_register_reply m turn node
register_by m book name turn None None e = refl
register_by m book name turn None (Some node) e = cc
register_by m book name turn (Some row) None e = cc
register_by m book name turn (Some row) (Some node) e =
    let same : bare_node book name row ≡ plain_node node = cc in
    let last : row.turn ≡ node.last.turn = ap (λ (x : PlainNode). x.last.turn) same in
    rw last refl

-- a registration is answered as the judge does
pub register_answer : (m : Scene) (t : Tables) (name : List ℕ) (turn : ℕ) → RefinesLife m t → node_register_told t.epoch turn (node_in t.nodes name) ≡ node_register_reply m turn (node_told m.life.nodes name)
register_answer m t name turn shows =
    rw (sym shows.epoch) (register_by m t.book name turn (node_in t.nodes name) (node_told m.life.nodes name) (shows.nodes name))

beat_by : (m : Scene) (book : BookOf) (name : List ℕ) (id : ℕ) (running : List Held) (row : Option NodeRow) (node : Option NodeState) → SameRows book.rows m.life.book
    → option_map (bare_node book name) row ≡ option_map plain_node node → ((one : NodeState) → node ≡ Some one → one.name ≡ name)
    → beat_told book name id running row ≡ beat_reply m id running node
beat_by m book name id running None None rows e named = refl
beat_by m book name id running None (Some node) rows e named = cc
beat_by m book name id running (Some row) None rows e named = cc
beat_by m book name id running (Some row) (Some node) rows e named =
    let same : bare_node book name row ≡ plain_node node = cc in
    let lost = lost_alike book name row node same in
    let ready = ready_alike book name row node same in
    let last : row.last_id ≡ node.last_id = ap (λ (x : PlainNode). x.last_id) same in
    let reply : row.last_reply ≡ node.last_reply = ap (λ (x : PlainNode). x.last_reply) same in
    let launches : row.launches ≡ node.launches = ap (λ (x : PlainNode). x.launches) same in
    let clean : strangers_in book name running ≡ strangers m node.name running = rw (named node refl) (strangers_alike m book name running rows) in
    answer_by (is_lost row.state) (id + 1 == row.last_id) (id == row.last_id) (is_ready_row row.state) refl refl refl refl lost ready last reply launches clean
  where
    answer_by : (a b c d : Bool) → is_lost row.state ≡ a → (id + 1 == row.last_id) ≡ b → (id == row.last_id) ≡ c → is_ready_row row.state ≡ d
        → is_lost row.state ≡ not (is_waiting node.phase || is_ready_told node.phase) → is_ready_row row.state ≡ is_ready_told node.phase → row.last_id ≡ node.last_id
        → row.last_reply ≡ node.last_reply → row.launches ≡ node.launches → strangers_in book name running ≡ strangers m node.name running
        → beat_told book name id running (Some row) ≡ beat_reply m id running (Some node)
    answer_by true b c d ea eb ec ed lost ready last reply launches clean = let ja = sym lost ∙ ea in rw (ea, ja) refl
    answer_by false true c d ea eb ec ed lost ready last reply launches clean =
        let ja = sym lost ∙ ea in
        let jb : (id + 1 == node.last_id) ≡ true = rw last at eb in
        rw (ea, ja, eb, jb) reply
    answer_by false false false d ea eb ec ed lost ready last reply launches clean =
        let ja = sym lost ∙ ea in
        let jb : (id + 1 == node.last_id) ≡ false = rw last at eb in
        let jc : (id == node.last_id) ≡ false = rw last at ec in
        rw (ea, ja, eb, jb, ec, jc) refl
    answer_by false false true true ea eb ec ed lost ready last reply launches clean =
        let ja = sym lost ∙ ea in
        let jb : (id + 1 == node.last_id) ≡ false = rw last at eb in
        let jc : (id == node.last_id) ≡ true = rw last at ec in
        let jd = sym ready ∙ ed in
        let next : id + 1 ≡ node.last_id + 1 = ap (λ (n : ℕ). n + 1) (eqb-true id node.last_id jc) in
        rw (ea, ja, eb, jb, ec, jc, ed, jd, next, launches, clean) refl
    answer_by false false true false ea eb ec ed lost ready last reply launches clean =
        let ja = sym lost ∙ ea in
        let jb : (id + 1 == node.last_id) ≡ false = rw last at eb in
        let jc : (id == node.last_id) ≡ true = rw last at ec in
        let jd = sym ready ∙ ed in
        let next : id + 1 ≡ node.last_id + 1 = ap (λ (n : ℕ). n + 1) (eqb-true id node.last_id jc) in
        rw (ea, ja, eb, jb, ec, jc, ed, jd, next) refl

-- a beat is answered as the judge does
pub beat_answer : (m : Scene) (t : Tables) (name : List ℕ) (id : ℕ) (running : List Held) → RefinesLife m t
    → beat_told t.book name id running (node_in t.nodes name) ≡ beat_reply m id running (node_told m.life.nodes name)
beat_answer m t name id running shows =
    beat_by m t.book name id running (node_in t.nodes name) (node_told m.life.nodes name) shows.rows (shows.nodes name) (named_so m.life.nodes name)

expire_by : (book : BookOf) (name : List ℕ) (row : Option NodeRow) (node : Option NodeState) → option_map (bare_node book name) row ≡ option_map plain_node node
    → may_expire_in row ≡ is_some_and (λ one. is_waiting one.phase || is_ready_told one.phase) node
expire_by book name None None e = refl
expire_by book name None (Some node) e = cc
expire_by book name (Some row) None e = cc
expire_by book name (Some row) (Some node) e =
    let same : bare_node book name row ≡ plain_node node = cc in
    registered_alike book name row node same

-- a node may expire where the judge says so
pub expire_answer : (m : Scene) (t : Tables) (name : List ℕ) → RefinesLife m t → may_expire_in (node_in t.nodes name) ≡ may_expire m name
expire_answer m t name shows = expire_by t.book name (node_in t.nodes name) (node_told m.life.nodes name) (shows.nodes name)
