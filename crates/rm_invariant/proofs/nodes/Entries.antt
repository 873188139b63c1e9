-- Each entry that a node's event logs is the judge's, and keeps what holds at each node.
use Rattle.rm_invariant.proofs.Common.{◌≡◌, ℕ, ◌<◌, List, [], ◌∷◌, ◌++◌, Bool, true, false, not, ◌||◌, Option, None, Some, filter, map, refl, sym, ◌∙◌, ap, subst, arith, if◌then◌else◌, Contains, slice_get, list_any, bytes_eq, false≢true, nat_tests, map-append, filter-append, filter_agree, Cause, Grant, Held, ContainerId, Reply, is_nil, Ascend, text_itself, same_text, Registration, Row, Scene, Waiting, Lost, Undone, Registered, Beat, Expired, has_container, ids_on, leave, lives_on, once, without_launches, without_idle, is_waiting, judged_node, with_judged_node, tidied, tidied_node, node_after_registration, new_node, row_beaten, beaten, expired, reported, passed, passes, row_granted, absorbed, absorbs, row_taken, row_absorbed, is_held, SchedEvent}
use Rattle.std.proofs.Common.{append-nil}
use Rattle.std.specs.Prelude.{◌==◌, ◌≢◌, is_some, unwrap_or}
use Rattle.std.proofs.lemmas.Bool.{or_right}
use Rattle.std.proofs.lemmas.Simd.{map-map}
use Rattle.rm_types.specs.declared.containers.Cause.TheVariants.{Done, Node as NodeGone}
use Rattle.rm_model.specs.State.{NodeState}
use Rattle.rm_model.specs.Nodes.{beat_at, expiry_at}
use Rattle.rm_model.specs.NodeReplies.{nodes_registered}
use Rattle.rm_model.specs.Ending.{done_on, MayEnd}
use Rattle.rm_model.specs.Absorbing.{book_taken}
use Rattle.rm_tables.specs.declared.events.SchedEvent.TheVariants.{NodeAdded, NodeDone, NodeUpdate, NodeLost}
use Rattle.rm_types.specs.declared.settings.Settings.{Settings}
use Rattle.rm_model.specs.Containers.{is_astray}
use Rattle.rm_invariant.specs.nodes.Invariant.{is_idle_by, is_nodes_event, pending, NodeView, RegisteredInvariant, events_of, node_view, NodeInvariant, NodesInvariant}
use Rattle.rm_invariant.proofs.nodes.Views.{added_quiet, added_front, added_keeps, done_front, done_keeps, update_front, update_keeps, lost_quiet, lost_front, lost_keeps, register_keeps, beat_events, beat_keeps, expire_keeps}
use Rattle.rm_invariant.proofs.nodes.Ascending.{none_after_permuted}
use Rattle.rm_invariant.proofs.nodes.Lists.{none_left, lives_is}
use Rattle.rm_invariant.proofs.nodes.Moved.{KeepsName, name_of, found_among, mapped_among, idle_is, tidy, moved, all_moved}
use Rattle.rm_refinement.proofs.Found.{apart_names}

-- THE QUEUE

popped_other : (q : List ℕ) (event : SchedEvent) (more sched : List SchedEvent) → sched ≡ event ∷ more → is_nodes_event q event ≡ false → events_of q more ≡ events_of q sched
popped_other q event more sched e apart = rw (e, apart) refl

popped_own : (n : List ℕ) (event : SchedEvent) (more sched : List SchedEvent) → sched ≡ event ∷ more → is_nodes_event n event ≡ true → events_of n sched ≡ event ∷ events_of n more
popped_own n event more sched e own = rw (e, own) refl

posted_other : (q : List ℕ) (sched events : List SchedEvent) → events_of q events ≡ [] → events_of q (sched ++ events) ≡ events_of q sched
posted_other q sched events none = filter-append (is_nodes_event q) sched events ∙ ap (λ (l : List SchedEvent). events_of q sched ++ l) none ∙ append-nil (events_of q sched)

posted_own : (n : List ℕ) (sched events : List SchedEvent) → events_of n events ≡ events → events_of n (sched ++ events) ≡ events_of n sched ++ events
posted_own n sched events all = filter-append (is_nodes_event n) sched events ∙ ap (λ (l : List SchedEvent). events_of n sched ++ l) all

known_by : (astray : ContainerId → Bool) (nodes : List NodeState) (book : List Row) (sched : List SchedEvent) (n : List ℕ) (event : SchedEvent) (more : List SchedEvent) → sched ≡ event ∷ more → is_nodes_event n event ≡ true
    → NodesInvariant astray nodes book sched → judged_node nodes n ≡ None → ⊥
known_by astray nodes book sched n event more e own good none =
    let g : NodeInvariant astray None (events_of n sched) (ids_on book n) = rw none at (good n) in
    let f : event ∷ events_of n more ≡ [] = sym (popped_own n event more sched e own) ∙ g.0 in cc

found_by : (astray : ContainerId → Bool) (nodes : List NodeState) (book : List Row) (sched : List SchedEvent) (n : List ℕ) (event : SchedEvent) (more : List SchedEvent) → sched ≡ event ∷ more → is_nodes_event n event ≡ true
    → NodesInvariant astray nodes book sched → (o : Option NodeState) → judged_node nodes n ≡ o → (node : NodeState) × (judged_node nodes n ≡ Some node)
found_by astray nodes book sched n event more e own good None f = absurd (known_by astray nodes book sched n event more e own good f)
found_by astray nodes book sched n event more e own good (Some node) f = (node, f)

-- the node that the queue's front is of
pub known_node : (astray : ContainerId → Bool) (nodes : List NodeState) (book : List Row) (sched : List SchedEvent) (n : List ℕ) (event : SchedEvent) (more : List SchedEvent) → sched ≡ event ∷ more → is_nodes_event n event ≡ true
    → NodesInvariant astray nodes book sched → (node : NodeState) × (judged_node nodes n ≡ Some node)
known_node astray nodes book sched n event more e own good = found_by astray nodes book sched n event more e own good (judged_node nodes n) refl

at_node : (astray : ContainerId → Bool) (nodes : List NodeState) (book : List Row) (sched : List SchedEvent) (n : List ℕ) (node : NodeState) → NodesInvariant astray nodes book sched → judged_node nodes n ≡ Some node
    → RegisteredInvariant (node_view astray node (events_of n sched) (ids_on book n))
at_node astray nodes book sched n node good there = rw there at (good n)

-- THE BOOK

abbrev pub stays_without : List ContainerId → ContainerId → Bool
stays_without ids id = not (has_container ids id)

abbrev without : List ContainerId → List Row → List Row
without ids book = filter (λ row. not (has_container ids row.id)) book

without_more : (q : List ℕ) (ids : List ContainerId) (row : Row) (book : List Row) (b c : Bool) → bytes_eq row.node q ≡ b → has_container ids row.id ≡ c
    → ids_on (without ids book) q ≡ filter (stays_without ids) (ids_on book q) → ids_on (without ids (row ∷ book)) q ≡ filter (stays_without ids) (ids_on (row ∷ book) q)
without_more q ids row book true true e f rest = rw (e, f) rest
without_more q ids row book true false e f rest = rw (f, e) (rw f (ap (λ (l : List ContainerId). row.id ∷ l) rest))
without_more q ids row book false true e f rest = rw (f, e) rest
without_more q ids row book false false e f rest = rw (f, e) rest

pub ids_on-without : (q : List ℕ) (ids : List ContainerId) (book : List Row) → ids_on (without ids book) q ≡ filter (stays_without ids) (ids_on book q)
ids_on-without q ids [] = refl
ids_on-without q ids (row ∷ book) = without_more q ids row book (bytes_eq row.node q) (has_container ids row.id) refl refl (ids_on-without q ids book)

pub ids_on-append : (q : List ℕ) (book rows : List Row) → ids_on (book ++ rows) q ≡ ids_on book q ++ ids_on rows q
ids_on-append q book rows = rw (filter-append (λ (row : Row). bytes_eq row.node q) book rows) (map-append (λ (row : Row). row.id) _ _)

-- rows that change, but not their ids and nodes
abbrev pub KeepsPlace : (Row → Row) → Type 0
KeepsPlace change = (row : Row) → ((change row).id ≡ row.id) × ((change row).node ≡ row.node)

change_more : (q : List ℕ) (change : Row → Row) → KeepsPlace change → (row : Row) (book : List Row) (b : Bool) → bytes_eq row.node q ≡ b
    → ids_on (map change book) q ≡ ids_on book q → ids_on (map change (row ∷ book)) q ≡ ids_on (row ∷ book) q
change_more q change k row book true e rest =
    let s = k row in
    let f : bytes_eq (change row).node q ≡ true = ap (λ (n : List ℕ). bytes_eq n q) s.1 ∙ e in
    rw (f, e) (ap (λ (id : ContainerId). id ∷ ids_on (map change book) q) s.0 ∙ ap (λ (l : List ContainerId). row.id ∷ l) rest)
change_more q change k row book false e rest =
    let s = k row in
    let f : bytes_eq (change row).node q ≡ false = ap (λ (n : List ℕ). bytes_eq n q) s.1 ∙ e in rw (f, e) rest

pub ids_on-change : (q : List ℕ) (change : Row → Row) → KeepsPlace change → (book : List Row) → ids_on (map change book) q ≡ ids_on book q
ids_on-change q change k [] = refl
ids_on-change q change k (row ∷ book) = change_more q change k row book (bytes_eq row.node q) refl (ids_on-change q change k book)

-- rows that enter one node
none_entered : {X : Type 0} (make : X → Row) (n q : List ℕ) → ((x : X) → (make x).node ≡ n) → bytes_eq n q ≡ false → (xs : List X) → ids_on (map make xs) q ≡ []
none_entered make n q on apart [] = refl
none_entered make n q on apart (x ∷ xs) =
    let other : bytes_eq (make x).node q ≡ false = ap (λ (m : List ℕ). bytes_eq m q) (on x) ∙ apart in rw other (none_entered make n q on apart xs)

filter-all : (xs : List ContainerId) → xs ≡ filter (λ x. true) xs
filter-all [] = refl
filter-all (x ∷ xs) = ap (λ (l : List ContainerId). x ∷ l) (filter-all xs)

filter-nil : {X : Type 0} (p : X → Bool) (xs : List X) → xs ≡ [] → filter p xs ≡ []
filter-nil p xs e = rw e refl

-- CONTAINERS LEAVE, for whatever cause: what happens at a node where none of its events goes

left_at : (astray : ContainerId → Bool) (m : Scene) (cause : Cause) (list : List ContainerId) (q : List ℕ) (node : NodeState) (events : List SchedEvent) → node.name ≡ q → RegisteredInvariant (node_view astray node events (ids_on m.life.book q))
    → RegisteredInvariant (node_view astray (tidied_node (without list m.life.book) (without_launches list node)) events (ids_on (without list m.life.book) q))
left_at astray m cause list q node events is a =
    let b : RegisteredInvariant (node_view astray node events (ids_on m.life.book node.name)) = rw is a in
    rw (← is)
    (tidy astray (without_launches list node) events (ids_on m.life.book node.name) (without list m.life.book) (stays_without list) (ids_on-without node.name list m.life.book) b)

left_none : (m : Scene) (list : List ContainerId) (q : List ℕ) → ids_on m.life.book q ≡ [] → ids_on (without list m.life.book) q ≡ []
left_none m list q none = ids_on-without q list m.life.book ∙ filter-nil (stays_without list) (ids_on m.life.book q) none

-- AN ENDING by an event that is of no node: of one attempt, or of what was released
pub ended_good : (astray : ContainerId → Bool) (m : Scene) (cause : Cause) (list : List ContainerId) (sched more : List SchedEvent) → ((q : List ℕ) → events_of q more ≡ events_of q sched)
    → NodesInvariant astray m.life.nodes m.life.book sched → NodesInvariant astray (tidied (leave m cause list)).nodes (tidied (leave m cause list)).book more
ended_good astray m cause list sched more same good =
    rw (map-map (tidied_node (without list m.life.book)) (without_launches list) m.life.nodes)
    (all_moved astray m.life.nodes m.life.book sched (λ node. tidied_node (without list m.life.book) (without_launches list node)) (without list m.life.book) more (λ node. refl)
    (λ q node is a. rw (same q) (left_at astray m cause list q node (events_of q sched) is a))
    (λ q g. (same q ∙ g.0, left_none m list q g.1)) good)

-- A DONE LIST: it is the judge's ...
beat_front : (node : NodeState) (done : List ContainerId) (rest : List Undone) → node.undone ≡ Beat done ∷ rest → beat_at node.undone ≡ Some done
beat_front node done rest e = rw e refl

-- a container that a node reports as done goes where it is astray or lives on the node
abbrev pub is_done_on : Settings → Scene → List ℕ → ContainerId → Bool
is_done_on settings m name id = is_astray settings m id || lives_on m.life.book name id

-- the list that the code ends: of the event's list, what goes
abbrev pub done_list : Settings → Scene → List ℕ → List ContainerId → List ContainerId
done_list settings m name done = once (filter (is_done_on settings m name) done)

pub done_lawful : (astray : ContainerId → Bool) (settings : Settings) (m : Scene) (sched : List SchedEvent) (n : List ℕ) (done : List ContainerId) (more : List SchedEvent) → sched ≡ NodeDone n done ∷ more → is_nil done ≡ false
    → done_list settings m n done ≢ [] → NodesInvariant astray m.life.nodes m.life.book sched → MayEnd settings m Done (done_list settings m n done)
done_lawful astray settings m sched n done more e some left good =
    let k = known_node astray m.life.nodes m.life.book sched n (NodeDone n done) more e (text_itself n) good in
    let is : k.0.name ≡ n = same_text k.0.name n (name_of m.life.nodes n k.0 k.1) in
    let front = popped_own n (NodeDone n done) more sched e (text_itself n) in
    let f = done_front (node_view astray k.0 (events_of n sched) (ids_on m.life.book n)) n done (events_of n more) front some (at_node astray m.life.nodes m.life.book sched n k.0 good k.1) in
    let listed : done_on settings m k.0 ≡ done_list settings m n done = rw (beat_front k.0 done f.0 f.1, is) refl in
    let there : Contains (map (done_on settings m) m.life.nodes) (done_on settings m k.0) = mapped_among (done_on settings m) m.life.nodes n k.0 k.1 in
    record { some = left; ends = rw listed at there }

-- ... after which nothing of it is on its node ...
pub none_done_left : (settings : Settings) (m : Scene) (n : List ℕ) (done : List ContainerId) → list_any (has_container (filter (stays_without (done_list settings m n done)) (ids_on m.life.book n))) done ≡ false
none_done_left settings m n done = none_left (is_done_on settings m n) (ids_on m.life.book n) done (λ id on. or_right (is_astray settings m id) (lives_on m.life.book n id) (lives_is m.life.book n id ∙ on))

-- ... and what holds is kept
pub done_good : (astray : ContainerId → Bool) (m : Scene) (ended : List ContainerId) (sched : List SchedEvent) (n : List ℕ) (done : List ContainerId) (more : List SchedEvent) → sched ≡ NodeDone n done ∷ more
    → list_any (has_container (filter (stays_without ended) (ids_on m.life.book n))) done ≡ false → list_any astray done ≡ false → NodesInvariant astray m.life.nodes m.life.book sched → NodesInvariant astray (tidied (leave m Done ended)).nodes (tidied (leave m Done ended)).book more
done_good astray m ended sched n done more e none clear good =
    rw (map-map (tidied_node (without ended m.life.book)) (without_launches ended) m.life.nodes)
    (moved astray m.life.nodes m.life.book sched n (λ node. tidied_node (without ended m.life.book) (without_launches ended node)) (without ended m.life.book) more
    (record {
      named = λ node. refl;
      known = known_by astray m.life.nodes m.life.book sched n (NodeDone n done) more e (text_itself n) good;
      own = λ node there is a.
          let front = popped_own n (NodeDone n done) more sched e (text_itself n) in
          let left = ids_on-without n ended m.life.book in
          rw (idle_is (without ended m.life.book) (without_launches ended node), is, left)
          (done_keeps (node_view astray node (events_of n sched) (ids_on m.life.book n)) n done (events_of n more) (stays_without ended) front none clear a);
      other = λ q node is apart a. rw (popped_other q (NodeDone n done) more sched e apart) (left_at astray m Done ended q node (events_of q sched) is a);
      none = λ q apart g. (popped_other q (NodeDone n done) more sched e apart ∙ g.0, left_none m ended q g.1);
    }) good)

-- ALL ON A NODE
expiry_front : (node : NodeState) (rest : List Undone) → node.undone ≡ Expired ∷ rest → expiry_at node.undone ≡ true
expiry_front node rest e = rw e refl

pub lost_lawful : (astray : ContainerId → Bool) (settings : Settings) (m : Scene) (sched : List SchedEvent) (n : List ℕ) (ids : List ContainerId) (more : List SchedEvent) → sched ≡ NodeLost n ∷ more → is_nil (ids_on m.life.book n) ≡ false
    → ids ≢ [] → Ascend (ids_on m.life.book n) ids → NodesInvariant astray m.life.nodes m.life.book sched → MayEnd settings m NodeGone ids
lost_lawful astray settings m sched n ids more e some left a good =
    let k = known_node astray m.life.nodes m.life.book sched n (NodeLost n) more e (text_itself n) good in
    let is : k.0.name ≡ n = same_text k.0.name n (name_of m.life.nodes n k.0 k.1) in
    let front = popped_own n (NodeLost n) more sched e (text_itself n) in
    let f = lost_front (node_view astray k.0 (events_of n sched) (ids_on m.life.book n)) n (events_of n more) front some (at_node astray m.life.nodes m.life.book sched n k.0 good k.1) in
    let there = found_among m.life.nodes n k.0 k.1 in
    let all : Ascend (ids_on m.life.book k.0.name) ids = rw is a in
    record { some = left; ends = (k.0, there, expiry_front k.0 (pending (events_of n more) []) f, all) }

pub lost_good : (astray : ContainerId → Bool) (m : Scene) (sched : List SchedEvent) (n : List ℕ) (ids : List ContainerId) (more : List SchedEvent) → sched ≡ NodeLost n ∷ more → is_nil (ids_on m.life.book n) ≡ false
    → Ascend (ids_on m.life.book n) ids → NodesInvariant astray m.life.nodes m.life.book sched → NodesInvariant astray (tidied (leave m NodeGone ids)).nodes (tidied (leave m NodeGone ids)).book more
lost_good astray m sched n ids more e some all good =
    rw (map-map (tidied_node (without ids m.life.book)) (without_launches ids) m.life.nodes)
    (moved astray m.life.nodes m.life.book sched n (λ node. tidied_node (without ids m.life.book) (without_launches ids node)) (without ids m.life.book) more
    (record {
      named = λ node. refl;
      known = known_by astray m.life.nodes m.life.book sched n (NodeLost n) more e (text_itself n) good;
      own = λ node there is a.
          let front = popped_own n (NodeLost n) more sched e (text_itself n) in
          let none : ids_on (without ids m.life.book) n ≡ [] = ids_on-without n ids m.life.book ∙ none_after_permuted (ids_on m.life.book n) ids all.same in
          let nil : is_nil (ids_on (without ids m.life.book) n) ≡ true = rw none refl in
          rw (idle_is (without ids m.life.book) (without_launches ids node), is)
          (lost_keeps (node_view astray node (events_of n sched) (ids_on m.life.book n)) n (events_of n more) (ids_on (without ids m.life.book) n) front some nil a);
      other = λ q node is apart a. rw (popped_other q (NodeLost n) more sched e apart) (left_at astray m NodeGone ids q node (events_of q sched) is a);
      none = λ q apart g. (popped_other q (NodeLost n) more sched e apart ∙ g.0, left_none m ids q g.1);
    }) good)

-- A PASS
any_same : (p q : ContainerId → Bool) → ((id : ContainerId) → p id ≡ q id) → (ids : List ContainerId) → list_any p ids ≡ list_any q ids
any_same p q same [] = refl
any_same p q same (id ∷ ids) = rw (same id, any_same p q same ids) refl

-- what passes neither of two tests passes neither
none_either : (p q : ContainerId → Bool) (ids : List ContainerId) → list_any p ids ≡ false → list_any q ids ≡ false → filter (λ id. p id || q id) ids ≡ []
none_either p q [] none other = refl
none_either p q (id ∷ ids) none other = by (p id) refl (q id) refl (none_either p q ids)
  where
    by : (b : Bool) → p id ≡ b → (c : Bool) → q id ≡ c → (list_any p ids ≡ false → list_any q ids ≡ false → filter (λ one. p one || q one) ids ≡ []) → filter (λ one. p one || q one) (id ∷ ids) ≡ []
    by true e c f rest = absurd (false≢true (sym none ∙ rw e refl))
    by false e true f rest = absurd (false≢true (sym other ∙ rw f refl))
    by false e false f rest = rw (e, f) (rest (rw e at none) (rw f at other))

-- the two conditions of a pass that the queue gives: a beat is at the front, and none of its done list lives on the node or is astray
pub record AtBeat (settings : Settings) (m : Scene) (n : List ℕ) : Type 0 where
  pub node : NodeState
  pub there : judged_node m.life.nodes n ≡ Some node
  pub beat : is_some (beat_at node.undone) ≡ true
  pub none_done : done_on settings m node ≡ []

pub pass_lawful : (settings : Settings) (m : Scene) (sched : List SchedEvent) (n : List ℕ) (more : List SchedEvent) → sched ≡ NodeUpdate n ∷ more → NodesInvariant (is_astray settings m) m.life.nodes m.life.book sched → AtBeat settings m n
pass_lawful settings m sched n more e good =
    let k = known_node (is_astray settings m) m.life.nodes m.life.book sched n (NodeUpdate n) more e (text_itself n) good in
    let is : k.0.name ≡ n = same_text k.0.name n (name_of m.life.nodes n k.0 k.1) in
    let front = popped_own n (NodeUpdate n) more sched e (text_itself n) in
    let f = update_front (node_view (is_astray settings m) k.0 (events_of n sched) (ids_on m.life.book n)) n (events_of n more) front (at_node (is_astray settings m) m.life.nodes m.life.book sched n k.0 good k.1) in
    let beat = beat_front k.0 f.0 (pending (events_of n more) []) f.1 in
    record {
      node = k.0;
      there = k.1;
      beat = rw beat refl;
      none_done =
          let lives : list_any (lives_on m.life.book n) f.0 ≡ false = any_same (lives_on m.life.book n) (has_container (ids_on m.life.book n)) (lives_is m.life.book n) f.0 ∙ f.2 in
          rw (beat, is, none_either (is_astray settings m) (lives_on m.life.book n) f.0 f.3 lives) refl;
    }

pub at_name : (n : List ℕ) (change : NodeState → NodeState) → KeepsName change → (node : NodeState) → (if bytes_eq node.name n then change node else node).name ≡ node.name
at_name n change k node = by_test (bytes_eq node.name n) refl
  where
    by_test : (b : Bool) → bytes_eq node.name n ≡ b → (if bytes_eq node.name n then change node else node).name ≡ node.name
    by_test true e = rw e (k node)
    by_test false e = rw e refl

at_own : (n : List ℕ) (change : NodeState → NodeState) (node : NodeState) → node.name ≡ n → (if bytes_eq node.name n then change node else node) ≡ change node
at_own n change node is = let e : bytes_eq node.name n ≡ true = rw is (text_itself n) in rw e refl

at_other : (n q : List ℕ) (change : NodeState → NodeState) (node : NodeState) → node.name ≡ q → bytes_eq n q ≡ false → (if bytes_eq node.name n then change node else node) ≡ node
at_other n q change node is apart = let e : bytes_eq node.name n ≡ false = rw is (apart_names n q apart) in rw e refl

-- all grants are on the node
abbrev pub AllOn : List ℕ → List Grant → Type 0
AllOn n [] = Unit {0}
AllOn n (grant ∷ grants) = (grant.node ≡ n) × AllOn n grants

none_granted : (n q : List ℕ) (grants : List Grant) → AllOn n grants → bytes_eq n q ≡ false → ids_on (map row_granted grants) q ≡ []
none_granted n q [] on apart = refl
none_granted n q (grant ∷ grants) on apart =
    let other : bytes_eq grant.node q ≡ false = ap (λ (m : List ℕ). bytes_eq m q) on.0 ∙ apart in rw other (none_granted n q grants on.1 apart)

entered_other : (q : List ℕ) (book rows : List Row) → ids_on rows q ≡ [] → ids_on (book ++ rows) q ≡ ids_on book q
entered_other q book rows none = ids_on-append q book rows ∙ ap (λ (l : List ContainerId). ids_on book q ++ l) none ∙ append-nil (ids_on book q)

pub pass_good : (astray : ContainerId → Bool) (m : Scene) (sched : List SchedEvent) (n : List ℕ) (grants : List Grant) (more : List SchedEvent) → sched ≡ NodeUpdate n ∷ more → AllOn n grants
    → NodesInvariant astray m.life.nodes m.life.book sched → NodesInvariant astray (passes m n grants).nodes (passes m n grants).book more
pass_good astray m sched n grants more e on good =
    rw (map-map (tidied_node (m.life.book ++ map row_granted grants)) (λ node. if bytes_eq node.name n then passed node else node) m.life.nodes)
    (moved astray m.life.nodes m.life.book sched n (λ node. tidied_node (m.life.book ++ map row_granted grants) (if bytes_eq node.name n then passed node else node)) (m.life.book ++ map row_granted grants) more
    (record {
      named = at_name n passed (λ node. refl);
      known = known_by astray m.life.nodes m.life.book sched n (NodeUpdate n) more e (text_itself n) good;
      own = λ node there is a.
          let front = popped_own n (NodeUpdate n) more sched e (text_itself n) in
          rw (at_own n passed node is, idle_is (m.life.book ++ map row_granted grants) (passed node), is)
          (update_keeps (node_view astray node (events_of n sched) (ids_on m.life.book n)) n (events_of n more) (ids_on (m.life.book ++ map row_granted grants) n) front a);
      other = λ q node is apart a.
          let same : ids_on (m.life.book ++ map row_granted grants) q ≡ ids_on m.life.book q = entered_other q m.life.book (map row_granted grants) (none_granted n q grants on apart) in
          rw (at_other n q passed node is apart, popped_other q (NodeUpdate n) more sched e apart, ← is)
          (tidy astray node (events_of node.name sched) (ids_on m.life.book node.name) (m.life.book ++ map row_granted grants) (λ id. true)
          (rw is (same ∙ filter-all (ids_on m.life.book q))) (rw is a));
      none = λ q apart g.
          (popped_other q (NodeUpdate n) more sched e apart ∙ g.0, entered_other q m.life.book (map row_granted grants) (none_granted n q grants on apart) ∙ g.1);
    }) good)

-- A REGISTRATION
pub taken_place : (taken : List Held) → KeepsPlace (row_taken taken)
taken_place taken row = by_test (is_held taken row.id) refl
  where
    by_test : (b : Bool) → is_held taken row.id ≡ b → ((row_taken taken row).id ≡ row.id) × ((row_taken taken row).node ≡ row.node)
    by_test true e = (rw e refl, rw e refl)
    by_test false e = (rw e refl, rw e refl)

abbrev book_absorbed : Scene → List ℕ → List Held → List ContainerId → List Row
book_absorbed m n taken ended = book_taken n taken (without ended m.life.book)

absorbed_other : (m : Scene) (n q : List ℕ) (taken : List Held) (ended : List ContainerId) → bytes_eq n q ≡ false → ids_on (book_absorbed m n taken ended) q ≡ filter (stays_without ended) (ids_on m.life.book q)
absorbed_other m n q taken ended apart =
    entered_other q (map (row_taken taken) (without ended m.life.book)) _ (none_entered (row_absorbed n) n q (λ held. refl) apart _)
    ∙ ids_on-change q (row_taken taken) (taken_place taken) (without ended m.life.book)
    ∙ ids_on-without q ended m.life.book

waits_by : (a b : Bool) → (not a || not b) ≡ false → (a ≡ true) × (b ≡ true)
waits_by true true h = (refl, refl)
waits_by true false h = absurd (false≢true (sym h))
waits_by false b h = absurd (false≢true (sym h))

pub absorbed_lawful : (astray : ContainerId → Bool) (m : Scene) (sched : List SchedEvent) (n : List ℕ) (turn : ℕ) (more : List SchedEvent) (node : NodeState) → sched ≡ NodeAdded n turn ∷ more → judged_node m.life.nodes n ≡ Some node
    → (not (turn == node.last.turn) || not (is_waiting node.phase)) ≡ false → NodesInvariant astray m.life.nodes m.life.book sched → slice_get node.undone 0 ≡ Some (Registered node.last.turn)
absorbed_lawful astray m sched n turn more node e there it good =
    let front = popped_own n (NodeAdded n turn) more sched e (text_itself n) in
    let f = added_front (node_view astray node (events_of n sched) (ids_on m.life.book n)) n turn (events_of n more) front it (at_node astray m.life.nodes m.life.book sched n node good there) in
    let same : turn ≡ node.last.turn = let w = (waits_by (turn == node.last.turn) (is_waiting node.phase) it).0 in grind (arith, nat_tests) in
    rw (f, same) refl

pub absorbed_good : (astray : ContainerId → Bool) (m : Scene) (sched : List SchedEvent) (n : List ℕ) (turn : ℕ) (more : List SchedEvent) (node : NodeState) (taken : List Held) (ended : List ContainerId) → sched ≡ NodeAdded n turn ∷ more
    → judged_node m.life.nodes n ≡ Some node → (not (turn == node.last.turn) || not (is_waiting node.phase)) ≡ false → NodesInvariant astray m.life.nodes m.life.book sched
    → NodesInvariant astray (absorbs m n taken ended).nodes (absorbs m n taken ended).book more
absorbed_good astray m sched n turn more node taken ended e there it good =
    rw (map-map (λ one. if bytes_eq one.name n then absorbed one else one) (without_launches ended) m.life.nodes)
    (rw (map-map (tidied_node (book_absorbed m n taken ended)) (λ one. if bytes_eq one.name n then absorbed (without_launches ended one) else without_launches ended one) m.life.nodes)
    (moved astray m.life.nodes m.life.book sched n (λ one. tidied_node (book_absorbed m n taken ended) (if bytes_eq one.name n then absorbed (without_launches ended one) else without_launches ended one)) (book_absorbed m n taken ended) more
    (record {
      named = λ one. at_name n absorbed (λ other. refl) (without_launches ended one);
      known = known_by astray m.life.nodes m.life.book sched n (NodeAdded n turn) more e (text_itself n) good;
      own = λ one f is a.
          let same : one ≡ node = let g : Some one ≡ Some node = sym f ∙ there in cc in
          let waits : (not (turn == one.last.turn) || not (is_waiting one.phase)) ≡ false = rw same it in
          let front = popped_own n (NodeAdded n turn) more sched e (text_itself n) in
          rw (at_own n absorbed (without_launches ended one) is, idle_is (book_absorbed m n taken ended) (absorbed (without_launches ended one)), is)
          (added_keeps (node_view astray one (events_of n sched) (ids_on m.life.book n)) n turn (events_of n more) (ids_on (book_absorbed m n taken ended) n) front waits a);
      other = λ q one is apart a.
          rw (at_other n q absorbed (without_launches ended one) is apart, popped_other q (NodeAdded n turn) more sched e apart, ← is)
          (tidy astray (without_launches ended one) (events_of one.name sched) (ids_on m.life.book one.name) (book_absorbed m n taken ended) (stays_without ended)
          (rw is (absorbed_other m n q taken ended apart)) (rw is a));
      none = λ q apart g.
          (popped_other q (NodeAdded n turn) more sched e apart ∙ g.0, absorbed_other m n q taken ended apart ∙ filter-nil (stays_without ended) (ids_on m.life.book q) g.1);
    }) good))

-- QUIET EVENTS: the front goes, and nothing changes
pub quiet_good : (astray : ContainerId → Bool) (nodes : List NodeState) (book : List Row) (sched : List SchedEvent) (n : List ℕ) (event : SchedEvent) (more : List SchedEvent) → sched ≡ event ∷ more
    → ((q : List ℕ) → bytes_eq n q ≡ false → is_nodes_event q event ≡ false) → is_nodes_event n event ≡ true → (node : NodeState) → judged_node nodes n ≡ Some node
    → (RegisteredInvariant (node_view astray node (event ∷ events_of n more) (ids_on book n)) → RegisteredInvariant (node_view astray node (events_of n more) (ids_on book n)))
    → NodesInvariant astray nodes book sched → NodesInvariant astray nodes book more
quiet_good astray nodes book sched n event more e apart own node there quiet good = λ q. by_name q (bytes_eq n q) refl
  where
    by_name : (q : List ℕ) (b : Bool) → bytes_eq n q ≡ b → NodeInvariant astray (judged_node nodes q) (events_of q more) (ids_on book q)
    by_name q true t =
        let a = at_node astray nodes book sched n node good there in
        let b : RegisteredInvariant (node_view astray node (event ∷ events_of n more) (ids_on book n)) = rw (popped_own n event more sched e own) at a in
        subst (λ (x : List ℕ). NodeInvariant astray (judged_node nodes x) (events_of x more) (ids_on book x)) (same_text n q t) (rw there (quiet b))
    by_name q false t = rw (popped_other q event more sched e (apart q t)) (good q)

pub added_quiet_good : (astray : ContainerId → Bool) (nodes : List NodeState) (book : List Row) (sched : List SchedEvent) (n : List ℕ) (turn : ℕ) (more : List SchedEvent) (node : NodeState) → sched ≡ NodeAdded n turn ∷ more → judged_node nodes n ≡ Some node
    → (not (turn == node.last.turn) || not (is_waiting node.phase)) ≡ true → NodesInvariant astray nodes book sched → NodesInvariant astray nodes book more
added_quiet_good astray nodes book sched n turn more node e there it good =
    quiet_good astray nodes book sched n (NodeAdded n turn) more e (λ q apart. apart) (text_itself n) node there
    (added_quiet (node_view astray node (NodeAdded n turn ∷ events_of n more) (ids_on book n)) n turn (events_of n more) refl it) good

pub lost_quiet_good : (astray : ContainerId → Bool) (nodes : List NodeState) (book : List Row) (sched : List SchedEvent) (n : List ℕ) (more : List SchedEvent) (node : NodeState) → sched ≡ NodeLost n ∷ more → judged_node nodes n ≡ Some node
    → is_nil (ids_on book n) ≡ true → NodesInvariant astray nodes book sched → NodesInvariant astray nodes book more
lost_quiet_good astray nodes book sched n more node e there none good =
    quiet_good astray nodes book sched n (NodeLost n) more e (λ q apart. apart) (text_itself n) node there
    (lost_quiet (node_view astray node (NodeLost n ∷ events_of n more) (ids_on book n)) n (events_of n more) refl none) good

-- A MESSAGE: events are posted at the end, and its node changes

pub posted : (astray : ContainerId → Bool) (nodes : List NodeState) (book : List Row) (sched : List SchedEvent) (n : List ℕ) (change : NodeState → NodeState) (book_after : List Row) (events : List SchedEvent) → KeepsName change
    → ((q : List ℕ) → ids_on book_after q ≡ ids_on book q) → ((q : List ℕ) → bytes_eq n q ≡ false → events_of q events ≡ []) → events_of n events ≡ events
    → (node : NodeState) → judged_node nodes n ≡ Some node
    → (RegisteredInvariant (node_view astray node (events_of n sched) (ids_on book n)) → RegisteredInvariant (node_view astray (change node) (events_of n sched ++ events) (ids_on book n)))
    → NodesInvariant astray nodes book sched → NodesInvariant astray (with_judged_node change n nodes) book_after (sched ++ events)
posted astray nodes book sched n change book_after events named rows apart all node there own good =
    moved astray nodes book sched n (λ one. if bytes_eq one.name n then change one else one) book_after (sched ++ events)
    (record {
      named = at_name n change named;
      known = λ none. let f : None ≡ Some node = sym none ∙ there in cc;
      own = λ one f is a.
          let same : one ≡ node = let g : Some one ≡ Some node = sym f ∙ there in cc in
          let b : RegisteredInvariant (node_view astray node (events_of n sched) (ids_on book n)) = rw same at a in
          rw (at_own n change one is, same, posted_own n sched events all, rows n) (own b);
      other = λ q one is other a. rw (at_other n q change one is other, posted_other q sched events (apart q other), rows q) a;
      none = λ q other g. (posted_other q sched events (apart q other) ∙ g.0, rows q ∙ g.1);
    }) good

pub one_other : (q : List ℕ) (event : SchedEvent) → is_nodes_event q event ≡ false → events_of q (event ∷ []) ≡ []
one_other q event e = rw e refl

pub one_own : (n : List ℕ) (event : SchedEvent) → is_nodes_event n event ≡ true → events_of n (event ∷ []) ≡ event ∷ []
one_own n event e = rw e refl

beat_other : (n q : List ℕ) (done : List ContainerId) → bytes_eq n q ≡ false → events_of q (beat_events n done) ≡ []
beat_other n q [] apart = rw apart refl
beat_other n q (id ∷ done) apart = rw apart refl

beat_own : (n : List ℕ) (done : List ContainerId) → events_of n (beat_events n done) ≡ beat_events n done
beat_own n [] = let e = text_itself n in rw e refl
beat_own n (id ∷ done) = let e = text_itself n in rw e refl

beaten_place : (n : List ℕ) (running launched : List ContainerId) → KeepsPlace (row_beaten n running launched)
beaten_place n running launched row = grind arith

-- a beat
pub beat_good : (astray : ContainerId → Bool) (m : Scene) (sched : List SchedEvent) (n : List ℕ) (running : List Held) (done launched : List ContainerId) (reply : Reply) (node : NodeState) → judged_node m.life.nodes n ≡ Some node
    → NodesInvariant astray m.life.nodes m.life.book sched
    → NodesInvariant astray (with_judged_node (beaten launched done reply) n m.life.nodes) (map (row_beaten n (reported running) launched) m.life.book) (sched ++ beat_events n done)
beat_good astray m sched n running done launched reply node there good =
    posted astray m.life.nodes m.life.book sched n (beaten launched done reply) (map (row_beaten n (reported running) launched) m.life.book) (beat_events n done) (λ one. refl)
    (λ q. ids_on-change q (row_beaten n (reported running) launched) (beaten_place n (reported running) launched) m.life.book)
    (λ q apart. beat_other n q done apart) (beat_own n done) node there
    (λ a. beat_keeps (node_view astray node (events_of n sched) (ids_on m.life.book n)) n done a) good

-- a message after which what has nothing left to do falls away
pub posted_tidied : (astray : ContainerId → Bool) (nodes : List NodeState) (book : List Row) (sched : List SchedEvent) (n : List ℕ) (change : NodeState → NodeState) (events : List SchedEvent) → KeepsName change
    → ((q : List ℕ) → bytes_eq n q ≡ false → events_of q events ≡ []) → events_of n events ≡ events → (node : NodeState) → judged_node nodes n ≡ Some node
    → (RegisteredInvariant (node_view astray node (events_of n sched) (ids_on book n)) → RegisteredInvariant (node_view astray (tidied_node book (change node)) (events_of n sched ++ events) (ids_on book n)))
    → NodesInvariant astray nodes book sched → NodesInvariant astray (map (tidied_node book) (with_judged_node change n nodes)) book (sched ++ events)
posted_tidied astray nodes book sched n change events named apart all node there own good =
    rw (map-map (tidied_node book) (λ one. if bytes_eq one.name n then change one else one) nodes)
    (moved astray nodes book sched n (λ one. tidied_node book (if bytes_eq one.name n then change one else one)) book (sched ++ events)
    (record {
      named = at_name n change named;
      known = λ none. let f : None ≡ Some node = sym none ∙ there in cc;
      own = λ one f is a.
          let same : one ≡ node = let g : Some one ≡ Some node = sym f ∙ there in cc in
          let b : RegisteredInvariant (node_view astray node (events_of n sched) (ids_on book n)) = rw same at a in
          rw (at_own n change one is, same, posted_own n sched events all) (own b);
      other = λ q one is other a.
          rw (at_other n q change one is other, posted_other q sched events (apart q other), ← is)
          (tidy astray one (events_of one.name sched) (ids_on book one.name) book (λ id. true) (filter-all (ids_on book one.name)) (rw is a));
      none = λ q other g. (posted_other q sched events (apart q other) ∙ g.0, g.1);
    }) good)

-- an expiry
pub expire_good : (astray : ContainerId → Bool) (m : Scene) (sched : List SchedEvent) (n : List ℕ) (node : NodeState) → judged_node m.life.nodes n ≡ Some node → NodesInvariant astray m.life.nodes m.life.book sched
    → NodesInvariant astray (tidied (record m.life { nodes = with_judged_node expired n m.life.nodes })).nodes m.life.book (sched ++ NodeLost n ∷ [])
expire_good astray m sched n node there good =
    let is : node.name ≡ n = same_text node.name n (name_of m.life.nodes n node there) in
    posted_tidied astray m.life.nodes m.life.book sched n expired (NodeLost n ∷ []) (λ one. refl) (λ q apart. one_other q (NodeLost n) apart) (one_own n (NodeLost n) (text_itself n)) node there
    (λ a. rw (idle_is m.life.book (expired node), is) (expire_keeps (node_view astray node (events_of n sched) (ids_on m.life.book n)) n a)) good

-- a later registration
again_good : (astray : ContainerId → Bool) (m : Scene) (sched : List SchedEvent) (n : List ℕ) (last : Registration) (reply : Reply) (node : NodeState) → judged_node m.life.nodes n ≡ Some node → node.last.turn < last.turn
    → NodesInvariant astray m.life.nodes m.life.book sched
    → NodesInvariant astray (tidied (record m.life { nodes = with_judged_node (node_after_registration last reply) n m.life.nodes })).nodes m.life.book (sched ++ NodeAdded n last.turn ∷ [])
again_good astray m sched n last reply node there lt good =
    let is : node.name ≡ n = same_text node.name n (name_of m.life.nodes n node there) in
    posted_tidied astray m.life.nodes m.life.book sched n (node_after_registration last reply) (NodeAdded n last.turn ∷ []) (λ one. refl) (λ q apart. one_other q (NodeAdded n last.turn) apart)
    (one_own n (NodeAdded n last.turn) (text_itself n)) node there
    (λ a. rw (idle_is m.life.book (node_after_registration last reply node), is) (register_keeps (node_view astray node (events_of n sched) (ids_on m.life.book n)) n last.turn lt a)) good

-- a first one
push_more : (nodes : List NodeState) (one node : NodeState) (q : List ℕ) (b : Bool) → bytes_eq one.name q ≡ b
    → ((found : NodeState) → judged_node nodes q ≡ Some found → judged_node (nodes ++ node ∷ []) q ≡ Some found)
    → (found : NodeState) → judged_node (one ∷ nodes) q ≡ Some found → judged_node (one ∷ (nodes ++ node ∷ [])) q ≡ Some found
push_more nodes one node q true e rest found f = rw e (rw e at f)
push_more nodes one node q false e rest found f = rw e (rest found (rw e at f))

push_found : (nodes : List NodeState) (node : NodeState) (q : List ℕ) (found : NodeState) → judged_node nodes q ≡ Some found → judged_node (nodes ++ node ∷ []) q ≡ Some found
push_found [] node q found f = cc
push_found (one ∷ nodes) node q found f = push_more nodes one node q (bytes_eq one.name q) refl (push_found nodes node q) found f

none_more : (nodes : List NodeState) (one node : NodeState) (q : List ℕ) (b : Bool) → bytes_eq one.name q ≡ b → judged_node (one ∷ nodes) q ≡ None
    → (judged_node nodes q ≡ None → judged_node (nodes ++ node ∷ []) q ≡ judged_node (node ∷ []) q) → judged_node (one ∷ (nodes ++ node ∷ [])) q ≡ judged_node (node ∷ []) q
none_more nodes one node q true e f rest = let g : Some one ≡ None = rw e at f in cc
none_more nodes one node q false e f rest = rw e (rest (rw e at f))

push_none : (nodes : List NodeState) (node : NodeState) (q : List ℕ) → judged_node nodes q ≡ None → judged_node (nodes ++ node ∷ []) q ≡ judged_node (node ∷ []) q
push_none [] node q f = refl
push_none (one ∷ nodes) node q f = none_more nodes one node q (bytes_eq one.name q) refl f (push_none nodes node q)

abbrev no_node : (ContainerId → Bool) → NodeView
no_node astray = record { turn = 0; phase = Lost; on = []; events = []; undone = []; astray = astray }

none_yet : (astray : ContainerId → Bool) → RegisteredInvariant (no_node astray)
none_yet astray = record { half = []; paired = refl; gone = refl; clear = refl; turns = refl; same = refl }

-- a node that is one more; nothing else happens
pub pushed : (astray : ContainerId → Bool) (nodes : List NodeState) (book : List Row) (sched events : List SchedEvent) (n : List ℕ) (node : NodeState) → node.name ≡ n → judged_node nodes n ≡ None
    → ((q : List ℕ) → bytes_eq n q ≡ false → events_of q events ≡ []) → events_of n events ≡ events → RegisteredInvariant (node_view astray node events []) → NodesInvariant astray nodes book sched
    → NodesInvariant astray (nodes ++ node ∷ []) book (sched ++ events)
pushed astray nodes book sched events n node is none apart all first good = λ q. good_by q (judged_node nodes q) refl (good q)
  where
    new_by : (q : List ℕ) (b : Bool) → bytes_eq n q ≡ b → (events_of q sched ≡ []) × (ids_on book q ≡ []) → NodeInvariant astray (judged_node (node ∷ []) q) (events_of q (sched ++ events)) (ids_on book q)
    new_by q true e g =
        let here : n ≡ q = same_text n q e in
        let own : bytes_eq node.name q ≡ true = rw is e in
        let same : events_of q (sched ++ events) ≡ events = subst (λ (x : List ℕ). events_of x (sched ++ events) ≡ events_of x sched ++ events) here (posted_own n sched events all) ∙ ap (λ (l : List SchedEvent). l ++ events) g.0 in
        rw (own, same, g.1) first
    new_by q false e g =
        let own : bytes_eq node.name q ≡ false = rw is e in rw own (posted_other q sched events (apart q e) ∙ g.0, g.1)

    not_new : (q : List ℕ) (found : NodeState) (b : Bool) → bytes_eq n q ≡ b → judged_node nodes q ≡ Some found → bytes_eq n q ≡ false
    not_new q found true e f = let g : judged_node nodes n ≡ Some found = rw (same_text n q e) f in let h : None ≡ Some found = sym none ∙ g in cc
    not_new q found false e f = e

    good_by : (q : List ℕ) (o : Option NodeState) → judged_node nodes q ≡ o → NodeInvariant astray o (events_of q sched) (ids_on book q) → NodeInvariant astray (judged_node (nodes ++ node ∷ []) q) (events_of q (sched ++ events)) (ids_on book q)
    good_by q None f g = rw (push_none nodes node q f) (new_by q (bytes_eq n q) refl g)
    good_by q (Some found) f a = rw (push_found nodes node q found f, posted_other q sched events (apart q (not_new q found (bytes_eq n q) refl f))) a

-- what has without_idle away has without_idle away
pub still_tidy : (astray : ContainerId → Bool) (nodes : List NodeState) (book : List Row) (sched : List SchedEvent) → NodesInvariant astray nodes book sched → NodesInvariant astray (map (tidied_node book) nodes) book sched
still_tidy astray nodes book sched good =
    all_moved astray nodes book sched (tidied_node book) book sched (λ one. refl)
    (λ q one is a. rw (← is) (tidy astray one (events_of one.name sched) (ids_on book one.name) book (λ id. true) (filter-all (ids_on book one.name)) (rw is a)))
    (λ q g. g) good

new_good : (astray : ContainerId → Bool) (m : Scene) (sched : List SchedEvent) (n : List ℕ) (last : Registration) (reply : Reply) → judged_node m.life.nodes n ≡ None → 0 < last.turn → NodesInvariant astray m.life.nodes m.life.book sched
    → NodesInvariant astray (tidied (record m.life { nodes = m.life.nodes ++ new_node n last reply ∷ [] })).nodes m.life.book (sched ++ NodeAdded n last.turn ∷ [])
new_good astray m sched n last reply none above good =
    let same : without_idle (is_idle_by Waiting last.turn []) (Registered last.turn ∷ []) ≡ Registered last.turn ∷ [] =
    let e : is_idle_by Waiting last.turn [] (Registered last.turn) ≡ false = grind (arith, nat_tests) in rw e refl in
    let first : RegisteredInvariant (node_view astray (new_node n last reply) (NodeAdded n last.turn ∷ []) []) = rw same at (register_keeps (no_node astray) n last.turn above (none_yet astray)) in
    still_tidy astray (m.life.nodes ++ new_node n last reply ∷ []) m.life.book (sched ++ NodeAdded n last.turn ∷ [])
    (pushed astray m.life.nodes m.life.book sched (NodeAdded n last.turn ∷ []) n (new_node n last reply) refl none (λ q apart. one_other q (NodeAdded n last.turn) apart) (one_own n (NodeAdded n last.turn) (text_itself n)) first good)

pub register_good : (astray : ContainerId → Bool) (m : Scene) (sched : List SchedEvent) (n : List ℕ) (last : Registration) (reply : Reply) (o : Option NodeState) → judged_node m.life.nodes n ≡ o → 0 < last.turn
    → ((node : NodeState) → judged_node m.life.nodes n ≡ Some node → node.last.turn < last.turn) → NodesInvariant astray m.life.nodes m.life.book sched
    → NodesInvariant astray (tidied (record m.life { nodes = nodes_registered m n last reply o })).nodes m.life.book (sched ++ NodeAdded n last.turn ∷ [])
register_good astray m sched n last reply None there above newer good = new_good astray m sched n last reply there above good
register_good astray m sched n last reply (Some node) there above newer good = again_good astray m sched n last reply node there (newer node there) good
