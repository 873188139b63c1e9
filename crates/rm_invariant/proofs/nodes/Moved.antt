-- Nodes by name, and what an entry must show so that what holds at each node is kept.
use Rattle.rm_invariant.proofs.Common.{◌≡◌, ℕ, List, [], ◌∷◌, Bool, true, false, not, Option, None, Some, filter, map, refl, sym, ◌∙◌, subst, Contains, list_any, bytes_eq, ContainerId, is_nil, same_text, Row, Undone, Registered, Beat, Expired, ids_on, judged_node, tidied_node, SchedEvent, false≢true, ◌||◌}
use Rattle.std.specs.Prelude.{option_map}
use Rattle.std.proofs.lemmas.List.Elements.{Contains-append_left, Contains-append_right, Contains-push}
use Rattle.rm_model.specs.State.{NodeState}
use Rattle.rm_model.specs.Nodes.{is_idle}
use Rattle.rm_invariant.specs.nodes.Invariant.{is_idle_by, RegisteredInvariant, events_of, node_view, NodeInvariant, NodesInvariant}
use Rattle.rm_invariant.proofs.nodes.Views.{leaving_keeps}
use Rattle.std.proofs.lemmas.Bool.{or_parts}

abbrev pub KeepsName : (NodeState → NodeState) → Type 0
KeepsName change = (node : NodeState) → (change node).name ≡ node.name

-- a node that is found after all have changed
found_more : (change : NodeState → NodeState) → KeepsName change → (node : NodeState) (nodes : List NodeState) (q : List ℕ) (b : Bool) → bytes_eq node.name q ≡ b
    → judged_node (map change nodes) q ≡ option_map change (judged_node nodes q) → judged_node (map change (node ∷ nodes)) q ≡ option_map change (judged_node (node ∷ nodes) q)
found_more change k node nodes q true e rest =
    let c : bytes_eq (change node).name q ≡ true = rw (k node) e in rw (c, e) refl
found_more change k node nodes q false e rest =
    let c : bytes_eq (change node).name q ≡ false = rw (k node) e in rw (c, e) rest

pub node_of-map : (change : NodeState → NodeState) → KeepsName change → (nodes : List NodeState) (q : List ℕ) → judged_node (map change nodes) q ≡ option_map change (judged_node nodes q)
node_of-map change k [] q = refl
node_of-map change k (node ∷ nodes) q = found_more change k node nodes q (bytes_eq node.name q) refl (node_of-map change k nodes q)

name_more : (node : NodeState) (nodes : List NodeState) (q : List ℕ) (found : NodeState) (b : Bool) → bytes_eq node.name q ≡ b → judged_node (node ∷ nodes) q ≡ Some found
    → (judged_node nodes q ≡ Some found → bytes_eq found.name q ≡ true) → bytes_eq found.name q ≡ true
name_more node nodes q found true e f rest =
    let g : Some node ≡ Some found = rw e at f in
    let same : node ≡ found = cc in rw (← same) e
name_more node nodes q found false e f rest = rest (rw e at f)

pub name_of : (nodes : List NodeState) (q : List ℕ) (found : NodeState) → judged_node nodes q ≡ Some found → bytes_eq found.name q ≡ true
name_of [] q found f = cc
name_of (node ∷ nodes) q found f = name_more node nodes q found (bytes_eq node.name q) refl f (λ g. name_of nodes q found g)

-- it is among them
pub Contains-first : {X : Type 0} (x : X) (xs : List X) → Contains (x ∷ xs) x
Contains-first x xs = Contains-append_left (x ∷ []) xs x (Contains-push [] x)

pub Contains-more : {X : Type 0} (x y : X) (xs : List X) → Contains xs x → Contains (y ∷ xs) x
Contains-more x y xs h = Contains-append_right (y ∷ []) xs x h

among_more : (one : NodeState) (nodes : List NodeState) (n : List ℕ) (node : NodeState) (b : Bool) → bytes_eq one.name n ≡ b → judged_node (one ∷ nodes) n ≡ Some node
    → (judged_node nodes n ≡ Some node → Contains nodes node) → Contains (one ∷ nodes) node
among_more one nodes n node true e there rest =
    let i : Some one ≡ Some node = rw e at there in
    let same : one ≡ node = cc in
    subst (λ (x : NodeState). Contains (one ∷ nodes) x) same (Contains-first one nodes)
among_more one nodes n node false e there rest = Contains-more node one nodes (rest (rw e at there))

pub found_among : (nodes : List NodeState) (n : List ℕ) (node : NodeState) → judged_node nodes n ≡ Some node → Contains nodes node
found_among [] n node there = cc
found_among (one ∷ nodes) n node there = among_more one nodes n node (bytes_eq one.name n) refl there (λ g. found_among nodes n node g)

map_more : (f : NodeState → List ContainerId) (one : NodeState) (nodes : List NodeState) (n : List ℕ) (node : NodeState) (b : Bool) → bytes_eq one.name n ≡ b → judged_node (one ∷ nodes) n ≡ Some node
    → (judged_node nodes n ≡ Some node → Contains (map f nodes) (f node)) → Contains (map f (one ∷ nodes)) (f node)
map_more f one nodes n node true e there rest =
    let i : Some one ≡ Some node = rw e at there in
    let same : one ≡ node = cc in
    subst (λ (x : NodeState). Contains (map f (one ∷ nodes)) (f x)) same (Contains-first (f one) (map f nodes))
map_more f one nodes n node false e there rest = Contains-more (f node) (f one) (map f nodes) (rest (rw e at there))

pub mapped_among : (f : NodeState → List ContainerId) (nodes : List NodeState) (n : List ℕ) (node : NodeState) → judged_node nodes n ≡ Some node → Contains (map f nodes) (f node)
mapped_among f [] n node there = cc
mapped_among f (one ∷ nodes) n node there = map_more f one nodes n node (bytes_eq one.name n) refl there (λ g. mapped_among f nodes n node g)

-- what has nothing left to do, told from the parts
on_nil : (row : Row) (book : List Row) (name : List ℕ) (b : Bool) → bytes_eq row.node name ≡ b
    → not (list_any (λ one. bytes_eq one.node name) book) ≡ is_nil (ids_on book name) → not (list_any (λ one. bytes_eq one.node name) (row ∷ book)) ≡ is_nil (ids_on (row ∷ book) name)
on_nil row book name true e rest = rw e refl
on_nil row book name false e rest = rw e rest

none_on : (book : List Row) (name : List ℕ) → not (list_any (λ row. bytes_eq row.node name) book) ≡ is_nil (ids_on book name)
none_on [] name = refl
none_on (row ∷ book) name = on_nil row book name (bytes_eq row.node name) refl (none_on book name)

idle_at : (book : List Row) (node : NodeState) (x : Undone) → is_idle book node x ≡ is_idle_by node.phase node.last.turn (ids_on book node.name) x
idle_at book node (Registered turn) = refl
idle_at book node (Beat done) = refl
idle_at book node Expired = none_on book node.name

pub idle_is : (book : List Row) (node : NodeState) → is_idle book node ≡ is_idle_by node.phase node.last.turn (ids_on book node.name)
idle_is book node = λ i x. idle_at book node x i

-- a node at which nothing happens while rows leave it
pub tidy : (astray : ContainerId → Bool) (node : NodeState) (events : List SchedEvent) (on : List ContainerId) (book : List Row) (stays : ContainerId → Bool) → ids_on book node.name ≡ filter stays on
    → RegisteredInvariant (node_view astray node events on) → RegisteredInvariant (node_view astray (tidied_node book node) events (ids_on book node.name))
tidy astray node events on book stays e a = rw (idle_is book node, e) (leaving_keeps (node_view astray node events on) stays a)

-- what holds at each node holds where less is astray
pub fewer_astray : (p q : ContainerId → Bool) → ((id : ContainerId) → q id ≡ true → p id ≡ true) → (nodes : List NodeState) (book : List Row) (sched : List SchedEvent) → NodesInvariant p nodes book sched → NodesInvariant q nodes book sched
fewer_astray p q fewer nodes book sched good = λ name. by name (judged_node nodes name) (good name)
  where
    none : (ids : List ContainerId) → list_any p ids ≡ false → list_any q ids ≡ false
    none [] h = refl
    none (id ∷ ids) h = test (q id) refl (or_parts (p id) (list_any p ids) h) (none ids)
      where
        test : (b : Bool) → q id ≡ b → (p id ≡ false) × (list_any p ids ≡ false) → (list_any p ids ≡ false → list_any q ids ≡ false) → (b || list_any q ids) ≡ false
        test true e parts more = absurd (false≢true (sym parts.0 ∙ fewer id e))
        test false e parts more = more parts.1

    by : (name : List ℕ) (o : Option NodeState) → NodeInvariant p o (events_of name sched) (ids_on book name) → NodeInvariant q o (events_of name sched) (ids_on book name)
    by name None a = a
    by name (Some node) a = record { half = a.half; paired = a.paired; gone = a.gone; clear = none a.half a.clear; turns = a.turns; same = a.same }

-- what an entry must show: of its own node, what holds there after it; of each other, that it holds there too; of a name that
-- no node has, that nothing comes to be there
pub record Moves (astray : ContainerId → Bool) (nodes : List NodeState) (book : List Row) (sched : List SchedEvent) (n : List ℕ) (change : NodeState → NodeState) (book_after : List Row) (sched_after : List SchedEvent) : Type 0 where
  pub named : KeepsName change
  pub known : judged_node nodes n ≡ None → ⊥
  pub own : (node : NodeState) → judged_node nodes n ≡ Some node → node.name ≡ n → RegisteredInvariant (node_view astray node (events_of n sched) (ids_on book n))
      → RegisteredInvariant (node_view astray (change node) (events_of n sched_after) (ids_on book_after n))
  pub other : (q : List ℕ) (node : NodeState) → node.name ≡ q → bytes_eq n q ≡ false → RegisteredInvariant (node_view astray node (events_of q sched) (ids_on book q))
      → RegisteredInvariant (node_view astray (change node) (events_of q sched_after) (ids_on book_after q))
  pub none : (q : List ℕ) → bytes_eq n q ≡ false → (events_of q sched ≡ []) × (ids_on book q ≡ []) → (events_of q sched_after ≡ []) × (ids_on book_after q ≡ [])

pub moved : (astray : ContainerId → Bool) (nodes : List NodeState) (book : List Row) (sched : List SchedEvent) (n : List ℕ) (change : NodeState → NodeState) (book_after : List Row) (sched_after : List SchedEvent)
    → Moves astray nodes book sched n change book_after sched_after → NodesInvariant astray nodes book sched → NodesInvariant astray (map change nodes) book_after sched_after
moved astray nodes book sched n change book_after sched_after m good = λ q. rw (node_of-map change m.named nodes q) (good_by q (judged_node nodes q) refl (good q))
  where
    some_by : (q : List ℕ) (node : NodeState) (b : Bool) → bytes_eq n q ≡ b → judged_node nodes q ≡ Some node → node.name ≡ q → RegisteredInvariant (node_view astray node (events_of q sched) (ids_on book q))
        → RegisteredInvariant (node_view astray (change node) (events_of q sched_after) (ids_on book_after q))
    some_by q node true e f is a =
        let here : n ≡ q = same_text n q e in
        subst (λ (x : List ℕ). RegisteredInvariant (node_view astray (change node) (events_of x sched_after) (ids_on book_after x))) here
        (m.own node (rw here f) (is ∙ sym here) (subst (λ (x : List ℕ). RegisteredInvariant (node_view astray node (events_of x sched) (ids_on book x))) (sym here) a))
    some_by q node false e f is a = m.other q node is e a

    none_by : (q : List ℕ) (b : Bool) → bytes_eq n q ≡ b → judged_node nodes q ≡ None → (events_of q sched ≡ []) × (ids_on book q ≡ [])
        → (events_of q sched_after ≡ []) × (ids_on book_after q ≡ [])
    none_by q true e f g = absurd (m.known (rw (same_text n q e) f))
    none_by q false e f g = m.none q e g

    good_by : (q : List ℕ) (o : Option NodeState) → judged_node nodes q ≡ o → NodeInvariant astray o (events_of q sched) (ids_on book q) → NodeInvariant astray (option_map change o) (events_of q sched_after) (ids_on book_after q)
    good_by q None f g = none_by q (bytes_eq n q) refl f g
    good_by q (Some node) f a = some_by q node (bytes_eq n q) refl f (same_text node.name q (name_of nodes q node f)) a

-- the same where the entry is of no node
pub all_moved : (astray : ContainerId → Bool) (nodes : List NodeState) (book : List Row) (sched : List SchedEvent) (change : NodeState → NodeState) (book_after : List Row) (sched_after : List SchedEvent) → KeepsName change
    → ((q : List ℕ) (node : NodeState) → node.name ≡ q → RegisteredInvariant (node_view astray node (events_of q sched) (ids_on book q)) → RegisteredInvariant (node_view astray (change node) (events_of q sched_after) (ids_on book_after q)))
    → ((q : List ℕ) → (events_of q sched ≡ []) × (ids_on book q ≡ []) → (events_of q sched_after ≡ []) × (ids_on book_after q ≡ []))
    → NodesInvariant astray nodes book sched → NodesInvariant astray (map change nodes) book_after sched_after
all_moved astray nodes book sched change book_after sched_after named other none good = λ q. rw (node_of-map change named nodes q) (good_by q (judged_node nodes q) refl (good q))
  where
    good_by : (q : List ℕ) (o : Option NodeState) → judged_node nodes q ≡ o → NodeInvariant astray o (events_of q sched) (ids_on book q) → NodeInvariant astray (option_map change o) (events_of q sched_after) (ids_on book_after q)
    good_by q None f g = none q g
    good_by q (Some node) f a = other q node (same_text node.name q (name_of nodes q node f)) a
