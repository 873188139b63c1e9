-- Each event of a node keeps what holds there, and the entry that it logs is the judge's.
use Rattle.rm_invariant.proofs.Common.{◌≡◌, ℕ, ◌<◌, ◌≤◌, List, [], ◌∷◌, ◌++◌, Bool, true, false, not, ◌||◌, drop, filter, refl, sym, ◌∙◌, ap, subst, arith, list_any, false≢true, nat_tests, ContainerId, is_nil, SchedEvent, Waiting, Lost, Undone, Registered, Beat, Expired, has_container, without_idle, is_waiting}
use Rattle.std.specs.Prelude.{◌==◌}
use Rattle.rm_tables.specs.declared.events.SchedEvent.TheVariants.{AppAdded, AttemptRecovered, AttemptAdded, AttemptRemoved, Release, NodeAdded, NodeDone, NodeUpdate, NodeLost}
use Rattle.rm_model.specs.State.{Phase, Ready}
use Rattle.rm_invariant.specs.nodes.Invariant.{is_idle_by, pending, UpdatesFollow, are_turns, NodeView, idle_in, RegisteredInvariant}
use Rattle.rm_invariant.proofs.nodes.Falls.{Stays, stays_all, fall_end, fall_again}

-- a registration that the node doesn't wait for is passed over
pub added_quiet : (v : NodeView) (node : List ℕ) (turn : ℕ) (more : List SchedEvent) → v.events ≡ NodeAdded node turn ∷ more
    → (not (turn == v.turn) || not (is_waiting v.phase)) ≡ true → RegisteredInvariant v → RegisteredInvariant (record v { events = more })
added_quiet v node turn more e not_it a =
    let paired : UpdatesFollow (NodeAdded node turn ∷ more) a.half = rw e at a.paired in
    let turns : are_turns v.turn (pending (NodeAdded node turn ∷ more) a.half) ≡ true = rw e at a.turns in
    let same : v.undone ≡ without_idle (idle_in v) (pending (NodeAdded node turn ∷ more) a.half) = rw e at a.same in
    record {
      half = [];
      paired = paired.1;
      gone = refl;
      clear = refl;
      turns = grind (arith, nat_tests);
      same = same ∙ rw not_it refl;
    }

-- and one that it waits for is worked off: it is at the front; whatever then stands on the node
pub added_front : (v : NodeView) (node : List ℕ) (turn : ℕ) (more : List SchedEvent) → v.events ≡ NodeAdded node turn ∷ more
    → (not (turn == v.turn) || not (is_waiting v.phase)) ≡ false → RegisteredInvariant v → v.undone ≡ Registered turn ∷ pending more []
added_front v node turn more e it a =
    let same : v.undone ≡ without_idle (idle_in v) (pending (NodeAdded node turn ∷ more) a.half) = rw e at a.same in same ∙ rw it refl

pub added_keeps : (v : NodeView) (node : List ℕ) (turn : ℕ) (more : List SchedEvent) (on : List ContainerId) → v.events ≡ NodeAdded node turn ∷ more
    → (not (turn == v.turn) || not (is_waiting v.phase)) ≡ false → RegisteredInvariant v
    → RegisteredInvariant (record v { phase = Ready; on = on; events = more; undone = without_idle (is_idle_by Ready v.turn on) v.undone })
added_keeps v node turn more on e it a =
    let paired : UpdatesFollow (NodeAdded node turn ∷ more) a.half = rw e at a.paired in
    let turns : are_turns v.turn (pending (NodeAdded node turn ∷ more) a.half) ≡ true = rw e at a.turns in
    let idle : is_idle_by Ready v.turn on (Registered turn) ≡ true = grind arith in
    record {
      half = [];
      paired = paired.1;
      gone = refl;
      clear = refl;
      turns = grind (arith, nat_tests);
      same = rw (added_front v node turn more e it a) (rw idle refl);
    }

-- a done list is at the front, as long as it isn't empty
pub done_front : (v : NodeView) (node : List ℕ) (list : List ContainerId) (more : List SchedEvent) → v.events ≡ NodeDone node list ∷ more
    → is_nil list ≡ false → RegisteredInvariant v → (rest : List Undone) × (v.undone ≡ Beat list ∷ rest)
done_front v node [] more e some a = absurd (false≢true (sym some))
done_front v node (id ∷ list) more e some a =
    let paired : UpdatesFollow (NodeDone node (id ∷ list) ∷ more) a.half = rw e at a.paired in
    let same : v.undone ≡ without_idle (idle_in v) (pending (NodeDone node (id ∷ list) ∷ more) a.half) = rw e at a.same in
    by_next more paired.1 same
  where
    by_next : (more : List SchedEvent) → UpdatesFollow more (id ∷ list) → v.undone ≡ without_idle (idle_in v) (pending more (id ∷ list))
        → (rest : List Undone) × (v.undone ≡ Beat (id ∷ list) ∷ rest)
    by_next [] p s = cc
    by_next (AppAdded one ∷ more) p s = absurd p
    by_next (AttemptRecovered one ∷ more) p s = absurd p
    by_next (AttemptAdded one ∷ more) p s = absurd p
    by_next (AttemptRemoved one ∷ more) p s = absurd p
    by_next (Release one released ∷ more) p s = absurd p
    by_next (NodeAdded one turn ∷ more) p s = let q = p.0 in cc
    by_next (NodeDone one other ∷ more) p s = let q = p.0 in cc
    by_next (NodeUpdate one ∷ more) p s = (pending more [], s)
    by_next (NodeLost one ∷ more) p s = let q = p.0 in cc

-- some of the rows leave
abbrev pub left_of : (ContainerId → Bool) → NodeView → NodeView
left_of stays v = record v { on = filter stays v.on; undone = without_idle (is_idle_by v.phase v.turn (filter stays v.on)) v.undone }

nil_filter : (stays : ContainerId → Bool) (on : List ContainerId) → is_nil on ≡ true → is_nil (filter stays on) ≡ true
nil_filter stays [] e = refl
nil_filter stays (id ∷ on) e = absurd (false≢true e)

less_idle : (phase : Phase) (turn : ℕ) (on : List ContainerId) (stays : ContainerId → Bool) (x : Undone) → is_idle_by phase turn on x ≡ true → is_idle_by phase turn (filter stays on) x ≡ true
less_idle phase turn on stays (Registered one) e = e
less_idle phase turn on stays (Beat done) e = e
less_idle phase turn on stays Expired e = nil_filter stays on e

fewer_more : (stays : ContainerId → Bool) (one : ContainerId) (on : List ContainerId) (id : ContainerId) (b : Bool) → stays one ≡ b
    → has_container (one ∷ on) id ≡ false → (has_container on id ≡ false → has_container (filter stays on) id ≡ false) → has_container (filter stays (one ∷ on)) id ≡ false
fewer_more stays one on id true e none rest = grind arith
fewer_more stays one on id false e none rest = grind arith

pub fewer : (stays : ContainerId → Bool) (on : List ContainerId) (id : ContainerId) → has_container on id ≡ false → has_container (filter stays on) id ≡ false
fewer stays [] id none = refl
fewer stays (one ∷ on) id none = fewer_more stays one on id (stays one) refl none (fewer stays on id)

none_more : (stays : ContainerId → Bool) (on : List ContainerId) (id : ContainerId) (half : List ContainerId) (b : Bool) → has_container on id ≡ b
    → list_any (has_container on) (id ∷ half) ≡ false → (list_any (has_container on) half ≡ false → list_any (has_container (filter stays on)) half ≡ false)
    → list_any (has_container (filter stays on)) (id ∷ half) ≡ false
none_more stays on id half true e none rest = absurd (false≢true (sym none ∙ rw e refl))
none_more stays on id half false e none rest =
    let more : list_any (has_container on) half ≡ false = rw e at none in rw (fewer stays on id e) (rest more)

none_fewer : (stays : ContainerId → Bool) (on half : List ContainerId) → list_any (has_container on) half ≡ false → list_any (has_container (filter stays on)) half ≡ false
none_fewer stays on [] none = refl
none_fewer stays on (id ∷ half) none = none_more stays on id half (has_container on id) refl none (none_fewer stays on half)

-- rows leave a node, for whatever cause
pub leaving_keeps : (v : NodeView) (stays : ContainerId → Bool) → RegisteredInvariant v → RegisteredInvariant (left_of stays v)
leaving_keeps v stays a =
    record {
      half = a.half;
      paired = a.paired;
      gone = none_fewer stays v.on a.half a.gone;
      clear = a.clear;
      turns = a.turns;
      same =
          rw a.same
          (fall_again (idle_in v) (is_idle_by v.phase v.turn (filter stays v.on)) (pending v.events a.half)
          (stays_all (idle_in v) (is_idle_by v.phase v.turn (filter stays v.on)) (pending v.events a.half) (less_idle v.phase v.turn v.on stays)));
    }

-- a done list is worked off: those of it that stand on the node leave
pub done_keeps : (v : NodeView) (node : List ℕ) (list : List ContainerId) (more : List SchedEvent) (stays : ContainerId → Bool) → v.events ≡ NodeDone node list ∷ more
    → list_any (has_container (filter stays v.on)) list ≡ false → list_any v.astray list ≡ false → RegisteredInvariant v → RegisteredInvariant (record (left_of stays v) { events = more })
done_keeps v node list more stays e none clear a =
    let paired : UpdatesFollow (NodeDone node list ∷ more) a.half = rw e at a.paired in
    let turns : are_turns v.turn (pending (NodeDone node list ∷ more) a.half) ≡ true = rw e at a.turns in
    let same : v.undone ≡ without_idle (idle_in v) (pending more list) = rw e at a.same in
    record {
      half = list;
      paired = paired.1;
      gone = none;
      clear = clear;
      turns = turns;
      same =
          rw same
          (fall_again (idle_in v) (is_idle_by v.phase v.turn (filter stays v.on)) (pending more list)
          (stays_all (idle_in v) (is_idle_by v.phase v.turn (filter stays v.on)) (pending more list) (less_idle v.phase v.turn v.on stays)));
    }

-- a beat is at the front, and none of its done list stands on the node or is astray
pub update_front : (v : NodeView) (node : List ℕ) (more : List SchedEvent) → v.events ≡ NodeUpdate node ∷ more → RegisteredInvariant v
    → (done : List ContainerId) × (v.undone ≡ Beat done ∷ pending more []) × (list_any (has_container v.on) done ≡ false) × (list_any v.astray done ≡ false)
update_front v node more e a =
    let same : v.undone ≡ without_idle (idle_in v) (pending (NodeUpdate node ∷ more) a.half) = rw e at a.same in (a.half, same, a.gone, a.clear)

-- a pass works it off; whatever then stands on the node
pub update_keeps : (v : NodeView) (node : List ℕ) (more : List SchedEvent) (on : List ContainerId) → v.events ≡ NodeUpdate node ∷ more → RegisteredInvariant v
    → RegisteredInvariant (record v { on = on; events = more; undone = without_idle (is_idle_by v.phase v.turn on) (drop 1 v.undone) })
update_keeps v node more on e a =
    let paired : UpdatesFollow (NodeUpdate node ∷ more) a.half = rw e at a.paired in
    let turns : are_turns v.turn (pending (NodeUpdate node ∷ more) a.half) ≡ true = rw e at a.turns in
    let front = update_front v node more e a in
    record { half = []; paired = paired; gone = refl; clear = refl; turns = turns; same = rw front.1 refl }

-- an expiry of a node on which nothing stands is passed over
pub lost_quiet : (v : NodeView) (node : List ℕ) (more : List SchedEvent) → v.events ≡ NodeLost node ∷ more → is_nil v.on ≡ true → RegisteredInvariant v
    → RegisteredInvariant (record v { events = more })
lost_quiet v node more e none a =
    let paired : UpdatesFollow (NodeLost node ∷ more) a.half = rw e at a.paired in
    let turns : are_turns v.turn (pending (NodeLost node ∷ more) a.half) ≡ true = rw e at a.turns in
    let same : v.undone ≡ without_idle (idle_in v) (pending (NodeLost node ∷ more) a.half) = rw e at a.same in
    record { half = []; paired = paired.1; gone = refl; clear = refl; turns = turns; same = same ∙ rw none refl }

-- another is at the front, and is worked off
pub lost_front : (v : NodeView) (node : List ℕ) (more : List SchedEvent) → v.events ≡ NodeLost node ∷ more → is_nil v.on ≡ false → RegisteredInvariant v
    → v.undone ≡ Expired ∷ pending more []
lost_front v node more e some a =
    let same : v.undone ≡ without_idle (idle_in v) (pending (NodeLost node ∷ more) a.half) = rw e at a.same in same ∙ rw some refl

pub lost_keeps : (v : NodeView) (node : List ℕ) (more : List SchedEvent) (on : List ContainerId) → v.events ≡ NodeLost node ∷ more → is_nil v.on ≡ false → is_nil on ≡ true → RegisteredInvariant v
    → RegisteredInvariant (record v { on = on; events = more; undone = without_idle (is_idle_by v.phase v.turn on) v.undone })
lost_keeps v node more on e some none a =
    let paired : UpdatesFollow (NodeLost node ∷ more) a.half = rw e at a.paired in
    let turns : are_turns v.turn (pending (NodeLost node ∷ more) a.half) ≡ true = rw e at a.turns in
    record { half = []; paired = paired.1; gone = refl; clear = refl; turns = turns; same = rw (lost_front v node more e some a, none) refl }

-- more events come at the end

pending_end : (xs ys : List SchedEvent) (half : List ContainerId) → UpdatesFollow xs half → pending (xs ++ ys) half ≡ pending xs half ++ pending ys []
pending_end [] ys half p = rw p refl
pending_end (AppAdded id ∷ xs) ys half p = absurd p
pending_end (AttemptRecovered id ∷ xs) ys half p = absurd p
pending_end (AttemptAdded id ∷ xs) ys half p = absurd p
pending_end (AttemptRemoved id ∷ xs) ys half p = absurd p
pending_end (Release id released ∷ xs) ys half p = absurd p
pending_end (NodeAdded node turn ∷ xs) ys half p = ap (λ (l : List Undone). Registered turn ∷ l) (pending_end xs ys [] p.1)
pending_end (NodeDone node list ∷ xs) ys half p = pending_end xs ys list p.1
pending_end (NodeUpdate node ∷ xs) ys half p = ap (λ (l : List Undone). Beat half ∷ l) (pending_end xs ys [] p)
pending_end (NodeLost node ∷ xs) ys half p = ap (λ (l : List Undone). Expired ∷ l) (pending_end xs ys [] p.1)

paired_end : (xs ys : List SchedEvent) (half : List ContainerId) → UpdatesFollow xs half → UpdatesFollow ys [] → UpdatesFollow (xs ++ ys) half
paired_end [] ys half p q = subst (λ (l : List ContainerId). UpdatesFollow ys l) (sym p) q
paired_end (AppAdded id ∷ xs) ys half p q = absurd p
paired_end (AttemptRecovered id ∷ xs) ys half p q = absurd p
paired_end (AttemptAdded id ∷ xs) ys half p q = absurd p
paired_end (AttemptRemoved id ∷ xs) ys half p q = absurd p
paired_end (Release id released ∷ xs) ys half p q = absurd p
paired_end (NodeAdded node turn ∷ xs) ys half p q = (p.0, paired_end xs ys [] p.1 q)
paired_end (NodeDone node list ∷ xs) ys half p q = (p.0, paired_end xs ys list p.1 q)
paired_end (NodeUpdate node ∷ xs) ys half p q = paired_end xs ys [] p q
paired_end (NodeLost node ∷ xs) ys half p q = (p.0, paired_end xs ys [] p.1 q)

turns_end : (turn later : ℕ) (xs ys : List Undone) → turn ≤ later → are_turns turn xs ≡ true → are_turns later ys ≡ true → are_turns later (xs ++ ys) ≡ true
turns_end turn later [] ys le p q = q
turns_end turn later (Registered one ∷ xs) ys le p q =
    let rest : are_turns turn xs ≡ true → are_turns later (xs ++ ys) ≡ true = λ h. turns_end turn later xs ys le h q in grind (arith, nat_tests)
turns_end turn later (Beat done ∷ xs) ys le p q = turns_end turn later xs ys le p q
turns_end turn later (Expired ∷ xs) ys le p q = turns_end turn later xs ys le p q

-- events are posted at the end, while the row changes so that what was idle stays idle
posted_keeps : (v : NodeView) (turn : ℕ) (phase : Phase) (ys : List SchedEvent) → v.turn ≤ turn → UpdatesFollow ys [] → are_turns turn (pending ys []) ≡ true
    → ((half : List ContainerId) → are_turns v.turn (pending v.events half) ≡ true → Stays (idle_in v) (is_idle_by phase turn v.on) (pending v.events half)) → RegisteredInvariant v
    → RegisteredInvariant (record v { turn = turn; phase = phase; events = v.events ++ ys; undone = without_idle (is_idle_by phase turn v.on) (v.undone ++ pending ys []) })
posted_keeps v turn phase ys le p t stays a =
    let end = pending_end v.events ys a.half a.paired in
    record {
      half = a.half;
      paired = paired_end v.events ys a.half a.paired p;
      gone = a.gone;
      clear = a.clear;
      turns = rw end (turns_end v.turn turn (pending v.events a.half) (pending ys []) le a.turns t);
      same = rw (a.same, end) (fall_end (idle_in v) (is_idle_by phase turn v.on) (pending v.events a.half) (pending ys []) (stays a.half a.turns));
    }

-- a node registers, with a greater turn
older : (phase : Phase) (last turn : ℕ) (on : List ContainerId) (xs : List Undone) → last < turn → are_turns last xs ≡ true → Stays (is_idle_by phase last on) (is_idle_by Waiting turn on) xs
older phase last turn on [] lt t = tt
older phase last turn on (Registered one ∷ xs) lt t =
    let now : is_idle_by Waiting turn on (Registered one) ≡ true = grind (arith, nat_tests) in
    let rest : are_turns last xs ≡ true = grind (arith, nat_tests) in
    (λ _. now, older phase last turn on xs lt rest)
older phase last turn on (Beat done ∷ xs) lt t = (λ h. h, older phase last turn on xs lt t)
older phase last turn on (Expired ∷ xs) lt t = (λ h. h, older phase last turn on xs lt t)

pub register_keeps : (v : NodeView) (node : List ℕ) (turn : ℕ) → v.turn < turn → RegisteredInvariant v
    → RegisteredInvariant (record v { turn = turn; phase = Waiting; events = v.events ++ NodeAdded node turn ∷ []; undone = without_idle (is_idle_by Waiting turn v.on) (v.undone ++ Registered turn ∷ []) })
register_keeps v node turn lt a =
    posted_keeps v turn Waiting (NodeAdded node turn ∷ []) (omega arith) (refl, refl) (grind (arith, nat_tests))
    (λ half t. older v.phase v.turn turn v.on (pending v.events half) lt t) a

-- a node beats
abbrev pub beat_events : List ℕ → List ContainerId → List SchedEvent
beat_events node [] = NodeUpdate node ∷ []
beat_events node (id ∷ done) = NodeDone node (id ∷ done) ∷ NodeUpdate node ∷ []

beat_last : (idle : Undone → Bool) (xs : List Undone) (done : List ContainerId) → idle (Beat done) ≡ false → without_idle idle (xs ++ Beat done ∷ []) ≡ without_idle idle xs ++ Beat done ∷ []
beat_last idle [] done e = rw e refl
beat_last idle (x ∷ xs) done e = by_test (idle x) refl (beat_last idle xs done e)
  where
    by_test : (b : Bool) → idle x ≡ b → without_idle idle (xs ++ Beat done ∷ []) ≡ without_idle idle xs ++ Beat done ∷ [] → without_idle idle ((x ∷ xs) ++ Beat done ∷ []) ≡ without_idle idle (x ∷ xs) ++ Beat done ∷ []
    by_test true f rest = rw f rest
    by_test false f rest = rw f refl

beat_more : (v : NodeView) (done : List ContainerId) (ys : List SchedEvent) → pending ys [] ≡ Beat done ∷ [] → UpdatesFollow ys [] → RegisteredInvariant v
    → RegisteredInvariant (record v { events = v.events ++ ys; undone = v.undone ++ Beat done ∷ [] })
beat_more v done ys is p a =
    let end = pending_end v.events ys a.half a.paired in
    let turns : are_turns v.turn (pending ys []) ≡ true = rw is refl in
    record {
      half = a.half;
      paired = paired_end v.events ys a.half a.paired p;
      gone = a.gone;
      clear = a.clear;
      turns = rw end (turns_end v.turn v.turn (pending v.events a.half) (pending ys []) (omega arith) a.turns turns);
      same = rw (end, is, a.same) (sym (beat_last (idle_in v) (pending v.events a.half) done refl));
    }

pub beat_keeps : (v : NodeView) (node : List ℕ) (done : List ContainerId) → RegisteredInvariant v
    → RegisteredInvariant (record v { events = v.events ++ beat_events node done; undone = v.undone ++ Beat done ∷ [] })
beat_keeps v node [] a = beat_more v [] (NodeUpdate node ∷ []) refl refl a
beat_keeps v node (id ∷ done) a = beat_more v (id ∷ done) (NodeDone node (id ∷ done) ∷ NodeUpdate node ∷ []) refl (refl, refl) a

-- a node's lease runs out
lost_idle : (phase : Phase) (turn : ℕ) (on : List ContainerId) (x : Undone) → is_idle_by phase turn on x ≡ true → is_idle_by Lost turn on x ≡ true
lost_idle phase turn on (Registered one) e = grind arith
lost_idle phase turn on (Beat done) e = e
lost_idle phase turn on Expired e = e

pub expire_keeps : (v : NodeView) (node : List ℕ) → RegisteredInvariant v
    → RegisteredInvariant (record v { phase = Lost; events = v.events ++ NodeLost node ∷ []; undone = without_idle (is_idle_by Lost v.turn v.on) (v.undone ++ Expired ∷ []) })
expire_keeps v node a =
    posted_keeps v v.turn Lost (NodeLost node ∷ []) (omega arith) (refl, refl) refl
    (λ half t. stays_all (idle_in v) (is_idle_by Lost v.turn v.on) (pending v.events half) (lost_idle v.phase v.turn v.on)) a
