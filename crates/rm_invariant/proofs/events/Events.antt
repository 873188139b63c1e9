-- The scheduler's events by which containers leave, each as a whole step that keeps all that holds of an open life: AttemptRemoved, Release,
-- NodeDone and NodeLost; and AttemptRecovered, which has nothing to do.
use Rattle.rm_invariant.proofs.Common.{◌≡◌, inl, inr, ℕ, List, [], ◌∷◌, Bool, true, false, not, ◌&&◌, filter, map, refl, sym, ◌∙◌, ap, subst, list_any, filter_agree, IsPermutation-sym, Ended, AttemptId, ContainerId, Settings, is_nil, Ascend, is_masters, is_living, ids_on, lives_on, once, has_container, Allowed, judged_node, SchedEvent, Tables, sched_worked, ended_by, EndsByEvent, is_on, is_released, sched_step, History, abstract_scene, live_state, Contains, is_attempt, container_itself, text_itself, ◌||◌, abstract_life}
use Rattle.std.proofs.Common.{◌≢◌}
use Rattle.rm_types.specs.declared.containers.Cause.TheVariants as causes
use Rattle.rm_book.specs.Books.{book_row as book_row_of}
use Rattle.rm_model.specs.Containers.{is_astray, is_at_disposal, released_by as released_told, stale_of}
use Rattle.rm_tables.specs.Missing.{is_astray_in}
use Rattle.rm_tables.specs.SchedEvents.{ends_as_done}
use Rattle.rm_invariant.specs.nodes.Book.{IsGranted}
use Rattle.rm_model.specs.Ending.{MayEnd}
use Rattle.rm_tables.specs.declared.events.SchedEvent.TheVariants as scheds
use Rattle.rm_invariant.proofs.apps.Keeping.{in_scene}
use Rattle.rm_invariant.specs.nodes.Invariant.{NodesInvariant, RegisteredInvariant, NodeInvariant, NodeView, UpdatesFollow, are_turns, events_of, pending, node_view}
use Rattle.rm_invariant.proofs.nodes.Ascending.{permuted_has}
use Rattle.rm_invariant.proofs.nodes.Entries.{done_good, done_lawful, done_list, is_done_on, ended_good, known_node, lost_good, lost_lawful, lost_quiet_good, quiet_good, none_done_left, stays_without}
use Rattle.rm_invariant.proofs.nodes.Lists.{lives_is, none_but_listed}
use Rattle.rm_invariant.proofs.masters.AppEvents.{recovered_joins}
use Rattle.rm_invariant.proofs.masters.LeavingEvents.{lives_there, node_done_joins, node_lost_joins, of_once, of_passing, released_joins, same_ids_on, same_living}
use Rattle.rm_invariant.proofs.masters.OverAttempts.{goes_told, picked_live, removed_joins, same_stale}
use Rattle.rm_model.specs.State.{Release}
use Rattle.rm_invariant.proofs.masters.Masters.{masters_same}
use Rattle.rm_invariant.proofs.nodes.Moved.{Contains-first, Contains-more, fewer_astray}
use Rattle.rm_invariant.specs.events.Here.{AreServed, IsServedRelease, astray_at}
use Rattle.rm_invariant.specs.Core.{CoreInvariant, PreservesCore}
use Rattle.rm_invariant.proofs.events.Knowing.{on_node, rows_apart}
use Rattle.rm_invariant.proofs.events.Leaving.{at_event, ended_whole, idle_whole, left_life, living_is_granted, former_granted}
use Rattle.rm_invariant.proofs.nodes.Astray.{astray_without}
use Rattle.std.proofs.lemmas.Bool.{or_parts, or_left, and_parts}

-- a list of which each once is none has none
none_once : (ids : List ContainerId) → once ids ≡ [] → ids ≡ []
none_once [] none = refl
none_once (id ∷ ids) none = cc

none_passes : (p : ContainerId → Bool) (ids : List ContainerId) → filter p ids ≡ [] → list_any p ids ≡ false
none_passes p [] none = refl
none_passes p (id ∷ ids) none = by (p id) refl (none_passes p ids)
  where
    by : (b : Bool) → p id ≡ b → (filter p ids ≡ [] → list_any p ids ≡ false) → list_any p (id ∷ ids) ≡ false
    by true e rest = absurd (let x = rw e at none in cc)
    by false e rest = rw e (rest (rw e at none))

any_agree : (p q : ContainerId → Bool) → ((id : ContainerId) → p id ≡ q id) → (ids : List ContainerId) → list_any p ids ≡ list_any q ids
any_agree p q same [] = refl
any_agree p q same (id ∷ ids) = rw (same id, any_agree p q same ids) refl

-- what passes neither of two tests doesn't pass the first
none_of_either : (p q : ContainerId → Bool) (ids : List ContainerId) → list_any (λ id. p id || q id) ids ≡ false → list_any p ids ≡ false
none_of_either p q [] none = refl
none_of_either p q (id ∷ ids) none = by (p id) refl (none_of_either p q ids)
  where
    by : (b : Bool) → p id ≡ b → (list_any (λ one. p one || q one) ids ≡ false → list_any p ids ≡ false) → list_any p (id ∷ ids) ≡ false
    by true e rest = absurd (let x = rw e at none in cc)
    by false e rest = rw e (rest (or_parts (p id || q id) (list_any (λ one. p one || q one) ids) none).1)

-- what passes neither of two tests doesn't pass the second
none_of_both : (p q : ContainerId → Bool) (ids : List ContainerId) → list_any (λ id. p id || q id) ids ≡ false → list_any q ids ≡ false
none_of_both p q [] none = refl
none_of_both p q (id ∷ ids) none = by (p id) refl (q id) refl (none_of_both p q ids)
  where
    by : (b : Bool) → p id ≡ b → (c : Bool) → q id ≡ c → (list_any (λ one. p one || q one) ids ≡ false → list_any q ids ≡ false) → list_any q (id ∷ ids) ≡ false
    by b e true f rest = absurd (let x = rw f at none in by_or b (let y = rw e at x in y))
      where
        by_or : (a : Bool) → ((a || true) || list_any (λ one. p one || q one) ids) ≡ false → ⊥
        by_or true x = cc
        by_or false x = cc
    by true e false f rest = absurd (let x = rw e at none in cc)
    by false e false f rest = rw f (rest (rw (e, f) at none))

-- a done list of which nothing stands on its node has nothing to do
done_quiet : (v : NodeView) (node : List ℕ) (list : List ContainerId) (more : List SchedEvent) → v.events ≡ scheds.NodeDone node list ∷ more → list_any (has_container v.on) list ≡ false → list_any v.astray list ≡ false
    → RegisteredInvariant v → RegisteredInvariant (record v { events = more })
done_quiet v node list more e none clear a =
    let paired : UpdatesFollow (scheds.NodeDone node list ∷ more) a.half = rw e at a.paired in
    let turns : are_turns v.turn (pending (scheds.NodeDone node list ∷ more) a.half) ≡ true = rw e at a.turns in
    let same = rw e at a.same in
    record { half = list; paired = paired.1; gone = none; clear = clear; turns = turns; same = same }

module _ (settings : Settings) (h : History) (t : Tables) (w : CoreInvariant settings h t) where
  -- an event of no node leaves the nodes as they are
  pub still_good : (e : SchedEvent) (rest : List SchedEvent) → t.sched ≡ e ∷ rest → ((q : List ℕ) → events_of q (e ∷ rest) ≡ events_of q rest) → NodesInvariant (astray_at settings h t) h.nodes h.book rest
  still_good e rest front none = λ q. subst (λ (events : List SchedEvent). NodeInvariant (astray_at settings h t) (judged_node h.nodes q) events (ids_on h.book q)) (ap (events_of q) front ∙ none q) (w.nodes q)

  -- and where containers go, less is astray
  fewer_now : (list : List ContainerId) → NodesInvariant (astray_without settings h t list) h.nodes h.book t.sched
  fewer_now list = fewer_astray (astray_at settings h t) (astray_without settings h t list) (λ c x. (and_parts (astray_at settings h t c) (not (has_container list c)) x).0) h.nodes h.book t.sched w.nodes

  -- AttemptRemoved
  pub removed_whole : (id : AttemptId) (rest : List SchedEvent) → t.sched ≡ scheds.AttemptRemoved id ∷ rest → (list : List ContainerId) → EndsByEvent (scheds.AttemptRemoved id) t list
      → PreservesCore settings h t (sched_worked (sched_step (scheds.AttemptRemoved id) list t))
  removed_whole id rest front list ends =
      let told : Ascend (stale_of (abstract_scene h t) id.app) list = subst (λ (ids : List ContainerId). Ascend ids list) (same_stale (abstract_scene h t) id.app t.book w.agrees.rows) ends in
      ended_whole settings h t w (scheds.AttemptRemoved id) rest front causes.Attempt list (removed_joins settings h t w.keeps w.marks w.sound w.agrees.rows id rest front list ends)
      (λ c among. living_is_granted (abstract_life h t) w.book c (picked_live (goes_told (abstract_scene h t) id.app) h.book c (permuted_has list (stale_of (abstract_scene h t) id.app) c (IsPermutation-sym (stale_of (abstract_scene h t) id.app) list told.same) among)))
      (λ none. still_good (scheds.AttemptRemoved id) rest front (λ q. refl))
      (λ some. ended_good (astray_without settings h t list) (at_event settings h t w (scheds.AttemptRemoved id) rest front) causes.Attempt list t.sched rest (λ q. sym (ap (events_of q) front)) (fewer_now list))

  -- AttemptRecovered
  pub recovered_whole : (id : AttemptId) (rest : List SchedEvent) → t.sched ≡ scheds.AttemptRecovered id ∷ rest → (list : List ContainerId) → PreservesCore settings h t (sched_worked (sched_step (scheds.AttemptRecovered id) list t))
  recovered_whole id rest front list =
      idle_whole settings h t w (scheds.AttemptRecovered id) rest front t.main (recovered_joins settings h t w.keeps w.marks w.sound id rest front list) (still_good (scheds.AttemptRecovered id) rest front (λ q. refl))

  -- Release
  module _ (attempt : AttemptId) (released : List ContainerId) (rest : List SchedEvent) (front : t.sched ≡ scheds.Release attempt released ∷ rest) (served : AreServed h.endings.releases t.sched) where
    abbrev one_release : Release
    one_release = record { attempt = attempt; list = released }

    abbrev given_back : List ContainerId
    given_back = once (filter (is_released attempt t) released)

    -- the tables and the judge end the same
    tests_same : (id : ContainerId) → is_released attempt t id ≡ (is_living h.book id && (is_at_disposal (abstract_scene h t) attempt id && not (is_masters (abstract_scene h t) id)))
    tests_same id = let lives = same_living id t.book.rows h.book w.agrees.rows in let masters = masters_same (abstract_scene h t) id in rw (lives, masters) refl

    same_release : released_told (abstract_scene h t) one_release ≡ given_back
    same_release = ap once (sym (filter_agree (is_released attempt t) (λ id. is_living h.book id && (is_at_disposal (abstract_scene h t) attempt id && not (is_masters (abstract_scene h t) id))) tests_same released))

    told_served : (releases : List Release) → IsServedRelease one_release releases → Contains (map (released_told (abstract_scene h t)) releases) (released_told (abstract_scene h t) one_release)
    told_served [] none = absurd none
    told_served (one ∷ more) (inl same) =
        subst (λ (x : Release). Contains (map (released_told (abstract_scene h t)) (one ∷ more)) (released_told (abstract_scene h t) x)) same (Contains-first (released_told (abstract_scene h t) one) (map (released_told (abstract_scene h t)) more))
    told_served (one ∷ more) (inr later) = Contains-more (released_told (abstract_scene h t) one_release) (released_told (abstract_scene h t) one) (map (released_told (abstract_scene h t)) more) (told_served more later)

    is_served : IsServedRelease one_release h.endings.releases
    is_served = (subst (λ (sched : List SchedEvent). AreServed h.endings.releases sched) front served).0

    released_allowed : (list : List ContainerId) → given_back ≡ list → Allowed settings (live_state h t) (ended_by causes.Released list t).0
    released_allowed [] e = inr refl
    released_allowed (id ∷ ids) e =
        in_scene settings h t w.keeps (Ended causes.Released (id ∷ ids))
        (record { some = λ none. cc; ends = subst (λ (list : List ContainerId). Contains (map (released_told (abstract_scene h t)) h.endings.releases) list) (same_release ∙ e) (told_served h.endings.releases is_served) })

    pub released_whole : (list : List ContainerId) → PreservesCore settings h t (sched_worked (sched_step (scheds.Release attempt released) list t))
    released_whole list =
        ended_whole settings h t w (scheds.Release attempt released) rest front causes.Released given_back
        (released_joins settings h t w.keeps w.marks w.sound w.agrees.rows attempt released rest front list (released_allowed given_back refl))
        (λ c among.
        let passes = (of_passing (is_released attempt t) released c (of_once given_back_all c among)).1 in
        living_is_granted (abstract_life h t) w.book c (sym (same_living c t.book.rows h.book w.agrees.rows) ∙ and_left _ _ passes))
        (λ none. still_good (scheds.Release attempt released) rest front (λ q. refl))
        (λ some. ended_good (astray_without settings h t given_back) (at_event settings h t w (scheds.Release attempt released) rest front) causes.Released given_back t.sched rest (λ q. sym (ap (events_of q) front)) (fewer_now given_back))
      where
        given_back_all : List ContainerId
        given_back_all = filter (is_released attempt t) released

        and_left : (a b : Bool) → (a && b) ≡ true → a ≡ true
        and_left true b e = refl
        and_left false b e = e

  -- NodeDone
  module _ (name : List ℕ) (done : List ContainerId) (rest : List SchedEvent) (front : t.sched ≡ scheds.NodeDone name done ∷ rest) (astray : (id : ContainerId) → is_astray_in t id ≡ is_astray settings (abstract_scene h t) id) where
    stands : (id : ContainerId) → is_on name (book_row_of t.book id) ≡ lives_on h.book name id
    stands id = sym (on_node t.book.rows h.book name id w.agrees.rows (rows_apart t.book.rows h.book w.agrees.rows w.book.apart))

    abbrev reported : List ContainerId
    reported = once (filter (ends_as_done name t) done)

    goes : (id : ContainerId) → ends_as_done name t id ≡ is_done_on settings (abstract_scene h t) name id
    goes id = rw (astray id, stands id) refl

    listed : done_list settings (abstract_scene h t) name done ≡ reported
    listed = ap once (sym (filter_agree (ends_as_done name t) (is_done_on settings (abstract_scene h t) name) goes done))

    some_done : (ids : List ContainerId) → done ≡ ids → reported ≢ [] → is_nil done ≡ false
    some_done [] e some = absurd (some (let x = e in rw x refl))
    some_done (id ∷ ids) e some = rw e refl

    done_allowed : (list : List ContainerId) → reported ≡ list → Allowed settings (live_state h t) (ended_by causes.Done list t).0
    done_allowed [] e = inr refl
    done_allowed (id ∷ ids) e =
        let some : reported ≢ [] = λ none. (let x = sym e ∙ none in cc) in
        let may = done_lawful (astray_at settings h t) settings (abstract_scene h t) t.sched name done rest front (some_done done refl some) (λ none. some (sym listed ∙ none)) w.nodes in
        in_scene settings h t w.keeps (Ended causes.Done (id ∷ ids)) (subst (λ (list : List ContainerId). MayEnd settings (abstract_scene h t) causes.Done list) (listed ∙ e) may)

    none_there : reported ≡ [] → NodesInvariant (astray_at settings h t) h.nodes h.book rest
    none_there none =
        let k = known_node (astray_at settings h t) h.nodes h.book t.sched name (scheds.NodeDone name done) rest front (text_itself name) w.nodes in
        let off : list_any (lives_on h.book name) done ≡ false = none_of_both (is_astray settings (abstract_scene h t)) (lives_on h.book name) done (none_passes (is_done_on settings (abstract_scene h t) name) done (none_once _ (listed ∙ none))) in
        let gone : list_any (has_container (ids_on h.book name)) done ≡ false = subst (λ (b : Bool). b ≡ false) (any_agree (lives_on h.book name) (has_container (ids_on h.book name)) (lives_is h.book name) done) off in
        let clear : list_any (astray_at settings h t) done ≡ false = none_of_either (is_astray settings (abstract_scene h t)) (lives_on h.book name) done (none_passes (is_done_on settings (abstract_scene h t) name) done (none_once _ (listed ∙ none))) in
        quiet_good (astray_at settings h t) h.nodes h.book t.sched name (scheds.NodeDone name done) rest front (λ q apart. apart) (text_itself name) k.0 k.1
        (done_quiet (node_view (astray_at settings h t) k.0 (scheds.NodeDone name done ∷ events_of name rest) (ids_on h.book name)) name done (events_of name rest) refl gone clear) w.nodes

    pub done_whole : (list : List ContainerId) → PreservesCore settings h t (sched_worked (sched_step (scheds.NodeDone name done) list t))
    done_whole list =
        ended_whole settings h t w (scheds.NodeDone name done) rest front causes.Done reported
        (node_done_joins settings h t w.keeps w.marks w.sound w.agrees.rows name done rest front list (done_allowed reported refl))
        (λ c among.
        let passes : is_done_on settings (abstract_scene h t) name c ≡ true = sym (goes c) ∙ (of_passing (ends_as_done name t) done c (of_once _ c among)).1 in
        of_either c (is_astray settings (abstract_scene h t) c) refl passes)
        none_there
        (λ some. done_good (astray_without settings h t reported) (at_event settings h t w (scheds.NodeDone name done) rest front) reported t.sched name done rest front none_stays none_strays_now (fewer_now reported))
      where
        none_stays : list_any (has_container (filter (stays_without reported) (ids_on h.book name))) done ≡ false
        none_stays = subst (λ (ended : List ContainerId). list_any (has_container (filter (stays_without ended) (ids_on h.book name))) done ≡ false) listed (none_done_left settings (abstract_scene h t) name done)

        none_strays_now : list_any (astray_without settings h t reported) done ≡ false
        none_strays_now =
            subst (λ (ended : List ContainerId). list_any (λ id. astray_at settings h t id && not (has_container ended id)) done ≡ false) listed
            (none_but_listed (astray_at settings h t) (is_done_on settings (abstract_scene h t) name) (λ id x. or_left (astray_at settings h t id) (lives_on h.book name id) x) done)

        of_either : (c : ContainerId) (b : Bool) → is_astray settings (abstract_scene h t) c ≡ b → (b || lives_on h.book name c) ≡ true → IsGranted (abstract_life h t) c
        of_either c true e passes = former_granted settings (abstract_scene h t) c e
        of_either c false e passes = living_is_granted (abstract_life h t) w.book c (lives_there h.book name c passes)

  -- NodeLost
  module _ (name : List ℕ) (rest : List SchedEvent) (front : t.sched ≡ scheds.NodeLost name ∷ rest) (list : List ContainerId) (ends : EndsByEvent (scheds.NodeLost name) t list) where
    told : Ascend (ids_on h.book name) list
    told = subst (λ (ids : List ContainerId). Ascend ids list) (same_ids_on name t.book.rows h.book w.agrees.rows) ends

    one_stands : (id : ContainerId) (ids : List ContainerId) → list ≡ id ∷ ids → is_nil (ids_on h.book name) ≡ false
    one_stands id ids e = by (ids_on h.book name) (permuted_has list (ids_on h.book name) id (IsPermutation-sym (ids_on h.book name) list told.same) (let own = container_itself id in rw (e, own) refl))
      where
        by : (on : List ContainerId) → has_container on id ≡ true → is_nil on ≡ false
        by [] h = absurd (let x : false ≡ true = h in cc)
        by (one ∷ more) h = refl

    none_stands : list ≡ [] → is_nil (ids_on h.book name) ≡ true
    none_stands e = by (ids_on h.book name) refl
      where
        by : (on : List ContainerId) → ids_on h.book name ≡ on → is_nil on ≡ true
        by [] f = refl
        by (one ∷ more) f =
            let among : has_container (ids_on h.book name) one ≡ true = let own = container_itself one in rw (f, own) refl in
            let x : has_container list one ≡ true = permuted_has (ids_on h.book name) list one told.same among in
            absurd (let y = rw e at x in cc)

    lost_allowed : (ids : List ContainerId) → list ≡ ids → Allowed settings (live_state h t) (ended_by causes.Node ids t).0
    lost_allowed [] e = inr refl
    lost_allowed (id ∷ ids) e =
        in_scene settings h t w.keeps (Ended causes.Node (id ∷ ids))
        (lost_lawful (astray_at settings h t) settings (abstract_scene h t) t.sched name (id ∷ ids) rest front (one_stands id ids e) (λ none. cc) (subst (Ascend (ids_on h.book name)) e told) w.nodes)

    pub lost_whole : PreservesCore settings h t (sched_worked (sched_step (scheds.NodeLost name) list t))
    lost_whole =
        ended_whole settings h t w (scheds.NodeLost name) rest front causes.Node list
        (node_lost_joins settings h t w.keeps w.marks w.sound w.agrees.rows name rest front list ends (lost_allowed list refl))
        (λ c among. living_is_granted (abstract_life h t) w.book c (lives_there h.book name c (lives_is h.book name c ∙ permuted_has list (ids_on h.book name) c (IsPermutation-sym (ids_on h.book name) list told.same) among)))
        (λ none.
        let k = known_node (astray_at settings h t) h.nodes h.book t.sched name (scheds.NodeLost name) rest front (text_itself name) w.nodes in
        lost_quiet_good (astray_at settings h t) h.nodes h.book t.sched name rest k.0 front k.1 (none_stands none) w.nodes)
        (λ some. good list refl some)
      where
        good : (ids : List ContainerId) → list ≡ ids → list ≢ [] → NodesInvariant (astray_without settings h t list) (left_life settings h t w (scheds.NodeLost name) rest front causes.Node list).nodes (left_life settings h t w (scheds.NodeLost name) rest front causes.Node list).book rest
        good [] e some = absurd (some e)
        good (id ∷ ids) e some = lost_good (astray_without settings h t list) (at_event settings h t w (scheds.NodeLost name) rest front) t.sched name list rest front (one_stands id ids e) told (fewer_now list)
