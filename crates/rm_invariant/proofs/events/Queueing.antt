-- AppAdded and AttemptAdded, each as a whole step that keeps all that holds of an open life: an application is to be accepted, and an attempt
-- that is scheduled asks for its master's container.
use Rattle.rm_invariant.proofs.Common.{◌≡◌, List, [], ◌∷◌, ◌++◌, Bool, true, false, Some, drop, filter, map, refl, sym, ◌∙◌, ap, subst, suc, arith, list_any, nat_tests, map-append, filter-append, Ask, AskOf, AppId, AttemptId, ContainerId, AppRecord, Resource, Settings, is_attempt, record_of, same_attempt, app_itself, AsksOf, attempt_asks, asks_set, is_for, if◌then◌else◌, LifeState, SchedEvent, AppRow, Current, Tables, found_in, sched_popped, sched_quiet, sched_worked, row_of, master_asked, sched_step, SameAsks, History, abstract_life, Entry}
use Rattle.std.proofs.Common.{◌==◌, count_by, append-nil}
use Rattle.rm_types.specs.declared.entries.Entry.TheVariants.{Queued}
use Rattle.rm_model.specs.Changes.{master_ask}
use Rattle.rm_model.specs.Passing.{asks_of as asks_told}
use Rattle.rm_states.specs.declared.attempt.states.AttemptState.TheVariants as attempts
use Rattle.rm_tables.specs.declared.events.SchedEvent.TheVariants as scheds
use Rattle.rm_tables.specs.declared.events.MainEvent.TheVariants as mains
use Rattle.rm_invariant.specs.apps.Invariant.{RowInvariant}
use Rattle.rm_invariant.specs.apps.View.{View, is_ask, one_if, sched_view, view}
use Rattle.rm_invariant.proofs.apps.Counts.{at_front}
use Rattle.rm_invariant.proofs.apps.Effects.{sched_taken}
use Rattle.rm_invariant.proofs.apps.Queueing.{queued_facts, found_some}
use Rattle.rm_invariant.specs.nodes.Invariant.{NodesInvariant}
use Rattle.rm_invariant.specs.masters.Preserves.{PreservesContainersTo}
use Rattle.rm_invariant.proofs.masters.AppEvents.{added_joins, queued_joins}
use Rattle.rm_invariant.specs.Core.{CoreInvariant, PreservesCore}
use Rattle.rm_invariant.proofs.events.Answered.{other_asks, own_asks}
use Rattle.rm_invariant.proofs.events.Events.{still_good}
use Rattle.rm_invariant.proofs.events.Leaving.{idle_whole, stepped_whole}
use Rattle.rm_invariant.specs.events.SchedOutcomes.{SchedOutcome}
use Rattle.rm_invariant.specs.events.SchedOutcomes as outcomes
use Rattle.rm_invariant.proofs.events.SchedOutcomes.{sched_outcome}
use Rattle.rm_invariant.specs.events.Here.{astray_at}

-- an attempt that doesn't ask for its master has no such ask
none_for : (id : AttemptId) (size : Resource) (asks : List AskOf) → count_by (is_ask id) asks ≡ 0 → list_any (is_for 0 size) (asks_told asks id) ≡ false
none_for id size [] none = refl
none_for id size (one ∷ asks) none = by (is_attempt one.attempt id) refl (one.ask.priority == 0) refl (none_for id size asks)
  where
    counted : (b : Bool) → is_ask id one ≡ b → one_if b (count_by (is_ask id) asks) ≡ 0
    counted b e = ap (λ c. one_if c (count_by (is_ask id) asks)) (sym e) ∙ sym (at_front (is_ask id) one asks) ∙ none

    by : (b : Bool) → is_attempt one.attempt id ≡ b → (c : Bool) → (one.ask.priority == 0) ≡ c → (count_by (is_ask id) asks ≡ 0 → list_any (is_for 0 size) (asks_told asks id) ≡ false)
        → list_any (is_for 0 size) (asks_told (one ∷ asks) id) ≡ false
    by true e true f rest = absurd (let x = counted true (rw (e, f) refl) in cc)
    by true e false f rest = rw (e, f) (rest (counted false (rw (e, f) refl)))
    by false e c f rest = rw e (rest (counted false (rw e refl)))

-- what an attempt asks for once a line more is there
told_more : (asks : List AskOf) (line : AskOf) (q : AttemptId) (b : Bool) → is_attempt line.attempt q ≡ b → asks_told (asks ++ line ∷ []) q ≡ asks_told asks q ++ (if b then line.ask ∷ [] else [])
told_more asks line q b e =
    ap (map (λ one. one.ask)) (filter-append (λ one. is_attempt one.attempt q) asks (line ∷ []))
    ∙ map-append (λ one. one.ask) (filter (λ one. is_attempt one.attempt q) asks) (filter (λ one. is_attempt one.attempt q) (line ∷ []))
    ∙ by b e
  where
    by : (b : Bool) → is_attempt line.attempt q ≡ b → asks_told asks q ++ map (λ one. one.ask) (filter (λ one. is_attempt one.attempt q) (line ∷ [])) ≡ asks_told asks q ++ (if b then line.ask ∷ [] else [])
    by true e = rw e refl
    by false e = rw e refl

-- the tables and the judge have the ask for a master alike
asks_queued : (table : List AsksOf) (asks : List AskOf) (id : AttemptId) (app : AppRecord) → SameAsks table asks → count_by (is_ask id) asks ≡ 0 → SameAsks (master_asked id (Some app) table) (asks ++ master_ask id (Some app.submission))
asks_queued table asks id app same none = λ q. by q (is_attempt id q) refl
  where
    ask : Ask
    ask = record { priority = 0; count = 1; size = app.submission.master }

    set : asks_set ask (attempt_asks table id) ≡ asks_told asks id ++ ask ∷ []
    set = rw (same id) (let x = none_for id app.submission.master asks none in rw x refl)

    by : (q : AttemptId) (b : Bool) → is_attempt id q ≡ b → attempt_asks (master_asked id (Some app) table) q ≡ asks_told (asks ++ master_ask id (Some app.submission)) q
    by q true e =
        subst (λ (x : AttemptId). attempt_asks (master_asked id (Some app) table) x ≡ asks_told (asks ++ master_ask id (Some app.submission)) x) (same_attempt id q e)
        (own_asks id (asks_set ask (attempt_asks table id)) table ∙ set ∙ sym (told_more asks (record { attempt = id; ask = ask }) id true (let own : is_attempt id id ≡ true = grind (arith, nat_tests) in own)))
    by q false e =
        other_asks id q e (asks_set ask (attempt_asks table id)) table ∙ same q ∙ sym (append-nil (asks_told asks q)) ∙ sym (told_more asks (record { attempt = id; ask = ask }) q false e)

module _ (settings : Settings) (h : History) (t : Tables) (w : CoreInvariant settings h t) where
  -- AppAdded
  pub app_added_whole : (id : AppId) (rest : List SchedEvent) → t.sched ≡ scheds.AppAdded id ∷ rest → (list : List ContainerId) → PreservesCore settings h t (sched_worked (sched_step (scheds.AppAdded id) list t))
  app_added_whole id rest front list =
      idle_whole settings h t w (scheds.AppAdded id) rest front (t.main ++ mains.AppAccepted id ∷ []) (added_joins settings h t w.keeps w.marks id rest front list)
      (still_good settings h t w (scheds.AppAdded id) rest front (λ q. refl))

  -- AttemptAdded
  module _ (id : AttemptId) (rest : List SchedEvent) (front : t.sched ≡ scheds.AttemptAdded id ∷ rest) where
    good : NodesInvariant (astray_at settings h t) h.nodes h.book rest
    good = still_good settings h t w (scheds.AttemptAdded id) rest front (λ q. refl)

    -- the attempt has a record of its application and no ask for its master yet
    facts : (row : AppRow) → row_of t.rows id.app ≡ Some row → (current : Current) → row.current ≡ Some current → current.state ≡ attempts.Scheduled → (current.number == id.number) ≡ true
        → (app : AppRecord) × (record_of t.tree.apps id.app ≡ Some app) × (count_by (is_ask id) h.asks ≡ 0)
    facts row found current is s n =
        let gone : Tables = sched_popped t in
        let here : RowInvariant settings id (Some row) (view h t id) = rw found at (w.keeps.all id) in
        let self : sched_view id (scheds.AttemptAdded id) (view h gone id) ≡ record (view h gone id) { count = record (view h gone id).count { queueings = suc (view h gone id).count.queueings } } = (let number : (id.number == id.number) ≡ true = grind (arith, nat_tests) in rw (app_itself id.app, number) refl) in
        let says = subst (λ (v : View). RowInvariant settings id (Some row) v) (sched_taken h t id (scheds.AttemptAdded id) rest front ∙ self) here in
        let may = queued_facts settings id (view h gone id) row current is s n says in
        let some = found_some (record_of t.tree.apps id.app) may.1.stopped.0 in
        (some.0, some.1, may.1.none_ask)

    asked : (app : AppRecord) → record_of t.tree.apps id.app ≡ Some app → count_by (is_ask id) h.asks ≡ 0
        → PreservesContainersTo settings h t (Queued id, sched_popped (record t { asks = master_asked id (found_in t id.app) t.asks })) → PreservesCore settings h t (Queued id, sched_popped (record t { asks = master_asked id (found_in t id.app) t.asks }))
    asked app found none joins =
        let next : Tables = sched_popped (record t { asks = master_asked id (found_in t id.app) t.asks }) in
        let life : LifeState = record (abstract_life h t) { asks = h.asks ++ master_ask id (Some app.submission) } in
        stepped_whole settings h t (Queued id) next life w.keeps refl refl joins (rw (w.keeps.recorded, found) refl) w.sound
        (record { rows = w.agrees.rows; nodes = w.agrees.nodes; asks = rw found (asks_queued t.asks h.asks id app w.agrees.asks none); closings = w.agrees.closings; masters = w.agrees.masters })
        (subst (NodesInvariant (astray_at settings h t) h.nodes h.book) (sym (ap (drop 1) front)) good) (record { apart = w.book.apart; rows = w.book.rows; left = w.book.left; launches = w.book.launches })

    idle : PreservesContainersTo settings h t (sched_worked (sched_quiet t)) → PreservesCore settings h t (sched_worked (sched_quiet t))
    idle joins = idle_whole settings h t w (scheds.AttemptAdded id) rest front t.main joins good

    pub queued_whole : (list : List ContainerId) → PreservesCore settings h t (sched_worked (sched_step (scheds.AttemptAdded id) list t))
    queued_whole list = by (sched_step (scheds.AttemptAdded id) list t) (sched_outcome t list (scheds.AttemptAdded id)) (queued_joins settings h t w.keeps w.marks id rest front list)
      where
        by : (done : Entry × Tables) → SchedOutcome t list (scheds.AttemptAdded id) done → PreservesContainersTo settings h t (sched_worked done) → PreservesCore settings h t (sched_worked done)
        by done (outcomes.idles e nothing) joins = idle joins
        by done (outcomes.asks one row current is state number) joins = let f = facts row is.found current is.is state number in asked f.0 f.1 f.2 joins
        by done (outcomes.ends e cause one ids is) joins = cc
