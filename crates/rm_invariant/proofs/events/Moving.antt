-- What the events of the main queue have alike: nothing enters the book or leaves it, no node changes, and what is posted to the scheduler is
-- of no node. All that holds of an open life is kept by a step that only changes a row, what is asked for or the applications.
use Rattle.rm_invariant.proofs.Common.{◌≡◌, ◌<◌, ℕ, List, [], ◌∷◌, ◌++◌, Bool, true, false, Some, drop, filter, refl, sym, ◌∙◌, ap, subst, false≢true, filter-append, AskOf, Entry, Issued, Quiet, AppId, AttemptId, How, Op, Settings, is_attempt, Records, same_attempt, AsksOf, attempt_asks, without_asks_of, after, asks_without, ids_on, judged_node, LifeState, scene, RowChange, SchedEvent, AppRow, Current, Tables, app_changed, app_ends, ends_app, main_popped, main_quiet, main_worked, next_in, schedules, changed, row_of, with_row, SameAsks, History, abstract_life, live_state}
use Rattle.std.proofs.Common.{append-nil}
use Rattle.rm_types.specs.declared.messages.Lane.TheVariants as lanes
use Rattle.rm_types.specs.declared.operations.Op.TheVariants as ops
use Rattle.rm_model.specs.Changes.{life_issues}
use Rattle.rm_model.specs.Passing.{asks_of as asks_told}
use Rattle.rm_model.specs.State.{Applications}
use Rattle.rm_tables.specs.declared.changes.RowChange.TheVariants as of_app
use Rattle.rm_tables.specs.declared.events.SchedEvent.TheVariants as scheds
use Rattle.rm_invariant.proofs.apps.Found.{row_changed}
use Rattle.rm_invariant.specs.nodes.Invariant.{NodeInvariant, events_of, is_nodes_event}
use Rattle.rm_invariant.specs.masters.Preserves.{PreservesContainersTo}
use Rattle.rm_invariant.specs.masters.Sound.{RecordsAreSound}
use Rattle.rm_invariant.specs.events.Refines.{Refines}
use Rattle.rm_invariant.specs.Core.{CoreInvariant, PreservesCore}
use Rattle.rm_invariant.proofs.events.Changes.{kept_agrees, keeps_attempt, scheduled_agrees}
use Rattle.rm_invariant.proofs.events.Leaving.{queues_agree, stepped_whole}
use Rattle.rm_laws.specs.Laws.{is_bound}
use Rattle.rm_laws.proofs.Missing.{is_kept_entry}
use Rattle.rm_invariant.specs.events.Here.{astray_at}

-- AN ATTEMPT THAT ASKS FOR NOTHING MORE

module _ (id : AttemptId) where
  -- in the tables, of its own asks and of those of others
  pub own_gone : (table : List AsksOf) → attempt_asks (without_asks_of id table) id ≡ []
  own_gone [] = refl
  own_gone (one ∷ table) = by (is_attempt one.attempt id) refl (own_gone table)
    where
      by : (b : Bool) → is_attempt one.attempt id ≡ b → attempt_asks (without_asks_of id table) id ≡ [] → attempt_asks (without_asks_of id (one ∷ table)) id ≡ []
      by true e rest = rw e rest
      by false e rest = rw (e, e) rest

  pub other_gone : (q : AttemptId) → is_attempt id q ≡ false → (table : List AsksOf) → attempt_asks (without_asks_of id table) q ≡ attempt_asks table q
  other_gone q apart [] = refl
  other_gone q apart (one ∷ table) = by (is_attempt one.attempt id) refl (is_attempt one.attempt q) refl (other_gone q apart table)
    where
      by : (b : Bool) → is_attempt one.attempt id ≡ b → (c : Bool) → is_attempt one.attempt q ≡ c → attempt_asks (without_asks_of id table) q ≡ attempt_asks table q → attempt_asks (without_asks_of id (one ∷ table)) q ≡ attempt_asks (one ∷ table) q
      by true e true f rest =
          let also : is_attempt id q ≡ true = subst (λ (a : AttemptId). is_attempt a q ≡ true) (same_attempt one.attempt id e) f in
          absurd (false≢true (sym apart ∙ also))
      by true e false f rest = rw (e, f) rest
      by false e true f rest = rw (e, f) refl
      by false e false f rest = rw (e, f) rest

  -- and by the judge
  own_told_gone : (asks : List AskOf) → asks_told (asks_without id asks) id ≡ []
  own_told_gone [] = refl
  own_told_gone (one ∷ asks) = by (is_attempt one.attempt id) refl (own_told_gone asks)
    where
      by : (b : Bool) → is_attempt one.attempt id ≡ b → asks_told (asks_without id asks) id ≡ [] → asks_told (asks_without id (one ∷ asks)) id ≡ []
      by true e rest = rw e rest
      by false e rest = rw (e, e) rest

  other_told_gone : (q : AttemptId) → is_attempt id q ≡ false → (asks : List AskOf) → asks_told (asks_without id asks) q ≡ asks_told asks q
  other_told_gone q apart [] = refl
  other_told_gone q apart (one ∷ asks) = by (is_attempt one.attempt id) refl (is_attempt one.attempt q) refl (other_told_gone q apart asks)
    where
      by : (b : Bool) → is_attempt one.attempt id ≡ b → (c : Bool) → is_attempt one.attempt q ≡ c → asks_told (asks_without id asks) q ≡ asks_told asks q → asks_told (asks_without id (one ∷ asks)) q ≡ asks_told (one ∷ asks) q
      by true e true f rest =
          let also : is_attempt id q ≡ true = subst (λ (a : AttemptId). is_attempt a q ≡ true) (same_attempt one.attempt id e) f in
          absurd (false≢true (sym apart ∙ also))
      by true e false f rest = rw (e, f) rest
      by false e true f rest = rw (e, f) (ap (λ l. one.ask ∷ l) rest)
      by false e false f rest = rw (e, f) rest

  -- the tables and the judge have the same asks again
  pub asks_gone : (table : List AsksOf) (asks : List AskOf) → SameAsks table asks → SameAsks (without_asks_of id table) (asks_without id asks)
  asks_gone table asks same = λ q. by q (is_attempt id q) refl
    where
      by : (q : AttemptId) (b : Bool) → is_attempt id q ≡ b → attempt_asks (without_asks_of id table) q ≡ asks_told (asks_without id asks) q
      by q true e =
          subst (λ (a : AttemptId). attempt_asks (without_asks_of id table) a ≡ asks_told (asks_without id asks) a) (same_attempt id q e) (own_gone table ∙ sym (own_told_gone asks))
      by q false e = other_gone q e table ∙ same q ∙ sym (other_told_gone q e asks)

-- an event of no node at the end of the scheduler's queue is nothing to a node
pub posted_still : (q : List ℕ) (sched : List SchedEvent) (e : SchedEvent) → is_nodes_event q e ≡ false → events_of q (sched ++ e ∷ []) ≡ events_of q sched
posted_still q sched e none = filter-append (is_nodes_event q) sched (e ∷ []) ∙ last ∙ append-nil (events_of q sched)
  where
    last : events_of q sched ++ filter (is_nodes_event q) (e ∷ []) ≡ events_of q sched ++ []
    last = rw none refl

module _ (settings : Settings) (h : History) (t : Tables) (w : CoreInvariant settings h t) where
  -- the life has the same book and the same nodes, and so have the tables
  pub same_whole : (entry : Entry) (next : Tables) (asks : List AskOf) (applications : Applications) → is_bound entry ≡ false → is_kept_entry entry ≡ false → PreservesContainersTo settings h t (entry, next)
      → (after (live_state h t) entry).life ≡ Some (record (abstract_life h t) { asks = asks; apps = applications }) → next.tree ≡ t.tree → Refines (record (abstract_life h t) { asks = asks; apps = applications }) next
      → ((q : List ℕ) → events_of q next.sched ≡ events_of q t.sched) → PreservesCore settings h t (entry, next)
  same_whole entry next asks applications inside other joins was tree agrees events =
      stepped_whole settings h t entry next (record (abstract_life h t) { asks = asks; apps = applications }) w.keeps inside other joins was (subst (λ (r : Records). RecordsAreSound r.apps) (sym tree) w.sound) agrees
      (λ q. subst (λ (list : List SchedEvent). NodeInvariant (astray_at settings h t) (judged_node h.nodes q) list (ids_on h.book q)) (sym (events q)) (w.nodes q))
      (record { apart = w.book.apart; rows = w.book.rows; left = w.book.left; launches = w.book.launches })

  -- there is nothing to do
  pub quiet_whole : PreservesContainersTo settings h t (main_worked (main_quiet t)) → PreservesCore settings h t (main_worked (main_quiet t))
  quiet_whole joins = same_whole (Quiet lanes.Main) (main_popped t) h.asks h.apps refl refl joins refl refl (queues_agree (abstract_life h t) t (drop 1 t.main) t.sched w.agrees) (λ q. refl)

  -- a row changes, and its attempt stays alike
  pub changed_whole : (id : AppId) (change : RowChange) → keeps_attempt change ≡ true → PreservesContainersTo settings h t (main_worked (Quiet lanes.Main, app_changed change id t))
      → PreservesCore settings h t (main_worked (Quiet lanes.Main, app_changed change id t))
  changed_whole id change keeps joins =
      same_whole (Quiet lanes.Main) (main_popped (app_changed change id t)) h.asks h.apps refl refl joins refl refl
      (kept_agrees (abstract_life h t) t (main_popped (app_changed change id t)) id change keeps w.agrees refl refl refl (λ q. row_changed (changed change) id q t.rows)) (λ q. refl)

  -- and an operation is issued
  abbrev pub issued : Op → AppId → RowChange → Tables
  issued op id change = record t { main = drop 1 t.main; rows = with_row (changed change) id t.rows; awaiting = t.awaiting ++ op ∷ [] }

  pub issued_whole : (op : Op) (id : AppId) (change : RowChange) → keeps_attempt change ≡ true → life_issues (scene (live_state h t) (abstract_life h t)) op ≡ abstract_life h t
      → PreservesContainersTo settings h t (Issued op, issued op id change) → PreservesCore settings h t (Issued op, issued op id change)
  issued_whole op id change keeps still joins =
      same_whole (Issued op) (issued op id change) h.asks h.apps refl refl joins (ap Some still) refl
      (kept_agrees (abstract_life h t) t (issued op id change) id change keeps w.agrees refl refl refl (λ q. row_changed (changed change) id q t.rows)) (λ q. refl)

  -- the end of an application is issued
  pub ends_whole : (id : AppId) (how : How) (text : List ℕ) → PreservesContainersTo settings h t (main_worked (ends_app id how text t)) → PreservesCore settings h t (main_worked (ends_app id how text t))
  ends_whole id how text joins =
      let asks : List AskOf = asks_without (next_in t id) h.asks in
      let life : LifeState = record (abstract_life h t) { asks = asks } in
      let asked : Tables = record t { asks = without_asks_of (next_in t id) t.asks } in
      let agrees : Refines life asked = record { rows = w.agrees.rows; nodes = w.agrees.nodes; asks = asks_gone (next_in t id) t.asks h.asks w.agrees.asks; closings = w.agrees.closings; masters = w.agrees.masters } in
      same_whole (Issued (ops.AppEnd id how text)) (main_popped (app_ends id how text t)) asks h.apps refl refl joins (rw w.keeps.recorded refl) refl
      (kept_agrees life asked (main_popped (app_ends id how text t)) id of_app.End refl agrees refl refl refl (λ q. row_changed (changed of_app.End) id q t.rows)) (λ q. refl)

  -- the next attempt is scheduled, which is later than the current one
  pub scheduled_whole : (entry : Entry) (id : AttemptId) (accepted : List AppId) → is_bound entry ≡ false → is_kept_entry entry ≡ false → (after (live_state h t) entry).life ≡ Some (record (abstract_life h t) { apps = record h.apps { accepted = accepted } })
      → ((row : AppRow) (current : Current) → row_of t.rows id.app ≡ Some row → row.current ≡ Some current → current.number < id.number)
      → PreservesContainersTo settings h t (main_worked (entry, schedules id t)) → PreservesCore settings h t (main_worked (entry, schedules id t))
  scheduled_whole entry id accepted inside other was later joins =
      let life : LifeState = record (abstract_life h t) { apps = record h.apps { accepted = accepted } } in
      let agrees : Refines life t = record { rows = w.agrees.rows; nodes = w.agrees.nodes; asks = w.agrees.asks; closings = w.agrees.closings; masters = w.agrees.masters } in
      same_whole entry (main_popped (schedules id t)) h.asks (record h.apps { accepted = accepted }) inside other joins was refl
      (scheduled_agrees life t (main_popped (schedules id t)) id.app id.number agrees refl refl refl (λ q. row_changed (changed (of_app.Schedule id.number)) id.app q t.rows) later)
      (λ q. posted_still q t.sched (scheds.AttemptAdded id) refl)
