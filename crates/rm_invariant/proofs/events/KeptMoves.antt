-- An operation is kept, as a whole step that keeps all that holds of an open life: an App, an Attempt, the end of an attempt or an application, and a Remove.
-- Each fits what is recorded.
use Rattle.rm_invariant.proofs.Common.{◌≡◌, ℕ, List, [], ◌∷◌, ◌++◌, Bool, true, false, ◌||◌, Option, None, Some, refl, sym, ◌∙◌, ap, subst, filter-append, AppId, AttemptId, Op, Settings, How, Submission, is_app, fits_records, without_asks_of, life_keeps, ids_on, judged_node, LifeState, SchedEvent, Tables, changed, removed_at, removed_by, removed_of, kept, ClosingsAgree, RowAgrees, History, abstract_life, ContainerId, has_app, row_of, without_row, AppRow, Current, AttemptState, list_any-append, removed_if, record_of, recorded}
use Rattle.std.proofs.Common.{append-nil}
use Rattle.rm_types.specs.declared.entries.Entry.TheVariants.{Kept as KeptEntry}
use Rattle.rm_types.specs.declared.operations.Op.TheVariants as ops
use Rattle.rm_tables.specs.declared.changes.AttemptChange.TheVariants as of_attempt
use Rattle.rm_tables.specs.declared.changes.RowChange.TheVariants as of_app
use Rattle.rm_tables.specs.declared.events.SchedEvent.TheVariants as scheds
use Rattle.rm_invariant.proofs.apps.Found.{row_changed}
use Rattle.rm_invariant.specs.nodes.Invariant.{NodesInvariant, NodeInvariant, events_of, is_nodes_event}
use Rattle.rm_invariant.proofs.masters.KeptApps.{app_end_kept_joins, app_kept_joins, attempt_end_kept_joins, remove_kept_joins}
use Rattle.rm_invariant.proofs.masters.KeptAttempts.{attempt_kept_joins}
use Rattle.rm_invariant.proofs.apps.Removing.{row_gone}
use Rattle.rm_states.specs.declared.attempt.states.AttemptState.TheVariants as attempts
use Rattle.rm_invariant.proofs.masters.Sounding.{sound_step}
use Rattle.rm_invariant.specs.Core.{CoreInvariant, PreservesCore}
use Rattle.rm_invariant.proofs.events.Changes.{kept_agrees}
use Rattle.rm_invariant.proofs.events.Leaving.{stepped_with}
use Rattle.rm_invariant.proofs.events.Moving.{asks_gone}
use Rattle.rm_model.specs.Facts.{keeps}
use Rattle.rm_invariant.specs.events.Here.{astray_at}
use Rattle.rm_laws.specs.FirstAttempts.{FirstStays}
use Rattle.rm_invariant.proofs.nodes.Astray.{first_fits, first_stays, none_strays_kept}
use Rattle.rm_invariant.specs.Step.{Step}
use Rattle.rm_invariant.specs.masters.Preserves.{PreservesContainersTo}

-- events of no node at the end of the queue are nothing to the nodes
pub posted_good : (astray : ContainerId → Bool) (h : History) (sched more : List SchedEvent) → ((q : List ℕ) → events_of q more ≡ []) → NodesInvariant astray h.nodes h.book sched → NodesInvariant astray h.nodes h.book (sched ++ more)
posted_good astray h sched more none good = λ q.
    subst (λ (events : List SchedEvent). NodeInvariant astray (judged_node h.nodes q) events (ids_on h.book q)) (sym (filter-append (is_nodes_event q) sched more ∙ ap (λ l. events_of q sched ++ l) (none q) ∙ append-nil (events_of q sched))) (good q)

module _ (settings : Settings) (h : History) (t : Tables) (w : CoreInvariant settings h t) (handed : t.handed ≡ true) (held : (c : ContainerId) → FirstStays c.attempt h.kept (Some (abstract_life h t))) where
  -- what is astray after an operation is kept was astray before it
  covers : (op : Op) (rest : List Op) → t.awaiting ≡ op ∷ rest → fits_records t.tree op ≡ true → (g : History) (next : Tables) → Step settings h t (KeptEntry op) g next
      → (c : ContainerId) → astray_at settings g next c ≡ true → astray_at settings h t c ≡ true
  covers op rest front fits g next step c =
      none_strays_kept settings h t w.keeps (KeptEntry op) g next step c (first_fits settings h t w.keeps op rest front fits) (first_stays settings h t w.keeps op rest front c.attempt) (held c) refl

  -- the life after an operation is kept
  abbrev kept_life : Op → LifeState
  kept_life op = record (life_keeps (abstract_life h t) op) { handed = false }

  -- an App
  pub app_kept_whole : (id : AppId) (s : Submission) (rest : List Op) → t.awaiting ≡ ops.App id s ∷ rest → fits_records t.tree (ops.App id s) ≡ true → PreservesCore settings h t (KeptEntry (ops.App id s), kept (ops.App id s) t)
  app_kept_whole id s rest front fits =
      let life : LifeState = kept_life (ops.App id s) in
      let joins : PreservesContainersTo settings h t (KeptEntry (ops.App id s), kept (ops.App id s) t) = record { next = _; joins = app_kept_joins settings h t w.keeps w.marks id s rest front handed } in
      stepped_with settings h t (KeptEntry (ops.App id s)) (kept (ops.App id s) t) life (astray_at settings h t) joins (covers (ops.App id s) rest front fits joins.next (kept (ops.App id s) t) joins.joins.step) refl
      (sound_step t.tree (ops.App id s) w.sound fits)
      (kept_agrees life t (kept (ops.App id s) t) id of_app.Keep refl (record { rows = w.agrees.rows; nodes = w.agrees.nodes; asks = w.agrees.asks; closings = w.agrees.closings; masters = w.agrees.masters }) refl refl refl
      (λ q. row_changed (changed of_app.Keep) id q t.rows))
      w.nodes (record { apart = w.book.apart; rows = w.book.rows; left = w.book.left; launches = w.book.launches })

  -- the end of an attempt
  pub attempt_end_kept_whole : (id : AttemptId) (how : How) (text : List ℕ) (rest : List Op) → t.awaiting ≡ ops.AttemptEnd id how text ∷ rest → fits_records t.tree (ops.AttemptEnd id how text) ≡ true
      → PreservesCore settings h t (KeptEntry (ops.AttemptEnd id how text), kept (ops.AttemptEnd id how text) t)
  attempt_end_kept_whole id how text rest front fits =
      let life : LifeState = kept_life (ops.AttemptEnd id how text) in
      let asked : Tables = record t { asks = without_asks_of id t.asks } in
      let joins : PreservesContainersTo settings h t (KeptEntry (ops.AttemptEnd id how text), kept (ops.AttemptEnd id how text) t) = record { next = _; joins = attempt_end_kept_joins settings h t w.keeps w.marks id how text rest front handed } in
      stepped_with settings h t (KeptEntry (ops.AttemptEnd id how text)) (kept (ops.AttemptEnd id how text) t) life (astray_at settings h t) joins (covers (ops.AttemptEnd id how text) rest front fits joins.next (kept (ops.AttemptEnd id how text) t) joins.joins.step) refl (sound_step t.tree (ops.AttemptEnd id how text) w.sound fits)
      (kept_agrees life asked (kept (ops.AttemptEnd id how text) t) id.app (of_app.OfAttempt (of_attempt.KeepEnd how)) refl
      (record { rows = w.agrees.rows; nodes = w.agrees.nodes; asks = asks_gone id t.asks h.asks w.agrees.asks; closings = w.agrees.closings; masters = w.agrees.masters }) refl refl refl
      (λ q. row_changed (changed (of_app.OfAttempt (of_attempt.KeepEnd how))) id.app q t.rows))
      (posted_good (astray_at settings h t) h t.sched (scheds.AttemptRemoved id ∷ []) (λ q. refl) w.nodes) (record { apart = w.book.apart; rows = w.book.rows; left = w.book.left; launches = w.book.launches })

  -- an Attempt
  pub attempt_kept_whole : (c : ContainerId) (node : List ℕ) (rest : List Op) → t.awaiting ≡ ops.Attempt c.attempt c node ∷ rest → fits_records t.tree (ops.Attempt c.attempt c node) ≡ true
      → PreservesCore settings h t (KeptEntry (ops.Attempt c.attempt c node), kept (ops.Attempt c.attempt c node) t)
  attempt_kept_whole c node rest front fits =
      let op : Op = ops.Attempt c.attempt c node in
      let life : LifeState = kept_life op in
      let joins : PreservesContainersTo settings h t (KeptEntry op, kept op t) = record { next = _; joins = attempt_kept_joins settings h t w.keeps w.marks w.sound c node rest front handed } in
      stepped_with settings h t (KeptEntry op) (kept op t) life (astray_at settings h t) joins (covers op rest front fits joins.next (kept op t) joins.joins.step) refl (sound_step t.tree op w.sound fits)
      (kept_agrees life t (kept op t) c.attempt.app (of_app.OfAttempt of_attempt.Keep) refl (record { rows = w.agrees.rows; nodes = w.agrees.nodes; asks = w.agrees.asks; closings = w.agrees.closings; masters = w.agrees.masters }) refl refl refl
      (λ q. row_changed (changed (of_app.OfAttempt of_attempt.Keep)) c.attempt.app q t.rows))
      w.nodes (record { apart = w.book.apart; rows = w.book.rows; left = w.book.left; launches = w.book.launches })

  -- an attempt that has containers still is removed: an event of no node
  removed_none : (id : AppId) (keep : Bool) (o : Option AppRow) (q : List ℕ) → events_of q (removed_by o keep id) ≡ []
  removed_none id keep None q = refl
  removed_none id keep (Some row) q = of_current row.current
    where
      at_if : (b : Bool) (attempt : AttemptId) → events_of q (removed_if b attempt) ≡ []
      at_if true attempt = refl
      at_if false attempt = refl

      at_state : (s : AttemptState) (attempt : AttemptId) → events_of q (removed_at s keep attempt) ≡ []
      at_state attempts.Scheduled attempt = refl
      at_state attempts.Ended attempt = at_if keep attempt
      at_state _ attempt = refl

      of_current : (c : Option Current) → events_of q (removed_of c keep id) ≡ []
      of_current None = refl
      of_current (Some current) = at_state current.state (record { app = id; number = current.number })

  -- the end of an application
  pub app_end_kept_whole : (id : AppId) (how : How) (text : List ℕ) (rest : List Op) → t.awaiting ≡ ops.AppEnd id how text ∷ rest → fits_records t.tree (ops.AppEnd id how text) ≡ true
      → PreservesCore settings h t (KeptEntry (ops.AppEnd id how text), kept (ops.AppEnd id how text) t)
  app_end_kept_whole id how text rest front fits =
      let op : Op = ops.AppEnd id how text in
      let life : LifeState = kept_life op in
      let joins : PreservesContainersTo settings h t (KeptEntry op, kept op t) = record { next = _; joins = app_end_kept_joins settings h t w.keeps w.marks w.sound id how text rest front handed } in
      stepped_with settings h t (KeptEntry op) (kept op t) life (astray_at settings h t) joins (covers op rest front fits joins.next (kept op t) joins.joins.step) refl (sound_step t.tree op w.sound fits)
      (kept_agrees life t (kept op t) id (of_app.KeepEnd how) refl (record { rows = w.agrees.rows; nodes = w.agrees.nodes; asks = w.agrees.asks; closings = w.agrees.closings; masters = w.agrees.masters }) refl refl refl
      (λ q. row_changed (changed (of_app.KeepEnd how)) id q t.rows))
      (posted_good (astray_at settings h t) h t.sched (removed_by (row_of t.rows id) (keeps (record_of (recorded t.tree op).apps id)) id) (removed_none id (keeps (record_of (recorded t.tree op).apps id)) (row_of t.rows id)) w.nodes) (record { apart = w.book.apart; rows = w.book.rows; left = w.book.left; launches = w.book.launches })

  -- a Remove: nothing is said of an application once it is retired
  pub remove_kept_whole : (id : AppId) (rest : List Op) → t.awaiting ≡ ops.Remove id ∷ rest → fits_records t.tree (ops.Remove id) ≡ true → PreservesCore settings h t (KeptEntry (ops.Remove id), kept (ops.Remove id) t)
  remove_kept_whole id rest front fits =
      let op : Op = ops.Remove id in
      let life : LifeState = kept_life op in
      let joins : PreservesContainersTo settings h t (KeptEntry op, kept op t) = record { next = _; joins = remove_kept_joins settings h t w.keeps w.marks id rest front handed } in
      stepped_with settings h t (KeptEntry op) (kept op t) life (astray_at settings h t) joins (covers op rest front fits joins.next (kept op t) joins.joins.step) refl (sound_step t.tree op w.sound fits)
      (record { rows = w.agrees.rows; nodes = w.agrees.nodes; asks = w.agrees.asks; closings = λ q. closing q (is_app id q) refl; masters = λ q. master q (is_app id q.app) refl })
      w.nodes (record { apart = w.book.apart; rows = w.book.rows; left = w.book.left; launches = w.book.launches })
    where
      retired_now : (q : AppId) (b : Bool) → is_app id q ≡ b → has_app (h.apps.retired ++ id ∷ []) q ≡ (has_app h.apps.retired q || b)
      retired_now q b e = list_any-append (λ one. is_app one q) h.apps.retired (id ∷ []) ∙ rw e (last b)
        where
          last : (c : Bool) → (has_app h.apps.retired q || (c || false)) ≡ (has_app h.apps.retired q || c)
          last true = refl
          last false = refl

      gone : (b : Bool) → (b || true) ≡ true
      gone true = refl
      gone false = refl

      still : (b : Bool) → (b || false) ≡ b
      still true = refl
      still false = refl

      closing : (q : AppId) (b : Bool) → is_app id q ≡ b → ClosingsAgree h.endings.outbox q (has_app (h.apps.retired ++ id ∷ []) q) (row_of (without_row id t.rows) q)
      closing q true e = let now : has_app (h.apps.retired ++ id ∷ []) q ≡ true = retired_now q true e ∙ gone (has_app h.apps.retired q) in rw (row_gone id q t.rows, e, now) (λ r. cc)
      closing q false e = let now : has_app (h.apps.retired ++ id ∷ []) q ≡ has_app h.apps.retired q = retired_now q false e ∙ still (has_app h.apps.retired q) in rw (row_gone id q t.rows, e, now) (w.agrees.closings q)

      master : (q : AttemptId) (b : Bool) → is_app id q.app ≡ b → RowAgrees h.masters.registered h.granted (has_app (h.apps.retired ++ id ∷ []) q.app) q (row_of (without_row id t.rows) q.app)
      master q true e = let now : has_app (h.apps.retired ++ id ∷ []) q.app ≡ true = retired_now q.app true e ∙ gone (has_app h.apps.retired q.app) in rw (row_gone id q.app t.rows, e, now) (λ r. cc)
      master q false e = let now : has_app (h.apps.retired ++ id ∷ []) q.app ≡ has_app h.apps.retired q.app = retired_now q.app false e ∙ still (has_app h.apps.retired q.app) in rw (row_gone id q.app t.rows, e, now) (w.agrees.masters q)
