-- The other operations once they are kept, each as a whole step that keeps what holds of containers too: App, AttemptEnd, AppEnd and
-- Remove; and a submission that is taken.
use Rattle.rm_invariant.proofs.Common.{◌≡◌, ℕ, suc, List, [], ◌∷◌, ◌++◌, Bool, true, false, Option, None, Some, drop, length, map, refl, sym, ◌∙◌, ap, subst, arith, ◌⊎◌, inl, inr, nat_tests, AppId, AttemptId, ContainerId, How, Op, Submission, AppRecord, Settings, is_app, is_attempt, new_record, record_of, recorded, with_end, same_app, app_itself, attempts_in, AppState, AttemptState, SchedEvent, AppRow, Current, Tables, current_after, changed, kept, row_of, with_row, is_retired, History, AttemptRecord, end_in, find, is_some_and, last_attempt, ◌&&◌, ◌≤◌}
use Rattle.std.proofs.Common.{◌==◌, count_by, option_map, is_some}
use Rattle.std.proofs.lemmas.List.{append-nil}
use Rattle.rm_types.specs.declared.entries.Entry.TheVariants.{Kept as KeptEntry}
use Rattle.rm_types.specs.declared.operations.How.TheVariants as ways
use Rattle.rm_types.specs.declared.operations.Op.TheVariants as ops
use Rattle.rm_model.specs.Facts.{keeps}
use Rattle.rm_states.specs.declared.app.states.AppState.TheVariants as apps
use Rattle.rm_states.specs.declared.attempt.states.AttemptState.TheVariants as attempts
use Rattle.rm_tables.specs.declared.changes.RowChange.TheVariants as of_app
use Rattle.rm_tables.specs.declared.changes.AttemptChange.TheVariants as of_attempt
use Rattle.rm_tables.specs.declared.events.MainEvent.TheVariants as mains
use Rattle.rm_tables.specs.declared.events.SchedEvent.TheVariants as scheds
use Rattle.rm_tables.proofs.Kept.{keeps_still}
use Rattle.rm_tables.specs.KeptOps.{removed_at, removed_by, removed_if, removed_of}
use Rattle.rm_tables.specs.Leaving.{stale_by}
use Rattle.rm_refinement.specs.Agreement.{is_among_first}
use Rattle.rm_invariant.specs.apps.Invariant.{EndIssuedInvariant, RowInvariant, StateInvariant, AttemptsInvariant, AllHaveEnded, LastIsOpen, is_open_one}
use Rattle.rm_invariant.specs.Step.{AppsInvariant}
use Rattle.rm_invariant.specs.apps.View.{View, changed_if, one_if, op_view, put_if, view, counts, gone_if, set_if}
use Rattle.rm_invariant.proofs.apps.Found.{has_end, row_put, record_put, row_changed, found_gone}
use Rattle.rm_invariant.proofs.apps.Saving.{app_kept, app_kept_steps, app_waits, joining, row_new, submitting}
use Rattle.rm_invariant.proofs.apps.Counts.{at_end}
use Rattle.rm_invariant.proofs.apps.Effects as views
use Rattle.rm_invariant.proofs.apps.KeptEnds.{EndAwaits, OverAwaits, app_end_kept_steps, app_over, attempt_end_kept_steps, attempt_over, end_awaits, ended_record, over_awaits, with_end_op}
use Rattle.rm_invariant.proofs.apps.Removing.{remove_kept_steps, removed, row_gone}
use Rattle.rm_invariant.proofs.apps.Recorded.{record_changed}
use Rattle.rm_invariant.specs.masters.Invariant.{ContainersInvariant, ContainerByCurrent, ContainerInvariant, RemovalInvariant, ContainerByNumber, Unnumbered}
use Rattle.rm_invariant.specs.masters.Preserves.{PreservesContainers}
use Rattle.rm_invariant.specs.masters.View.{ContainerView, container_view, is_attempt_removal}
use Rattle.rm_invariant.proofs.masters.Others.{ended_marks, final_marks, gone_marks, new_marks}
use Rattle.rm_invariant.proofs.masters.Effects.{main_posted, op_taken, sched_posted}
use Rattle.rm_invariant.proofs.masters.Stepping.{marks_changed, marks_still}
use Rattle.rm_invariant.proofs.masters.Stale.{among_found, ended_stale}
use Rattle.rm_invariant.specs.masters.Sound.{RecordsAreSound}

-- an application whose App awaits has no attempt
saving_alone : (settings : Settings) (q : AttemptId) (row : AppRow) (v : View) → row.state ≡ apps.NewSaving → RowInvariant settings q (Some row) v → row.current ≡ None
saving_alone settings q row v is good = let says = subst (λ (s : AppState). StateInvariant settings q s row v) is good.1 in says.0.no_attempt

-- it is kept: nothing is said of its record
kept_marks : (c : ContainerId) (row : AppRow) (v : ContainerView) (new : Option AppRecord) → row.current ≡ None → ContainerInvariant c (Some row) v → ContainerInvariant c (Some (changed of_app.Keep row)) (record v { found = new })
kept_marks c row v new is good = let says : ContainerByCurrent c None v = rw is at good.1 in (good.0, rw is says)

-- a record that is new has nothing stale
put_stale : (c : ContainerId) (id : AppId) (one : Submission) (b : Bool) (found : Option AppRecord) → stale_by c (put_if b (new_record id one) found) ≡ true → stale_by c found ≡ true
put_stale c id one b None s = refl
put_stale c id one true (Some app) s = s
put_stale c id one false (Some app) s = s

-- Kept App
module _ (settings : Settings) (h : History) (t : Tables) (k : AppsInvariant settings h t) (all : ContainersInvariant h t) (id : AppId) (s : Submission) (rest : List Op) (front : t.awaiting ≡ ops.App id s ∷ rest) where
  -- the tables without the operation, and with what is recorded by it
  abbrev app_left : Tables
  app_left = record t { awaiting = drop 1 t.awaiting }

  abbrev app_recorded : Tables
  app_recorded = record app_left { tree = recorded t.tree (ops.App id s); handed = false; rows = with_row (changed of_app.Keep) id t.rows }

  app_now : (c : ContainerId) → container_view (app_kept settings h t k id s rest front) (kept (ops.App id s) t) c ≡ record (container_view h t c) { found = put_if (is_app id c.attempt.app) (new_record id s) (container_view h t c).found }
  app_now c =
      let taken = op_taken h t c (ops.App id s) rest front in
      let posted = main_posted (app_kept settings h t k id s rest front) app_recorded c (mains.AppSaved id) in
      let found : container_view (app_kept settings h t k id s rest front) app_recorded c ≡ record (container_view h app_left c) { found = put_if (is_app id c.attempt.app) (new_record id s) (container_view h app_left c).found } = rw (record_put (new_record id s) c.attempt.app t.tree.apps) refl in
      posted ∙ found ∙ ap (λ (v : ContainerView). record v { found = put_if (is_app id c.attempt.app) (new_record id s) v.found }) (sym taken)

  pub app_kept_joins : t.handed ≡ true → PreservesContainers settings h t (KeptEntry (ops.App id s)) (app_kept settings h t k id s rest front) (kept (ops.App id s) t)
  app_kept_joins handed =
      let awaits = app_waits settings h t k id s rest front in
      let zero : AttemptId = record { app = id; number = 0 } in
      let at_row = awaits.is in
      let good : RowInvariant settings zero (Some awaits.one) (view h t zero) = rw at_row at (k.all zero) in
      let alone = saving_alone settings zero awaits.one (view h t zero) awaits.state good in
      record {
        step = app_kept_steps settings h t k id s rest front handed;
        marks =
            marks_changed h (app_kept settings h t k id s rest front) t (kept (ops.App id s) t) id (changed of_app.Keep) (Some awaits.one) (λ q. row_changed (changed of_app.Keep) id q t.rows) awaits.is
            (λ c other. app_now c ∙ rw other refl)
            (λ c same says. subst (λ (v : ContainerView). ContainerInvariant c (Some (changed of_app.Keep awaits.one)) v) (sym (app_now c)) (kept_marks c awaits.one (container_view h t c) (put_if (is_app id c.attempt.app) (new_record id s) (container_view h t c).found) alone says))
            (λ c same says. subst (λ (v : ContainerView). RemovalInvariant c v) (sym (app_now c)) (λ x l. says (put_stale c id s (is_app id c.attempt.app) (container_view h t c).found x) l)) all;
      }

-- the record with that end
abbrev with_ended : AttemptId → How → List ℕ → AppRecord → AppRecord
with_ended id how text one = record one { attempts = map (with_end id how text) one.attempts }

-- an attempt that goes on is numbered
going_number : (id : AttemptId) (found : Option AppRecord) → LastIsOpen found id → 1 ≤ id.number
going_number id found g = of (attempts_in found) g.2 g.3
  where
    of : (attempts : List AttemptRecord) → is_some_and (is_open_one id) (last_attempt attempts) ≡ true → id.number ≡ length attempts → 1 ≤ id.number
    of [] e n = cc
    of (one ∷ more) e n = omega (arith, n)

-- Kept AttemptEnd
module _ (settings : Settings) (h : History) (t : Tables) (k : AppsInvariant settings h t) (all : ContainersInvariant h t) (id : AttemptId) (how : How) (text : List ℕ) (rest : List Op) (front : t.awaiting ≡ ops.AttemptEnd id how text ∷ rest) where
  -- the tables without the operation, the history after it, and the tables with what is recorded by it
  abbrev end_left : Tables
  end_left = record t { awaiting = drop 1 t.awaiting }

  abbrev after_end : History
  after_end = attempt_over settings h t k id how text rest front

  abbrev end_recorded : Tables
  end_recorded = record end_left { tree = recorded t.tree (ops.AttemptEnd id how text); handed = false; rows = (kept (ops.AttemptEnd id how text) t).rows; asks = (kept (ops.AttemptEnd id how text) t).asks }

  end_now : (c : ContainerId) → container_view after_end (kept (ops.AttemptEnd id how text) t) c
      ≡ record (container_view h t c) { found = changed_if (is_app id.app c.attempt.app) (with_ended id how text) (container_view h t c).found; removals = one_if (is_app id.app c.attempt.app) (container_view h t c).removals }
  end_now c =
      let taken = op_taken h t c (ops.AttemptEnd id how text) rest front in
      let posted = main_posted after_end (record end_recorded { sched = t.sched ++ scheds.AttemptRemoved id ∷ [] }) c (mains.AttemptDone id) in
      let removed_ = sched_posted after_end end_recorded c (scheds.AttemptRemoved id) in
      let found : container_view after_end end_recorded c ≡ record (container_view h end_left c) { found = changed_if (is_app id.app c.attempt.app) (with_ended id how text) (container_view h end_left c).found } =
      rw (record_changed (with_ended id how text) (λ one. refl) id.app c.attempt.app t.tree.apps) refl in
      posted ∙ removed_ ∙ ap (λ (v : ContainerView). record v { removals = one_if (is_app id.app c.attempt.app) v.removals }) (found ∙ ap (λ (v : ContainerView). record v { found = changed_if (is_app id.app c.attempt.app) (with_ended id how text) v.found }) (sym taken))

  same_number : (n : ℕ) → (n == n) ≡ true
  same_number n = grind (arith, nat_tests)

  end_waits : EndAwaits settings id (row_of t.rows id.app) (view h end_left id)
  end_waits =
      let own : op_view id (ops.AttemptEnd id how text) (view h end_left id) ≡ with_end_op id (view h end_left id) = rw (app_itself id.app, same_number id.number) refl in
      end_awaits settings id (view h end_left id) (row_of t.rows id.app) (subst (λ (v : View). RowInvariant settings id (row_of t.rows id.app) v) (views.op_taken h t id (ops.AttemptEnd id how text) rest front ∙ own) (k.all id))

  pub attempt_end_kept_joins : t.handed ≡ true → PreservesContainers settings h t (KeptEntry (ops.AttemptEnd id how text)) after_end (kept (ops.AttemptEnd id how text) t)
  attempt_end_kept_joins handed =
      let awaits = end_waits in
      let ended = ended_record id how text (record_of t.tree.apps id.app) awaits.goes in
      let at_current = awaits.current_is in
      let at_state = awaits.state in
      let number = awaits.number in
      let some_number : 1 ≤ awaits.current.number = rw number (going_number id (record_of t.tree.apps id.app) awaits.goes) in
      record {
        step = attempt_end_kept_steps settings h t k id how text rest front handed;
        marks =
            marks_changed h after_end t (kept (ops.AttemptEnd id how text) t) id.app (changed (of_app.OfAttempt (of_attempt.KeepEnd how))) (Some awaits.one) (λ q. row_changed (changed (of_app.OfAttempt (of_attempt.KeepEnd how))) id.app q t.rows) awaits.is
            (λ c other. end_now c ∙ rw other refl)
            (λ c same says.
            let here : id.app ≡ c.attempt.app = same_app id.app c.attempt.app same in
            let lengths : length (attempts_in (option_map (with_ended id how text) (record_of t.tree.apps c.attempt.app))) ≡ length (attempts_in (record_of t.tree.apps c.attempt.app)) = rw (← here) ended.same in
            let now : container_view after_end (kept (ops.AttemptEnd id how text) t) c ≡ record (container_view h t c) { found = option_map (with_ended id how text) (container_view h t c).found; removals = suc (container_view h t c).removals } = end_now c ∙ rw same refl in
            subst (λ (v : ContainerView). ContainerInvariant c (Some (changed (of_app.OfAttempt (of_attempt.KeepEnd how)) awaits.one)) v) (sym now)
            (ended_marks c awaits.one (container_view h t c) awaits.current awaits.current_is (changed (of_app.OfAttempt (of_attempt.KeepEnd how)) awaits.one) (rw (at_current, at_state) refl) awaits.state
            (option_map (with_ended id how text) (record_of t.tree.apps c.attempt.app)) lengths (subst (λ (i : AppId). awaits.current.number ≡ length (attempts_in (record_of t.tree.apps i))) here (number ∙ awaits.goes.3)) some_number (awaits.current.number == c.attempt.number) refl (suc (container_view h t c).removals) says))
            (λ c same says.
            let now : container_view after_end (kept (ops.AttemptEnd id how text) t) c ≡ record (container_view h t c) { found = option_map (with_ended id how text) (container_view h t c).found; removals = suc (container_view h t c).removals } = end_now c ∙ rw same refl in
            subst (λ (v : ContainerView). RemovalInvariant c v) (sym now) (λ s l. omega arith)) all;
      }

-- whether AttemptRemoved is posted as an application ends: its attempt was dropped, or it has ended and left some containers over
abbrev posts_at : AttemptState → Bool → Bool
posts_at attempts.Scheduled keep = false
posts_at attempts.Granted keep = false
posts_at attempts.Saving keep = false
posts_at attempts.Live keep = false
posts_at attempts.Registered keep = false
posts_at attempts.Finishing keep = false
posts_at attempts.Ending keep = false
posts_at attempts.Ended keep = keep
posts_at attempts.Dropped keep = true

abbrev posts : Bool → Option Current → Bool
posts keep None = false
posts keep (Some current) = posts_at current.state keep

-- what is posted of it
if_count : (c : ContainerId) (id : AttemptId) (b : Bool) (xs : List SchedEvent) → count_by (is_attempt_removal c) (xs ++ removed_if b id) ≡ one_if (b && is_app id.app c.attempt.app) (count_by (is_attempt_removal c) xs)
if_count c id true xs = at_end (is_attempt_removal c) xs (scheds.AttemptRemoved id)
if_count c id false xs = rw (append-nil xs) refl

at_count : (c : ContainerId) (id : AttemptId) (s : AttemptState) (keep : Bool) (xs : List SchedEvent) → count_by (is_attempt_removal c) (xs ++ removed_at s keep id) ≡ one_if (posts_at s keep && is_app id.app c.attempt.app) (count_by (is_attempt_removal c) xs)
at_count c id attempts.Dropped keep xs = if_count c id true xs
at_count c id attempts.Ended keep xs = if_count c id keep xs
at_count c id attempts.Scheduled keep xs = rw (append-nil xs) refl
at_count c id attempts.Granted keep xs = rw (append-nil xs) refl
at_count c id attempts.Saving keep xs = rw (append-nil xs) refl
at_count c id attempts.Live keep xs = rw (append-nil xs) refl
at_count c id attempts.Registered keep xs = rw (append-nil xs) refl
at_count c id attempts.Finishing keep xs = rw (append-nil xs) refl
at_count c id attempts.Ending keep xs = rw (append-nil xs) refl

posted_count : (c : ContainerId) (id : AppId) (keep : Bool) (o : Option Current) (xs : List SchedEvent) → count_by (is_attempt_removal c) (xs ++ removed_of o keep id) ≡ one_if (posts keep o && is_app id c.attempt.app) (count_by (is_attempt_removal c) xs)
posted_count c id keep None xs = rw (append-nil xs) refl
posted_count c id keep (Some current) xs = at_count c (record { app = id; number = current.number }) current.state keep xs

-- the record with the end of the application
abbrev with_app_end : How → List ℕ → ℕ → AppRecord → AppRecord
with_app_end how text order one = record one { ending = Some (how, text); end_order = order }

same_attempts : (how : How) (text : List ℕ) (order : ℕ) (found : Option AppRecord) → attempts_in (option_map (with_app_end how text order) found) ≡ attempts_in found
same_attempts how text order None = refl
same_attempts how text order (Some one) = refl

-- the end of an application without an attempt is kept
final_alone : (c : ContainerId) (row : AppRow) (v : ContainerView) (how : How) (new : Option AppRecord) (removals : ℕ) → row.current ≡ None → ContainerInvariant c (Some row) v → ContainerInvariant c (Some (changed (of_app.KeepEnd how) row)) (record v { found = new; removals = removals })
final_alone c row v how new removals is good =
    let says : ContainerByCurrent c None v = rw is at good.1 in
    (good.0, rw is says)

-- whatever of an application lives as its end is kept was stale, or AttemptRemoved is posted
living_alone : (c : ContainerId) (row : AppRow) (v : ContainerView) → row.current ≡ None → ContainerInvariant c (Some row) v → v.living ≡ false
living_alone c row v is good = let says : ContainerByCurrent c None v = rw is at good.1 in says.1

among_or_not : (c : ContainerId) (row : AppRow) (current : Current) (v : ContainerView) → row.current ≡ Some current → current.state ≡ attempts.Ended → ContainerInvariant c (Some row) v → v.living ≡ true
    → (1 ≤ c.attempt.number) × (c.attempt.number ≤ length (attempts_in v.found))
among_or_not c row current v is e good living = of (is_among_first c.attempt (length (attempts_in v.found))) refl (by (current.number == c.attempt.number) (rw is at good.1))
  where
    by : (b : Bool) → ContainerByNumber c b current v → Unnumbered c v
    by true says = rw e at says
    by false says = says

    of : (b : Bool) → is_among_first c.attempt (length (attempts_in v.found)) ≡ b → Unnumbered c v → (1 ≤ c.attempt.number) × (c.attempt.number ≤ length (attempts_in v.found))
    of true a says = (grind (arith, nat_tests), grind (arith, nat_tests))
    of false a says = absurd (let u = (says a).1 in cc)

-- Kept AppEnd
module _ (settings : Settings) (h : History) (t : Tables) (k : AppsInvariant settings h t) (all : ContainersInvariant h t) (each : RecordsAreSound t.tree.apps) (id : AppId) (how : How) (text : List ℕ) (rest : List Op) (front : t.awaiting ≡ ops.AppEnd id how text ∷ rest) where
  -- the tables without the operation, the history after it, and the tables with what is recorded by it
  abbrev over_left : Tables
  over_left = record t { awaiting = drop 1 t.awaiting }

  abbrev after_over : History
  after_over = app_over settings h t k id how text rest front

  abbrev over_recorded : Tables
  over_recorded = record over_left { tree = recorded t.tree (ops.AppEnd id how text); handed = false; rows = (kept (ops.AppEnd id how text) t).rows; going = (kept (ops.AppEnd id how text) t).going; ended = t.ended ++ id ∷ [] }

  over_waits : OverAwaits (row_of t.rows id) (view h over_left (record { app = id; number = 0 }))
  over_waits =
      let good = subst (λ (v : View). RowInvariant settings (record { app = id; number = 0 }) (row_of t.rows id) v) (views.op_taken h t (record { app = id; number = 0 }) (ops.AppEnd id how text) rest front) (k.all (record { app = id; number = 0 })) in
      over_awaits settings (record { app = id; number = 0 }) (row_of t.rows id) (view h over_left (record { app = id; number = 0 })) (let g = rw (app_itself id) at good in g)

  -- it keeps, as it did before its end was recorded
  abbrev keeping : Bool
  keeping = keeps (record_of t.tree.apps id)

  over_now : (c : ContainerId) → container_view after_over (kept (ops.AppEnd id how text) t) c
      ≡ record (container_view h t c) { found = changed_if (is_app id c.attempt.app) (with_app_end how text t.tree.applied) (container_view h t c).found; removals = one_if (posts keeping over_waits.one.current && is_app id c.attempt.app) (container_view h t c).removals }
  over_now c =
      let taken = op_taken h t c (ops.AppEnd id how text) rest front in
      let at_row = over_waits.is in
      let posted : count_by (is_attempt_removal c) (t.sched ++ removed_by (row_of t.rows id) (keeps (record_of (recorded t.tree (ops.AppEnd id how text)).apps id)) id) ≡ one_if (posts keeping over_waits.one.current && is_app id c.attempt.app) (count_by (is_attempt_removal c) t.sched) = let still = keeps_still id how text t.tree.applied t.tree.apps in rw (still, at_row) (posted_count c id keeping over_waits.one.current t.sched) in
      let dropped : container_view after_over (kept (ops.AppEnd id how text) t) c ≡ record (container_view after_over (record over_recorded { main = t.main ++ mains.Retire ∷ [] }) c) { removals = one_if (posts keeping over_waits.one.current && is_app id c.attempt.app) (count_by (is_attempt_removal c) t.sched) } =
      ap (λ (n : ℕ). record (container_view after_over (record over_recorded { main = t.main ++ mains.Retire ∷ [] }) c) { removals = n }) posted in
      let retired_ = main_posted after_over over_recorded c mains.Retire in
      let found : container_view after_over over_recorded c ≡ record (container_view h over_left c) { found = changed_if (is_app id c.attempt.app) (with_app_end how text t.tree.applied) (container_view h over_left c).found } =
      rw (record_changed (with_app_end how text t.tree.applied) (λ one. refl) id c.attempt.app t.tree.apps) refl in
      let rest_ : container_view after_over (record over_recorded { main = t.main ++ mains.Retire ∷ [] }) c ≡ record (container_view h t c) { found = changed_if (is_app id c.attempt.app) (with_app_end how text t.tree.applied) (container_view h t c).found } =
      retired_ ∙ found ∙ ap (λ (v : ContainerView). record v { found = changed_if (is_app id c.attempt.app) (with_app_end how text t.tree.applied) v.found }) (sym taken) in
      dropped ∙ ap (λ (v : ContainerView). record v { removals = one_if (posts keeping over_waits.one.current && is_app id c.attempt.app) (container_view h t c).removals }) rest_

  own_final : (c : ContainerId) (removals : ℕ) (o : Option Current) → over_waits.one.current ≡ o → EndIssuedInvariant o (view h t (record { app = id; number = 0 })) → ContainerInvariant c (Some over_waits.one) (container_view h t c)
      → ContainerInvariant c (Some (changed (of_app.KeepEnd how) over_waits.one)) (record (container_view h t c) { found = option_map (with_app_end how text t.tree.applied) (container_view h t c).found; removals = removals })
  own_final c removals None is over says = final_alone c over_waits.one (container_view h t c) how (option_map (with_app_end how text t.tree.applied) (container_view h t c).found) removals is says
  own_final c removals (Some current) is over says =
      final_marks c over_waits.one (container_view h t c) current is how (option_map (with_app_end how text t.tree.applied) (container_view h t c).found) (ap length (same_attempts how text t.tree.applied (container_view h t c).found)) over.0
      (current.number == c.attempt.number) refl removals says

  -- what lives is stale already, or is to go by what is posted
  own_removed : (c : ContainerId) → is_app id c.attempt.app ≡ true → AllHaveEnded (record_of t.tree.apps id) → EndIssuedInvariant over_waits.one.current (view h t (record { app = id; number = 0 })) → ContainerInvariant c (Some over_waits.one) (container_view h t c) → RemovalInvariant c (container_view h t c)
      → (container_view h t c).living ≡ true → 1 ≤ one_if (posts keeping over_waits.one.current && is_app id c.attempt.app) (container_view h t c).removals
  own_removed c same stopped over says removal living = by over_waits.one.current refl over
    where
      here : id ≡ c.attempt.app
      here = same_app id c.attempt.app same

      stale : (found : Option AppRecord) → record_of t.tree.apps id ≡ found → keeps found ≡ false → is_some (find (λ one. is_attempt one.id c.attempt) (attempts_in found)) ≡ true → stale_by c found ≡ true
      stale None f e some = refl
      stale (Some one) f e some = ended_stale c one e (rw f at stopped.2) some

      found_here : (found : Option AppRecord) → record_of t.tree.apps c.attempt.app ≡ found → 1 ≤ c.attempt.number → c.attempt.number ≤ length (attempts_in found) → is_some (find (λ one. is_attempt one.id c.attempt) (attempts_in found)) ≡ true
      found_here None f lo hi = absurd (omega (arith, lo, hi))
      found_here (Some one) f lo hi = among_found c.attempt.app 0 c.attempt.number one.attempts (each c.attempt.app one f).numbered (omega (arith, lo)) (omega (arith, hi))

      ended : (current : Current) → over_waits.one.current ≡ Some current → current.state ≡ attempts.Ended → (b : Bool) → keeping ≡ b → 1 ≤ one_if (b && is_app id c.attempt.app) (container_view h t c).removals
      ended current is e true f = rw same (omega arith)
      ended current is e false f =
          let r = among_or_not c over_waits.one current (container_view h t c) is e says living in
          let found = found_here (record_of t.tree.apps c.attempt.app) refl r.0 r.1 in
          let is_stale : stale_by c (record_of t.tree.apps c.attempt.app) ≡ true =
          subst (λ (i : AppId). is_some (find (λ one. is_attempt one.id c.attempt) (attempts_in (record_of t.tree.apps i))) ≡ true → stale_by c (record_of t.tree.apps i) ≡ true) here (stale (record_of t.tree.apps id) refl f) found in
          removal is_stale living

      by : (o : Option Current) → over_waits.one.current ≡ o → EndIssuedInvariant o (view h t (record { app = id; number = 0 })) → 1 ≤ one_if (posts keeping o && is_app id c.attempt.app) (container_view h t c).removals
      by None is over_ = absurd (let n = living_alone c over_waits.one (container_view h t c) is says in cc)
      by (Some current) is over_ = of current is over_.0
        where
          of : (current : Current) → over_waits.one.current ≡ Some current → (current.state ≡ attempts.Ended) ⊎ (current.state ≡ attempts.Dropped) → 1 ≤ one_if (posts keeping (Some current) && is_app id c.attempt.app) (container_view h t c).removals
          of current is (inl e) = rw e (ended current is e keeping refl)
          of current is (inr e) = rw (e, same) (omega arith)

  pub app_end_kept_joins : t.handed ≡ true → PreservesContainers settings h t (KeptEntry (ops.AppEnd id how text)) after_over (kept (ops.AppEnd id how text) t)
  app_end_kept_joins handed =
      let awaits = over_waits in
      let at_row = awaits.is in
      let good : RowInvariant settings (record { app = id; number = 0 }) (Some awaits.one) (view h t (record { app = id; number = 0 })) = rw at_row at (k.all (record { app = id; number = 0 })) in
      let says : StateInvariant settings (record { app = id; number = 0 }) apps.FinalSaving awaits.one (view h t (record { app = id; number = 0 })) =
      subst (λ (s : AppState). StateInvariant settings (record { app = id; number = 0 }) s awaits.one (view h t (record { app = id; number = 0 }))) awaits.state good.1 in
      record {
        step = app_end_kept_steps settings h t k id how text rest front handed;
        marks =
            marks_changed h after_over t (kept (ops.AppEnd id how text) t) id (changed (of_app.KeepEnd how)) (Some awaits.one) (λ q. row_changed (changed (of_app.KeepEnd how)) id q t.rows) awaits.is
            (λ c other. over_now c ∙ rw other (if_none (posts keeping over_waits.one.current) (container_view h t c)))
            (λ c same marks_say.
            let now : container_view after_over (kept (ops.AppEnd id how text) t) c ≡ record (container_view h t c) { found = option_map (with_app_end how text t.tree.applied) (container_view h t c).found; removals = one_if (posts keeping over_waits.one.current && is_app id c.attempt.app) (container_view h t c).removals } = over_now c ∙ rw same refl in
            subst (λ (v : ContainerView). ContainerInvariant c (Some (changed (of_app.KeepEnd how) awaits.one)) v) (sym now)
            (own_final c (one_if (posts keeping over_waits.one.current && is_app id c.attempt.app) (container_view h t c).removals) over_waits.one.current refl says.6 marks_say))
            (λ c same removal. subst (λ (v : ContainerView). RemovalInvariant c v) (sym (over_now c)) (λ s living.
            let here : id ≡ c.attempt.app = same_app id c.attempt.app same in
            let marks_say : ContainerInvariant c (Some over_waits.one) (container_view h t c) = subst (λ (o : Option AppRow). ContainerInvariant c o (container_view h t c)) (subst (λ (i : AppId). row_of t.rows i ≡ Some over_waits.one) here awaits.is) (all c).0 in
            own_removed c same says.0 says.6 marks_say removal living)) all;
      }
    where
      if_none : (b : Bool) (v : ContainerView) → record v { removals = one_if (b && false) v.removals } ≡ v
      if_none true v = refl
      if_none false v = refl

some_end : (x : Option (How × List ℕ)) (how : How) → option_map (λ e. e.0) x ≡ Some how → is_some x ≡ true
some_end None how e = cc
some_end (Some x) how e = refl

-- an application whose Remove awaits has a kept end
final_end : (settings : Settings) (q : AttemptId) (row : AppRow) (v : View) (s : AppState) → StateInvariant settings q s row (record v { count = record v.count { removes = suc v.count.removes } }) → is_some (end_in v.found) ≡ true
final_end settings q row v apps.Finished says = some_end (end_in v.found) ways.Finished says.0
final_end settings q row v apps.Failed says = some_end (end_in v.found) ways.Failed says.0
final_end settings q row v apps.Killed says = some_end (end_in v.found) ways.Killed says.0
final_end settings q row v _ says = grind (arith, nat_tests)

-- Kept Remove
module _ (settings : Settings) (h : History) (t : Tables) (k : AppsInvariant settings h t) (all : ContainersInvariant h t) (id : AppId) (rest : List Op) (front : t.awaiting ≡ ops.Remove id ∷ rest) where
  -- the tables without the operation, and the history after it
  abbrev remove_left : Tables
  remove_left = record t { awaiting = drop 1 t.awaiting }

  abbrev after_remove : History
  after_remove = removed settings h t k id rest front

  remove_now : (c : ContainerId) → container_view after_remove (kept (ops.Remove id) t) c ≡ record (container_view h t c) { found = gone_if (is_app id c.attempt.app) (container_view h t c).found; retired = set_if (is_app id c.attempt.app) (container_view h t c).retired }
  remove_now c =
      let taken = op_taken h t c (ops.Remove id) rest front in
      let found : container_view after_remove (kept (ops.Remove id) t) c ≡ record (container_view h remove_left c) { found = gone_if (is_app id c.attempt.app) (container_view h remove_left c).found; retired = set_if (is_app id c.attempt.app) (container_view h remove_left c).retired } =
      rw (found_gone (λ (one : AppRecord). one.id) id c.attempt.app t.tree.apps, has_end h.apps.retired id c.attempt.app) refl in
      found ∙ ap (λ (v : ContainerView). record v { found = gone_if (is_app id c.attempt.app) v.found; retired = set_if (is_app id c.attempt.app) v.retired }) (sym taken)

  pub remove_kept_joins : t.handed ≡ true → PreservesContainers settings h t (KeptEntry (ops.Remove id)) after_remove (kept (ops.Remove id) t)
  remove_kept_joins handed = record { step = remove_kept_steps settings h t k id rest front handed; marks = λ c. (rw (row_gone id c.attempt.app t.rows) (by c (is_app id c.attempt.app) refl), subst (λ (v : ContainerView). RemovalInvariant c v) (sym (remove_now c)) (gone_over c (is_app id c.attempt.app) refl)) }
    where
      -- what lives of it was stale, since its end was kept
      ended_before : (c : ContainerId) → is_app id c.attempt.app ≡ true → (o : Option AppRow) → RowInvariant settings c.attempt o (op_view c.attempt (ops.Remove id) (view h remove_left c.attempt)) → stale_by c (record_of t.tree.apps c.attempt.app) ≡ true
      ended_before c same None good = let none = good.no_record in rw none refl
      ended_before c same (Some row) good =
          let with_it : RowInvariant settings c.attempt (Some row) (record (view h remove_left c.attempt) { count = record (counts h remove_left c.attempt) { removes = suc (counts h remove_left c.attempt).removes } }) = rw same at good in
          of (record_of t.tree.apps c.attempt.app) (final_end settings c.attempt row (view h remove_left c.attempt) row.state with_it.1)
        where
          of : (found : Option AppRecord) → is_some (end_in found) ≡ true → stale_by c found ≡ true
          of None e = refl
          of (Some one) e = rw e refl

      gone_over : (c : ContainerId) (b : Bool) → is_app id c.attempt.app ≡ b → RemovalInvariant c (record (container_view h t c) { found = gone_if b (container_view h t c).found; retired = set_if b (container_view h t c).retired })
      gone_over c true same = λ s l.
          (all c).1 (ended_before c same (row_of t.rows c.attempt.app) (subst (λ (v : View). RowInvariant settings c.attempt (row_of t.rows c.attempt.app) v) (views.op_taken h t c.attempt (ops.Remove id) rest front) (k.all c.attempt))) l
      gone_over c false other = (all c).1

      own : (c : ContainerId) (o : Option AppRow) → ContainerInvariant c o (container_view h t c) → ContainerInvariant c None (record (container_view h t c) { found = None; retired = true })
      own c None says = (says.0, λ r. cc)
      own c (Some row) says = gone_marks c row (container_view h t c) says

      by : (c : ContainerId) (b : Bool) → is_app id c.attempt.app ≡ b → ContainerInvariant c (gone_if b (row_of t.rows c.attempt.app)) (container_view after_remove (kept (ops.Remove id) t) c)
      by c true e =
          let now : container_view after_remove (kept (ops.Remove id) t) c ≡ record (container_view h t c) { found = None; retired = true } = remove_now c ∙ rw e refl in
          subst (λ (v : ContainerView). ContainerInvariant c None v) (sym now)
          (own c (row_of t.rows c.attempt.app) (all c).0)
      by c false e =
          let now : container_view after_remove (kept (ops.Remove id) t) c ≡ container_view h t c = remove_now c ∙ rw e refl in
          subst (λ (v : ContainerView). ContainerInvariant c (row_of t.rows c.attempt.app) v) (sym now) (all c).0

-- a submission is taken of an application that isn't known and was not removed
pub joined_marks : (settings : Settings) (h : History) (t : Tables) (says : AttemptsInvariant settings h t) (all : ContainersInvariant h t) (id : AppId) (s : Submission) → row_of t.rows id ≡ None → is_retired t.rows id ≡ false
    → ((q : AttemptId) → is_app id q.app ≡ true → (view h t q).retired ≡ false) → ContainersInvariant (submitting settings h t says id s) (joining settings h t says id s)
joined_marks settings h t says all id s found fresh stays = λ c. (rw (row_put id c.attempt.app (row_new s) t.rows fresh) (subst (λ (v : ContainerView). ContainerInvariant c (put_if (is_app id c.attempt.app) (row_new s) (row_of t.rows c.attempt.app)) v) (sym (main_posted h t c (mains.AppStart id))) (by c (is_app id c.attempt.app) refl)), subst (λ (v : ContainerView). RemovalInvariant c v) (sym (main_posted h t c (mains.AppStart id))) (all c).1)
  where
    by : (c : ContainerId) (b : Bool) → is_app id c.attempt.app ≡ b → ContainerInvariant c (put_if b (row_new s) (row_of t.rows c.attempt.app)) (container_view h t c)
    by c true e =
        let same : id ≡ c.attempt.app = same_app id c.attempt.app e in
        let none : row_of t.rows c.attempt.app ≡ None = rw (← same) found in
        let old : ContainerInvariant c None (container_view h t c) = rw none at (all c).0 in
        rw none (new_marks c (row_new s) (container_view h t c) refl (stays c.attempt e) old)
    by c false e = (all c).0

-- a client wishes to kill an application for the first time in a life: its attempt stays as it is
wish_current : (o : Option Current) → current_after of_app.Wish o ≡ o
wish_current None = refl
wish_current (Some current) = refl

pub wished_marks : (h : History) (t : Tables) (all : ContainersInvariant h t) (id : AppId) (wishes : List AppId) (row : AppRow) → row_of t.rows id ≡ Some row
    → ContainersInvariant (record h { apps = record h.apps { wishes = wishes } }) (record t { rows = with_row (changed of_app.Wish) id t.rows; main = t.main ++ mains.AppKill id ∷ [] })
wished_marks h t all id wishes row found =
    marks_still h (record h { apps = record h.apps { wishes = wishes } }) t (record t { rows = with_row (changed of_app.Wish) id t.rows; main = t.main ++ mains.AppKill id ∷ [] }) id (changed of_app.Wish) row (λ q. row_changed (changed of_app.Wish) id q t.rows) found
    (λ c. main_posted h (record t { rows = with_row (changed of_app.Wish) id t.rows }) c (mains.AppKill id))
    (λ c same says. let stays = wish_current row.current in (says.0, rw stays says.1)) all
