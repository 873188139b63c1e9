-- MasterLost, as a whole step: an attempt that is being saved is marked, and one that lives ends.
use Rattle.rm_invariant.proofs.Common.{◌≡◌, ◌⊎◌, inl, inr, ◌&&◌, suc, List, ◌∷◌, Bool, true, false, Option, None, Some, refl, sym, ◌∙◌, ap, arith, Entry, Issued, Quiet, ContainerId, AttemptRecord, Settings, is_container, is_some_and, and_first, container_itself, same_container, kept_attempt, has_container, EndsFor, lost_text, AttemptState, MainEvent, AppRow, Current, Tables, app_changed, attempt_ends, main_popped, main_quiet, main_worked, changed, is_master_of, loss_of_state, loss_of_row, loss_of_current, main_step, row_of, History, abstract_scene}
use Rattle.std.proofs.Common.{◌≢◌, ◌==◌}
use Rattle.rm_types.specs.declared.messages.Lane.TheVariants.{Main as MainLane}
use Rattle.rm_types.specs.declared.operations.How.TheVariants as ways
use Rattle.rm_types.specs.declared.operations.Op.TheVariants as ops
use Rattle.rm_model.specs.Attempts.{has_lost_master}
use Rattle.rm_states.specs.declared.attempt.states.AttemptState.TheVariants as attempts
use Rattle.rm_tables.specs.declared.events.MainEvent.TheVariants as mains
use Rattle.rm_tables.specs.declared.changes.RowChange.TheVariants as of_app
use Rattle.rm_tables.specs.declared.changes.AttemptChange.TheVariants as of_attempt
use Rattle.rm_invariant.specs.Step.{AppsInvariant}
use Rattle.rm_invariant.specs.apps.Invariant.{RowInvariant}
use Rattle.rm_invariant.specs.apps.View.{counts, view}
use Rattle.rm_invariant.proofs.apps.Found.{row_changed}
use Rattle.rm_invariant.specs.masters.Invariant.{ContainersInvariant}
use Rattle.rm_invariant.specs.masters.Preserves.{PreservesContainers, PreservesContainersTo}
use Rattle.rm_invariant.specs.masters.View.{ContainerView, container_view}
use Rattle.rm_invariant.proofs.masters.Ends.{Alive, alive_says, end_step}
use Rattle.rm_invariant.proofs.masters.Stepping.{IsEventOf, IsMarkOf, joins_own}
use Rattle.rm_invariant.proofs.masters.Marking.{MayGo, event_goes, losing_marks}
use Rattle.rm_invariant.proofs.masters.Saying.{active_of, saving_loses}
use Rattle.rm_invariant.proofs.masters.Held.{mine_same}
use Rattle.rm_invariant.proofs.masters.Quieting.{joins_quiet}
use Rattle.rm_invariant.proofs.masters.Effects.{main_taken}
use Rattle.rm_invariant.proofs.masters.Tests.{and_right, not_both}

module _ (settings : Settings) (h : History) (t : Tables) (k : AppsInvariant settings h t) (all : ContainersInvariant h t) (c : ContainerId) (rest : List MainEvent) (front : t.main ≡ mains.MasterLost c ∷ rest) where
  abbrev event : MainEvent
  event = mains.MasterLost c

  event_of : IsEventOf event c.attempt.app
  event_of q n other = refl

  event_mark : IsMarkOf event c.attempt.app
  event_mark d v other = rw other refl

  -- what the event comes to
  abbrev LostSteps : Entry × Tables → Type 0
  LostSteps done = PreservesContainersTo settings h t (main_worked done)

  -- it tells of a container that left
  it_left : has_container h.endings.left c ≡ true
  it_left =
      let e = ap (λ (v : ContainerView). v.losses) (main_taken h t c event rest front) in
      let self = container_itself c in
      let f : (container_view h t c).losses ≡ suc (container_view h (main_popped t) c).losses = e ∙ rw self refl in
      (all c).0.0 (omega (arith, f))

  module _ (row : AppRow) (found : row_of t.rows c.attempt.app ≡ Some row) (current : Current) (is : row.current ≡ Some current) (n : (current.number == c.attempt.number) ≡ true) (m : is_master_of c current.master ≡ true) where
    saving_step : current.state ≡ attempts.Saving → PreservesContainers settings h t (Quiet MainLane) h (main_popped (app_changed (of_app.OfAttempt of_attempt.Lose) c.attempt.app t))
    saving_step st =
        let good : RowInvariant settings c.attempt (Some row) (view h t c.attempt) = rw found at (k.all c.attempt) in
        let goes = active_of settings c.attempt row (view h t c.attempt) current is (rw st refl) good in
        joins_own settings h t k all event rest front (Quiet MainLane) h (main_popped (app_changed (of_app.OfAttempt of_attempt.Lose) c.attempt.app t)) c.attempt.app row (changed (of_app.OfAttempt of_attempt.Lose))
        (inl refl) refl k.recorded k.is_open (λ q. row_changed (changed (of_app.OfAttempt of_attempt.Lose)) c.attempt.app q t.rows) found
        (λ q v. v) (λ q. refl) event_of (λ q v other. refl) (λ q same says. saving_loses settings q row current (view h (main_popped t) q) is goes st says)
        (λ d v. v) (λ d. refl) event_mark (λ d v other. refl)
        (λ d same says. losing_marks d row current (container_view h (main_popped t) d) is st (is_container c d) (current.number == d.attempt.number) refl (is_master_of d current.master) refl
        (λ b o. rw (← mine_same c d current.master m o) (container_itself c)) says) (λ d v says. says)

    lost_by_own : (o : Option AttemptRecord) → kept_attempt (abstract_scene h t) c.attempt ≡ o → is_some_and (λ one. is_container one.master c) o ≡ true → has_lost_master (abstract_scene h t) c.attempt ≡ true
    lost_by_own None e own = cc
    lost_by_own (Some one) e own = let same = same_container one.master c own in rw (e, same) it_left

    alive_step : Alive current.state → PreservesContainers settings h t (Issued (ops.AttemptEnd c.attempt ways.Failed lost_text)) h (main_popped (attempt_ends c.attempt ways.Failed lost_text t))
    alive_step st =
        let says = alive_says settings h t k all event rest front c.attempt row found current is st n c refl in
        let lost : has_lost_master (abstract_scene h t) c.attempt ≡ true = lost_by_own (kept_attempt (abstract_scene h t) c.attempt) refl (says.0 ∙ m) in
        end_step settings h t k all event rest front c.attempt row found current is st n event_of event_mark (λ q. (counts h (main_popped t) q).launches) (λ q same. refl)
        (λ d. false) (λ d. is_container c d) (λ d. false) (λ d. false) (λ d. refl) ways.Failed lost_text (EndsFor.lost lost refl refl)

  -- where it isn't the master of an attempt that is being saved or lives, nothing is to be done
  abbrev IsNotIt : Option AppRow → Type 0
  IsNotIt row = (one : AppRow) (current : Current) → row ≡ Some one → one.current ≡ Some current → (current.state ≡ attempts.Saving) ⊎ Alive current.state → ((current.number == c.attempt.number) && is_master_of c current.master) ≡ false

  quiet_step : (row : Option AppRow) → row_of t.rows c.attempt.app ≡ row → IsNotIt row → LostSteps (main_quiet t)
  quiet_step row found not_it = record {
    next = h;
    joins = joins_quiet settings h t k all event rest front c.attempt.app row found event_of event_mark (λ q same says. says)
        (λ d same says. event_goes d (container_view h (main_popped t) d) false (is_container c d) false false false row (λ one current is at_ n. may d one current is at_ n current.state refl) says);
  }
    where
      gone : (d : ContainerId) (one : AppRow) (current : Current) → row ≡ Some one → one.current ≡ Some current → (current.number == d.attempt.number) ≡ true → (current.state ≡ attempts.Saving) ⊎ Alive current.state → is_master_of d current.master ≡ true → (b : Bool) → is_container c d ≡ b → b ≡ false
      gone d one current is at_ n st m true e =
          let same = same_container c d e in
          let here : (current.number == c.attempt.number) ≡ true = rw same n in
          let z : is_master_of c current.master ≡ false = not_both (current.number == c.attempt.number) (is_master_of c current.master) (not_it one current is at_ st) here in
          absurd (let w : is_master_of d current.master ≡ false = rw (← same) z in cc)
      gone d one current is at_ n st m false e = refl

      may : (d : ContainerId) (one : AppRow) (current : Current) → row ≡ Some one → one.current ≡ Some current → (current.number == d.attempt.number) ≡ true → (s : AttemptState) → current.state ≡ s
          → MayGo s (is_master_of d current.master) false (is_container c d) false false false (container_view h (main_popped t) d).finishing
      may d one current is at_ n attempts.Granted st = λ e. refl
      may d one current is at_ n attempts.Saving st = λ e. gone d one current is at_ n (inl st) e (is_container c d) refl
      may d one current is at_ n attempts.Live st = (λ e. gone d one current is at_ n (inr (inl st)) e (is_container c d) refl, refl, refl, λ f. refl)
      may d one current is at_ n attempts.Registered st = (λ e. gone d one current is at_ n (inr (inr (inl st))) e (is_container c d) refl, refl, refl, λ f. refl)
      may d one current is at_ n attempts.Finishing st = (λ e. gone d one current is at_ n (inr (inr (inr st))) e (is_container c d) refl, refl, refl, λ f. refl)
      may d one current is at_ n _ st = tt

  same_current : (row one : AppRow) (current other : Current) → row.current ≡ Some current → Some row ≡ Some one → one.current ≡ Some other → other ≡ current
  same_current row one current other is x y = let u : one ≡ row = cc in let w : Some other ≡ Some current = sym y ∙ ap (λ (r : AppRow). r.current) u ∙ is in cc

  lost_cases : (row : Option AppRow) → row_of t.rows c.attempt.app ≡ row → LostSteps (loss_of_row row c t)
  lost_cases None found = quiet_step None found (λ one current is at_. cc)
  lost_cases (Some row) found = with_current row.current refl
    where
      not_it : (current : Current) → row.current ≡ Some current → (b : Bool) → ((current.number == c.attempt.number) && is_master_of c current.master) ≡ b → (b ≡ false) ⊎ ((current.state ≡ attempts.Saving) ⊎ Alive current.state → ⊥) → LostSteps (main_quiet t)
      not_it current is b e (inl f) = quiet_step (Some row) found (λ one other x y st. let a = same_current row one current other is x y in rw a (e ∙ f))
      not_it current is b e (inr f) = quiet_step (Some row) found (λ one other x y st. absurd (let a = same_current row one current other is x y in f (rw a at st)))

      other : (current : Current) (s : AttemptState) → current.state ≡ s → s ≢ attempts.Saving → s ≢ attempts.Live → s ≢ attempts.Registered → s ≢ attempts.Finishing → (current.state ≡ attempts.Saving) ⊎ Alive current.state → ⊥
      other current s st a b c d (inl x) = a (sym st ∙ x)
      other current s st a b c d (inr (inl x)) = b (sym st ∙ x)
      other current s st a b c d (inr (inr (inl x))) = c (sym st ∙ x)
      other current s st a b c d (inr (inr (inr x))) = d (sym st ∙ x)

      at_state : (current : Current) → row.current ≡ Some current → (s : AttemptState) → current.state ≡ s → (b : Bool) → ((current.number == c.attempt.number) && is_master_of c current.master) ≡ b → LostSteps (loss_of_state s b c t)
      at_state current is attempts.Saving st true e = record { next = h; joins = saving_step row found current is (and_first (current.number == c.attempt.number) (is_master_of c current.master) e) (and_right (current.number == c.attempt.number) (is_master_of c current.master) e) st }
      at_state current is attempts.Live st true e = record { next = h; joins = alive_step row found current is (and_first (current.number == c.attempt.number) (is_master_of c current.master) e) (and_right (current.number == c.attempt.number) (is_master_of c current.master) e) (inl st) }
      at_state current is attempts.Registered st true e = record { next = h; joins = alive_step row found current is (and_first (current.number == c.attempt.number) (is_master_of c current.master) e) (and_right (current.number == c.attempt.number) (is_master_of c current.master) e) (inr (inl st)) }
      at_state current is attempts.Finishing st true e = record { next = h; joins = alive_step row found current is (and_first (current.number == c.attempt.number) (is_master_of c current.master) e) (and_right (current.number == c.attempt.number) (is_master_of c current.master) e) (inr (inr st)) }
      at_state current is attempts.Scheduled st b e = not_it current is b e (inr (λ x. other current attempts.Scheduled st (λ u. cc) (λ u. cc) (λ u. cc) (λ u. cc) x))
      at_state current is attempts.Granted st b e = not_it current is b e (inr (λ x. other current attempts.Granted st (λ u. cc) (λ u. cc) (λ u. cc) (λ u. cc) x))
      at_state current is attempts.Ending st b e = not_it current is b e (inr (λ x. other current attempts.Ending st (λ u. cc) (λ u. cc) (λ u. cc) (λ u. cc) x))
      at_state current is attempts.Ended st b e = not_it current is b e (inr (λ x. other current attempts.Ended st (λ u. cc) (λ u. cc) (λ u. cc) (λ u. cc) x))
      at_state current is attempts.Dropped st b e = not_it current is b e (inr (λ x. other current attempts.Dropped st (λ u. cc) (λ u. cc) (λ u. cc) (λ u. cc) x))
      at_state current is _ st false e = not_it current is false e (inl refl)

      with_current : (o : Option Current) → row.current ≡ o → LostSteps (loss_of_current o c t)
      with_current None is = quiet_step (Some row) found (λ one current x y. absurd (let u : one ≡ row = cc in let w : Some current ≡ None = sym y ∙ ap (λ (r : AppRow). r.current) u ∙ is in cc))
      with_current (Some current) is = at_state current is current.state refl ((current.number == c.attempt.number) && is_master_of c current.master) refl

  -- MasterLost, for every row and state
  pub lost_joins : PreservesContainersTo settings h t (main_worked (main_step (mains.MasterLost c) t))
  lost_joins = lost_cases (row_of t.rows c.attempt.app) refl
