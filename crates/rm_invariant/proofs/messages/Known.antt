-- What a client may be told of an application follows from what holds of its row: whether it is known, has tried, is being saved.
use Rattle.rm_invariant.proofs.Common.{◌≡◌, ℕ, ◌≤◌, ◌⊎◌, inl, inr, List, [], ◌∷◌, Bool, true, false, not, Option, None, Some, length, refl, ◌∙◌, ap, arith, or_right, AppId, AttemptId, How, Submitted, AppRecord, AttemptRecord, Settings, is_app, is_nil, is_some_and, last_attempt, record_of, attempts_in, end_in, is_known, waiting_submission, AppState, AttemptState, AppRow, Current, Tables, row_of, History, abstract_scene, has_failed}
use Rattle.std.proofs.Common.{is_some, option_map}
use Rattle.rm_model.specs.Facts.{is_submitted}
use Rattle.rm_states.specs.declared.app.states.AppState.TheVariants as apps
use Rattle.rm_states.specs.declared.attempt.states.AttemptState.TheVariants as attempts
use Rattle.rm_invariant.specs.apps.Invariant.{ActiveInvariant, CurrentInvariant, MayFollowInView, EndIssuedInvariant, RowInvariant, StateInvariant, has_tried}
use Rattle.rm_invariant.specs.apps.View.{View, view}
use Rattle.rm_invariant.proofs.apps.Events.{at}
use Rattle.rm_refinement.specs.Clients.{is_saving_app}
use Rattle.rm_invariant.specs.Step.{AppsInvariant}

-- an attempt is found only where there is one
some_attempt : (p : AttemptRecord → Bool) (all : List AttemptRecord) → is_some_and p (last_attempt all) ≡ true → not (is_nil all) ≡ true
some_attempt p [] e = cc
some_attempt p (one ∷ more) e = refl

module _ (settings : Settings) (q : AttemptId) (v : View) where
  by_last : (p : AttemptRecord → Bool) → is_some_and p (last_attempt (attempts_in v.found)) ≡ true → has_tried v ≡ true
  by_last p e = or_right v.accepted (not (is_nil (attempts_in v.found))) (some_attempt p (attempts_in v.found) e)

  by_follows : (number : ℕ) → MayFollowInView settings number v → has_tried v ≡ true
  by_follows number (n, inl first) = let e = first.1 in rw e refl
  by_follows number (n, inr failed) = by_last has_failed failed.0

  by_length : (all : List AttemptRecord) → 1 ≤ length all → not (is_nil all) ≡ true
  by_length [] n = absurd (omega (arith, n))
  by_length (one ∷ more) n = refl

  -- an application has tried exactly where its row has an attempt
  current_tried : (s : AttemptState) (id : AttemptId) (wish : Bool) → CurrentInvariant settings s id wish v → has_tried v ≡ true
  current_tried attempts.Scheduled id wish says = by_follows id.number says.1
  current_tried attempts.Granted id wish says = by_follows id.number says.1
  current_tried attempts.Saving id wish says = by_follows id.number says.1
  current_tried attempts.Ended id wish says = or_right v.accepted (not (is_nil (attempts_in v.found))) (by_length (attempts_in v.found) (let a = says.1 in let b = says.2 in omega (arith, a, b)))
  current_tried attempts.Dropped id wish says = absurd says
  current_tried _ id wish says = by_last _ says.0.2

  active_tried : (c : Option Current) (wish : Bool) → ActiveInvariant settings q c wish v → has_tried v ≡ is_some c
  active_tried None wish says = absurd says
  active_tried (Some current) wish says = current_tried current.state (record { app = q.app; number = current.number }) wish says.0

  over_tried : (c : Option Current) → EndIssuedInvariant c v → has_tried v ≡ is_some c
  over_tried None says = says.1
  over_tried (Some current) says = says.2

  pub tried : (row : AppRow) (s : AppState) → StateInvariant settings q s row v → has_tried v ≡ is_some row.current
  tried row apps.New says = let n = says.0 in let a = n.no_record in let b = n.not_accepted in let c = n.no_attempt in rw (a, b, c) refl
  tried row apps.NewSaving says = let n = says.0 in let a = n.no_record in let b = n.not_accepted in let c = n.no_attempt in rw (a, b, c) refl
  tried row apps.Submitted says = let a = says.1 in let b = says.4 in let c = says.3 in rw (a, b, c) refl
  tried row apps.Accepted says = active_tried row.current row.wish says.3
  tried row apps.Running says = active_tried row.current row.wish says.3
  tried row apps.Killing says = active_tried row.current row.wish says.5
  tried row apps.FinalSaving says = over_tried row.current says.6
  tried row _ says = over_tried row.current says.5

  -- an application with a row waits or is kept
  ended_found : (how : How) (found : Option AppRecord) → option_map (λ e. e.0) (end_in found) ≡ Some how → is_some found ≡ true
  ended_found how None e = cc
  ended_found how (Some one) e = refl

  current_found : (s : AttemptState) (id : AttemptId) (wish : Bool) → CurrentInvariant settings s id wish v → is_some v.found ≡ true
  current_found attempts.Dropped id wish says = absurd says
  current_found _ id wish says = says.0.0

  active_found : (c : Option Current) (wish : Bool) → ActiveInvariant settings q c wish v → is_some v.found ≡ true
  active_found None wish says = absurd says
  active_found (Some current) wish says = current_found current.state (record { app = q.app; number = current.number }) wish says.0

  pub there : (row : AppRow) (s : AppState) → StateInvariant settings q s row v → (is_some row.pending ≡ true) ⊎ (is_some v.found ≡ true)
  there row apps.New says = inl says.0.some_waits
  there row apps.NewSaving says = inl says.0.some_waits
  there row apps.Submitted says = inr says.0.0
  there row apps.Accepted says = inr (active_found row.current row.wish says.3)
  there row apps.Running says = inr (active_found row.current row.wish says.3)
  there row apps.Killing says = inr (active_found row.current row.wish says.5)
  there row apps.FinalSaving says = inr says.0.0
  there row _ says = inr (ended_found _ v.found says.0)

  -- its App awaits exactly where it is being saved
  active_apps : (c : Option Current) (wish : Bool) → ActiveInvariant settings q c wish v → v.count.apps ≡ 0
  active_apps None wish says = absurd says
  active_apps (Some current) wish says = by current.state says.0
    where
      by : (s : AttemptState) → CurrentInvariant settings s (record { app = q.app; number = current.number }) wish v → v.count.apps ≡ 0
      by attempts.Saving at_ = let a = at_.2 in let b = at_.3 in omega (arith, a, b)
      by attempts.Ending at_ = let a = at_.1 in let b = at_.2 in omega (arith, a, b)
      by s at_ = grind arith

  pub saves : (row : AppRow) (s : AppState) → StateInvariant settings q s row v → (1 ≤ v.count.apps) × (is_saving_app s ≡ true) ⊎ (v.count.apps ≡ 0) × (is_saving_app s ≡ false)
  saves row apps.New says = inr ((let a = says.2 in omega (arith, a)), refl)
  saves row apps.NewSaving says = inl ((let a = says.2 in omega (arith, a)), refl)
  saves row apps.Submitted says = inr ((let a = says.6 in omega (arith, a)), refl)
  saves row apps.Accepted says = inr (active_apps row.current row.wish says.3, refl)
  saves row apps.Running says = inr (active_apps row.current row.wish says.3, refl)
  saves row apps.Killing says = inr (active_apps row.current row.wish says.5, refl)
  saves row apps.FinalSaving says = inr ((let a = says.3 in let b = says.4 in omega (arith, a, b)), refl)
  saves row _ says = inr ((let a = says.3 in omega (arith, a)), refl)

-- a submission waits exactly where one was submitted
pub submitted_is : (submitted : List Submitted) (id : AppId) → is_submitted submitted id ≡ is_some (waiting_submission submitted id)
submitted_is [] id = refl
submitted_is (one ∷ more) id = by (is_app one.id id) refl (submitted_is more id)
  where
    by : (b : Bool) → is_app one.id id ≡ b → is_submitted more id ≡ is_some (waiting_submission more id) → is_submitted (one ∷ more) id ≡ is_some (waiting_submission (one ∷ more) id)
    by true e h = rw e refl
    by false e h = rw e h

-- what is found of an application where the tables have no row: nothing is recorded and nothing waits
pub record IsNew (h : History) (t : Tables) (id : AppId) : Type 0 where
  pub unkept : record_of t.tree.apps id ≡ None
  pub waits : waiting_submission h.apps.submitted id ≡ None
  pub unknown : is_known (abstract_scene h t) id ≡ false

module _ (settings : Settings) (h : History) (t : Tables) (k : AppsInvariant settings h t) (id : AppId) where
  pub is_new : row_of t.rows id ≡ None → IsNew h t id
  is_new found =
      let says : RowInvariant settings (at id) None (view h t (at id)) = rw found at (k.all (at id)) in
      let unkept : record_of t.tree.apps id ≡ None = says.no_record in
      let waits : waiting_submission h.apps.submitted id ≡ None = says.none_waits in
      let unsubmitted : is_submitted h.apps.submitted id ≡ false = submitted_is h.apps.submitted id ∙ ap is_some waits in
      record { unkept = unkept; waits = waits; unknown = rw (unsubmitted, unkept) refl }

  -- an application is known where they have one
  pub is_known_here : (row : AppRow) → row_of t.rows id ≡ Some row → is_known (abstract_scene h t) id ≡ true
  is_known_here row found =
      let says : RowInvariant settings (at id) (Some row) (view h t (at id)) = rw found at (k.all (at id)) in
      known (there settings (at id) (view h t (at id)) row row.state says.1) says.0.pending
    where
      known : (is_some row.pending ≡ true) ⊎ (is_some (record_of t.tree.apps id) ≡ true) → waiting_submission h.apps.submitted id ≡ row.pending → is_known (abstract_scene h t) id ≡ true
      known (inl waits) e = let s : is_submitted h.apps.submitted id ≡ true = submitted_is h.apps.submitted id ∙ ap is_some e ∙ waits in rw s refl
      known (inr kept) e = or_right (is_submitted h.apps.submitted id) (is_some (record_of t.tree.apps id)) kept
