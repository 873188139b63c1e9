-- An attempt whose master's container is gone waits for another, as a whole step that keeps all that holds of an open life.
use Rattle.rm_invariant.proofs.Common.{◌≡◌, true, false, Option, Some, refl, sym, ◌∙◌, ap, subst, arith, nat_tests, Quiet, AttemptId, ContainerId, Settings, AppRow, Current, Tables, main_popped, main_worked, changed, current_after, with_attempt_requeued, row_of, AttemptAgrees, CurrentAgrees, History, abstract_life}
use Rattle.std.proofs.Common.{◌==◌, is_some}
use Rattle.rm_types.specs.declared.messages.Lane.TheVariants as lanes
use Rattle.rm_states.specs.declared.attempt.states.AttemptState.TheVariants as attempts
use Rattle.rm_tables.specs.declared.changes.AttemptChange.TheVariants as of_attempt
use Rattle.rm_tables.specs.declared.changes.RowChange.TheVariants as of_app
use Rattle.rm_tables.specs.declared.events.SchedEvent.TheVariants as scheds
use Rattle.rm_invariant.proofs.apps.Found.{row_changed}
use Rattle.rm_invariant.specs.masters.Preserves.{PreservesContainersTo}
use Rattle.rm_invariant.specs.events.MainFacts.{IsSilent, UnissuedSilent}
use Rattle.rm_invariant.specs.Core.{CoreInvariant, PreservesCore}
use Rattle.rm_invariant.proofs.events.Changes.{alike_agrees, changed_agrees}
use Rattle.rm_invariant.proofs.events.Moving.{posted_still, same_whole}

module _ (settings : Settings) (h : History) (t : Tables) (w : CoreInvariant settings h t) where
  -- MasterGranted, where no attempt that isn't issued has a dialogue with a master
  module _ (silent : UnissuedSilent t) (container : ContainerId) where
    abbrev attempt : AttemptId
    attempt = container.attempt

    -- it waits for another container
    module _ (row : AppRow) (found : row_of t.rows attempt.app ≡ Some row) (current : Current) (is : row.current ≡ Some current) (st : current.state ≡ attempts.Granted) where
      unregistered : current.registered ≡ false
      unregistered =
          let own : AttemptId = record { app = attempt.app; number = current.number } in
          let of_row : AttemptAgrees h.masters.registered h.granted own row row.current = let y = w.agrees.masters own in rw found at y in
          let of_current : AttemptAgrees h.masters.registered h.granted own row (Some current) = subst (λ (o : Option Current). AttemptAgrees h.masters.registered h.granted own row o) is of_row in
          let self : (current.number == current.number) ≡ true = grind (arith, nat_tests) in
          let says : CurrentAgrees h.masters.registered h.granted own row current = rw self at of_current in
          let quiet_row : IsSilent (Some current) row.dialogue = subst (λ (o : Option Current). IsSilent o row.dialogue) is (silent attempt.app row found) in
          let none = quiet_row (rw st refl) in
          says.1 ∙ ap is_some none

      pub requeued_whole : PreservesContainersTo settings h t (main_worked (Quiet lanes.Main, with_attempt_requeued attempt t)) → PreservesCore settings h t (main_worked (Quiet lanes.Main, with_attempt_requeued attempt t))
      requeued_whole joins =
          same_whole settings h t w (Quiet lanes.Main) (main_popped (with_attempt_requeued attempt t)) h.asks h.apps refl refl joins refl refl
          (changed_agrees (abstract_life h t) t (main_popped (with_attempt_requeued attempt t)) attempt.app (changed (of_app.OfAttempt of_attempt.Requeue)) w.agrees refl refl refl
          (λ q. row_changed (changed (of_app.OfAttempt of_attempt.Requeue)) attempt.app q t.rows) (λ one there. refl)
          (λ one q there e says.
          let same : one ≡ row = let x : Some one ≡ Some row = sym there ∙ found in cc in
          let at_ : one.current ≡ Some current = ap (λ (r : AppRow). r.current) same ∙ is in
          let was : AttemptAgrees h.masters.registered h.granted q one (Some current) = subst (λ (o : Option Current). AttemptAgrees h.masters.registered h.granted q one o) at_ says in
          subst (λ (o : Option Current). AttemptAgrees h.masters.registered h.granted q (changed (of_app.OfAttempt of_attempt.Requeue) one) (current_after (of_app.OfAttempt of_attempt.Requeue) o)) (sym at_)
          (alike_agrees h.masters.registered h.granted q one (changed (of_app.OfAttempt of_attempt.Requeue) one) refl (Some current) (current_after (of_app.OfAttempt of_attempt.Requeue) (Some current))
          (refl, sym unregistered, refl) was)))
          (λ q. posted_still q t.sched (scheds.AttemptAdded attempt) refl)
