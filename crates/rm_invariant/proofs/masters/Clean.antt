-- A container of an attempt that waits for its master, lives, or whose end is issued isn't stale.
use Rattle.rm_invariant.proofs.Common.{◌≡◌, ◌+◌, ◌⊎◌, inl, inr, ℕ, true, false, Option, None, Some, find, length, refl, subst, arith, nat_tests, ContainerId, AppRecord, Settings, is_attempt, record_of, attempts_in, AppRow, Current, Tables, row_of, History}
use Rattle.std.proofs.Common.{◌==◌, is_some}
use Rattle.std.specs.Prelude.{option_and_then}
use Rattle.rm_states.specs.declared.attempt.states.AttemptState.TheVariants as attempts
use Rattle.rm_tables.specs.Leaving.{is_stale_in}
use Rattle.rm_invariant.specs.apps.Invariant.{ActiveInvariant, AttemptsInvariant, CurrentInvariant, LastIsOpen, RowInvariant}
use Rattle.rm_invariant.specs.apps.View.{view}
use Rattle.rm_invariant.specs.masters.Sound.{RecordsAreSound}
use Rattle.rm_invariant.proofs.masters.Ends.{Alive}
use Rattle.rm_invariant.proofs.masters.Saying.{active_of, goes_on}
use Rattle.rm_invariant.proofs.apps.Own.{active_row}
use Rattle.rm_invariant.proofs.masters.Sounding.{above}
use Rattle.rm_invariant.proofs.masters.Stale.{going_fresh}

module _ (settings : Settings) (h : History) (t : Tables) (says : AttemptsInvariant settings h t) (each : RecordsAreSound t.tree.apps) (c : ContainerId) (row : AppRow) (found : row_of t.rows c.attempt.app ≡ Some row) (current : Current) (is : row.current ≡ Some current)
    (n : (current.number == c.attempt.number) ≡ true) where
  good : RowInvariant settings c.attempt (Some row) (view h t c.attempt)
  good = rw found at (says c.attempt)

  current_says : goes_on current.state ≡ true → CurrentInvariant settings current.state (record { app = c.attempt.app; number = current.number }) row.wish (view h t c.attempt)
  current_says g =
      let active = active_row settings c.attempt row (view h t c.attempt) (active_of settings c.attempt row (view h t c.attempt) current is g good) good in
      let s : ActiveInvariant settings c.attempt (Some current) row.wish (view h t c.attempt) = rw is at active.current in
      s.0

  number : current.number ≡ c.attempt.number
  number = grind (arith, nat_tests)

  of_going : LastIsOpen (record_of t.tree.apps c.attempt.app) (record { app = c.attempt.app; number = current.number }) → is_stale_in t.tree.apps c ≡ false
  of_going g =
      let g_ : LastIsOpen (record_of t.tree.apps c.attempt.app) c.attempt = subst (λ (k : ℕ). LastIsOpen (record_of t.tree.apps c.attempt.app) (record { app = c.attempt.app; number = k })) number g in
      going_fresh c (record_of t.tree.apps c.attempt.app) g_.0 g_.1 g_.5

  pub waiting_clean : current.state ≡ attempts.Scheduled → is_stale_in t.tree.apps c ≡ false
  waiting_clean st =
      let s : CurrentInvariant settings attempts.Scheduled (record { app = c.attempt.app; number = current.number }) row.wish (view h t c.attempt) = rw st at (current_says (rw st refl)) in
      let next : current.number ≡ length (attempts_in (record_of t.tree.apps c.attempt.app)) + 1 = s.1.0 in
      going_fresh c (record_of t.tree.apps c.attempt.app) s.0.0 s.0.1 (none (record_of t.tree.apps c.attempt.app) refl next)
    where
      none : (o : Option AppRecord) → record_of t.tree.apps c.attempt.app ≡ o → current.number ≡ length (attempts_in o) + 1
          → is_some (option_and_then (λ one. one.ending) (find (λ one. is_attempt one.id c.attempt) (attempts_in o))) ≡ false
      none None e next = refl
      none (Some one) e next =
          let num = number in
          let gone = above c.attempt.app 0 c.attempt.number one.attempts (each c.attempt.app one e).numbered (omega (arith, next, num)) in
          rw gone refl

  pub going_clean : Alive current.state ⊎ (current.state ≡ attempts.Ending) → is_stale_in t.tree.apps c ≡ false
  going_clean (inl (inl st)) = let s : CurrentInvariant settings attempts.Live (record { app = c.attempt.app; number = current.number }) row.wish (view h t c.attempt) = rw st at (current_says (rw st refl)) in of_going s.0
  going_clean (inl (inr (inl st))) = let s : CurrentInvariant settings attempts.Registered (record { app = c.attempt.app; number = current.number }) row.wish (view h t c.attempt) = rw st at (current_says (rw st refl)) in of_going s.0
  going_clean (inl (inr (inr st))) = let s : CurrentInvariant settings attempts.Finishing (record { app = c.attempt.app; number = current.number }) row.wish (view h t c.attempt) = rw st at (current_says (rw st refl)) in of_going s.0
  going_clean (inr st) = let s : CurrentInvariant settings attempts.Ending (record { app = c.attempt.app; number = current.number }) row.wish (view h t c.attempt) = rw st at (current_says (rw st refl)) in of_going s.0
