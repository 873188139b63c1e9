-- The container that a row names is a master's for the judge, while its attempt is being saved or lives; and the tables tell masters' containers
-- as the judge does.
use Rattle.rm_invariant.proofs.Common.{◌≡◌, ◌⊎◌, inl, inr, ◌+◌, ◌||◌, not, true, Option, None, Some, find, length, refl, ◌∙◌, arith, nat_tests, or_right, ContainerId, AppRecord, Settings, is_attempt, is_container, AttemptRecord, is_some_and, record_of, Scene, is_masters, attempts_in, AttemptState, is_masters_in, AppRow, Current, Tables, is_master_of, kept, row_of, History, abstract_scene}
use Rattle.std.proofs.Common.{◌==◌, is_some}
use Rattle.rm_model.specs.Attempts.{attempt_is_kept}
use Rattle.rm_states.specs.declared.attempt.states.AttemptState.TheVariants as attempts
use Rattle.rm_tables.specs.Leaving.{attempt_in, is_own_or_unkept}
use Rattle.rm_invariant.specs.apps.Invariant.{ActiveInvariant, CurrentInvariant, RowInvariant}
use Rattle.rm_invariant.specs.Step.{AppsInvariant}
use Rattle.rm_invariant.specs.apps.View.{view}
use Rattle.rm_invariant.proofs.apps.Own.{active_row}
use Rattle.rm_invariant.specs.masters.Invariant.{ContainersInvariant}
use Rattle.rm_invariant.specs.masters.Sound.{RecordsAreSound}
use Rattle.rm_invariant.proofs.masters.Ends.{Alive}
use Rattle.rm_invariant.proofs.masters.Crossing.{IsTold}
use Rattle.rm_invariant.proofs.masters.Sounding.{above}
use Rattle.rm_invariant.proofs.masters.Saying.{active_of, goes_on}
use Rattle.rm_invariant.proofs.resting.Masters.{alive_at}

-- the tables and the judge have the same containers for masters'
own_same : (id : ContainerId) (found : Option AttemptRecord) → is_own_or_unkept id found ≡ (not (is_some found) || is_some_and (λ one. is_container one.master id) found)
own_same id None = refl
own_same id (Some one) = refl

-- they agree on every container
pub masters_same : (m : Scene) (id : ContainerId) → is_masters_in m.records.apps id ≡ is_masters m id
masters_same m id = by (record_of m.records.apps id.attempt.app) refl
  where
    by : (o : Option AppRecord) → record_of m.records.apps id.attempt.app ≡ o → is_masters_in m.records.apps id ≡ is_masters m id
    by None e = rw e refl
    by (Some app) e = rw e (own_same id (attempt_in app id.attempt))

module _ (settings : Settings) (h : History) (t : Tables) (k : AppsInvariant settings h t) (all : ContainersInvariant h t) (each : RecordsAreSound t.tree.apps) (c : ContainerId) (row : AppRow) (current : Current) (found : row_of t.rows c.attempt.app ≡ Some row) (is : row.current ≡ Some current)
    (n : (current.number == c.attempt.number) ≡ true) (m : is_master_of c current.master ≡ true) where
  good : RowInvariant settings c.attempt (Some row) (view h t c.attempt)
  good = rw found at (k.all c.attempt)

  says : goes_on current.state ≡ true → ActiveInvariant settings c.attempt (Some current) row.wish (view h t c.attempt)
  says g = let active = active_row settings c.attempt row (view h t c.attempt) (active_of settings c.attempt row (view h t c.attempt) current is g good) good in rw is at active.current

  number : current.number ≡ c.attempt.number
  number = grind (arith, nat_tests)

  unkept : (o : Option AppRecord) → record_of t.tree.apps c.attempt.app ≡ o → current.number ≡ length (attempts_in o) + 1 → find (λ one. is_attempt one.id c.attempt) (attempts_in o) ≡ None
  unkept None e l = refl
  unkept (Some one) e l = let num = number in above c.attempt.app 0 c.attempt.number one.attempts (each c.attempt.app one e).numbered (omega (arith, l, num))

  saving_by : CurrentInvariant settings attempts.Saving (record { app = c.attempt.app; number = current.number }) row.wish (view h t c.attempt) → is_masters (abstract_scene h t) c ≡ true
  saving_by says =
      let none = unkept (record_of t.tree.apps c.attempt.app) refl says.1.0 in
      let kept = says.0.0 in
      rw (kept, none) refl

  alive_by : Alive current.state → is_some (record_of t.tree.apps c.attempt.app) ≡ true → is_masters (abstract_scene h t) c ≡ true
  alive_by st kept =
      let a = alive_at settings h t all row current c found is st n in
      rw kept (or_right (not (attempt_is_kept (abstract_scene h t) c.attempt)) _ (a.0 ∙ m))

  -- the row's master is one, or needs not be told of
  pub is_master : (s : AttemptState) → current.state ≡ s → (is_masters (abstract_scene h t) c ≡ true) ⊎ IsTold s true true 0
  is_master attempts.Saving st = inl (saving_by (let x = (says (rw st refl)).0 in rw st at x))
  is_master attempts.Live st = inl (alive_by (inl st) (let x = (says (rw st refl)).0 in let y = rw st at x in y.0.0))
  is_master attempts.Registered st = inl (alive_by (inr (inl st)) (let x = (says (rw st refl)).0 in let y = rw st at x in y.0.0))
  is_master attempts.Finishing st = inl (alive_by (inr (inr st)) (let x = (says (rw st refl)).0 in let y = rw st at x in y.0.0))
  is_master _ st = inr tt
