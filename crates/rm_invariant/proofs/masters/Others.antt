-- What the events of applications do to what holds of a container: how each change of a row keeps it.
use Rattle.rm_invariant.proofs.Common.{◌≡◌, ◌⊎◌, inl, inr, ◌+◌, Bool, true, false, Option, None, Some, length, arith, nat_tests, ContainerId, How, AppRecord, attempts_in, AttemptState, AppRow, Current, changed, scheduled, ℕ, ◌≤◌}
use Rattle.std.proofs.Common.{◌==◌}
use Rattle.rm_states.specs.declared.attempt.states.AttemptState.TheVariants as attempts
use Rattle.rm_tables.specs.declared.changes.RowChange.TheVariants as of_app
use Rattle.rm_invariant.specs.masters.Invariant.{ContainerByNumber, ContainerByCurrent, ContainerInvariant, Untouched}
use Rattle.rm_invariant.specs.masters.View.{ContainerView}

module _ (c : ContainerId) (row : AppRow) (v : ContainerView) where
  -- where the attempt stays as it is, and no end is kept: a wish, a kept App, a kill that waits
  pub same_marks : (row_ : AppRow) → row_.current ≡ row.current → ContainerInvariant c (Some row) v → ContainerInvariant c (Some row_) v
  same_marks row_ is good = (good.0, rw is good.1)

  -- an AppEnd is issued before there is an attempt
  pub over_none : row.current ≡ None → ContainerInvariant c (Some row) v → ContainerInvariant c (Some (changed of_app.End row)) v
  over_none is good = let says : ContainerByCurrent c None v = rw is at good.1 in (good.0, rw is says)

  -- it is accepted
  pub accepted_marks : row.current ≡ None → ContainerInvariant c (Some row) v → ContainerInvariant c (Some (changed (of_app.Schedule 1) row)) v
  accepted_marks is good = let says : ContainerByCurrent c None v = rw is at good.1 in (good.0, by (1 == c.attempt.number) says)
    where
      by : (b : Bool) → Untouched v → ContainerByNumber c b (scheduled 1) v
      by true u = u
      by false u = λ l. u

  module _ (current : Current) (is : row.current ≡ Some current) where
    -- an AppEnd is issued of one whose attempt isn't issued, or has ended
    pub over_marks : (s : AttemptState) → current.state ≡ s → (s ≡ attempts.Scheduled) ⊎ (s ≡ attempts.Granted) ⊎ (s ≡ attempts.Ended) → (b : Bool) → (current.number == c.attempt.number) ≡ b → ContainerInvariant c (Some row) v → ContainerInvariant c (Some (changed of_app.End row)) v
    over_marks s e which b n good =
        let says : ContainerByNumber c (current.number == c.attempt.number) current v = rw is at good.1 in
        let lost = good.0 in
        rw is (grind (arith, nat_tests))

    -- the next attempt is scheduled
    pub retried_marks : current.state ≡ attempts.Ended → (b d : Bool) → (current.number == c.attempt.number) ≡ b → ((length (attempts_in v.found) + 1) == c.attempt.number) ≡ d
        → ContainerInvariant c (Some row) v → ContainerInvariant c (Some (changed (of_app.Schedule (length (attempts_in v.found) + 1)) row)) v
    retried_marks e b d n m good =
        let says : ContainerByNumber c (current.number == c.attempt.number) current v = rw is at good.1 in
        let lost = good.0 in
        rw m (grind (arith, nat_tests))

    -- AttemptEnd is kept
    pub ended_marks : (row_ : AppRow) → row_.current ≡ Some (record current { state = attempts.Ended }) → current.state ≡ attempts.Ending → (new : Option AppRecord) → length (attempts_in new) ≡ length (attempts_in v.found)
        → current.number ≡ length (attempts_in v.found) → 1 ≤ current.number → (b : Bool) → (current.number == c.attempt.number) ≡ b → (removals : ℕ) → ContainerInvariant c (Some row) v → ContainerInvariant c (Some row_) (record v { found = new; removals = removals })
    ended_marks row_ now e new same last some b n removals good =
        let says : ContainerByNumber c (current.number == c.attempt.number) current v = rw is at good.1 in
        let lost = good.0 in
        (lost, rw now (grind (arith, nat_tests)))

    -- AppEnd is kept
    pub final_marks : (how : How) (new : Option AppRecord) → length (attempts_in new) ≡ length (attempts_in v.found) → (current.state ≡ attempts.Ended) ⊎ (current.state ≡ attempts.Dropped) → (b : Bool) → (current.number == c.attempt.number) ≡ b → (removals : ℕ)
        → ContainerInvariant c (Some row) v → ContainerInvariant c (Some (changed (of_app.KeepEnd how) row)) (record v { found = new; removals = removals })
    final_marks how new same (inl e) b n removals good =
        let says : ContainerByNumber c (current.number == c.attempt.number) current v = rw is at good.1 in
        let lost = good.0 in
        rw is (grind (arith, nat_tests))
    final_marks how new same (inr e) b n removals good =
        let says : ContainerByNumber c (current.number == c.attempt.number) current v = rw is at good.1 in
        let lost = good.0 in
        rw is (grind (arith, nat_tests))

  -- Remove is kept
  pub gone_marks : ContainerInvariant c (Some row) v → ContainerInvariant c None (record v { found = None; retired = true })
  gone_marks good = (good.0, λ r. cc)

  -- a submission is taken
  pub new_marks : row.current ≡ None → v.retired ≡ false → ContainerInvariant c None v → ContainerInvariant c (Some row) v
  new_marks is fresh good = (good.0, rw is (good.1 fresh))
