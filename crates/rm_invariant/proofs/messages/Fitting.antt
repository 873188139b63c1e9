-- The current attempt of an application is the last recorded one, or the next one, with whose master nobody spoke: each event of both queues
-- keeps it.
use Rattle.rm_invariant.proofs.Common.{◌≡◌, ℕ, ◌≤◌, ◌⊎◌, inl, inr, List, [], ◌∷◌, Bool, true, false, Option, None, Some, length, fold, refl, sym, ◌∙◌, ap, subst, arith, false≢true, or_right, Grant, AppId, AttemptId, ContainerId, AppRecord, AttemptRecord, Settings, is_app, is_nil, is_some_and, last_attempt, record_of, same_app, has_failed, attempts_in, AttemptState, AttemptChange, RowChange, MainEvent, SchedEvent, AppRow, Current, Tables, main_worked, sched_worked, attempt_after, changed, current_after, granted_at, closed_in, main_step, rows_after_grant, row_of, with_row, sched_step, closings_for, History}
use Rattle.std.proofs.Common.{option_map}
use Rattle.rm_states.specs.declared.attempt.states.AttemptState.TheVariants as attempts
use Rattle.rm_tables.specs.declared.changes.AttemptChange.TheVariants as of_attempt
use Rattle.rm_tables.specs.declared.changes.RowChange.TheVariants as of_app
use Rattle.rm_invariant.specs.apps.Invariant.{CurrentInvariant, MayFollowInView, LastIsOpen, RowInvariant, is_active, is_open_one}
use Rattle.rm_invariant.specs.Step.{AppsInvariant}
use Rattle.rm_invariant.specs.apps.View.{View, changed_if, view}
use Rattle.rm_invariant.proofs.apps.Events.{at}
use Rattle.rm_invariant.proofs.apps.Found.{row_changed}
use Rattle.rm_invariant.proofs.apps.Own.{active_row}
use Rattle.rm_invariant.proofs.masters.Saying.{active_of, goes_on as attempt_goes_on}
use Rattle.rm_invariant.specs.Core.{PreservesCore}
use Rattle.rm_invariant.proofs.events.Told.{rows_told, telling_more}
use Rattle.rm_invariant.specs.messages.Fits.{FitsCurrent, EachRowFits}
use Rattle.rm_invariant.specs.events.Outcomes.{Outcome}
use Rattle.rm_invariant.proofs.messages.Shapes.{RowsBy, Shape, main_shape}
use Rattle.rm_invariant.proofs.events.SchedShapes.{RowsAfter, SchedShape, sched_shape}
use Rattle.rm_types.specs.declared.containers.ClosingOf.{ClosingOf}

-- an attempt is recorded
abbrev pub is_recorded : AttemptState → Bool
is_recorded attempts.Scheduled = false
is_recorded attempts.Granted = false
is_recorded attempts.Saving = false
is_recorded attempts.Live = true
is_recorded attempts.Registered = true
is_recorded attempts.Finishing = true
is_recorded attempts.Ending = true
is_recorded attempts.Ended = true
is_recorded attempts.Dropped = false

abbrev pub is_recorded_in : Option Current → Bool
is_recorded_in None = false
is_recorded_in (Some current) = is_recorded current.state

-- a row has the attempt of another one, and nobody speaks with its master that didn't before
abbrev pub number_of : Option Current → Option ℕ
number_of current = option_map (λ (one : Current). one.number) current

pub record SameCurrent (was now : AppRow) : Type 0 where
  pub number : number_of now.current ≡ number_of was.current
  pub silent : was.dialogue ≡ None → now.dialogue ≡ None

pub same_current : (row : AppRow) → SameCurrent row row
same_current row = record { number = refl; silent = λ e. e }

-- a row after a step: it has no attempt; its application is active, and its attempt is recorded or nobody spoke with its master; or it has the
-- attempt of the row before the step, and as many are recorded as then
abbrev pub goes_on_in : Option Current → Bool
goes_on_in None = false
goes_on_in (Some current) = attempt_goes_on current.state

abbrev pub RowGoes : Tables → Tables → AppId → AppRow → Type 0
RowGoes t next id now =
    (now.current ≡ None)
    ⊎ ((((is_active now.state ≡ true) ⊎ (goes_on_in now.current ≡ true)) × ((now.dialogue ≡ None) ⊎ (is_recorded_in now.current ≡ true)))
    ⊎ ((was : AppRow) × (row_of t.rows id ≡ Some was) × SameCurrent was now × (attempts_in (record_of next.tree.apps id) ≡ attempts_in (record_of t.tree.apps id))))

-- A ROW THAT IS ACTIVE FITS

empty : (xs : List AttemptRecord) → length xs ≡ 0 → is_nil xs ≡ true
empty [] e = refl
empty (x ∷ xs) e = absurd (omega (arith, e))

some_last : (p : AttemptRecord → Bool) (xs : List AttemptRecord) → is_some_and p (last_attempt xs) ≡ true → 1 ≤ length xs
some_last p [] e = cc
some_last p (x ∷ xs) e = omega arith

module _ (settings : Settings) (q : AttemptId) (row : AppRow) (v : View) where
  follows_fit : (current : Current) (number : ℕ) → current.number ≡ number → MayFollowInView settings number v → row.dialogue ≡ None → FitsCurrent v.found row.dialogue (Some current)
  follows_fit current number is (next, inl first) silent = inr (is ∙ next, (let none = empty (attempts_in v.found) (let n = first.0 in omega (arith, next, n)) in rw none refl), silent)
  follows_fit current number is (next, inr failed) silent = inr (is ∙ next, or_right (is_nil (attempts_in v.found)) (is_some_and has_failed (last_attempt (attempts_in v.found))) failed.0, silent)

  goes_fit : (current : Current) → LastIsOpen v.found (record { app = q.app; number = current.number }) → FitsCurrent v.found row.dialogue (Some current)
  goes_fit current goes =
      let some = some_last (is_open_one (record { app = q.app; number = current.number })) (attempts_in v.found) goes.2 in
      let n = goes.3 in
      inl (omega (arith, some, n), n)

  current_fits : (current : Current) (s : AttemptState) → CurrentInvariant settings s (record { app = q.app; number = current.number }) row.wish v → (row.dialogue ≡ None) ⊎ (is_recorded s ≡ true) → FitsCurrent v.found row.dialogue (Some current)
  current_fits current attempts.Scheduled says (inl silent) = follows_fit current current.number refl says.1 silent
  current_fits current attempts.Granted says (inl silent) = follows_fit current current.number refl says.1 silent
  current_fits current attempts.Saving says (inl silent) = follows_fit current current.number refl says.1 silent
  current_fits current attempts.Scheduled says (inr recorded) = absurd (false≢true recorded)
  current_fits current attempts.Granted says (inr recorded) = absurd (false≢true recorded)
  current_fits current attempts.Saving says (inr recorded) = absurd (false≢true recorded)
  current_fits current attempts.Ended says either = inl (says.2, says.1)
  current_fits current attempts.Dropped says either = absurd says
  current_fits current _ says either = goes_fit current says.0

  active_fits : RowInvariant settings q (Some row) v → is_active row.state ≡ true → (c : Option Current) → row.current ≡ c → (row.dialogue ≡ None) ⊎ (is_recorded_in c ≡ true) → FitsCurrent v.found row.dialogue c
  active_fits says active None is either = tt
  active_fits says active (Some current) is either =
      let a = (active_row settings q row v active says).current in
      let here = rw is at a in
      current_fits current current.state here.0 either

-- a row that has the attempt of one that fits
same_fits : (found next : Option AppRecord) (was now : AppRow) → attempts_in next ≡ attempts_in found → (c d : Option Current) → number_of d ≡ number_of c → (was.dialogue ≡ None → now.dialogue ≡ None)
    → FitsCurrent found was.dialogue c → FitsCurrent next now.dialogue d
same_fits found next was now attempts c None number silent fits = tt
same_fits found next was now attempts None (Some d) number silent fits = let x : Some d.number ≡ None = number in cc
same_fits found next was now attempts (Some c) (Some d) number silent fits = by fits
  where
    same : d.number ≡ c.number
    same = let x : Some d.number ≡ Some c.number = number in cc

    by : FitsCurrent found was.dialogue (Some c) → FitsCurrent next now.dialogue (Some d)
    by (inl last) = rw (same, attempts) (inl last)
    by (inr later) = rw (same, attempts) (inr (later.0, later.1, silent later.2))

-- rows fit after a step whose rows go so
pub rows_fit : (settings : Settings) (g : History) (t next : Tables) → AppsInvariant settings g next → EachRowFits t → ((id : AppId) (now : AppRow) → row_of next.rows id ≡ Some now → RowGoes t next id now) → EachRowFits next
rows_fit settings g t next k fit goes id now found = by (goes id now found)
  where
    row_active : RowInvariant settings (at id) (Some now) (view g next (at id)) → (is_active now.state ≡ true) ⊎ (goes_on_in now.current ≡ true) → (c : Option Current) → now.current ≡ c → is_active now.state ≡ true
    row_active says (inl active) c is = active
    row_active says (inr goes) None is = let x = rw is at goes in cc
    row_active says (inr goes) (Some current) is = active_of settings (at id) now (view g next (at id)) current is (rw is at goes) says

    by : RowGoes t next id now → FitsCurrent (record_of next.tree.apps id) now.dialogue now.current
    by (inl none) = rw none tt
    by (inr (inl active)) =
        let says : RowInvariant settings (at id) (Some now) (view g next (at id)) = rw found at (k.all (at id)) in
        active_fits settings (at id) now (view g next (at id)) says (row_active says active.0 now.current refl) now.current refl active.1
    by (inr (inr same)) =
        same_fits (record_of t.tree.apps id) (record_of next.tree.apps id) same.0 now same.3 same.0.current now.current same.2.number same.2.silent (fit id same.0 same.1)

-- WHAT HAPPENS TO ROWS

-- the number of an attempt stays, whatever happens to it
granted_number : (s : AttemptState) (container : ContainerId) (was : Current) → (granted_at s container was).number ≡ was.number
granted_number s container was = grind arith

attempt_number : (change : AttemptChange) (was : Current) → (attempt_after change was).number ≡ was.number
attempt_number (of_attempt.Grant container) was = granted_number was.state container was
attempt_number _ was = refl

-- unless another attempt is scheduled
abbrev pub schedules_none : RowChange → Bool
schedules_none of_app.Issue = true
schedules_none of_app.Keep = true
schedules_none of_app.Wish = true
schedules_none of_app.Kill = true
schedules_none (of_app.Schedule number) = false
schedules_none of_app.Register = true
schedules_none of_app.End = true
schedules_none (of_app.KeepEnd how) = true
schedules_none (of_app.OfAttempt change) = true

number_after : (change : RowChange) → schedules_none change ≡ true → (c : Option Current) → number_of (current_after change c) ≡ number_of c
number_after of_app.Issue e None = refl
number_after of_app.Keep e None = refl
number_after of_app.Wish e None = refl
number_after of_app.Kill e None = refl
number_after (of_app.Schedule number) e c = cc
number_after of_app.Register e None = refl
number_after of_app.End e None = refl
number_after (of_app.KeepEnd how) e None = refl
number_after (of_app.OfAttempt change) e None = refl
number_after of_app.Issue e (Some was) = refl
number_after of_app.Keep e (Some was) = refl
number_after of_app.Wish e (Some was) = refl
number_after of_app.Kill e (Some was) = refl
number_after of_app.Register e (Some was) = refl
number_after of_app.End e (Some was) = refl
number_after (of_app.KeepEnd how) e (Some was) = refl
number_after (of_app.OfAttempt change) e (Some was) = ap Some (attempt_number change was)

silent_after : (change : RowChange) (row : AppRow) → row.dialogue ≡ None → (changed change row).dialogue ≡ None
silent_after (of_app.Schedule number) row e = refl
silent_after _ row e = e

pub change_same : (change : RowChange) (row : AppRow) → schedules_none change ≡ true → SameCurrent row (changed change row)
change_same change row e = record { number = number_after change e row.current; silent = silent_after change row }

-- one row changes, and what is recorded of other applications stays
pub goes_with : (t next : Tables) (id : AppId) (f : AppRow → AppRow) → next.rows ≡ with_row f id t.rows
    → ((q : AppId) → is_app id q ≡ false → attempts_in (record_of next.tree.apps q) ≡ attempts_in (record_of t.tree.apps q)) → ((row : AppRow) → row_of t.rows id ≡ Some row → RowGoes t next id (f row))
    → (q : AppId) (now : AppRow) → row_of next.rows q ≡ Some now → RowGoes t next q now
goes_with t next id f is others own q now found = by (is_app id q) refl (row_of t.rows q) refl (sym (row_changed f id q t.rows) ∙ ap (λ (rows : List (AppId × Option AppRow)). row_of rows q) (sym is) ∙ found)
  where
    by : (b : Bool) → is_app id q ≡ b → (o : Option AppRow) → row_of t.rows q ≡ o → changed_if b f o ≡ Some now → RowGoes t next q now
    by true e None there same = cc
    by true e (Some was) there same =
        let here : id ≡ q = same_app id q e in
        let after : f was ≡ now = cc in
        subst (λ (row : AppRow). RowGoes t next q row) after (subst (λ (one : AppId). RowGoes t next one (f was)) here (own was (ap (row_of t.rows) here ∙ there)))
    by false e o there same = inr (inr (now, there ∙ same, same_current now, others q e))

-- each row has the attempt that it had
abbrev pub RowsSame : List (AppId × Option AppRow) → List (AppId × Option AppRow) → Type 0
RowsSame rows next = (q : AppId) (now : AppRow) → row_of next q ≡ Some now → (was : AppRow) × (row_of rows q ≡ Some was) × SameCurrent was now

none_changed : (rows : List (AppId × Option AppRow)) → RowsSame rows rows
none_changed rows q now found = (now, found, same_current now)

one_changed : (id : AppId) (f : AppRow → AppRow) (rows : List (AppId × Option AppRow)) → ((row : AppRow) → SameCurrent row (f row)) → RowsSame rows (with_row f id rows)
one_changed id f rows same q now found = by (is_app id q) (row_of rows q) refl (sym (row_changed f id q rows) ∙ found)
  where
    by : (b : Bool) (o : Option AppRow) → row_of rows q ≡ o → changed_if b f o ≡ Some now → (was : AppRow) × (row_of rows q ≡ Some was) × SameCurrent was now
    by true None there e = cc
    by true (Some was) there e = let after : f was ≡ now = cc in (was, there, subst (SameCurrent was) after (same was))
    by false o there e = (now, there ∙ e, same_current now)

then_changed : (rows middle next : List (AppId × Option AppRow)) → RowsSame rows middle → RowsSame middle next → RowsSame rows next
then_changed rows middle next first second q now found =
    let b = second q now found in
    let a = first q b.0 b.1 in
    (a.0, a.1, record { number = b.2.number ∙ a.2.number; silent = λ e. b.2.silent (a.2.silent e) })

-- endings are to be told
closed_same : (closings : List ClosingOf) (rows : List (AppId × Option AppRow)) → RowsSame rows (closed_in rows closings)
closed_same closings rows q now found = by (row_of rows q) refl (sym (rows_told closings rows q) ∙ found)
  where
    by : (o : Option AppRow) → row_of rows q ≡ o → option_map (telling_more (closings_for closings q)) o ≡ Some now → (was : AppRow) × (row_of rows q ≡ Some was) × SameCurrent was now
    by None there e = cc
    by (Some was) there e = let after : telling_more (closings_for closings q) was ≡ now = cc in (was, there, subst (SameCurrent was) after (record { number = refl; silent = λ e. e }))

-- containers are granted
granted_same : (grants : List Grant) (rows : List (AppId × Option AppRow)) → RowsSame rows (fold rows_after_grant rows grants)
granted_same [] rows = none_changed rows
granted_same (grant ∷ grants) rows =
    then_changed rows (rows_after_grant rows grant) (fold rows_after_grant (rows_after_grant rows grant) grants)
    (one_changed grant.id.attempt.app (changed (of_app.OfAttempt (of_attempt.Grant grant.id))) rows (λ row. change_same (of_app.OfAttempt (of_attempt.Grant grant.id)) row refl)) (granted_same grants (rows_after_grant rows grant))

-- rows that have the attempts that they had go so
pub same_goes : (t next : Tables) → RowsSame t.rows next.rows → next.tree ≡ t.tree → (q : AppId) (now : AppRow) → row_of next.rows q ≡ Some now → RowGoes t next q now
same_goes t next same tree q now found = let k = same q now found in inr (inr (k.0, k.1, k.2, rw tree refl))

-- BOTH QUEUES

change_goes : (t next : Tables) (id : AppId) (change : RowChange) → next.tree ≡ t.tree → (row : AppRow) → row_of t.rows id ≡ Some row → RowGoes t next id (changed change row)
change_goes t next id change tree row found = by (schedules_none change) refl
  where
    scheduled : (change : RowChange) → schedules_none change ≡ false → RowGoes t next id (changed change row)
    scheduled (of_app.Schedule number) e = inr (inl (inr refl, inl refl))
    scheduled _ e = cc

    by : (b : Bool) → schedules_none change ≡ b → RowGoes t next id (changed change row)
    by true e = inr (inr (row, found, change_same change row e, rw tree refl))
    by false e = scheduled change e

pub main_fits : (settings : Settings) (h : History) (t : Tables) → EachRowFits t → (e : MainEvent) → Outcome t (main_step e t) → (s : PreservesCore settings h t (main_worked (main_step e t))) → EachRowFits (main_worked (main_step e t)).1
main_fits settings h t fit e outcome s = rows_fit settings s.next t next s.whole.keeps fit (by shape.rows)
  where
    next : Tables
    next = (main_worked (main_step e t)).1

    shape : Shape h t (main_step e t)
    shape = main_shape h t (main_step e t) outcome

    by : RowsBy t.rows next.rows → (id : AppId) (now : AppRow) → row_of next.rows id ≡ Some now → RowGoes t next id now
    by (inl same) = same_goes t next (subst (RowsSame t.rows) (sym same) (none_changed t.rows)) shape.tree
    by (inr one) = goes_with t next one.0 (changed one.1) one.2 (λ q e. let tree = shape.tree in rw tree refl) (change_goes t next one.0 one.1 shape.tree)

pub sched_fits : (settings : Settings) (h : History) (t : Tables) → EachRowFits t → (e : SchedEvent) (list : List ContainerId) (s : PreservesCore settings h t (sched_worked (sched_step e list t))) → EachRowFits (sched_worked (sched_step e list t)).1
sched_fits settings h t fit e list s = rows_fit settings s.next t next s.whole.keeps fit (same_goes t next (by next.rows shape.rows) (ap (λ (one : Tables). one.tree) shape.rest))
  where
    next : Tables
    next = (sched_worked (sched_step e list t)).1

    shape : SchedShape t (sched_step e list t)
    shape = sched_shape t list e

    by : (rows : List (AppId × Option AppRow)) → RowsAfter t.rows rows → RowsSame t.rows rows
    by rows RowsAfter.same = none_changed t.rows
    by rows (RowsAfter.closed_so closings) = closed_same closings t.rows
    by rows (RowsAfter.granted_so grants) = granted_same grants t.rows
