-- What AppStart and Retire do is lawful, whatever they find; and what an application that is accepted or goes on says of its attempts.
use Rattle.rm_invariant.proofs.Common.{◌≡◌, ◌<◌, List, [], ◌∷◌, ◌++◌, Bool, true, false, Option, None, Some, drop, length, refl, sym, ◌∙◌, ap, subst, arith, nat_tests, if◌then◌else◌, Issued, AppId, AttemptId, Submission, Settings, record_of, app_itself, attempts_in, MayIssueApp, AppState, MainEvent, AppRow, Current, Tables, main_popped, main_quiet, main_worked, next_in, main_step, removal_of_first, start_of_submission, row_of, History, abstract_scene}
use Rattle.std.proofs.Common.{is_some, nat_lt}
use Rattle.rm_types.specs.declared.operations.Op.TheVariants as ops
use Rattle.rm_states.specs.declared.app.states.AppState.TheVariants as apps
use Rattle.rm_states.specs.declared.attempt.states.AttemptState.TheVariants as attempts
use Rattle.rm_tables.specs.declared.events.MainEvent.TheVariants as mains
use Rattle.rm_tables.specs.MainEvents.{start_of_row}
use Rattle.rm_invariant.specs.apps.Completed.{Completes}
use Rattle.rm_invariant.specs.apps.Invariant.{ActiveInvariant, CurrentInvariant, RowInvariant, StateInvariant, is_active}
use Rattle.rm_invariant.specs.apps.View.{View, view}
use Rattle.rm_invariant.proofs.apps.Effects.{main_taken}
use Rattle.rm_invariant.proofs.apps.Own.{active_row, start_more}
use Rattle.rm_invariant.proofs.apps.Retiring.{retire_steps}
use Rattle.rm_invariant.specs.masters.Preserves.{PreservesContainersTo}
use Rattle.rm_invariant.proofs.masters.AppEvents.{retire_idle_joins, retire_joins, started_joins}
use Rattle.rm_invariant.specs.Core.{CoreInvariant}

-- one row is another that is found in the same place
pub same_row : (o : Option AppRow) (a b : AppRow) → o ≡ Some a → o ≡ Some b → a ≡ b
same_row o a b e f = let x : Some a ≡ Some b = sym e ∙ f in cc

-- an application that isn't accepted has no attempt
pub none_submitted : (settings : Settings) (q : AttemptId) (row : AppRow) (v : View) → row.state ≡ apps.Submitted → RowInvariant settings q (Some row) v → row.current ≡ None
none_submitted settings q row v is good = let says = subst (λ (s : AppState). StateInvariant settings q s row v) is good.1 in says.3

-- an application that is to start isn't issued, and its submission waits
record IsStarting (o : Option AppRow) : Type 0 where
  one : AppRow
  is : o ≡ Some one
  new : one.state ≡ apps.New
  waits : is_some one.pending ≡ true

starting : (settings : Settings) (q : AttemptId) (o : Option AppRow) (v : View) → RowInvariant settings q o (start_more v) → IsStarting o
starting settings q None v good = absurd (let n = good.none_start in omega (arith, n))
starting settings q (Some row) v good = by row.state refl good.1
  where
    is_new : (s : AppState) → StateInvariant settings q s row (start_more v) → s ≡ apps.New
    is_new s says = grind arith

    by : (s : AppState) → row.state ≡ s → StateInvariant settings q s row (start_more v) → IsStarting (Some row)
    by s is says =
        let new : s ≡ apps.New = is_new s says in
        let unkept = subst (λ (x : AppState). StateInvariant settings q x row (start_more v)) new says in
        record { one = row; is = refl; new = is ∙ new; waits = unkept.0.some_waits }

module _ (settings : Settings) (h : History) (t : Tables) (w : CoreInvariant settings h t) where
  -- the next attempt is later than the one that ended
  pub later : (a : AttemptId) (row : AppRow) → row_of t.rows a.app ≡ Some row → (current : Current) → row.current ≡ Some current → is_active row.state ≡ true → current.state ≡ attempts.Ended → current.number < (next_in t a.app).number
  later a row found current is active st =
      let zero : AttemptId = record { app = a.app; number = 0 } in
      let of_row = active_row settings zero row (view h t zero) active (rw found at (w.keeps.all zero)) in
      let says : ActiveInvariant settings zero (Some current) row.wish (view h t zero) = rw is at of_row.current in
      let own : CurrentInvariant settings attempts.Ended (record { app = a.app; number = current.number }) row.wish (view h t zero) = rw st at says.0 in
      let last : current.number ≡ length (attempts_in (record_of t.tree.apps a.app)) = own.1 in
      omega (arith, last)

  -- AppStart, where the App of the submission that waits may be issued
  module _ (id : AppId) (rest : List MainEvent) (front : t.main ≡ mains.AppStart id ∷ rest)
      (may : (row : AppRow) (s : Submission) → row_of t.rows id ≡ Some row → row.pending ≡ Some s → MayIssueApp (abstract_scene h t) id s) where
    abbrev start_of : AttemptId
    start_of = record { app = id; number = 0 }

    starts : IsStarting (row_of t.rows id)
    starts =
        let good = subst (λ (v : View). RowInvariant settings start_of (row_of t.rows id) v) (main_taken h t start_of (mains.AppStart id) rest front) (w.keeps.all start_of) in
        starting settings start_of (row_of t.rows id) (view h (main_popped t) start_of) (let g = rw (app_itself id) at good in g)

    start_pending : (row : AppRow) → row_of t.rows id ≡ Some row → row.state ≡ apps.New → (o : Option Submission) → row.pending ≡ o → is_some o ≡ true → PreservesContainersTo settings h t (main_worked (start_of_submission o id t))
    start_pending row found new None is some = cc
    start_pending row found new (Some s) is some =
        record { next = h; joins = started_joins settings h t w.keeps w.marks id rest front row found new s (may row s found is) }

    start_row : (o : Option AppRow) → row_of t.rows id ≡ o → IsStarting o → PreservesContainersTo settings h t (main_worked (start_of_row o id t))
    start_row None found s = absurd (let x = s.is in cc)
    start_row (Some row) found s =
        let same : row ≡ s.one = let x = s.is in cc in
        start_pending row found (ap (λ (r : AppRow). r.state) same ∙ s.new) row.pending refl (rw same s.waits)

    pub start_joins : PreservesContainersTo settings h t (main_worked (main_step (mains.AppStart id) t))
    start_joins = start_row (row_of t.rows id) refl starts

  -- Retire
  module _ (set : settings ≡ t.settings) (completes : Completes t) (rest : List MainEvent) (front : t.main ≡ mains.Retire ∷ rest) where
    abbrev after_removal : AppId → List AppId → List MainEvent → Tables
    after_removal id more main = record t { ended = more; awaiting = t.awaiting ++ ops.Remove id ∷ []; main = main }

    removal : (id : AppId) (more : List AppId) → t.ended ≡ id ∷ more → settings.max_completed < length t.ended → PreservesContainersTo settings h t (Issued (ops.Remove id), after_removal id more (drop 1 (t.main ++ mains.Retire ∷ [])))
    removal id more first many =
        let left : drop 1 t.main ++ mains.Retire ∷ [] ≡ drop 1 (t.main ++ mains.Retire ∷ []) = rw front refl in
        subst (λ (main : List MainEvent). PreservesContainersTo settings h t (Issued (ops.Remove id), after_removal id more main)) left
        (record { next = h; joins = retire_joins settings h t w.keeps w.marks rest front id more (retire_steps settings h t w.keeps completes rest front id more first many) })

    retire_test : (id : AppId) (more : List AppId) → t.ended ≡ id ∷ more → (b : Bool) → nat_lt t.settings.max_completed (length (id ∷ more)) ≡ b
        → PreservesContainersTo settings h t (main_worked (if b then (Issued (ops.Remove id), after_removal id more (t.main ++ mains.Retire ∷ [])) else main_quiet t))
    retire_test id more first true e =
        let many : t.settings.max_completed < length (id ∷ more) = grind (arith, nat_tests) in
        removal id more first (rw (set, first) many)
    retire_test id more first false e = record { next = h; joins = retire_idle_joins settings h t w.keeps w.marks rest front }

    retire_ended : (ended : List AppId) → t.ended ≡ ended → PreservesContainersTo settings h t (main_worked (removal_of_first ended t))
    retire_ended [] first = record { next = h; joins = retire_idle_joins settings h t w.keeps w.marks rest front }
    retire_ended (id ∷ more) first = retire_test id more first (nat_lt t.settings.max_completed (length (id ∷ more))) refl

    pub retired_joins : PreservesContainersTo settings h t (main_worked (main_step mains.Retire t))
    retired_joins = retire_ended t.ended refl
