-- A submission that is taken, and its App once it is kept, each as a whole step.
use Rattle.rm_invariant.proofs.Common.{◌≡◌, ◌+◌, suc, List, [], ◌∷◌, ◌++◌, Bool, true, false, not, Option, None, Some, drop, filter, refl, sym, ◌∙◌, ap, subst, arith, AppId, AttemptId, Op, Submission, Settings, is_app, Records, recorded, records, no_records, new_record, record_of, same_app, app_itself, waiting_submission, AppState, AppRow, Tables, changed, kept, is_retired, row_of, History}
use Rattle.std.proofs.lemmas.List.Sums.{fold_push}
use Rattle.rm_types.specs.declared.entries.Entry.TheVariants.{Kept as KeptEntry}
use Rattle.rm_types.specs.declared.operations.Op.TheVariants as ops
use Rattle.rm_states.specs.declared.app.states.AppState.TheVariants as apps
use Rattle.rm_tables.specs.declared.changes.RowChange.TheVariants as of_app
use Rattle.rm_tables.specs.declared.events.MainEvent.TheVariants as mains
use Rattle.rm_invariant.specs.apps.View.{View, view, counts, main_view, op_view, put_if, gone_if}
use Rattle.rm_invariant.specs.apps.Invariant.{AttemptsInvariant, RowInvariant, StateInvariant}
use Rattle.rm_invariant.specs.Step.{AppsInvariant, Step}
use Rattle.rm_invariant.proofs.apps.Effects.{main_end, op_taken}
use Rattle.rm_invariant.proofs.apps.Found.{record_put, row_changed, row_put, waiting_gone, waiting_put}
use Rattle.rm_invariant.proofs.apps.Keeping.{step_own}
use Rattle.rm_invariant.proofs.apps.Own.{app_more, app_saved, submitted_new}

-- the row of an application whose App awaits
pub record AppAwaits (row : Option AppRow) : Type 0 where
  pub one : AppRow
  pub is : row ≡ Some one
  pub state : one.state ≡ apps.NewSaving

app_awaits : (settings : Settings) (q : AttemptId) (row : Option AppRow) (v : View) → RowInvariant settings q row (app_more v) → AppAwaits row
app_awaits settings q None v good = absurd (let n = good.none_await in omega (arith, n))
app_awaits settings q (Some row) v good = record { one = row; is = refl; state = by row.state good.1 }
  where
    by : (s : AppState) → StateInvariant settings q s row (app_more v) → s ≡ apps.NewSaving
    by s says = grind arith

-- the records of one more kept operation
pub recorded_more : (settings : Settings) (h : History) (t : Tables) (k : AppsInvariant settings h t) (op : Op) → records (h.kept ++ op ∷ []) ≡ recorded t.tree op
recorded_more settings h t k op = fold_push recorded no_records h.kept op ∙ ap (λ (r : Records). recorded r op) k.recorded

-- Kept App
module _ (settings : Settings) (h : History) (t : Tables) (k : AppsInvariant settings h t) (id : AppId) (s : Submission) (rest : List Op) (front : t.awaiting ≡ ops.App id s ∷ rest) where
  abbrev taken : Tables
  taken = record t { awaiting = drop 1 t.awaiting }

  abbrev pub app_kept : History
  app_kept = record h { kept = h.kept ++ ops.App id s ∷ []; apps = record h.apps { submitted = filter (λ one. not (is_app one.id id)) h.apps.submitted } }

  -- its application has a row, which is being saved
  pub app_waits : AppAwaits (row_of t.rows id)
  app_waits =
      let at : AttemptId = record { app = id; number = 0 } in
      let good = subst (λ (v : View). RowInvariant settings at (row_of t.rows id) v) (op_taken h t at (ops.App id s) rest front) (k.all at) in
      app_awaits settings at (row_of t.rows id) (view h taken at) (let g = rw (app_itself id) at good in g)

  -- and no record
  pub app_unkept : record_of t.tree.apps id ≡ None
  app_unkept =
      let at : AttemptId = record { app = id; number = 0 } in
      let awaits = app_waits in
      let says : RowInvariant settings at (Some awaits.one) (view h t at) = rw awaits.is at (k.all at) in
      let saving = subst (λ (s : AppState). StateInvariant settings at s awaits.one (view h t at)) awaits.state says.1 in
      saving.0.no_record

  pub app_kept_steps : t.handed ≡ true → Step settings h t (KeptEntry (ops.App id s)) app_kept (kept (ops.App id s) t)
  app_kept_steps handed =
      let awaits = app_waits in
      step_own settings h app_kept t (kept (ops.App id s) t) k (KeptEntry (ops.App id s)) id (Some awaits.one) (changed of_app.Keep) (view h taken)
      (λ q v. op_view q (ops.App id s) v) (λ q v. record (main_view q (mains.AppSaved id) v) { found = put_if (is_app id q.app) (new_record id s) v.found; waiting = gone_if (is_app id q.app) v.waiting })
      (λ q v. app_more v) (λ q v. record v { found = put_if true (new_record id s) v.found; waiting = None; count = record v.count { saves = suc v.count.saves } })
      (record { handed = handed; first = rw front refl }) refl (recorded_more settings h t k (ops.App id s)) k.is_open awaits.is (λ q. row_changed (changed of_app.Keep) id q t.rows)
      (λ q. op_taken h t q (ops.App id s) rest front)
      (λ q. rw (main_end h taken q (mains.AppSaved id), record_put (new_record id s) q.app t.tree.apps, waiting_gone id q.app h.apps.submitted) refl)
      (λ q v other. rw other refl) (λ q v other. rw other refl) (λ q v same. rw same refl) (λ q v same. rw same refl)
      (λ q same says. app_saved settings q awaits.one (view h taken q) (new_record id s) refl refl awaits.state says)

-- the row of a submission that was taken just now
abbrev pub row_new : Submission → AppRow
row_new s = record { state = apps.New; wish = false; pending = Some s; current = None; first = 0; dialogue = None; closings = [] }

-- A submission is taken of an application that isn't known and was not removed
module _ (settings : Settings) (h : History) (t : Tables) (all : AttemptsInvariant settings h t) (id : AppId) (s : Submission) where
  abbrev pub submitting : History
  submitting = record h { apps = record h.apps { submitted = h.apps.submitted ++ record { id = id; submission = s } ∷ [] } }

  abbrev pub joining : Tables
  joining = record t { rows = t.rows ++ (id, Some (row_new s)) ∷ []; going = t.going + 1; main = t.main ++ mains.AppStart id ∷ [] }

  seen : (q : AttemptId) → view submitting joining q ≡ record (main_view q (mains.AppStart id) (view h t q)) { waiting = put_if (is_app id q.app) s (waiting_submission h.apps.submitted q.app) }
  seen q = rw (main_end h t q (mains.AppStart id), waiting_put id q.app s h.apps.submitted) refl

  pub joined_says : row_of t.rows id ≡ None → is_retired t.rows id ≡ false → ((q : AttemptId) → is_app id q.app ≡ true → (view h t q).retired ≡ false) → AttemptsInvariant settings submitting joining
  joined_says found fresh stays = λ q. rw (row_put id q.app (row_new s) t.rows fresh) (by q (is_app id q.app) refl)
    where
      by : (q : AttemptId) (b : Bool) → is_app id q.app ≡ b → RowInvariant settings q (put_if b (row_new s) (row_of t.rows q.app)) (view submitting joining q)
      by q true e =
          let same : id ≡ q.app = same_app id q.app e in
          let none : row_of t.rows q.app ≡ None = rw (← same) found in
          let old : RowInvariant settings q None (view h t q) = rw none at (all q) in
          let waits : waiting_submission h.apps.submitted q.app ≡ None = old.none_waits in
          let now : view submitting joining q ≡ record (view h t q) { waiting = Some s; count = record (counts h t q) { starts = suc (counts h t q).starts } } = seen q ∙ rw (e, waits) refl in
          rw none (subst (λ (v : View). RowInvariant settings q (Some (row_new s)) v) (sym now) (submitted_new settings q (view h t q) s (row_new s) refl (stays q e) old))
      by q false e =
          let now : view submitting joining q ≡ view h t q = seen q ∙ rw e refl in
          subst (λ (v : View). RowInvariant settings q (row_of t.rows q.app) v) (sym now) (all q)
