-- The operation that awaits first fits what is recorded.
use Rattle.rm_invariant.proofs.Common.{◌≡◌, ℕ, ◌+◌, ◌&&◌, suc, List, ◌∷◌, true, false, Option, None, Some, drop, is_none, length, refl, subst, arith, and_from, AttemptId, How, Op, AppRecord, Settings, is_attempt, all_ended, fits_records, is_some_and, last_attempt, record_of, app_itself, AppState, attempts_in, end_in, is_epoch_op, AppRow, Tables, row_of, History}
use Rattle.std.proofs.Common.{◌==◌, is_some, option_map}
use Rattle.rm_types.specs.declared.operations.Op.TheVariants as ops
use Rattle.rm_types.proofs.TestLemmas.{number_itself}
use Rattle.rm_states.specs.declared.app.states.AppState.TheVariants as apps
use Rattle.rm_invariant.specs.apps.Invariant.{LastIsOpen, AllHaveEnded, RowInvariant, StateInvariant}
use Rattle.rm_invariant.specs.Step.{AppsInvariant}
use Rattle.rm_invariant.specs.apps.View.{View, op_view, view}
use Rattle.rm_invariant.proofs.apps.Effects.{op_taken}
use Rattle.rm_invariant.proofs.apps.Saving.{app_unkept}
use Rattle.rm_invariant.proofs.apps.KeptEnds.{end_awaits, over_awaits, with_end_op}
use Rattle.rm_invariant.proofs.masters.AwaitingAttempts.{attempt_awaits, with_attempt_op}
use Rattle.rm_invariant.specs.Core.{CoreInvariant}

none_is : {X : Type 0} (o : Option X) → o ≡ None → is_none o ≡ true
none_is o e = rw e refl

-- an application that goes on, all of whose attempts have ended, may have a next attempt, and may end
attempt_fits : (id : AttemptId) (found : Option AppRecord) → AllHaveEnded found → id.number ≡ length (attempts_in found) + 1
    → is_some_and (λ app. is_none app.ending && (all_ended app.attempts && (id.number == length app.attempts + 1))) found ≡ true
attempt_fits id None stopped next = let x = stopped.0 in cc
attempt_fits id (Some app) stopped next =
    let number : (id.number == length app.attempts + 1) ≡ true = rw next (number_itself (length app.attempts + 1)) in
    and_from (is_none app.ending) _ (none_is app.ending stopped.1) (and_from (all_ended app.attempts) _ stopped.2 number)

app_end_fits : (found : Option AppRecord) → AllHaveEnded found → is_some_and (λ app. is_none app.ending && all_ended app.attempts) found ≡ true
app_end_fits None stopped = let x = stopped.0 in cc
app_end_fits (Some app) stopped = and_from (is_none app.ending) (all_ended app.attempts) (none_is app.ending stopped.1) stopped.2

-- one whose last attempt goes on may have that end
attempt_end_fits : (id : AttemptId) (found : Option AppRecord) → LastIsOpen found id → is_some_and (λ app. is_some_and (λ last. is_attempt last.id id && is_none last.ending) (last_attempt app.attempts)) found ≡ true
attempt_end_fits id None goes = let x = goes.0 in cc
attempt_end_fits id (Some app) goes = goes.2

-- and one that has ended may be removed
ended_fits : (how : How) (found : Option AppRecord) → option_map (λ e. e.0) (end_in found) ≡ Some how → is_some_and (λ app. is_some app.ending) found ≡ true
ended_fits how None e = cc
ended_fits how (Some app) e = by app.ending e
  where
    by : (o : Option (How × List ℕ)) → option_map (λ e. e.0) o ≡ Some how → is_some o ≡ true
    by None f = cc
    by (Some end) f = refl

-- what an AppEnd and a Remove that await say of what is recorded
over_stopped : (settings : Settings) (q : AttemptId) (row : Option AppRow) (v : View) → RowInvariant settings q row (record v { count = record v.count { app_ends = suc v.count.app_ends } }) → AllHaveEnded v.found
over_stopped settings q row v good =
    let awaits = over_awaits settings q row v good in
    let says : RowInvariant settings q (Some awaits.one) (record v { count = record v.count { app_ends = suc v.count.app_ends } }) = rw awaits.is at good in
    let saving = subst (λ (s : AppState). StateInvariant settings q s awaits.one (record v { count = record v.count { app_ends = suc v.count.app_ends } })) awaits.state says.1 in
    saving.0

remove_fits : (settings : Settings) (q : AttemptId) (row : Option AppRow) (v : View) → RowInvariant settings q row (record v { count = record v.count { removes = suc v.count.removes } })
    → is_some_and (λ app. is_some app.ending) v.found ≡ true
remove_fits settings q None v good = absurd (let n = good.none_await in omega (arith, n))
remove_fits settings q (Some row) v good = by row.state good.1
  where
    by : (s : AppState) → StateInvariant settings q s row (record v { count = record v.count { removes = suc v.count.removes } }) → is_some_and (λ app. is_some app.ending) v.found ≡ true
    by apps.New says = absurd (let n = says.2 in omega (arith, n))
    by apps.NewSaving says = absurd (let a = says.2 in let n = says.3 in omega (arith, a, n))
    by apps.Submitted says = absurd (let n = says.6 in omega (arith, n))
    by apps.FinalSaving says = absurd (let a = says.3 in let n = says.4 in omega (arith, a, n))
    by apps.Finished says = ended_fits _ v.found says.0
    by apps.Failed says = ended_fits _ v.found says.0
    by apps.Killed says = ended_fits _ v.found says.0
    by _ says = absurd (grind arith)

module _ (settings : Settings) (h : History) (t : Tables) (k : AppsInvariant settings h t) where
  -- the tables without the operation, and what is said of the attempt of an operation with it
  abbrev left : Tables
  left = record t { awaiting = drop 1 t.awaiting }

  said : (q : AttemptId) (op : Op) (rest : List Op) → t.awaiting ≡ op ∷ rest → RowInvariant settings q (row_of t.rows q.app) (op_view q op (view h left q))
  said q op rest front = subst (λ (v : View). RowInvariant settings q (row_of t.rows q.app) v) (op_taken h t q op rest front) (k.all q)

  keeps_fits : (op : Op) (rest : List Op) → t.awaiting ≡ op ∷ rest → is_epoch_op op ≡ false → fits_records t.tree op ≡ true
  keeps_fits (ops.Epoch next stamp) rest front kind = cc
  keeps_fits (ops.App id submission) rest front kind = none_is (record_of t.tree.apps id) (app_unkept settings h t k id submission rest front)
  keeps_fits (ops.Attempt id master node) rest front kind =
      let own : op_view id (ops.Attempt id master node) (view h left id) ≡ with_attempt_op id (view h left id) = rw (app_itself id.app, number_itself id.number) refl in
      let awaits = attempt_awaits settings id (view h left id) (row_of t.rows id.app) (subst (λ (v : View). RowInvariant settings id (row_of t.rows id.app) v) own (said id (ops.Attempt id master node) rest front)) in
      attempt_fits id (record_of t.tree.apps id.app) awaits.stopped awaits.next
  keeps_fits (ops.AttemptEnd id how text) rest front kind =
      let own : op_view id (ops.AttemptEnd id how text) (view h left id) ≡ with_end_op id (view h left id) = rw (app_itself id.app, number_itself id.number) refl in
      let awaits = end_awaits settings id (view h left id) (row_of t.rows id.app) (subst (λ (v : View). RowInvariant settings id (row_of t.rows id.app) v) own (said id (ops.AttemptEnd id how text) rest front)) in
      attempt_end_fits id (record_of t.tree.apps id.app) awaits.goes
  keeps_fits (ops.AppEnd id how text) rest front kind =
      let q : AttemptId = record { app = id; number = 0 } in
      let own : op_view q (ops.AppEnd id how text) (view h left q) ≡ record (view h left q) { count = record (view h left q).count { app_ends = suc (view h left q).count.app_ends } } = rw (app_itself id) refl in
      app_end_fits (record_of t.tree.apps id) (over_stopped settings q (row_of t.rows id) (view h left q) (subst (λ (v : View). RowInvariant settings q (row_of t.rows id) v) own (said q (ops.AppEnd id how text) rest front)))
  keeps_fits (ops.Remove id) rest front kind =
      let q : AttemptId = record { app = id; number = 0 } in
      let own : op_view q (ops.Remove id) (view h left q) ≡ record (view h left q) { count = record (view h left q).count { removes = suc (view h left q).count.removes } } = rw (app_itself id) refl in
      remove_fits settings q (row_of t.rows id) (view h left q) (subst (λ (v : View). RowInvariant settings q (row_of t.rows id) v) own (said q (ops.Remove id) rest front))

-- the first awaiting operation of an open life fits what is recorded, unless it is an Epoch
pub next_fits : (settings : Settings) (h : History) (t : Tables) → CoreInvariant settings h t → (op : Op) (rest : List Op) → t.awaiting ≡ op ∷ rest → is_epoch_op op ≡ false → fits_records t.tree op ≡ true
next_fits settings h t w = keeps_fits settings h t w.keeps
