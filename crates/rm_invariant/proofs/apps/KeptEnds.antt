-- The end of an attempt and the end of an application once they are kept, each as a whole step.
use Rattle.rm_invariant.proofs.Common.{◌≡◌, ◌≤◌, ℕ, ◌||◌, ◌&&◌, suc, List, [], ◌∷◌, ◌++◌, Bool, true, false, Option, None, Some, length, map, drop, refl, ◌∙◌, ap, subst, arith, list_all, nat_tests, AppId, AttemptId, How, Op, AppRecord, AttemptRecord, Settings, is_app, is_attempt, all_ended, is_some_and, last_attempt, record_of, with_end, same_app, app_itself, asks_without, attempts_in, end_in, AppState, AttemptState, SchedEvent, AppRow, Current, Tables, changed, removed_at, removed_by, removed_of, kept, row_of, History, removed_if}
use Rattle.std.proofs.Common.{◌==◌, is_some, option_map}
use Rattle.std.proofs.lemmas.List.{append-nil}
use Rattle.rm_types.specs.declared.entries.Entry.TheVariants.{Kept as KeptEntry}
use Rattle.rm_types.specs.declared.operations.Op.TheVariants as ops
use Rattle.rm_types.proofs.EndLemmas.{length-ended}
use Rattle.rm_states.specs.declared.app.states.AppState.TheVariants as apps
use Rattle.rm_states.specs.declared.attempt.states.AttemptState.TheVariants as attempts
use Rattle.rm_tables.specs.declared.changes.AttemptChange.TheVariants as of_attempt
use Rattle.rm_tables.specs.declared.changes.RowChange.TheVariants as of_app
use Rattle.rm_tables.specs.declared.events.MainEvent.TheVariants as mains
use Rattle.rm_tables.specs.declared.events.SchedEvent.TheVariants as scheds
use Rattle.rm_invariant.specs.apps.View.{View, view, counts, changed_if, main_more, main_view, op_view, one_if}
use Rattle.rm_invariant.specs.apps.Invariant.{ActiveInvariant, AttemptCounts, CurrentInvariant, LastIsOpen, AllHaveEnded, RowInvariant, StateInvariant, has_ended_or_is, is_active, is_open_one}
use Rattle.rm_invariant.specs.Step.{AppsInvariant, Step}
use Rattle.rm_invariant.proofs.apps.Completing.{with_end_at}
use Rattle.rm_invariant.proofs.apps.Counts.{at_end}
use Rattle.rm_invariant.proofs.apps.Effects.{main_end, op_taken, sched_end}
use Rattle.rm_invariant.proofs.apps.Found.{row_changed}
use Rattle.rm_invariant.proofs.apps.Keeping.{step_own}
use Rattle.rm_invariant.proofs.apps.Own.{active_row}
use Rattle.rm_invariant.proofs.apps.Saving.{recorded_more}
use Rattle.rm_invariant.specs.apps.Ends.{none_if}
use Rattle.rm_invariant.proofs.apps.Asked.{asks_gone}
use Rattle.rm_invariant.proofs.apps.AtStates.{attempt_ended, end_saved}
use Rattle.rm_invariant.proofs.apps.Recorded.{record_changed}
use Rattle.rm_model.specs.Facts.{keeps}
use Rattle.rm_types.specs.Records.{recorded}

-- what an AttemptEnd that awaits says of the row of its application
pub record EndAwaits (settings : Settings) (q : AttemptId) (row : Option AppRow) (v : View) : Type 0 where
  pub one : AppRow
  pub is : row ≡ Some one
  pub active : is_active one.state ≡ true
  pub current : Current
  pub current_is : one.current ≡ Some current
  pub state : current.state ≡ attempts.Ending
  pub number : current.number ≡ q.number
  pub goes : LastIsOpen v.found q

abbrev pub with_end_op : AttemptId → View → View
with_end_op q v = record v { count = record v.count { attempt_ends = suc v.count.attempt_ends; own_ops = suc v.count.own_ops } }

module _ (settings : Settings) (q : AttemptId) (v : View) where
  end_active : (s : AppState) (row : AppRow) → StateInvariant settings q s row (with_end_op q v) → is_active s ≡ true
  end_active apps.New row says = absurd (let n = says.2 in omega (arith, n))
  end_active apps.NewSaving row says = let a = says.2 in let n = says.3 in absurd (omega (arith, a, n))
  end_active apps.Submitted row says = absurd (let n = says.6 in omega (arith, n))
  end_active apps.Accepted row says = refl
  end_active apps.Running row says = refl
  end_active apps.Killing row says = refl
  end_active _ row says = grind arith

  end_current : (row : AppRow) (c : Option Current) → ActiveInvariant settings q c row.wish (with_end_op q v) → row.current ≡ c → is_active row.state ≡ true → EndAwaits settings q (Some row) v
  end_current row None says is a = absurd says
  end_current row (Some current) says is a = by current.state refl (current.number == q.number) refl says.0 says.1
    where
      by : (s : AttemptState) → current.state ≡ s → (b : Bool) → (current.number == q.number) ≡ b → CurrentInvariant settings s (record { app = q.app; number = current.number }) row.wish (with_end_op q v)
          → AttemptCounts q.number b s row.wish (with_end_op q v) → EndAwaits settings q (Some row) v
      by s e false n says at_ = absurd (let o = at_.0 in omega (arith, o))
      by attempts.Ending e true n says at_ =
          let same : current.number ≡ q.number = grind (arith, nat_tests) in
          record { one = row; is = refl; active = a; current = current; current_is = is; state = e; number = same; goes = rw same at says.0 }
      by attempts.Scheduled e true n says at_ = absurd (let o = at_.1 in omega (arith, o))
      by attempts.Granted e true n says at_ = absurd (let o = at_.0 in omega (arith, o))
      by attempts.Saving e true n says at_ = absurd (let a = says.2 in let o = says.3 in omega (arith, a, o))
      by attempts.Live e true n says at_ = absurd (let o = at_.0 in omega (arith, o))
      by attempts.Registered e true n says at_ = absurd (let o = at_.0 in omega (arith, o))
      by attempts.Finishing e true n says at_ = absurd (let o = at_.0 in omega (arith, o))
      by attempts.Ended e true n says at_ = absurd (omega (arith, at_))
      by attempts.Dropped e true n says at_ = absurd says

  pub end_awaits : (row : Option AppRow) → RowInvariant settings q row (with_end_op q v) → EndAwaits settings q row v
  end_awaits None good = absurd (let n = good.none_await in omega (arith, n))
  end_awaits (Some row) good =
      let a = end_active row.state row good.1 in
      end_current row row.current (active_row settings q row (with_end_op q v) a good).current refl a

-- the record with that end: all its attempts have ended
abbrev with_ended : AttemptId → How → List ℕ → AppRecord → AppRecord
with_ended id how text one = record one { attempts = map (with_end id how text) one.attempts }

or_left : (b : Bool) {rest : Bool} → ((b || true) && rest) ≡ true → rest ≡ true
or_left true r = r
or_left false r = r

all_end : (id : AttemptId) (how : How) (text : List ℕ) (attempts : List AttemptRecord) → list_all (has_ended_or_is id) attempts ≡ true → all_ended (map (with_end id how text) attempts) ≡ true
all_end id how text [] e = refl
all_end id how text (one ∷ more) e = by (is_some one.ending) (is_attempt one.id id) refl refl (all_end id how text more)
  where
    by : (b c : Bool) → is_some one.ending ≡ b → is_attempt one.id id ≡ c → (list_all (has_ended_or_is id) more ≡ true → all_ended (map (with_end id how text) more) ≡ true)
        → all_ended (map (with_end id how text) (one ∷ more)) ≡ true
    by b true f g rest =
        let left : list_all (has_ended_or_is id) more ≡ true = or_left (is_some one.ending) (rw g at e) in
        rw g (rest left)
    by true false f g rest = rw (g, f) (rest (let x = rw f at e in x))
    by false false f g rest = absurd (let x = rw (f, g) at e in cc)

-- what is found after it
pub record WithEnd (id : AttemptId) (how : How) (text : List ℕ) (found : Option AppRecord) : Type 0 where
  pub stopped : AllHaveEnded (option_map (with_ended id how text) found)
  pub same : length (attempts_in (option_map (with_ended id how text) found)) ≡ length (attempts_in found)
  pub some : 1 ≤ length (attempts_in found)

some_last : (id : AttemptId) (attempts : List AttemptRecord) → is_some_and (is_open_one id) (last_attempt attempts) ≡ true → 1 ≤ length attempts
some_last id [] e = cc
some_last id (one ∷ more) e = omega arith

pub ended_record : (id : AttemptId) (how : How) (text : List ℕ) (found : Option AppRecord) → LastIsOpen found id → WithEnd id how text found
ended_record id how text None goes = cc
ended_record id how text (Some one) goes =
    record { stopped = (refl, goes.1, all_end id how text one.attempts goes.4); same = length-ended id how text one.attempts; some = some_last id one.attempts goes.2 }

-- Kept AttemptEnd
module _ (settings : Settings) (h : History) (t : Tables) (k : AppsInvariant settings h t) (id : AttemptId) (how : How) (text : List ℕ) (rest : List Op) (front : t.awaiting ≡ ops.AttemptEnd id how text ∷ rest) where
  abbrev left : Tables
  left = record t { awaiting = drop 1 t.awaiting }

  -- the history after it: the attempt asks for nothing more
  abbrev pub attempt_over : History
  attempt_over = record h { kept = h.kept ++ ops.AttemptEnd id how text ∷ []; asks = asks_without id h.asks }

  same_number : (n : ℕ) → (n == n) ≡ true
  same_number n = grind (arith, nat_tests)

  with_end_self : op_view id (ops.AttemptEnd id how text) (view h left id) ≡ with_end_op id (view h left id)
  with_end_self = rw (app_itself id.app, same_number id.number) refl

  pub attempt_end_kept_steps : t.handed ≡ true → Step settings h t (KeptEntry (ops.AttemptEnd id how text)) attempt_over (kept (ops.AttemptEnd id how text) t)
  attempt_end_kept_steps handed =
      let good = subst (λ (v : View). RowInvariant settings id (row_of t.rows id.app) v) (op_taken h t id (ops.AttemptEnd id how text) rest front) (k.all id) in
      let awaits = end_awaits settings id (view h left id) (row_of t.rows id.app) (subst (λ (v : View). RowInvariant settings id (row_of t.rows id.app) v) with_end_self good) in
      let ended = ended_record id how text (record_of t.tree.apps id.app) awaits.goes in
      let number = awaits.number in
      let some = ended.some in
      let length_is = awaits.goes.3 in
      let one : 1 ≤ awaits.current.number = omega (arith, number, some, length_is) in
      step_own settings h attempt_over t (kept (ops.AttemptEnd id how text) t) k (KeptEntry (ops.AttemptEnd id how text)) id.app (Some awaits.one) (changed (of_app.OfAttempt (of_attempt.KeepEnd how))) (view h left)
      (λ q v. op_view q (ops.AttemptEnd id how text) v)
      (λ q v. record (main_view q (mains.AttemptDone id) (record v { count = record v.count { asks = none_if (is_attempt id q) v.count.asks } })) { found = changed_if (is_app id.app q.app) (with_ended id how text) v.found })
      (λ q v. record v { count = record v.count { attempt_ends = suc v.count.attempt_ends; own_ops = one_if (id.number == q.number) v.count.own_ops } })
      (λ q v. record v { found = option_map (with_ended id how text) v.found; count = record v.count { dones = suc v.count.dones; asks = none_if (id.number == q.number) v.count.asks } })
      (record { handed = handed; first = rw front refl }) refl (recorded_more settings h t k (ops.AttemptEnd id how text)) k.is_open awaits.is (λ q. row_changed (changed (of_app.OfAttempt (of_attempt.KeepEnd how))) id.app q t.rows)
      (λ q. op_taken h t q (ops.AttemptEnd id how text) rest front)
      (λ q.
      let posted = main_end attempt_over (record left { sched = t.sched ++ scheds.AttemptRemoved id ∷ [] }) q (mains.AttemptDone id) in
      let removed : counts attempt_over (record left { sched = t.sched ++ scheds.AttemptRemoved id ∷ [] }) q ≡ counts attempt_over left q = sched_end attempt_over left q (scheds.AttemptRemoved id) in
      let gone : counts attempt_over left q ≡ record (counts h left q) { asks = none_if (is_attempt id q) (counts h left q).asks } = rw (asks_gone id q h.asks) refl in
      let all = posted ∙ ap (main_more q (mains.AttemptDone id)) (removed ∙ gone) in
      let found = record_changed (with_ended id how text) (λ one. refl) id.app q.app t.tree.apps in
      rw (all, found) refl)
      (λ q v other. rw other refl) (λ q v other. rw other refl) (λ q v same. rw same refl) (λ q v same. rw same refl)
      (λ q same says.
      let here : id.app ≡ q.app = same_app id.app q.app same in
      let stopped : AllHaveEnded (option_map (with_ended id how text) (record_of t.tree.apps q.app)) = rw (← here) ended.stopped in
      let lengths : length (attempts_in (option_map (with_ended id how text) (record_of t.tree.apps q.app))) ≡ length (attempts_in (record_of t.tree.apps q.app)) = rw (← here) ended.same in
      attempt_ended settings q awaits.one awaits.current (view h left q) awaits.current_is awaits.active how (option_map (with_ended id how text) (record_of t.tree.apps q.app)) awaits.state stopped lengths one
      (id.number == q.number) (id.number == q.number) (ap (λ n. n == q.number) number) says)

-- what an AppEnd that awaits says of the row of its application
pub record OverAwaits (row : Option AppRow) (v : View) : Type 0 where
  pub one : AppRow
  pub is : row ≡ Some one
  pub state : one.state ≡ apps.FinalSaving
  pub kept : is_some v.found ≡ true

pub over_awaits : (settings : Settings) (q : AttemptId) (row : Option AppRow) (v : View) → RowInvariant settings q row (record v { count = record v.count { app_ends = suc v.count.app_ends } }) → OverAwaits row v
over_awaits settings q None v good = absurd (let n = good.none_await in omega (arith, n))
over_awaits settings q (Some row) v good = record { one = row; is = refl; state = by row.state good.1; kept = kept row.state good.1 }
  where
    by : (s : AppState) → StateInvariant settings q s row (record v { count = record v.count { app_ends = suc v.count.app_ends } }) → s ≡ apps.FinalSaving
    by s says = grind (arith, nat_tests)

    kept : (s : AppState) → StateInvariant settings q s row (record v { count = record v.count { app_ends = suc v.count.app_ends } }) → is_some v.found ≡ true
    kept s says = grind (arith, nat_tests)

ended_so : (how : How) (text : List ℕ) (told_ : ℕ) (found : Option AppRecord) → is_some found ≡ true → option_map (λ e. e.0) (end_in (option_map (with_end_at how text told_) found)) ≡ Some how
ended_so how text told_ None e = cc
ended_so how text told_ (Some one) e = refl

-- Kept AppEnd
module _ (settings : Settings) (h : History) (t : Tables) (k : AppsInvariant settings h t) (id : AppId) (how : How) (text : List ℕ) (rest : List Op) (front : t.awaiting ≡ ops.AppEnd id how text ∷ rest) where
  abbrev past : Tables
  past = record t { awaiting = drop 1 t.awaiting }

  abbrev nth : AttemptId
  nth = record { app = id; number = 0 }

  abbrev pub app_over : History
  app_over = record h { kept = h.kept ++ ops.AppEnd id how text ∷ [] }

  -- that the scheduler is to end containers counts for nothing in a view
  removed_counts : (m : Tables) (q : AttemptId) (keep : Bool) (row : Option AppRow) → counts app_over (record m { sched = m.sched ++ removed_by row keep id }) q ≡ counts app_over m q
  removed_counts m q keep None = uncounted [] refl
    where
      uncounted : (events : List SchedEvent) → events ≡ [] → counts app_over (record m { sched = m.sched ++ events }) q ≡ counts app_over m q
      uncounted events e = rw (e, append-nil m.sched) refl
  removed_counts m q keep (Some row) = by row.current
    where
      none : counts app_over (record m { sched = m.sched ++ [] }) q ≡ counts app_over m q
      none = rw (append-nil m.sched) refl

      by : (c : Option Current) → counts app_over (record m { sched = m.sched ++ removed_of c keep id }) q ≡ counts app_over m q
      by None = none
      by (Some current) = at_state current.state
        where
          at_state : (s : AttemptState) → counts app_over (record m { sched = m.sched ++ removed_at s keep (record { app = id; number = current.number }) }) q ≡ counts app_over m q
          at_state attempts.Dropped = sched_end app_over m q (scheds.AttemptRemoved (record { app = id; number = current.number }))
          at_state attempts.Ended = if_kept keep
            where
              if_kept : (b : Bool) → counts app_over (record m { sched = m.sched ++ removed_if b (record { app = id; number = current.number }) }) q ≡ counts app_over m q
              if_kept true = sched_end app_over m q (scheds.AttemptRemoved (record { app = id; number = current.number }))
              if_kept false = none
          at_state _ = none

  pub app_end_kept_steps : t.handed ≡ true → Step settings h t (KeptEntry (ops.AppEnd id how text)) app_over (kept (ops.AppEnd id how text) t)
  app_end_kept_steps handed =
      let good = subst (λ (v : View). RowInvariant settings nth (row_of t.rows id) v) (op_taken h t nth (ops.AppEnd id how text) rest front) (k.all nth) in
      let awaits = over_awaits settings nth (row_of t.rows id) (view h past nth) (let g = rw (app_itself id) at good in g) in
      let ended = ended_so how text t.tree.applied (record_of t.tree.apps id) awaits.kept in
      step_own settings h app_over t (kept (ops.AppEnd id how text) t) k (KeptEntry (ops.AppEnd id how text)) id (Some awaits.one) (changed (of_app.KeepEnd how)) (view h past)
      (λ q v. op_view q (ops.AppEnd id how text) v)
      (λ q v. record (main_view q mains.Retire v) { found = changed_if (is_app id q.app) (with_end_at how text t.tree.applied) v.found; count = record v.count { completed = one_if (is_app id q.app) v.count.completed } })
      (λ q v. record v { count = record v.count { app_ends = suc v.count.app_ends } })
      (λ q v. record v { found = option_map (with_end_at how text t.tree.applied) v.found; count = record v.count { completed = suc v.count.completed } })
      (record { handed = handed; first = rw front refl }) refl (recorded_more settings h t k (ops.AppEnd id how text)) k.is_open awaits.is (λ q. row_changed (changed (of_app.KeepEnd how)) id q t.rows)
      (λ q. op_taken h t q (ops.AppEnd id how text) rest front)
      (λ q.
      let dropped = removed_counts (record past { ended = t.ended ++ id ∷ []; main = t.main ++ mains.Retire ∷ [] }) q (keeps (record_of (recorded t.tree (ops.AppEnd id how text)).apps id)) (row_of t.rows id) in
      let posted = main_end app_over (record past { ended = t.ended ++ id ∷ [] }) q mains.Retire in
      let found = record_changed (with_end_at how text t.tree.applied) (λ one. refl) id q.app t.tree.apps in
      rw (dropped ∙ posted, at_end (λ one. is_app one q.app) t.ended id, found) refl)
      (λ q v other. rw other refl) (λ q v other. rw other refl) (λ q v same. rw same refl) (λ q v same. rw same refl)
      (λ q same says.
      let here : id ≡ q.app = same_app id q.app same in
      end_saved settings q awaits.one (view h past q) how (option_map (with_end_at how text t.tree.applied) (record_of t.tree.apps q.app)) (rw (← here) ended) (unchanged_attempts (record_of t.tree.apps q.app)) awaits.state says)
    where
      unchanged_attempts : (found : Option AppRecord) → attempts_in (option_map (with_end_at how text t.tree.applied) found) ≡ attempts_in found
      unchanged_attempts None = refl
      unchanged_attempts (Some one) = refl
