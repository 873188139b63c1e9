-- What an Attempt that awaits says of the row of its application, and what is said of that once it is kept, over records that are sound.
use Rattle.rm_invariant.proofs.Common.{◌≡◌, ℕ, ◌+◌, suc, List, [], ◌∷◌, ◌++◌, Bool, true, false, Option, None, Some, length, refl, sym, ◌∙◌, arith, nat_tests, AttemptId, ContainerId, AppRecord, AttemptRecord, Settings, record_of, last_attempt, attempts_in, AppState, AttemptState, AppRow, Current, changed}
use Rattle.std.proofs.Common.{◌==◌, option_map, length-append}
use Rattle.rm_states.specs.declared.attempt.states.AttemptState.TheVariants as attempts
use Rattle.rm_tables.specs.declared.changes.RowChange.TheVariants as of_app
use Rattle.rm_tables.specs.declared.changes.AttemptChange.TheVariants as of_attempt
use Rattle.rm_invariant.specs.apps.Invariant.{ActiveInvariant, AttemptCounts, CurrentInvariant, LastIsOpen, AllHaveEnded, RowInvariant, StateInvariant, is_active}
use Rattle.rm_invariant.specs.apps.View.{View, one_if}
use Rattle.rm_invariant.proofs.apps.Own.{active_row}
use Rattle.rm_invariant.specs.masters.Sound.{RecordsAreSound, IsSoundRecord}
use Rattle.rm_invariant.proofs.masters.Sounding.{added_sound, going_sound}

-- the view with an Attempt of it that awaits
abbrev pub with_attempt_op : AttemptId → View → View
with_attempt_op q v = record v { count = record v.count { attempts = suc v.count.attempts; own_ops = suc v.count.own_ops } }

-- what an awaiting Attempt says of its row
pub record AttemptAwaits (settings : Settings) (q : AttemptId) (row : Option AppRow) (v : View) : Type 0 where
  pub one : AppRow
  pub is : row ≡ Some one
  pub active : is_active one.state ≡ true
  pub current : Current
  pub current_is : one.current ≡ Some current
  pub state : current.state ≡ attempts.Saving
  pub number : current.number ≡ q.number
  pub stopped : AllHaveEnded v.found
  pub next : q.number ≡ length (attempts_in v.found) + 1

module _ (settings : Settings) (q : AttemptId) (v : View) where
  attempt_active : (s : AppState) (row : AppRow) → StateInvariant settings q s row (with_attempt_op q v) → is_active s ≡ true
  attempt_active s row says = grind arith

  attempt_current : (row : AppRow) (c : Option Current) → ActiveInvariant settings q c row.wish (with_attempt_op q v) → row.current ≡ c → is_active row.state ≡ true → AttemptAwaits settings q (Some row) v
  attempt_current row None says is a = absurd says
  attempt_current row (Some current) says is a = by current.state refl (current.number == q.number) refl says.0 says.1
    where
      by : (s : AttemptState) → current.state ≡ s → (b : Bool) → (current.number == q.number) ≡ b → CurrentInvariant settings s (record { app = q.app; number = current.number }) row.wish (with_attempt_op q v)
          → AttemptCounts q.number b s row.wish (with_attempt_op q v) → AttemptAwaits settings q (Some row) v
      by s e false n says at_ = absurd (let o = at_.0 in omega (arith, o))
      by attempts.Saving e true n says at_ =
          let same : current.number ≡ q.number = grind (arith, nat_tests) in
          let follows = says.1.0 in
          record { one = row; is = refl; active = a; current = current; current_is = is; state = e; number = same; stopped = says.0; next = sym same ∙ follows }
      by attempts.Scheduled e true n says at_ = absurd (let o = at_.1 in omega (arith, o))
      by attempts.Granted e true n says at_ = absurd (let o = at_.0 in omega (arith, o))
      by attempts.Ending e true n says at_ = absurd (let a = says.1 in let o = says.2 in omega (arith, a, o))
      by attempts.Live e true n says at_ = absurd (let o = at_.0 in omega (arith, o))
      by attempts.Registered e true n says at_ = absurd (let o = at_.0 in omega (arith, o))
      by attempts.Finishing e true n says at_ = absurd (let o = at_.0 in omega (arith, o))
      by attempts.Ended e true n says at_ = absurd (omega (arith, at_))
      by attempts.Dropped e true n says at_ = absurd says

  -- an application of which an Attempt awaits is active, and its current attempt is being saved
  pub attempt_awaits : (row : Option AppRow) → RowInvariant settings q row (with_attempt_op q v) → AttemptAwaits settings q row v
  attempt_awaits None good = absurd (let n = good.none_await in omega (arith, n))
  attempt_awaits (Some row) good =
      let a = attempt_active row.state row good.1 in
      attempt_current row row.current (active_row settings q row (with_attempt_op q v) a good).current refl a

-- the row of its application
pub attempt_saved : (settings : Settings) (q : AttemptId) (row : AppRow) (current : Current) (v : View) → row.current ≡ Some current → is_active row.state ≡ true → (found : Option AppRecord) → current.state ≡ attempts.Saving
    → LastIsOpen found (record { app = q.app; number = current.number }) → length (attempts_in found) ≡ length (attempts_in v.found) + 1 → (c : Bool) → (current.number == q.number) ≡ c
    → RowInvariant settings q (Some row) (record v { count = record v.count { attempts = suc v.count.attempts; own_ops = one_if c v.count.own_ops } })
    → RowInvariant settings q (Some (changed (of_app.OfAttempt of_attempt.Keep) row)) (record v { found = found; count = record v.count { launches = one_if c v.count.launches } })
attempt_saved settings q row current v is a found s goes longer c n good =
    let known = good.0 in
    let active = active_row settings q row (record v { count = record v.count { attempts = suc v.count.attempts; own_ops = one_if c v.count.own_ops } }) a good in
    let says : ActiveInvariant settings q (Some current) row.wish (record v { count = record v.count { attempts = suc v.count.attempts; own_ops = one_if c v.count.own_ops } }) = rw is at active.current in
    rw is (grind (arith, nat_tests))

-- the record with one more attempt
abbrev pub new_attempt : AttemptId → ContainerId → List ℕ → AttemptRecord
new_attempt id master node = record { id = id; master = master; node = node; ending = None }

abbrev pub with_new : AttemptId → ContainerId → List ℕ → AppRecord → AppRecord
with_new id master node one = record one { attempts = one.attempts ++ new_attempt id master node ∷ [] }

-- what is put at the end is the last
pub last_of_end : (attempts : List AttemptRecord) (one : AttemptRecord) → last_attempt (attempts ++ one ∷ []) ≡ Some one
last_of_end [] one = refl
last_of_end (x ∷ []) one = refl
last_of_end (x ∷ y ∷ more) one = last_of_end (y ∷ more) one

-- what is found after it
pub record WithAttempt (id : AttemptId) (found new : Option AppRecord) : Type 0 where
  pub goes : LastIsOpen new id
  pub longer : length (attempts_in new) ≡ length (attempts_in found) + 1

-- a sound record goes on with the attempt
pub saved_record : (apps : List AppRecord) → RecordsAreSound apps → (id : AttemptId) (master : ContainerId) (node : List ℕ) (found : Option AppRecord) → record_of apps id.app ≡ found → AllHaveEnded found
    → id.number ≡ length (attempts_in found) + 1 → WithAttempt id found (option_map (with_new id master node) found)
saved_record apps each id master node None f stopped n = let x = stopped.0 in cc
saved_record apps each id master node (Some one) f stopped n =
    let sound = each id.app one f in
    let old = stopped.1 in
    let all = stopped.2 in
    let new : IsSoundRecord id.app (with_new id master node one) = added_sound id.app one id master node sound old all refl n in
    let goes = going_sound id.app (with_new id master node one) (new_attempt id master node) new old (last_of_end one.attempts (new_attempt id master node)) refl in
    record { goes = goes; longer = length-append one.attempts (new_attempt id master node ∷ []) }
