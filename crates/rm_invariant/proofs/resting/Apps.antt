-- The cover of applications: why nothing is owed of them in an open life where both queues and the awaiting list are empty. Of each that is
-- known the facts then say how it rests, and none that rests so is owed anything.
use Rattle.rm_invariant.proofs.Common.{◌≡◌, ◌≤◌, inl, inr, ℕ, ◌||◌, List, [], ◌∷◌, Bool, true, false, Option, None, Some, is_none, length, refl, ◌∙◌, subst, arith, nat_tests, AppId, AttemptId, Submitted, AppRecord, AttemptRecord, Settings, is_app, all_ended, is_some_and, last_attempt, record_of, has_failed, end_in, is_known, reaches_bound, waiting_submission, Scene, AppState, AttemptState, AppRow, Current, Tables, row_of, History, abstract_scene}
use Rattle.std.proofs.Common.{◌≢◌, ◌==◌, is_some, option_map}
use Rattle.std.proofs.lemmas.Bool.{false_from_ne_true}
use Rattle.rm_model.specs.Attempts.{has_master_ask}
use Rattle.rm_model.specs.Facts.{is_accepted, is_kept, is_submitted, is_wished, kept_attempts, kept_end, kept_record, next_attempt}
use Rattle.rm_model.specs.Owed.{ended_not_failed}
use Rattle.rm_states.specs.declared.app.states.AppState.TheVariants as apps
use Rattle.rm_states.specs.declared.attempt.states.AttemptState.TheVariants as attempts
use Rattle.rm_invariant.specs.apps.View.{View, Counts, view, counts, is_ask}
use Rattle.rm_invariant.specs.apps.Invariant.{RowInvariant, StateInvariant, ActiveInvariant, CurrentInvariant, AttemptCounts, AllHaveEnded, LastIsOpen, MayFollowInView, ops_of, way, is_open_one}
use Rattle.rm_invariant.specs.Step.{AppsInvariant}
use Rattle.rm_invariant.proofs.apps.Counts.{some_passes}

-- nothing of an application and its attempt is on its way
pub record IsStill (c : Counts) : Type 0 where
  pub starts : c.starts ≡ 0
  pub none_on_its_way : way c ≡ 0
  pub kills : c.kills ≡ 0
  pub dones : c.dones ≡ 0
  pub grants : c.grants ≡ 0
  pub launches : c.launches ≡ 0
  pub queueings : c.queueings ≡ 0
  pub none_await : ops_of c ≡ 0

-- how an application can rest: its end is kept; its next attempt asks for its master; or its attempt lives
pub data Rests (settings : Settings) (q : AttemptId) (v : View) : Type 0 where
  over : is_some v.found ≡ true → is_none (end_in v.found) ≡ false → Rests settings q v
  asks : AllHaveEnded v.found → MayFollowInView settings q.number v → v.wished ≡ false → 1 ≤ v.count.asks → Rests settings q v
  lives : LastIsOpen v.found q → v.wished ≡ false → Rests settings q v

some_end : {X Y : Type 0} (f : X → Y) (end : Option X) (how : Y) → option_map f end ≡ Some how → is_none end ≡ false
some_end f None how e = cc
some_end f (Some x) how e = refl

end_of_some : (found : Option AppRecord) → is_none (end_in found) ≡ false → is_some found ≡ true
end_of_some None e = cc
end_of_some (Some one) e = refl

module _ (settings : Settings) (q : AttemptId) (v : View) (still : IsStill v.count) where
  current_rests : (wish : Bool) (s : AttemptState) → v.wished ≡ wish → CurrentInvariant settings s q wish v → AttemptCounts q.number true s wish v → Rests settings q v
  current_rests wish attempts.Scheduled w says own =
      let kills = still.kills in
      let free = false_from_ne_true wish (λ is. let n = says.3 is in omega (arith, n, kills)) in
      asks says.0 says.1 (w ∙ free) (let n = own.0 in let z = still.queueings in omega (arith, n, z))
  current_rests wish attempts.Granted w says own = absurd (let n = own.1 in let z = still.grants in omega (arith, n, z))
  current_rests wish attempts.Saving w says own = absurd (let n = says.3 in let z = still.none_await in omega (arith, n, z))
  current_rests wish attempts.Ending w says own = absurd (let n = says.2 in let z = still.none_await in omega (arith, n, z))
  current_rests wish attempts.Ended w says own = absurd (let n = says.4 in let z = still.dones in omega (arith, n, z))
  current_rests wish attempts.Dropped w says own = absurd says
  current_rests wish _ w says own =
      lives says.0 (w ∙ false_from_ne_true wish (λ is. let n = own.1 is in let a = still.kills in let b = still.launches in omega (arith, n, a, b)))

  active_rests : (wish : Bool) (c : Option Current) → v.wished ≡ wish → ((current : Current) → c ≡ Some current → current.number ≡ q.number) → ActiveInvariant settings q c wish v → Rests settings q v
  active_rests wish None w same says = absurd says
  active_rests wish (Some current) w same says =
      let is : current.number ≡ q.number = same current refl in
      let own : AttemptCounts q.number true current.state wish v = subst (λ (b : Bool). AttemptCounts q.number b current.state wish v) (let e : (current.number == q.number) ≡ true = grind (arith, nat_tests) in e) says.1 in
      current_rests wish current.state w (rw is at says.0) own

  state_rests : (row : AppRow) (s : AppState) → v.wished ≡ row.wish → ((current : Current) → row.current ≡ Some current → current.number ≡ q.number) → StateInvariant settings q s row v → Rests settings q v
  state_rests row apps.New w same says = absurd (let n = says.1 in let z = still.starts in omega (arith, n, z))
  state_rests row apps.NewSaving w same says = absurd (let n = says.3 in let z = still.none_await in omega (arith, n, z))
  state_rests row apps.Submitted w same says = absurd (let n = says.8 in let z = still.none_on_its_way in omega (arith, n, z))
  state_rests row apps.Accepted w same says = active_rests row.wish row.current w same says.3
  state_rests row apps.Running w same says = active_rests row.wish row.current w same says.3
  state_rests row apps.Killing w same says = active_rests row.wish row.current w same says.5
  state_rests row apps.FinalSaving w same says = absurd (let n = says.4 in let z = still.none_await in omega (arith, n, z))
  state_rests row _ w same says = let e = some_end (λ e. e.0) (end_in v.found) _ says.0 in over (end_of_some v.found e) e

-- the number of the attempt that an application's facts are read at
abbrev current_number : Option Current → ℕ
current_number None = 0
current_number (Some current) = current.number

number_is : (c : Option Current) (current : Current) → c ≡ Some current → current.number ≡ current_number c
number_is None current e = cc
number_is (Some one) current e = cc

-- its attempt of a number
abbrev pub numbered : AppId → ℕ → AttemptId
numbered id number = record { app = id; number = number }

-- an application isn't known, or rests
pub data RestsAt (settings : Settings) (h : History) (t : Tables) (id : AppId) : Type 0 where
  unknown : record_of t.tree.apps id ≡ None → waiting_submission h.apps.submitted id ≡ None → RestsAt settings h t id
  resting : (number : ℕ) → Rests settings (numbered id number) (view h t (numbered id number)) → RestsAt settings h t id

-- with empty queues, and nothing that awaits, each application that is known rests
pub rests_at : (settings : Settings) (h : History) (t : Tables) → AppsInvariant settings h t → t.main ≡ [] → t.sched ≡ [] → t.awaiting ≡ [] → (id : AppId) → RestsAt settings h t id
rests_at settings h t k main sched awaiting id = by (row_of t.rows id) refl
  where
    still : (number : ℕ) → IsStill (counts h t (numbered id number))
    still number =
        record {
          starts = rw main refl;
          none_on_its_way = rw (main, sched) refl;
          kills = rw main refl;
          dones = rw main refl;
          grants = rw main refl;
          launches = rw main refl;
          queueings = rw sched refl;
          none_await = rw awaiting refl;
        }

    by : (row : Option AppRow) → row_of t.rows id ≡ row → RestsAt settings h t id
    by None found =
        let good : RowInvariant settings (numbered id 0) None (view h t (numbered id 0)) = rw found at (k.all (numbered id 0)) in
        unknown good.no_record good.none_waits
    by (Some row) found =
        let number = current_number row.current in
        let good : RowInvariant settings (numbered id number) (Some row) (view h t (numbered id number)) = rw found at (k.all (numbered id number)) in
        resting number (state_rests settings (numbered id number) (view h t (numbered id number)) (still number) row row.state good.0.wish (number_is row.current) good.1)

submitted_waits : (submitted : List Submitted) (id : AppId) → waiting_submission submitted id ≡ None → is_submitted submitted id ≡ false
submitted_waits [] id e = refl
submitted_waits (one ∷ more) id e = by (is_app one.id id) refl (submitted_waits more id)
  where
    by : (b : Bool) → is_app one.id id ≡ b → (waiting_submission more id ≡ None → is_submitted more id ≡ false) → is_submitted (one ∷ more) id ≡ false
    by true f rest = absurd (let x = rw f at e in cc)
    by false f rest = rw f (rest (rw f at e))

going_open : (id : AttemptId) (tried : List AttemptRecord) → is_some_and (is_open_one id) (last_attempt tried) ≡ true → all_ended tried ≡ false
going_open id [] e = cc
going_open id (one ∷ []) e = by one.ending refl
  where
    by : (x : Option _) → one.ending ≡ x → all_ended (one ∷ []) ≡ false
    by None f = rw f refl
    by (Some x) f = absurd (let y = rw f at e in grind (arith, nat_tests))
going_open id (one ∷ next ∷ more) e = by (is_some one.ending) refl (going_open id (next ∷ more) e)
  where
    by : (b : Bool) → is_some one.ending ≡ b → all_ended (next ∷ more) ≡ false → all_ended (one ∷ next ∷ more) ≡ false
    by true f rest = rw f rest
    by false f rest = rw f refl

none_by : (tried : List AttemptRecord) → length tried ≡ 0 → tried ≡ []
none_by [] e = refl
none_by (one ∷ more) e = absurd (omega (arith, e))

not_done : (last : Option AttemptRecord) → is_some_and has_failed last ≡ true → ended_not_failed last ≡ false
not_done None e = refl
not_done (Some one) e = grind (arith, nat_tests)

-- what is owed of applications isn't owed of one that rests
module _ (settings : Settings) (h : History) (t : Tables) (id : AppId) (rests : RestsAt settings h t id) where
  abbrev here : Scene
  here = abstract_scene h t

  never : {X : Type 0} → record_of t.tree.apps id ≡ None → waiting_submission h.apps.submitted id ≡ None → is_known here id ≡ true → X
  never none waits known = absurd (let w = submitted_waits h.apps.submitted id waits in let x = rw (w, none) at known in cc)

  pub known_kept : is_known here id ≡ true → is_kept here id ≡ true
  known_kept known = by rests
    where
      by : RestsAt settings h t id → is_kept here id ≡ true
      by (unknown none waits) = never none waits known
      by (resting number (over kept e)) = kept
      by (resting number (asks stopped follows free some)) = stopped.0
      by (resting number (lives goes free)) = goes.0

  pub no_wish : is_known here id ≡ true → kept_end here id ≡ None → is_wished here id ≡ false
  no_wish known unended = by rests
    where
      by : RestsAt settings h t id → is_wished here id ≡ false
      by (unknown none waits) = never none waits known
      by (resting number (over kept e)) = absurd (let x = rw unended at e in cc)
      by (resting number (asks stopped follows free some)) = free
      by (resting number (lives goes free)) = free

  pub accepted_or_kept : is_known here id ≡ true → kept_end here id ≡ None → is_accepted here id ≡ false → kept_attempts here id ≢ []
  accepted_or_kept known unended unaccepted untried = by rests
    where
      by : RestsAt settings h t id → ⊥
      by (unknown none waits) = never none waits known
      by (resting number (over kept e)) = absurd (let x = rw unended at e in cc)
      by (resting number (asks stopped (n, inl first) free some)) = let a = first.1 in cc
      by (resting number (asks stopped (n, inr failed) free some)) = let f = failed.0 in absurd (let x = rw untried at f in cc)
      by (resting number (lives goes free)) = absurd (let l = goes.2 in let x = rw untried at l in cc)

  pub asks_master : is_known here id ≡ true → kept_end here id ≡ None → all_ended (kept_attempts here id) ≡ true → has_master_ask here (next_attempt here id) ≡ true
  asks_master known unended all = by rests
    where
      by : RestsAt settings h t id → has_master_ask here (next_attempt here id) ≡ true
      by (unknown none waits) = never none waits known
      by (resting number (over kept e)) = absurd (let x = rw unended at e in cc)
      by (resting number (asks stopped follows free some)) = let n = follows.0 in rw (← n) (some_passes (is_ask (numbered id number)) h.asks some)
      by (resting number (lives goes free)) = absurd (let x = going_open (numbered id number) (kept_attempts here id) goes.2 in cc)

  pub undecided : is_known here id ≡ true → kept_end here id ≡ None → kept_attempts here id ≢ [] → all_ended (kept_attempts here id) ≡ true
      → (ended_not_failed (last_attempt (kept_attempts here id)) || reaches_bound settings (kept_record here id)) ≡ false
  undecided known unended tried all = by rests
    where
      by : RestsAt settings h t id → (ended_not_failed (last_attempt (kept_attempts here id)) || reaches_bound settings (kept_record here id)) ≡ false
      by (unknown none waits) = never none waits known
      by (resting number (over kept e)) = absurd (let x = rw unended at e in cc)
      by (resting number (asks stopped (n, inl first) free some)) = absurd (tried (none_by (kept_attempts here id) (let o = first.0 in omega (arith, n, o))))
      by (resting number (asks stopped (n, inr failed) free some)) = let f = not_done (last_attempt (kept_attempts here id)) failed.0 in rw (f, failed.1) refl
      by (resting number (lives goes free)) = absurd (let x = going_open (numbered id number) (kept_attempts here id) goes.2 in cc)
