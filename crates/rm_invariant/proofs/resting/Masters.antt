-- Why nothing is owed of masters and of the book where both queues and the awaiting list of an open life are empty.
use Rattle.rm_invariant.proofs.Common.{◌≡◌, ◌≤◌, ◌<◌, ◌⊎◌, inl, inr, ℕ, zero, ◌+◌, ◌&&◌, ◌||◌, not, suc, List, [], ◌∷◌, Bool, true, false, Option, None, Some, find, get_or, length, refl, sym, ◌∙◌, ap, subst, arith, Contains, list_all, nat_tests, AppId, AttemptId, ContainerId, AppRecord, AttemptRecord, Settings, is_attempt, is_container, all_ended, record_of, is_some_and, container_itself, attempt_was_first, finishing_text, has_expired, is_living, attempts_in, end_in, has_container, AppState, AttemptState, AppRow, Current, Tables, is_master_of, row_of, History, abstract_scene, How}
use Rattle.std.proofs.Common.{◌==◌, is_some}
use Rattle.rm_types.specs.declared.operations.How.TheVariants as ways
use Rattle.rm_model.specs.Attempts.{attempt_is_kept, kept_here, is_stale}
use Rattle.rm_model.specs.Owed.{IsAlive}
use Rattle.rm_states.specs.declared.app.states.AppState.TheVariants as apps
use Rattle.rm_states.specs.declared.attempt.states.AttemptState.TheVariants as attempts
use Rattle.rm_tables.specs.Leaving.{is_stale_in}
use Rattle.rm_refinement.specs.Agreement.{is_among_first}
use Rattle.rm_refinement.proofs.Recorded.{stale_same}
use Rattle.rm_invariant.specs.apps.Invariant.{ActiveInvariant, CurrentInvariant, LastIsOpen, RowInvariant, StateInvariant, has_ended_or_is, ops_of}
use Rattle.rm_invariant.specs.Step.{AppsInvariant}
use Rattle.rm_invariant.specs.apps.View.{View, counts, view}
use Rattle.rm_invariant.specs.masters.Invariant.{AliveInvariant, ContainersInvariant, ContainerByNumber, ContainerByState, ContainerByCurrent, MastersAreOwn, ContainerInvariant, ContainerByRow, own_of, Unnumbered}
use Rattle.rm_invariant.specs.masters.Sound.{RecordsAreSound, Numbered}
use Rattle.rm_invariant.specs.masters.View.{container_view}
use Rattle.rm_invariant.proofs.masters.Ends.{Alive, last_in}
use Rattle.rm_invariant.proofs.masters.Living.{end_how, some_ending}
use Rattle.rm_invariant.proofs.masters.Stale.{among_found}

all_contains : {X : Type 0} (p : X → Bool) (xs : List X) (x : X) (k : ℕ) → k < length xs → get_or xs k x ≡ x → list_all p xs ≡ true → p x ≡ true
all_contains p [] x k lt is all = absurd (omega (arith, lt))
all_contains p (y ∷ ys) x zero lt is all = subst (λ z. p z ≡ true) is (front (p y) all)
  where
    front : (b : Bool) → (b && list_all p ys) ≡ true → b ≡ true
    front true e = refl
    front false e = e
all_contains p (y ∷ ys) x (suc k) lt is all = all_contains p ys x k (omega (arith, lt)) is (rest (p y) all)
  where
    rest : (b : Bool) → (b && list_all p ys) ≡ true → list_all p ys ≡ true
    rest true e = e
    rest false e = cc

-- in a sound record an attempt is found by its id
find_at : (id : AppId) (n : ℕ) (attempts : List AttemptRecord) (a : AttemptRecord) (k : ℕ) → Numbered id n attempts → k < length attempts → get_or attempts k a ≡ a
    → (a.id ≡ record { app = id; number = n + k + 1 }) × (find (λ one. is_attempt one.id a.id) attempts ≡ Some a)
find_at id n [] a k s lt is = absurd (omega (arith, lt))
find_at id n (one ∷ more) a zero s lt is =
    let self : is_attempt one.id a.id ≡ true = rw is (grind (arith, nat_tests)) in
    let e : one.id ≡ record { app = id; number = n + 1 } = s.0 in
    let f : a.id ≡ record { app = id; number = n + 1 } = subst (λ (x : AttemptRecord). x.id ≡ record { app = id; number = n + 1 }) is e in
    let number : n + 1 ≡ n + 0 + 1 = omega arith in
    (rw (← number) f, rw self (ap (λ (x : AttemptRecord). Some x) is))
find_at id n (one ∷ more) a (suc k) s lt is =
    let r = find_at id (n + 1) more a k s.1 (omega (arith, lt)) is in
    let named = r.0 in
    let found = r.1 in
    let here = s.0 in
    let number : (n + 1) + k + 1 ≡ n + suc k + 1 = omega arith in
    let other : is_attempt one.id a.id ≡ false = rw (here, named) (grind (arith, nat_tests)) in
    (rw (← number) named, rw other found)

module _ (settings : Settings) (q : AttemptId) (v : View) (still : ops_of v.count ≡ 0) (quiet : v.count.dones ≡ 0) (unended : all_ended (attempts_in v.found) ≡ false) (open_ : end_in v.found ≡ None) where
  current_rests : (id : AttemptId) (wish : Bool) (s : AttemptState) → CurrentInvariant settings s id wish v → Alive s × LastIsOpen v.found id
  current_rests id wish attempts.Live says = (inl refl, says.0)
  current_rests id wish attempts.Registered says = (inr (inl refl), says.0)
  current_rests id wish attempts.Finishing says = (inr (inr refl), says.0)
  current_rests id wish attempts.Ending says = absurd (let n = says.2 in omega (arith, n, still))
  current_rests id wish attempts.Dropped says = absurd says
  current_rests id wish _ says = absurd (let x = says.0.2 in cc)

  -- the current attempt of an application lives
  pub record LivesAt (row : AppRow) : Type 0 where
    pub current : Current
    pub is : row.current ≡ Some current
    pub alive : Alive current.state
    pub goes : LastIsOpen v.found (record { app = q.app; number = current.number })

  active_rests : (row : AppRow) (c : Option Current) → row.current ≡ c → ActiveInvariant settings q c row.wish v → LivesAt row
  active_rests row None is says = absurd says
  active_rests row (Some current) is says = let r = current_rests (record { app = q.app; number = current.number }) row.wish current.state says.0 in record { current = current; is = is; alive = r.0; goes = r.1 }

  state_rests : (row : AppRow) (s : AppState) → StateInvariant settings q s row v → LivesAt row
  state_rests row apps.New says = absurd (let none = says.0.no_record in let x = rw none at unended in cc)
  state_rests row apps.NewSaving says = absurd (let none = says.0.no_record in let x = rw none at unended in cc)
  state_rests row apps.Submitted says = absurd (let none = says.1 in let x = rw none at unended in cc)
  state_rests row apps.Accepted says = active_rests row row.current refl says.3
  state_rests row apps.Running says = active_rests row row.current refl says.3
  state_rests row apps.Killing says = active_rests row row.current refl says.5
  state_rests row apps.FinalSaving says = absurd (let x = says.0.2 in cc)
  state_rests row _ says = absurd (let e = says.0 in let x = rw open_ at e in cc)

  -- its application has a row, and its current attempt lives
  pub row_rests : (row : Option AppRow) → RowInvariant settings q row v → (one : AppRow) × (row ≡ Some one) × LivesAt one
  row_rests None good = absurd (let none = good.no_record in let x = rw none at unended in cc)
  row_rests (Some row) good = (row, refl, state_rests row row.state good.1)

-- what a container of an attempt that lives says
pub alive_at : (settings : Settings) (h : History) (t : Tables) (all : ContainersInvariant h t) (row : AppRow) (current : Current) (c : ContainerId) → row_of t.rows c.attempt.app ≡ Some row → row.current ≡ Some current → Alive current.state → (current.number == c.attempt.number) ≡ true
    → AliveInvariant c current.lost (is_master_of c current.master) (container_view h t c)
alive_at settings h t all row current c found is st n =
    let says : ContainerInvariant c (Some row) (container_view h t c) = rw found at (all c).0 in
    let x : ContainerByNumber c (current.number == c.attempt.number) current (container_view h t c) = rw is at says.1 in
    let y : ContainerByState c current.state current.lost (is_master_of c current.master) (container_view h t c) = rw n at x in
    by current.state st y
  where
    by : (s : AttemptState) → Alive s → ContainerByState c s current.lost (is_master_of c current.master) (container_view h t c) → AliveInvariant c current.lost (is_master_of c current.master) (container_view h t c)
    by s (inl e) y = rw e at y
    by s (inr (inl e)) y = rw e at y
    by s (inr (inr e)) y = rw e at y

right_of : {X : Type 0} (x : Option X) (b : Bool) → (is_some x || b) ≡ true → x ≡ None → b ≡ true
right_of None b e n = e
right_of (Some x) b e n = cc

module _ (settings : Settings) (h : History) (t : Tables) (k : AppsInvariant settings h t) (all : ContainersInvariant h t) (each : RecordsAreSound t.tree.apps) (apt : MastersAreOwn t.tree.apps) (no_main : t.main ≡ []) (no_sched : t.sched ≡ []) (none_await : t.awaiting ≡ []) where
  module _ (attempt : AttemptRecord) (alive : IsAlive (abstract_scene h t) attempt) where
    -- what is recorded of an attempt that lives for the judge
    record IsFound : Type 0 where
      one : AppRecord
      is : record_of t.tree.apps attempt.id.app ≡ Some one
      found : find (λ one. is_attempt one.id attempt.id) (attempts_in (record_of t.tree.apps attempt.id.app)) ≡ Some attempt
      unended : all_ended (attempts_in (record_of t.tree.apps attempt.id.app)) ≡ false

    found_by : (o : Option AppRecord) → record_of t.tree.apps attempt.id.app ≡ o → Contains (attempts_in o) attempt → IsFound
    found_by None e c = absurd (let n = c.1 in omega (arith, n))
    found_by (Some one) e c =
        let f = find_at attempt.id.app 0 one.attempts attempt c.0 (each attempt.id.app one e).numbered c.1 c.2 in
        record { one = one; is = e; found = rw e f.1; unended = rw e (by (all_ended one.attempts) refl) }
      where
        by : (b : Bool) → all_ended one.attempts ≡ b → b ≡ false
        by true a = absurd (let x = all_contains (λ (one : AttemptRecord). is_some one.ending) one.attempts attempt c.0 c.1 c.2 a in let u = alive.unended in let y = rw u at x in cc)
        by false a = refl

    found_here : IsFound
    found_here = found_by (record_of t.tree.apps attempt.id.app) refl alive.kept

    rests : (one : AppRow) × (row_of t.rows attempt.id.app ≡ Some one) × LivesAt settings attempt.id (view h t attempt.id) (rw none_await refl) (rw no_main refl) found_here.unended alive.app.unended one
    rests = row_rests settings attempt.id (view h t attempt.id) (rw none_await refl) (rw no_main refl) found_here.unended alive.app.unended (row_of t.rows attempt.id.app) (k.all attempt.id)

    -- it is the current one
    number_is : (rests.2.current.number == attempt.id.number) ≡ true
    number_is =
        let goes = rests.2.goes in
        let is = found_here.is in
        let c = alive.kept in
        let but : is_attempt attempt.id (record { app = attempt.id.app; number = rests.2.current.number }) ≡ true =
        right_of attempt.ending (is_attempt attempt.id (record { app = attempt.id.app; number = rests.2.current.number })) (all_contains (has_ended_or_is (record { app = attempt.id.app; number = rests.2.current.number })) (attempts_in (record_of t.tree.apps attempt.id.app)) attempt c.0 c.1 c.2 goes.4) alive.unended in
        grind (arith, nat_tests)

    says : AliveInvariant attempt.master rests.2.current.lost (is_master_of attempt.master rests.2.current.master) (container_view h t attempt.master)
    says =
        let a : attempt.master.attempt ≡ attempt.id = apt attempt.id attempt found_here.found in
        let f : row_of t.rows attempt.master.attempt.app ≡ Some rests.0 = subst (λ (i : AttemptId). row_of t.rows i.app ≡ Some rests.0) (sym a) rests.1 in
        let n : (rests.2.current.number == attempt.master.attempt.number) ≡ true = subst (λ (i : AttemptId). (rests.2.current.number == i.number) ≡ true) (sym a) number_is in
        alive_at settings h t all rests.0 rests.2.current attempt.master f rests.2.is rests.2.alive n

    master_mine : is_master_of attempt.master rests.2.current.master ≡ true
    master_mine =
        let a : attempt.master.attempt ≡ attempt.id = apt attempt.id attempt found_here.found in
        let self = container_itself attempt.master in
        let here : is_some_and (λ x. is_container x.master attempt.master) (find (λ x. is_attempt x.id attempt.id) (attempts_in (record_of t.tree.apps attempt.id.app))) ≡ true = let f = found_here.found in rw (f, self) refl in
        let own : own_of attempt.master (record_of t.tree.apps attempt.master.attempt.app) ≡ true = subst (λ (i : AttemptId). is_some_and (λ x. is_container x.master attempt.master) (find (λ x. is_attempt x.id i) (attempts_in (record_of t.tree.apps i.app))) ≡ true) (sym a) here in
        sym says.0 ∙ own

    apt_here : attempt.master.attempt ≡ attempt.id
    apt_here = apt attempt.id attempt found_here.found

    not_true : (b : Bool) → (b ≡ true → ⊥) → b ≡ false
    not_true true n = absurd (n refl)
    not_true false n = refl

    -- what was told of its master was worked off
    pub not_finishing : is_some (finishing_text (abstract_scene h t) attempt.id) ≡ false
    not_finishing = subst (λ (i : AttemptId). is_some (finishing_text (abstract_scene h t) i) ≡ false) apt_here (not_true (container_view h t attempt.master).finishing (λ f. let n = says.6 f in let m = rw no_main at n in omega (arith, m)))

    pub not_expired : has_expired (abstract_scene h t) attempt.id ≡ false
    not_expired = subst (λ (i : AttemptId). has_expired (abstract_scene h t) i ≡ false) apt_here (not_true (container_view h t attempt.master).expired (λ f. let n = says.4 f in let m = rw no_main at n in omega (arith, m)))

    pub still_there : has_container h.endings.left attempt.master ≡ false
    still_there = not_true (has_container h.endings.left attempt.master) (λ f. by ((says.7 master_mine).0 f))
      where
        by : (1 ≤ (container_view h t attempt.master).losses) ⊎ ((rests.2.current.lost ≡ true) × (1 ≤ (container_view h t attempt.master).launches)) → ⊥
        by (inl n) = let m = rw no_main at n in omega (arith, m)
        by (inr n) = let m = n.1 in let o = rw no_main at m in omega (arith, o)

    -- and its master was ordered
    pub is_ordered : kept_here (abstract_scene h t) attempt.id ≡ true → has_container h.masters.ordered attempt.master ≡ false → ⊥
    is_ordered here out =
        let first : attempt_was_first (abstract_scene h t) attempt.id ≡ false = let f = found_here.found in second (attempt_was_first (abstract_scene h t) attempt.id) (rw f at here) in
        let first_ : attempt_was_first (abstract_scene h t) attempt.master.attempt ≡ false = subst (λ (i : AttemptId). attempt_was_first (abstract_scene h t) i ≡ false) (sym apt_here) first in
        let n = (says.7 master_mine).3 first_ out in
        let m = rw no_main at n in omega (arith, m)
      where
        second : (b : Bool) → (true && not b) ≡ true → b ≡ false
        second true e = cc
        second false e = refl

  -- each container in the book is of an attempt that is kept, and isn't stale
  module _ (c : ContainerId) (living : is_living h.book c ≡ true) where
    absurd_living : is_living h.book c ≡ false → ⊥
    absurd_living n = cc

    -- what is stale is to go by an event
    none_stale : is_stale_in t.tree.apps c ≡ true → ⊥
    none_stale s = let m = (all c).1 s living in let o = rw no_sched at m in omega (arith, o)

    fresh : is_stale_in t.tree.apps c ≡ false
    fresh = by (is_stale_in t.tree.apps c) refl
      where
        by : (b : Bool) → is_stale_in t.tree.apps c ≡ b → b ≡ false
        by true e = absurd (none_stale e)
        by false e = refl

    -- the attempt of a container in the book is kept, and it isn't stale
    abbrev kept_and_on : Type 0
    kept_and_on = (attempt_is_kept (abstract_scene h t) c.attempt ≡ true) × (is_stale (abstract_scene h t) c ≡ false)

    kept : attempt_is_kept (abstract_scene h t) c.attempt ≡ true
    kept = by (row_of t.rows c.attempt.app) (k.all c.attempt) (all c).0
      where
        still : ops_of (counts h t c.attempt) ≡ 0
        still = rw none_await refl

        -- what isn't untouched is numbered as a kept one
        numbered_kept : (found : Option AppRecord) → record_of t.tree.apps c.attempt.app ≡ found → is_among_first c.attempt (length (attempts_in found)) ≡ true → is_some (find (λ one. is_attempt one.id c.attempt) (attempts_in found)) ≡ true
        numbered_kept None f a = absurd (grind (arith, nat_tests))
        numbered_kept (Some one) f a =
            let lo : 0 < c.attempt.number = grind (arith, nat_tests) in
            let hi : c.attempt.number ≤ length one.attempts = grind (arith, nat_tests) in
            among_found c.attempt.app 0 c.attempt.number one.attempts (each c.attempt.app one f).numbered lo (omega (arith, hi))

        unnumbered : Unnumbered c (container_view h t c) → attempt_is_kept (abstract_scene h t) c.attempt ≡ true
        unnumbered says = of (is_among_first c.attempt (length (attempts_in (record_of t.tree.apps c.attempt.app)))) refl
          where
            of : (b : Bool) → is_among_first c.attempt (length (attempts_in (record_of t.tree.apps c.attempt.app))) ≡ b → attempt_is_kept (abstract_scene h t) c.attempt ≡ true
            of true a = numbered_kept (record_of t.tree.apps c.attempt.app) refl a
            of false a = absurd (absurd_living (says a).1)

        goes : (number : ℕ) → (number == c.attempt.number) ≡ true → LastIsOpen (record_of t.tree.apps c.attempt.app) (record { app = c.attempt.app; number = number }) → attempt_is_kept (abstract_scene h t) c.attempt ≡ true
        goes number n g =
            let same : number ≡ c.attempt.number = grind (arith, nat_tests) in
            let g_ : LastIsOpen (record_of t.tree.apps c.attempt.app) c.attempt = subst (λ (n : ℕ). LastIsOpen (record_of t.tree.apps c.attempt.app) (record { app = c.attempt.app; number = n })) same g in
            last_in c.attempt (attempts_in (record_of t.tree.apps c.attempt.app)) g_.2

        own : (row : AppRow) (current : Current) (s : AttemptState) (m : Bool) → (current.number == c.attempt.number) ≡ true → CurrentInvariant settings s (record { app = c.attempt.app; number = current.number }) row.wish (view h t c.attempt) → ContainerByState c s current.lost m (container_view h t c) → attempt_is_kept (abstract_scene h t) c.attempt ≡ true
        own row current attempts.Scheduled m n says at_ = absurd (absurd_living at_.1)
        own row current attempts.Granted false n says at_ = absurd (absurd_living at_.1)
        own row current attempts.Granted true n says at_ = absurd (let g = at_.1 in let x = rw no_main at g in omega (arith, x))
        own row current attempts.Saving m n says at_ = absurd (let o = says.3 in omega (arith, o, still))
        own row current attempts.Ending m n says at_ = absurd (let o = says.2 in omega (arith, o, still))
        own row current attempts.Ended m n says at_ = unnumbered at_
        own row current attempts.Dropped m n says at_ = absurd says
        own row current _ m n says at_ = goes current.number n says.0

        numbered : (row : AppRow) (current : Current) (b : Bool) → (current.number == c.attempt.number) ≡ b → CurrentInvariant settings current.state (record { app = c.attempt.app; number = current.number }) row.wish (view h t c.attempt) → ContainerByNumber c b current (container_view h t c) → attempt_is_kept (abstract_scene h t) c.attempt ≡ true
        numbered row current true n says at_ = own row current current.state (is_master_of c current.master) n says at_
        numbered row current false n says at_ = unnumbered at_

        active : (row : AppRow) (o : Option Current) → ActiveInvariant settings c.attempt o row.wish (view h t c.attempt) → ContainerByCurrent c o (container_view h t c) → attempt_is_kept (abstract_scene h t) c.attempt ≡ true
        active row None says at_ = absurd says
        active row (Some current) says at_ = numbered row current (current.number == c.attempt.number) refl says.0 at_

        -- an application with a kept end has nothing but what is stale
        ended : (found : Option AppRecord) → record_of t.tree.apps c.attempt.app ≡ found → (how : How) → end_how found ≡ Some how → ⊥
        ended None f how e = none_stale (rw f refl)
        ended (Some one) f how e = let s = some_ending one.ending how e in none_stale (rw f (rw s refl))

        state : (row : AppRow) (s : AppState) → row.state ≡ s → StateInvariant settings c.attempt s row (view h t c.attempt) → ContainerByRow c (Some row) (container_view h t c) → attempt_is_kept (abstract_scene h t) c.attempt ≡ true
        state row apps.New e says at_ = absurd (let none = says.0.no_attempt in let x = rw none at at_ in absurd_living x.1)
        state row apps.NewSaving e says at_ = absurd (let o = says.3 in omega (arith, o, still))
        state row apps.Submitted e says at_ = absurd (let none = says.3 in let x = rw none at at_ in absurd_living x.1)
        state row apps.Accepted e says at_ = active row row.current says.3 at_
        state row apps.Running e says at_ = active row row.current says.3 at_
        state row apps.Killing e says at_ = active row row.current says.5 at_
        state row apps.FinalSaving e says at_ = absurd (let o = says.4 in omega (arith, o, still))
        state row apps.Finished e says at_ = absurd (ended (record_of t.tree.apps c.attempt.app) refl ways.Finished says.0)
        state row apps.Failed e says at_ = absurd (ended (record_of t.tree.apps c.attempt.app) refl ways.Failed says.0)
        state row apps.Killed e says at_ = absurd (ended (record_of t.tree.apps c.attempt.app) refl ways.Killed says.0)

        by : (row : Option AppRow) → RowInvariant settings c.attempt row (view h t c.attempt) → ContainerInvariant c row (container_view h t c) → attempt_is_kept (abstract_scene h t) c.attempt ≡ true
        by None good says = absurd (let none = good.no_record in none_stale (rw none refl))
        by (Some row) good says = state row row.state refl good.1 says.1

    pub row_kept : kept_and_on
    row_kept = (kept, sym (stale_same (abstract_scene h t) c) ∙ fresh)
