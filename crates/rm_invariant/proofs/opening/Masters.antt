-- What holds of a container as a life opens, by the record of its application alone.
use Rattle.rm_invariant.proofs.Common.{◌≡◌, ◌+◌, List, [], ◌∷◌, Bool, true, false, Option, None, Some, find, length, refl, sym, ◌∙◌, ap, subst, arith, ℕ, ◌++◌, if◌then◌else◌, flat_map, list_any, nat_tests, AttemptId, ContainerId, AppRecord, AttemptRecord, is_attempt, is_container, last_attempt, record_of, AppId, How, Settings, attempts_in, AttemptState, MainEvent, SchedEvent, AppRow, Tables, main_by, main_of, opening_main, opening_sched, recovered_row, sched_by, sched_of, kept, row_of, History, not, ◌&&◌, ◌≤◌}
use Rattle.std.proofs.Common.{◌==◌, is_some, count_by, option_map}
use Rattle.rm_types.specs.declared.entries.Entry.TheVariants.{Kept as KeptEntry}
use Rattle.rm_types.specs.declared.operations.Op.TheVariants as ops
use Rattle.rm_states.specs.declared.attempt.states.AttemptState.TheVariants as attempts
use Rattle.rm_tables.specs.declared.events.MainEvent.TheVariants as mains
use Rattle.rm_tables.specs.declared.events.SchedEvent.TheVariants as scheds
use Rattle.rm_refinement.specs.Agreement.{is_among_first}
use Rattle.rm_invariant.specs.apps.Recovered.{IsRecovered}
use Rattle.rm_invariant.specs.apps.View.{is_launch, one_if}
use Rattle.rm_invariant.proofs.apps.Counts.{none_among, at_end, at_front}
use Rattle.rm_invariant.proofs.opening.Apps.{opening_step, recovered_found}
use Rattle.rm_invariant.specs.masters.Invariant.{ContainerByNumber, ContainerByState, ContainerByCurrent, ContainerInvariant, Untouched, ContainersInvariant, RemovalInvariant}
use Rattle.rm_invariant.specs.masters.Sound.{IsSoundRecord, RecordsAreSound}
use Rattle.rm_invariant.specs.masters.View.{ContainerView, is_expiry, is_finish, is_granting, is_losing, is_attempt_removal, container_view}
use Rattle.rm_invariant.specs.masters.Preserves.{PreservesContainers}
use Rattle.rm_invariant.proofs.masters.Sounding.{last_found, numbered_last}
use Rattle.rm_invariant.proofs.masters.Stale.{found_among}

-- the marks of a container as a life opens
abbrev opening_marks : Option AppRecord → Bool → ContainerView
opening_marks found first =
    record {
      found = found;
      grants = 0;
      losses = 0;
      savings = 0;
      launches = 0;
      expiries = 0;
      finishes = 0;
      removals = 0;
      living = false;
      left = false;
      ordered = false;
      first = first;
      expired = false;
      finishing = false;
      retired = false;
    }

was_found : (id : AttemptId) (attempts : List AttemptRecord) (last : AttemptRecord) → find (λ one. is_attempt one.id id) attempts ≡ Some last → list_any (λ one. is_attempt one.id id) attempts ≡ true
was_found id [] last e = cc
was_found id (one ∷ more) last e = by (is_attempt one.id id) refl (was_found id more last)
  where
    by : (b : Bool) → is_attempt one.id id ≡ b → (find (λ one. is_attempt one.id id) more ≡ Some last → list_any (λ one. is_attempt one.id id) more ≡ true) → list_any (λ one. is_attempt one.id id) (one ∷ more) ≡ true
    by true f h = rw f refl
    by false f h = rw f (h (rw f at e))

was_none : (id : AttemptId) (attempts : List AttemptRecord) → find (λ one. is_attempt one.id id) attempts ≡ None → list_any (λ one. is_attempt one.id id) attempts ≡ false
was_none id [] e = refl
was_none id (one ∷ more) e = by (is_attempt one.id id) refl (was_none id more)
  where
    by : (b : Bool) → is_attempt one.id id ≡ b → (find (λ one. is_attempt one.id id) more ≡ None → list_any (λ one. is_attempt one.id id) more ≡ false) → list_any (λ one. is_attempt one.id id) (one ∷ more) ≡ false
    by true f h = absurd (let x = rw f at e in cc)
    by false f h = rw f (h (rw f at e))

none_found : (id : AttemptId) (attempts : List AttemptRecord) → last_attempt attempts ≡ None → find (λ a. is_attempt a.id id) attempts ≡ None
none_found id [] e = refl
none_found id (a ∷ []) e = cc
none_found id (a ∷ b ∷ more) e = absurd (never b more e)
  where
    never : (b : AttemptRecord) (more : List AttemptRecord) → last_attempt (b ∷ more) ≡ None → ⊥
    never b [] e = cc
    never b (next ∷ more) e = never next more e

-- the state of an attempt that has ended, or lives
abbrev if_state : Bool → AttemptState
if_state e = if e then attempts.Ended else attempts.Live

untouched : (found : Option AppRecord) → Untouched (opening_marks found false)
untouched found = ((refl, refl, refl, refl, refl, refl), refl, refl, refl)

some_last : (attempts : List AttemptRecord) (last : AttemptRecord) → last_attempt attempts ≡ Some last → 1 ≤ length attempts
some_last [] last e = cc
some_last (one ∷ more) last e = omega arith

-- the view by the record of its application
abbrev now_of : ContainerId → AppRecord → ContainerView
now_of c one = opening_marks (Some one) (list_any (λ a. is_attempt a.id c.attempt) one.attempts)

-- what holds of a container of a recorded application
pub opening_says : (c : ContainerId) (one : AppRecord) → IsSoundRecord c.attempt.app one → ContainerInvariant c (Some (recovered_row one)) (opening_marks (Some one) (list_any (λ a. is_attempt a.id c.attempt) one.attempts))
opening_says c one sound = ((λ n. absurd (omega (arith, n))), by (last_attempt one.attempts) refl)
  where
    none_first : find (λ a. is_attempt a.id c.attempt) one.attempts ≡ None → Untouched (now_of c one)
    none_first e = subst (λ (b : Bool). Untouched (opening_marks (Some one) b)) (sym (was_none c.attempt one.attempts e)) (untouched (Some one))

    -- an attempt out of the range isn't found
    out_of : is_among_first c.attempt (length one.attempts) ≡ false → find (λ a. is_attempt a.id c.attempt) one.attempts ≡ None
    out_of a = of (find (λ a. is_attempt a.id c.attempt) one.attempts) refl
      where
        of : (o : Option AttemptRecord) → find (λ a. is_attempt a.id c.attempt) one.attempts ≡ o → o ≡ None
        of None e = refl
        of (Some x) e =
            let r = found_among c.attempt.app 0 c.attempt.number one.attempts sound.numbered (rw e refl) in
            let lo = r.0 in
            let hi = r.1 in
            absurd (grind (arith, nat_tests))

    -- the last one is in the range
    in_range : (last : AttemptRecord) → last_attempt one.attempts ≡ Some last → (last.id.number == c.attempt.number) ≡ true → is_among_first c.attempt (length one.attempts) ≡ false → ⊥
    in_range last is n a =
        let named = numbered_last c.attempt.app 0 one.attempts last sound.numbered is in
        let number : last.id.number ≡ 0 + length one.attempts = ap (λ (i : AttemptId). i.number) named in
        let some = some_last one.attempts last is in
        grind (arith, nat_tests)

    at_number : (last : AttemptRecord) → last_attempt one.attempts ≡ Some last → (b : Bool) → (last.id.number == c.attempt.number) ≡ b → (e : Bool) → is_some last.ending ≡ e
        → ContainerByNumber c b (record { number = last.id.number; state = if_state e; master = Some last.master; registered = false; lost = false; granted = 0; finished = false }) (now_of c one)
    at_number last is true n e f =
        let named = numbered_last c.attempt.app 0 one.attempts last sound.numbered is in
        let number : c.attempt.number ≡ 0 + length one.attempts = let x = ap (λ (i : AttemptId). i.number) named in let y : last.id.number ≡ c.attempt.number = grind (arith, nat_tests) in sym y ∙ x in
        let found = last_found c.attempt.app 0 c.attempt.number one.attempts last sound.numbered is number in
        let first = was_found c.attempt one.attempts last found in
        of_state e found first
      where
        of_state : (e : Bool) → find (λ a. is_attempt a.id c.attempt) one.attempts ≡ Some last → list_any (λ a. is_attempt a.id c.attempt) one.attempts ≡ true → ContainerByState c (if_state e) false (is_container last.master c) (now_of c one)
        of_state true found first = λ a. absurd (in_range last is n a)
        of_state false found first = (
          rw found refl,
          omega arith,
          (λ a. absurd (omega (arith, a))),
          (λ a. refl),
          (λ a. cc),
          (λ a. absurd (omega (arith, a))),
          (λ a. cc),
          λ o. ((λ a. cc), (λ a. cc), (λ a. absurd (let x = first in cc)), λ a. absurd (let x = first in cc)),
        )
    at_number last is false n e f = λ a. none_first (out_of a)

    by : (o : Option AttemptRecord) → last_attempt one.attempts ≡ o → ContainerByCurrent c (recovered_row one).current (now_of c one)
    by None is = rw is (none_first (none_found c.attempt one.attempts is))
    by (Some last) is = rw is (at_number last is (last.id.number == c.attempt.number) refl (is_some last.ending) refl)

-- what is counted over the events with which a life opens, where none of their kinds is
none_of_main : (p : MainEvent → Bool) → p mains.Retire ≡ false → ((id : AppId) → p (mains.AppSaved id) ≡ false) → ((a : AttemptId) → p (mains.AttemptDone a) ≡ false) → (apps : List AppRecord) → count_by p (opening_main apps) ≡ 0
none_of_main p r f g apps = at_end p (flat_map main_of apps) mains.Retire ∙ ap (λ b. one_if b (count_by p (flat_map main_of apps))) r ∙ none_among main_of p (λ app. of_one app.id app.ending (last_attempt app.attempts)) apps
  where
    ended : (id : AppId) (last : AttemptRecord) (b : Bool) → is_some last.ending ≡ b → count_by p (main_by None (Some last) id) ≡ 0
    ended id last true e = rw e (at_front p (mains.AttemptDone (record { app = id; number = last.id.number })) [] ∙ rw (g (record { app = id; number = last.id.number })) refl)
    ended id last false e = rw e refl

    of_one : (id : AppId) (end : Option (How × List ℕ)) (last : Option AttemptRecord) → count_by p (main_by end last id) ≡ 0
    of_one id (Some end) last = refl
    of_one id None None = at_front p (mains.AppSaved id) [] ∙ rw (f id) refl
    of_one id None (Some last) = ended id last (is_some last.ending) refl

none_of_sched : (p : SchedEvent → Bool) → ((a : AttemptId) → p (scheds.AttemptRecovered a) ≡ false) → (apps : List AppRecord) → count_by p (opening_sched apps) ≡ 0
none_of_sched p f apps = none_among sched_of p (λ app. of_one app.id app.ending (last_attempt app.attempts) app.submission.keep) apps
  where
    ended : (id : AppId) (last : AttemptRecord) (keep b : Bool) → (is_some last.ending && not keep) ≡ b → count_by p (sched_by None (Some last) keep id) ≡ 0
    ended id last keep true e = rw e refl
    ended id last keep false e = rw e (at_front p (scheds.AttemptRecovered (record { app = id; number = last.id.number })) [] ∙ rw (f (record { app = id; number = last.id.number })) refl)

    of_one : (id : AppId) (end : Option (How × List ℕ)) (last : Option AttemptRecord) (keep : Bool) → count_by p (sched_by end last keep id) ≡ 0
    of_one id (Some end) last keep = refl
    of_one id None None keep = refl
    of_one id None (Some last) keep = ended id last keep (is_some last.ending && not keep) refl

-- Kept Epoch: what holds of every container as the life opens
module _ (h : History) (t : Tables) (next stamp : ℕ) (r : IsRecovered h t) (front : t.awaiting ≡ ops.Epoch next stamp ∷ []) where
  -- the history after the Epoch is kept
  abbrev pub opening : History
  opening = record h { kept = h.kept ++ ops.Epoch next stamp ∷ [] }

  -- the attempt of a container is recorded
  abbrev was_first : ContainerId → Bool
  was_first c = list_any (λ one. is_attempt one.id c.attempt) (attempts_in (record_of t.tree.apps c.attempt.app))

  opened_now : (c : ContainerId) → container_view opening (kept (ops.Epoch next stamp) t) c ≡ opening_marks (record_of t.tree.apps c.attempt.app) (was_first c)
  opened_now c =
      let book : h.book ≡ [] = ap (λ (g : History). g.book) r.new in
      let masters : h.masters ≡ record { registered = []; expired = []; ordered = [] } = ap (λ (g : History). g.masters) r.new in
      let left : h.endings.left ≡ [] = ap (λ (g : History). g.endings.left) r.new in
      let retired : h.apps.retired ≡ [] = ap (λ (g : History). g.apps.retired) r.new in
      let first : h.first ≡ t.tree = ap (λ (g : History). g.first) r.new ∙ r.recorded in
      rw (
        none_of_main (is_granting c) refl (λ id. refl) (λ a. refl) t.tree.apps,
        none_of_main (is_losing c) refl (λ id. refl) (λ a. refl) t.tree.apps,
        none_of_main (is_launch c.attempt) refl (λ id. refl) (λ a. refl) t.tree.apps,
        none_of_main (is_expiry c) refl (λ id. refl) (λ a. refl) t.tree.apps,
        none_of_main (is_finish c) refl (λ id. refl) (λ a. refl) t.tree.apps,
        none_of_sched (is_attempt_removal c) (λ a. refl) t.tree.apps,
        front,
        book,
        masters,
        left,
        retired,
        first,
      ) refl

  opened_here : RecordsAreSound t.tree.apps → (c : ContainerId) → ContainerInvariant c (row_of t.rows c.attempt.app) (container_view opening (kept (ops.Epoch next stamp) t) c)
  opened_here each c =
      let row : row_of t.rows c.attempt.app ≡ option_map recovered_row (record_of t.tree.apps c.attempt.app) =
      ap (λ (rows : List (AppId × Option AppRow)). row_of rows c.attempt.app) r.rows ∙ recovered_found t.tree.apps c.attempt.app in
      subst (λ (v : ContainerView). ContainerInvariant c (row_of t.rows c.attempt.app) v) (sym (opened_now c))
      (subst (λ (row : Option AppRow). ContainerInvariant c row (opening_marks (record_of t.tree.apps c.attempt.app) (was_first c))) (sym row) (by (record_of t.tree.apps c.attempt.app) refl))
    where
      by : (found : Option AppRecord) → record_of t.tree.apps c.attempt.app ≡ found → ContainerInvariant c (option_map recovered_row found) (opening_marks found (list_any (λ one. is_attempt one.id c.attempt) (attempts_in found)))
      by None is = ((λ n. absurd (omega (arith, n))), λ n. untouched None)
      by (Some one) is = opening_says c one (each c.attempt.app one is)

  -- what holds of every container
  pub opened_marks : RecordsAreSound t.tree.apps → ContainersInvariant opening (kept (ops.Epoch next stamp) t)
  opened_marks each c = (opened_here each c, subst (λ (v : ContainerView). RemovalInvariant c v) (sym (opened_now c)) (λ s l. cc))

-- and the whole step
pub opening_joins : (settings : Settings) (h : History) (t : Tables) (next stamp : ℕ) (r : IsRecovered h t) (front : t.awaiting ≡ ops.Epoch next stamp ∷ []) → t.handed ≡ true → RecordsAreSound t.tree.apps
    → PreservesContainers settings h t (KeptEntry (ops.Epoch next stamp)) (opening h t next stamp r front) (kept (ops.Epoch next stamp) t)
opening_joins settings h t next stamp r front handed each = record { step = opening_step settings h t next stamp [] r front refl handed; marks = opened_marks h t next stamp r front each }
