-- An attempt that lives goes to have its end saved, as the step that four events have in common.
use Rattle.rm_invariant.proofs.Common.{◌≡◌, ◌⊎◌, inl, inr, ℕ, List, [], ◌∷◌, Bool, true, false, Option, None, Some, find, refl, sym, ap, subst, arith, nat_tests, Issued, AttemptId, ContainerId, How, AttemptRecord, Settings, is_app, is_attempt, is_container, record_of, last_attempt, is_some_and, container_itself, kept_attempt, attempts_in, EndsFor, AttemptState, is_alive, MainEvent, AppRow, Current, Tables, attempt_ends, main_popped, changed, is_master_of, row_of, with_row, History, abstract_scene}
use Rattle.std.proofs.Common.{◌==◌, is_some}
use Rattle.rm_types.specs.declared.operations.Op.TheVariants as ops
use Rattle.rm_model.specs.Issuing.{MayIssueAttemptEnd}
use Rattle.rm_states.specs.declared.attempt.states.AttemptState.TheVariants as attempts
use Rattle.rm_tables.specs.declared.changes.RowChange.TheVariants as of_app
use Rattle.rm_tables.specs.declared.changes.AttemptChange.TheVariants as of_attempt
use Rattle.rm_invariant.specs.apps.Invariant.{LastIsOpen, RowInvariant, is_active, is_open_one}
use Rattle.rm_invariant.specs.Step.{AppsInvariant}
use Rattle.rm_invariant.specs.apps.View.{View, counts, main_view, one_if, op_view, view}
use Rattle.rm_invariant.proofs.apps.Found.{row_changed}
use Rattle.rm_invariant.proofs.apps.Effects as views
use Rattle.rm_invariant.proofs.apps.Deciding.{Living, living_facts, attempt_end_lawful}
use Rattle.rm_invariant.specs.masters.Invariant.{AliveInvariant, ContainersInvariant, ContainerByNumber, ContainerByState, MastersAreOwn, ContainerInvariant, own_of}
use Rattle.rm_invariant.specs.masters.Preserves.{PreservesContainers}
use Rattle.rm_invariant.specs.masters.View.{ContainerView, container_view_main, container_view}
use Rattle.rm_invariant.proofs.masters.Stepping.{IsEventOf, IsMarkOf, joins_own}
use Rattle.rm_invariant.proofs.masters.Saying.{active_of, alive_ends}
use Rattle.rm_invariant.proofs.masters.Marking.{ending_marks}
use Rattle.rm_invariant.proofs.masters.Effects.{op_issued}

-- an attempt lives
abbrev pub Alive : AttemptState → Type 0
Alive s = (s ≡ attempts.Live) ⊎ (s ≡ attempts.Registered) ⊎ (s ≡ attempts.Finishing)

-- it does where the tables say so
pub alive_by : (s : AttemptState) → is_alive s ≡ true → Alive s
alive_by attempts.Live e = inl refl
alive_by attempts.Registered e = inr (inl refl)
alive_by attempts.Finishing e = inr (inr refl)
alive_by _ e = cc

-- what the record of one that lives names
pub record OwnMaster (h : History) (t : Tables) (id : AttemptId) : Type 0 where
  pub one : AttemptRecord
  pub kept : kept_attempt (abstract_scene h t) id ≡ Some one
  pub apt : one.master.attempt ≡ id
  pub own : own_of one.master (record_of t.tree.apps one.master.attempt.app) ≡ true

-- the last attempt is found by its id
pub last_in : (id : AttemptId) (attempts : List AttemptRecord) → is_some_and (is_open_one id) (last_attempt attempts) ≡ true → is_some (find (λ one. is_attempt one.id id) attempts) ≡ true
last_in id [] e = cc
last_in id (one ∷ []) e = by (is_attempt one.id id) refl
  where
    by : (b : Bool) → is_attempt one.id id ≡ b → is_some (find (λ one. is_attempt one.id id) (one ∷ [])) ≡ true
    by true f = rw f refl
    by false f = absurd (let x = rw f at e in cc)
last_in id (one ∷ next ∷ more) e = by (is_attempt one.id id) refl (last_in id (next ∷ more) e)
  where
    by : (b : Bool) → is_attempt one.id id ≡ b → is_some (find (λ one. is_attempt one.id id) (next ∷ more)) ≡ true → is_some (find (λ one. is_attempt one.id id) (one ∷ next ∷ more)) ≡ true
    by true f r = rw f refl
    by false f r = rw f r

-- it names a container of the attempt
pub own_master : (h : History) (t : Tables) (id : AttemptId) → MastersAreOwn t.tree.apps → LastIsOpen (record_of t.tree.apps id.app) id → OwnMaster h t id
own_master h t id apt goes = by (kept_attempt (abstract_scene h t) id) refl (last_in id (attempts_in (record_of t.tree.apps id.app)) goes.2)
  where
    by : (o : Option AttemptRecord) → kept_attempt (abstract_scene h t) id ≡ o → is_some o ≡ true → OwnMaster h t id
    by None e s = cc
    by (Some one) e s =
        let same : one.master.attempt ≡ id = apt id one e in
        let self = container_itself one.master in
        let here : own_of one.master (record_of t.tree.apps id.app) ≡ true = subst (λ (a : AttemptId). is_some_and (λ x. is_container x.master one.master) (find (λ x. is_attempt x.id a) (attempts_in (record_of t.tree.apps id.app))) ≡ true) (sym same) (rw (e, self) refl) in
        record { one = one; kept = e; apt = same; own = subst (λ (a : AttemptId). own_of one.master (record_of t.tree.apps a.app) ≡ true) (sym same) here }

module _ (settings : Settings) (h : History) (t : Tables) (k : AppsInvariant settings h t) (all : ContainersInvariant h t) (e : MainEvent) (rest : List MainEvent) (front : t.main ≡ e ∷ rest)
    (id : AttemptId) (row : AppRow) (found : row_of t.rows id.app ≡ Some row) (current : Current) (is : row.current ≡ Some current) (st : Alive current.state) (n : (current.number == id.number) ≡ true) where
  -- what is said of it
  pub number_of : current.number ≡ id.number
  number_of = grind (arith, nat_tests)

  active_by : (s : AttemptState) → current.state ≡ s → Alive s → RowInvariant settings id (Some row) (view h t id) → is_active row.state ≡ true
  active_by s f (inl e) good = active_of settings id row (view h t id) current is (rw (f, e) refl) good
  active_by s f (inr (inl e)) good = active_of settings id row (view h t id) current is (rw (f, e) refl) good
  active_by s f (inr (inr e)) good = active_of settings id row (view h t id) current is (rw (f, e) refl) good

  pub good_here : RowInvariant settings id (Some row) (view h t id)
  good_here = rw found at (k.all id)

  pub goes_here : is_active row.state ≡ true
  goes_here = active_by current.state refl st good_here

  pub living_here : Living id row current (view h t id)
  living_here = living_facts settings id row current (view h t id) is goes_here current.state refl st good_here

  -- why its end may be issued
  pub ends_lawful : (how : How) (text : List ℕ) → EndsFor (abstract_scene h t) id how text → MayIssueAttemptEnd (abstract_scene h t) id how text
  ends_lawful how text cause =
      let num = number_of in
      let cause_ : EndsFor (abstract_scene h t) (record { app = id.app; number = current.number }) how text = subst (λ (n : ℕ). EndsFor (abstract_scene h t) (record { app = id.app; number = n }) how text) (sym num) cause in
      subst (λ (n : ℕ). MayIssueAttemptEnd (abstract_scene h t) (record { app = id.app; number = n }) how text) num (attempt_end_lawful h t id settings k.is_open current.number living_here.may how text cause_)

  -- what a container of it says
  pub alive_says : (c : ContainerId) → c.attempt ≡ id → AliveInvariant c current.lost (is_master_of c current.master) (container_view h t c)
  alive_says c a =
      let at_row : row_of t.rows c.attempt.app ≡ Some row = rw a found in
      let says : ContainerInvariant c (Some row) (container_view h t c) = rw at_row at (all c).0 in
      let here : (current.number == c.attempt.number) ≡ true = rw a n in
      let x : ContainerByNumber c (current.number == c.attempt.number) current (container_view h t c) = rw is at says.1 in
      let y : ContainerByState c current.state current.lost (is_master_of c current.master) (container_view h t c) = rw here at x in
      by current.state st y
    where
      by : (s : AttemptState) → Alive s → ContainerByState c s current.lost (is_master_of c current.master) (container_view h t c) → AliveInvariant c current.lost (is_master_of c current.master) (container_view h t c)
      by s (inl e) y = rw e at y
      by s (inr (inl e)) y = rw e at y
      by s (inr (inr e)) y = rw e at y

  -- its end is issued by such an event
  pub end_step : IsEventOf e id.app → IsMarkOf e id.app → (m : AttemptId → ℕ)
      → ((q : AttemptId) → is_app id.app q.app ≡ true → main_view q e (view h (main_popped t) q) ≡ record (view h (main_popped t) q) { count = record (counts h (main_popped t) q) { launches = m q } })
      → (launching losing expiring finished : ContainerId → Bool) → ((c : ContainerId) → container_view_main c e (container_view h (main_popped t) c) ≡ record (container_view h (main_popped t) c) { launches = one_if (launching c) (container_view h (main_popped t) c).launches; losses = one_if (losing c) (container_view h (main_popped t) c).losses; expiries = one_if (expiring c) (container_view h (main_popped t) c).expiries; finishes = one_if (finished c) (container_view h (main_popped t) c).finishes })
      → (how : How) (text : List ℕ) → EndsFor (abstract_scene h t) id how text → PreservesContainers settings h t (Issued (ops.AttemptEnd id how text)) h (main_popped (attempt_ends id how text t))
  end_step of mark_of m seen launching losing expiring finished marked how text cause =
      joins_own settings h t k all e rest front (Issued (ops.AttemptEnd id how text)) h (main_popped (attempt_ends id how text t)) id.app row (changed (of_app.OfAttempt (of_attempt.End how)))
      (ends_lawful how text cause) refl k.recorded k.is_open (λ q. row_changed (changed (of_app.OfAttempt (of_attempt.End how))) id.app q t.rows) found
      (λ q v. op_view q (ops.AttemptEnd id how text) v) (λ q. views.op_issued h (record (main_popped t) { rows = with_row (changed (of_app.OfAttempt (of_attempt.End how))) id.app t.rows }) q (ops.AttemptEnd id how text)) of (λ q v other. rw other refl)
      (λ q same says.
      let before = subst (λ (v : View). RowInvariant settings q (Some row) v) (seen q same) says in
      rw same (alive_ends settings q row current (view h (main_popped t) q) is goes_here how current.state refl st (m q) (id.number == q.number) (ap (λ n. n == q.number) number_of) before))
      (λ d v. v) (λ d. op_issued h (record (main_popped t) { rows = with_row (changed (of_app.OfAttempt (of_attempt.End how))) id.app t.rows }) d (ops.AttemptEnd id how text)) mark_of (λ d v other. refl)
      (λ d same says. ending_marks d row current (container_view h (main_popped t) d) is how current.state refl st (current.number == d.attempt.number) refl (launching d) (losing d) (expiring d) (finished d) (subst (λ (v : ContainerView). ContainerInvariant d (Some row) v) (marked d) says)) (λ d v says. says)
