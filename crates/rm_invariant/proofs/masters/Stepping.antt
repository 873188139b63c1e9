-- A step of an application's own event or operation, which keeps what holds of every attempt and of every container: what is left to show is
-- what becomes of its own ones.
use Rattle.rm_invariant.proofs.Common.{◌≡◌, List, ◌∷◌, Bool, true, false, Option, Some, refl, sym, ◌∙◌, ap, subst, Entry, AppId, AttemptId, ContainerId, Settings, is_app, record_of, records, same_app, after, AllowedIn, LifeState, Manager, is_living, has_app, has_container, attempt_was_first, finishing_text, has_expired, MainEvent, AppRow, Tables, main_popped, row_of, History, abstract_scene, live_state, abstract_life}
use Rattle.std.proofs.Common.{option_map, count_by, is_some}
use Rattle.rm_invariant.specs.Step.{AppsInvariant, Step}
use Rattle.rm_invariant.specs.apps.Invariant.{RowInvariant}
use Rattle.rm_invariant.specs.apps.View.{View, changed_if, main_view, view, is_launch}
use Rattle.rm_invariant.proofs.apps.Keeping.{step_own}
use Rattle.rm_invariant.proofs.apps.Effects as views
use Rattle.rm_invariant.specs.masters.Invariant.{ContainersInvariant, ContainerInvariant, RemovalInvariant}
use Rattle.rm_invariant.specs.masters.Preserves.{PreservesContainers}
use Rattle.rm_invariant.specs.masters.View.{ContainerView, container_view_main, container_view, is_expiry, is_finish, is_granting, is_losing, is_attempt_removal, is_saving}
use Rattle.rm_invariant.proofs.masters.Effects.{main_taken}

-- an event is of one application: to the attempts and containers of others it is nothing
abbrev pub IsEventOf : MainEvent → AppId → Type 0
IsEventOf e id = (q : AttemptId) (v : View) → is_app id q.app ≡ false → main_view q e v ≡ v

abbrev pub IsMarkOf : MainEvent → AppId → Type 0
IsMarkOf e id = (c : ContainerId) (v : ContainerView) → is_app id c.attempt.app ≡ false → container_view_main c e v ≡ v

-- the row of one application changes, and the marks of its containers alone
pub marks_changed : (h g : History) (t next : Tables) (id : AppId) (change : AppRow → AppRow) (row : Option AppRow)
    → ((q : AppId) → row_of next.rows q ≡ changed_if (is_app id q) change (row_of t.rows q)) → row_of t.rows id ≡ row
    → ((c : ContainerId) → is_app id c.attempt.app ≡ false → container_view g next c ≡ container_view h t c)
    → ((c : ContainerId) → is_app id c.attempt.app ≡ true → ContainerInvariant c row (container_view h t c) → ContainerInvariant c (option_map change row) (container_view g next c))
    → ((c : ContainerId) → is_app id c.attempt.app ≡ true → RemovalInvariant c (container_view h t c) → RemovalInvariant c (container_view g next c)) → ContainersInvariant h t → ContainersInvariant g next
marks_changed h g t next id change row rows found stay own over all = λ c. (rw (rows c.attempt.app) (by c (is_app id c.attempt.app) refl), removal c (is_app id c.attempt.app) refl)
  where
    removal : (c : ContainerId) (b : Bool) → is_app id c.attempt.app ≡ b → RemovalInvariant c (container_view g next c)
    removal c true e = over c e (all c).1
    removal c false e = subst (λ (v : ContainerView). RemovalInvariant c v) (sym (stay c e)) (all c).1

    by : (c : ContainerId) (b : Bool) → is_app id c.attempt.app ≡ b → ContainerInvariant c (changed_if b change (row_of t.rows c.attempt.app)) (container_view g next c)
    by c true e =
        let here : row_of t.rows c.attempt.app ≡ row = rw (← same_app id c.attempt.app e) found in
        let says : ContainerInvariant c row (container_view h t c) = rw here at (all c).0 in
        rw here (own c e says)
    by c false e = subst (λ (v : ContainerView). ContainerInvariant c (row_of t.rows c.attempt.app) v) (sym (stay c e)) (all c).0

-- A step that changes one application. What it takes and what it does are changes of what is seen at a middle moment.
module _ (settings : Settings) (h g : History) (t next : Tables) (k : AppsInvariant settings h t) (all : ContainersInvariant h t) (entry : Entry) (id : AppId) (row : Option AppRow) (change : AppRow → AppRow)
    (middle : AttemptId → View) (takes does : AttemptId → View → View) (middle_marks : ContainerId → ContainerView) (marks_take marks_do : ContainerId → ContainerView → ContainerView) where
  pub joins_between : AllowedIn settings (abstract_scene h t) entry → after (live_state h t) entry ≡ live_state g next → records g.kept ≡ next.tree → next.is_open ≡ true
      → row_of t.rows id ≡ row → ((q : AppId) → row_of next.rows q ≡ changed_if (is_app id q) change (row_of t.rows q))
      → ((q : AttemptId) → view h t q ≡ takes q (middle q)) → ((q : AttemptId) → view g next q ≡ does q (middle q))
      → ((q : AttemptId) (v : View) → is_app id q.app ≡ false → takes q v ≡ v) → ((q : AttemptId) (v : View) → is_app id q.app ≡ false → does q v ≡ v)
      → ((q : AttemptId) → is_app id q.app ≡ true → RowInvariant settings q row (takes q (middle q)) → RowInvariant settings q (option_map change row) (does q (middle q)))
      → ((c : ContainerId) → container_view h t c ≡ marks_take c (middle_marks c)) → ((c : ContainerId) → container_view g next c ≡ marks_do c (middle_marks c))
      → ((c : ContainerId) (v : ContainerView) → is_app id c.attempt.app ≡ false → marks_take c v ≡ v) → ((c : ContainerId) (v : ContainerView) → is_app id c.attempt.app ≡ false → marks_do c v ≡ v)
      → ((c : ContainerId) → is_app id c.attempt.app ≡ true → ContainerInvariant c row (marks_take c (middle_marks c)) → ContainerInvariant c (option_map change row) (marks_do c (middle_marks c)))
      → ((c : ContainerId) → is_app id c.attempt.app ≡ true → RemovalInvariant c (marks_take c (middle_marks c)) → RemovalInvariant c (marks_do c (middle_marks c)))
      → PreservesContainers settings h t entry g next
  joins_between allowed same recorded open_ found rows was now take_none do_none own marks_were marks_are mark_takes_none mark_does_none mark_own over =
      record {
        step =
            step_own settings h g t next k entry id row change middle takes does takes does allowed same recorded open_ found rows was now take_none do_none (λ q v e. refl) (λ q v e. refl) own;
        marks = marks_changed h g t next id change row rows found stay here removal all;
      }
    where
      stay : (c : ContainerId) → is_app id c.attempt.app ≡ false → container_view g next c ≡ container_view h t c
      stay c not = marks_are c ∙ mark_does_none c (middle_marks c) not ∙ sym (marks_were c ∙ mark_takes_none c (middle_marks c) not)

      removal : (c : ContainerId) → is_app id c.attempt.app ≡ true → RemovalInvariant c (container_view h t c) → RemovalInvariant c (container_view g next c)
      removal c is says = subst (λ (v : ContainerView). RemovalInvariant c v) (sym (marks_are c)) (over c is (subst (λ (v : ContainerView). RemovalInvariant c v) (marks_were c) says))

      here : (c : ContainerId) → is_app id c.attempt.app ≡ true → ContainerInvariant c row (container_view h t c) → ContainerInvariant c (option_map change row) (container_view g next c)
      here c is says =
          let before = subst (λ (v : ContainerView). ContainerInvariant c row v) (marks_were c) says in
          subst (λ (v : ContainerView). ContainerInvariant c (option_map change row) v) (sym (marks_are c)) (mark_own c is before)

-- a step by the event at the front of the main queue
module _ (settings : Settings) (h : History) (t : Tables) (k : AppsInvariant settings h t) (all : ContainersInvariant h t) (e : MainEvent) (rest : List MainEvent) (front : t.main ≡ e ∷ rest) where
  pub joins_own : (entry : Entry) (g : History) (next : Tables) (id : AppId) (row : AppRow) (change : AppRow → AppRow) → AllowedIn settings (abstract_scene h t) entry
      → after (live_state h t) entry ≡ live_state g next → records g.kept ≡ next.tree → next.is_open ≡ true
      → ((q : AppId) → row_of next.rows q ≡ changed_if (is_app id q) change (row_of t.rows q)) → row_of t.rows id ≡ Some row
      → (does : AttemptId → View → View) → ((q : AttemptId) → view g next q ≡ does q (view h (main_popped t) q)) → IsEventOf e id → ((q : AttemptId) (v : View) → is_app id q.app ≡ false → does q v ≡ v)
      → ((q : AttemptId) → is_app id q.app ≡ true → RowInvariant settings q (Some row) (main_view q e (view h (main_popped t) q)) → RowInvariant settings q (Some (change row)) (does q (view h (main_popped t) q)))
      → (marks_do : ContainerId → ContainerView → ContainerView) → ((c : ContainerId) → container_view g next c ≡ marks_do c (container_view h (main_popped t) c)) → IsMarkOf e id → ((c : ContainerId) (v : ContainerView) → is_app id c.attempt.app ≡ false → marks_do c v ≡ v)
      → ((c : ContainerId) → is_app id c.attempt.app ≡ true → ContainerInvariant c (Some row) (container_view_main c e (container_view h (main_popped t) c)) → ContainerInvariant c (Some (change row)) (marks_do c (container_view h (main_popped t) c)))
      → ((c : ContainerId) (v : ContainerView) → RemovalInvariant c v → RemovalInvariant c (marks_do c v))
      → PreservesContainers settings h t entry g next
  joins_own entry g next id row change allowed same recorded open_ rows found does seen of other own marks_do marked mark_of mark_other mark_own over =
      joins_between settings h g t next k all entry id (Some row) change (view h (main_popped t)) (λ q v. main_view q e v) does (container_view h (main_popped t)) (λ c v. container_view_main c e v) marks_do
      allowed same recorded open_ found rows (λ q. views.main_taken h t q e rest front) seen of other own
      (λ c. main_taken h t c e rest front) marked mark_of mark_other mark_own (λ c is says. over c (container_view h (main_popped t) c) says)

-- a container looks the same by another history of the same life
abbrev marks_in : LifeState → Tables → ContainerId → ContainerView
marks_in life t c =
    record {
      found = record_of t.tree.apps c.attempt.app;
      grants = count_by (is_granting c) t.main;
      losses = count_by (is_losing c) t.main;
      savings = count_by (is_saving c) t.awaiting;
      launches = count_by (is_launch c.attempt) t.main;
      expiries = count_by (is_expiry c) t.main;
      finishes = count_by (is_finish c) t.main;
      removals = count_by (is_attempt_removal c) t.sched;
      living = is_living life.book c;
      left = has_container life.endings.left c;
      ordered = has_container life.masters.ordered c;
      first = attempt_was_first (record { records = t.tree; awaiting = t.awaiting; life = life }) c.attempt;
      expired = has_expired (record { records = t.tree; awaiting = t.awaiting; life = life }) c.attempt;
      finishing = is_some (finishing_text (record { records = t.tree; awaiting = t.awaiting; life = life }) c.attempt);
      retired = has_app life.apps.retired c.attempt.app;
    }

some_life : (a b : LifeState) → Some a ≡ Some b → a ≡ b
some_life a b e = cc

-- a step whose history is told by the judge's rule keeps what holds of containers, where they hold by one that the rule leads to
pub joins_with : (settings : Settings) (h : History) (t : Tables) (entry : Entry) (g : History) (next : Tables) → Step settings h t entry g next
    → (other : History) → after (live_state h t) entry ≡ live_state other next → ContainersInvariant other next → PreservesContainers settings h t entry g next
joins_with settings h t entry g next step other same all =
    let lives : Some (abstract_life other next) ≡ Some (abstract_life g next) = ap (λ (m : Manager). m.life) (sym same ∙ step.same) in
    let life : abstract_life other next ≡ abstract_life g next = some_life (abstract_life other next) (abstract_life g next) lives in
    let alike : (c : ContainerId) → container_view other next c ≡ container_view g next c = λ c. ap (λ (l : LifeState). marks_in l next c) life in
    record { step = step; marks = λ c. (subst (λ (v : ContainerView). ContainerInvariant c (row_of next.rows c.attempt.app) v) (alike c) (all c).0, subst (λ (v : ContainerView). RemovalInvariant c v) (alike c) (all c).1) }

-- the row of one application changes, and no container looks otherwise
pub marks_still : (h g : History) (t next : Tables) (id : AppId) (change : AppRow → AppRow) (row : AppRow)
    → ((q : AppId) → row_of next.rows q ≡ changed_if (is_app id q) change (row_of t.rows q)) → row_of t.rows id ≡ Some row
    → ((c : ContainerId) → container_view g next c ≡ container_view h t c)
    → ((c : ContainerId) → is_app id c.attempt.app ≡ true → ContainerInvariant c (Some row) (container_view h t c) → ContainerInvariant c (Some (change row)) (container_view h t c)) → ContainersInvariant h t → ContainersInvariant g next
marks_still h g t next id change row rows found marked own all =
    marks_changed h g t next id change (Some row) rows found (λ c other. marked c) (λ c same says. subst (λ (v : ContainerView). ContainerInvariant c (Some (change row)) v) (sym (marked c)) (own c same says)) (λ c same says. subst (λ (v : ContainerView). RemovalInvariant c v) (sym (marked c)) says) all

-- no row changes either
pub marks_stay : (h g : History) (t next : Tables) → next.rows ≡ t.rows → ((c : ContainerId) → container_view g next c ≡ container_view h t c) → ContainersInvariant h t → ContainersInvariant g next
marks_stay h g t next rows marked all = λ c. (rw rows (subst (λ (v : ContainerView). ContainerInvariant c (row_of t.rows c.attempt.app) v) (sym (marked c)) (all c).0), subst (λ (v : ContainerView). RemovalInvariant c v) (sym (marked c)) (all c).1)
