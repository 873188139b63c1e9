-- AttemptExpired and AttemptFinish, each as a whole step: an attempt that lives ends.
use Rattle.rm_invariant.proofs.Common.{◌≡◌, ◌≤◌, ℕ, ◌&&◌, suc, List, ◌∷◌, Bool, true, false, Option, None, Some, refl, sym, ◌∙◌, ap, subst, arith, nat_tests, Issued, AttemptId, ContainerId, How, Settings, is_attempt, and_first, finishing_text, has_expired, EndsFor, expired_text, AttemptState, is_alive, MainEvent, AppRow, Current, Tables, attempt_ends, main_popped, main_quiet, main_worked, expiry_of_row, expiry_of_living, expiry_of_current, finish_of_row, finish_of_living, finish_of_current, finishing_in, is_master_of, main_step, row_of, History, abstract_scene}
use Rattle.std.proofs.Common.{◌==◌, is_some}
use Rattle.rm_types.specs.declared.operations.How.TheVariants as ways
use Rattle.rm_types.specs.declared.operations.Op.TheVariants as ops
use Rattle.rm_states.specs.declared.attempt.states.AttemptState.TheVariants as attempts
use Rattle.rm_tables.specs.declared.events.MainEvent.TheVariants as mains
use Rattle.rm_invariant.specs.Step.{AppsInvariant}
use Rattle.rm_invariant.specs.apps.Invariant.{RowInvariant}
use Rattle.rm_invariant.specs.apps.View.{View, counts, main_view, one_if, view}
use Rattle.rm_invariant.specs.masters.Invariant.{ContainersInvariant, ContainerInvariant}
use Rattle.rm_invariant.specs.masters.Preserves.{PreservesContainers, PreservesContainersTo}
use Rattle.rm_invariant.specs.masters.View.{ContainerView, container_view_main, container_view}
use Rattle.rm_invariant.proofs.masters.Ends.{Alive, alive_by, alive_says, end_step}
use Rattle.rm_invariant.proofs.masters.Stepping.{IsEventOf, IsMarkOf}
use Rattle.rm_invariant.proofs.masters.Marking.{MayGo, event_goes}
use Rattle.rm_invariant.proofs.masters.Quieting.{joins_quiet}
use Rattle.rm_invariant.proofs.masters.Effects.{main_taken}
use Rattle.rm_invariant.proofs.masters.Tests.{and_right, not_both}

none_of_it : (id : AttemptId) (c : ContainerId) → false ≡ true → is_attempt id c.attempt ≡ true
none_of_it id c e = cc

-- two events of an attempt that ask whether it lives
module _ (settings : Settings) (h : History) (t : Tables) (k : AppsInvariant settings h t) (all : ContainersInvariant h t) (id : AttemptId) (e : MainEvent) (rest : List MainEvent) (front : t.main ≡ e ∷ rest)
    (of : IsEventOf e id.app) (mark_of : IsMarkOf e id.app) (expiring finished : ContainerId → Bool)
    (seen : (q : AttemptId) → main_view q e (view h (main_popped t) q) ≡ view h (main_popped t) q)
    (marked : (c : ContainerId) → container_view_main c e (container_view h (main_popped t) c) ≡ record (container_view h (main_popped t) c) { expiries = one_if (expiring c) (container_view h (main_popped t) c).expiries; finishes = one_if (finished c) (container_view h (main_popped t) c).finishes })
    (expiring_under : (c : ContainerId) → expiring c ≡ true → is_attempt id c.attempt ≡ true) (finished_under : (c : ContainerId) → finished c ≡ true → is_attempt id c.attempt ≡ true) where
  -- the attempt isn't the current one, or doesn't live
  abbrev IsNotIt : Option AppRow → Type 0
  IsNotIt row = (one : AppRow) (current : Current) → row ≡ Some one → one.current ≡ Some current → ((current.number == id.number) && is_alive current.state) ≡ false

  quiet_step : (row : Option AppRow) → row_of t.rows id.app ≡ row → IsNotIt row → PreservesContainersTo settings h t (main_worked (main_quiet t))
  quiet_step row found not_it = record {
    next = h;
    joins = joins_quiet settings h t k all e rest front id.app row found of mark_of (λ q same says. subst (λ (v : View). RowInvariant settings q row v) (seen q) says)
        (λ d same says. event_goes d (container_view h (main_popped t) d) false false false (expiring d) (finished d) row (λ one current is at_ n. may d one current is at_ n current.state refl (is_master_of d current.master)) (subst (λ (v : ContainerView). ContainerInvariant d row v) (marked d) says));
  }
    where
      gone : (d : ContainerId) (one : AppRow) (current : Current) → row ≡ Some one → one.current ≡ Some current → (current.number == d.attempt.number) ≡ true → is_alive current.state ≡ true → (w : ContainerId → Bool) → ((c : ContainerId) → w c ≡ true → is_attempt id c.attempt ≡ true)
          → (b : Bool) → w d ≡ b → b ≡ false
      gone d one current is at_ n a w under true f =
          let x : is_attempt id d.attempt ≡ true = under d f in
          let y : (current.number == id.number) ≡ true = grind (arith, nat_tests) in
          let dead = not_both (current.number == id.number) (is_alive current.state) (not_it one current is at_) y in absurd (cc)
      gone d one current is at_ n a w under false f = refl

      alive_may : (d : ContainerId) (one : AppRow) (current : Current) → row ≡ Some one → one.current ≡ Some current → (current.number == d.attempt.number) ≡ true → is_alive current.state ≡ true
          → (expiring d ≡ false) × (finished d ≡ false)
      alive_may d one current is at_ n a = (gone d one current is at_ n a expiring expiring_under (expiring d) refl, gone d one current is at_ n a finished finished_under (finished d) refl)

      may : (d : ContainerId) (one : AppRow) (current : Current) → row ≡ Some one → one.current ≡ Some current → (current.number == d.attempt.number) ≡ true → (s : AttemptState) → current.state ≡ s → (m : Bool)
          → MayGo s m false false false (expiring d) (finished d) (container_view h (main_popped t) d).finishing
      may d one current is at_ n attempts.Granted st m = λ e. refl
      may d one current is at_ n attempts.Saving st m = λ e. refl
      may d one current is at_ n attempts.Live st m = let a = alive_may d one current is at_ n (rw st refl) in (λ e. refl, refl, a.0, λ f. a.1)
      may d one current is at_ n attempts.Registered st m = let a = alive_may d one current is at_ n (rw st refl) in (λ e. refl, refl, a.0, λ f. a.1)
      may d one current is at_ n attempts.Finishing st m = let a = alive_may d one current is at_ n (rw st refl) in (λ e. refl, refl, a.0, λ f. a.1)
      may d one current is at_ n _ st m = tt

  end : (row : AppRow) (found : row_of t.rows id.app ≡ Some row) (current : Current) (is : row.current ≡ Some current) (st : Alive current.state) (n : (current.number == id.number) ≡ true) (how : How) (text : List ℕ) → EndsFor (abstract_scene h t) id how text
      → PreservesContainers settings h t (Issued (ops.AttemptEnd id how text)) h (main_popped (attempt_ends id how text t))
  end row found current is st n how text cause =
      end_step settings h t k all e rest front id row found current is st n of mark_of (λ q. (counts h (main_popped t) q).launches) (λ q same. seen q)
      (λ d. false) (λ d. false) expiring finished marked how text cause

module _ (settings : Settings) (h : History) (t : Tables) (k : AppsInvariant settings h t) (all : ContainersInvariant h t) (id : AttemptId) (rest : List MainEvent) (front : t.main ≡ mains.AttemptExpired id ∷ rest) where
  abbrev expiry : MainEvent
  expiry = mains.AttemptExpired id

  expiry_of : IsEventOf expiry id.app
  expiry_of q n other = refl

  expiry_mark : IsMarkOf expiry id.app
  expiry_mark d v other = rw other refl

  not_living : (row : Option AppRow) → row_of t.rows id.app ≡ row → IsNotIt settings h t k all id expiry rest front expiry_of expiry_mark (λ c. is_attempt id c.attempt) (λ c. false) (λ q. refl) (λ c. refl) (λ c e. e) (none_of_it id) row → PreservesContainersTo settings h t (main_worked (main_quiet t))
  not_living = quiet_step settings h t k all id expiry rest front expiry_of expiry_mark (λ c. is_attempt id c.attempt) (λ c. false) (λ q. refl) (λ c. refl) (λ c e. e) (none_of_it id)

  -- some container of the attempt
  abbrev some_of_it : ContainerId
  some_of_it = record { attempt = id; epoch = 0; seq = 0 }

  one_expiry : 1 ≤ (container_view h t some_of_it).expiries
  one_expiry =
      let e = ap (λ (v : ContainerView). v.expiries) (main_taken h t some_of_it expiry rest front) in
      let self : is_attempt id id ≡ true = grind (arith, nat_tests) in
      let f : (container_view h t some_of_it).expiries ≡ suc (container_view h (main_popped t) some_of_it).expiries = e ∙ rw self refl in
      omega (arith, f)

  expired_cases : (row : Option AppRow) → row_of t.rows id.app ≡ row → PreservesContainersTo settings h t (main_worked (expiry_of_row row id t))
  expired_cases None found = not_living None found (λ one current is at_. cc)
  expired_cases (Some row) found = with_current row.current refl
    where
      at_state : (current : Current) → row.current ≡ Some current → (b : Bool) → ((current.number == id.number) && is_alive current.state) ≡ b → PreservesContainersTo settings h t (main_worked (expiry_of_living b id t))
      at_state current is true e =
          let st = alive_by current.state (and_right (current.number == id.number) (is_alive current.state) e) in
          let n = and_first (current.number == id.number) (is_alive current.state) e in
          let says = alive_says settings h t k all expiry rest front id row found current is st n some_of_it refl in
          let expired : has_expired (abstract_scene h t) id ≡ true = says.5 one_expiry in
          record { next = h; joins = end settings h t k all id expiry rest front expiry_of expiry_mark (λ c. is_attempt id c.attempt) (λ c. false) (λ q. refl) (λ c. refl) (λ c e. e) (none_of_it id) row found current is st n ways.Failed expired_text (EndsFor.expired expired refl refl) }
      at_state current is false e = not_living (Some row) found (λ one other x y. let u : one ≡ row = cc in let w : Some other ≡ Some current = sym y ∙ ap (λ (r : AppRow). r.current) u ∙ is in let a : other ≡ current = cc in rw a e)

      with_current : (o : Option Current) → row.current ≡ o → PreservesContainersTo settings h t (main_worked (expiry_of_current o id t))
      with_current None is = not_living (Some row) found (λ one current x y. absurd (let u : one ≡ row = cc in let w : Some current ≡ None = sym y ∙ ap (λ (r : AppRow). r.current) u ∙ is in cc))
      with_current (Some current) is = at_state current is ((current.number == id.number) && is_alive current.state) refl

  -- AttemptExpired, for every row and state
  pub expired_joins : PreservesContainersTo settings h t (main_worked (main_step (mains.AttemptExpired id) t))
  expired_joins = expired_cases (row_of t.rows id.app) refl

module _ (settings : Settings) (h : History) (t : Tables) (k : AppsInvariant settings h t) (all : ContainersInvariant h t) (id : AttemptId) (rest : List MainEvent) (front : t.main ≡ mains.AttemptFinish id ∷ rest)
    (agree : (row : AppRow) (current : Current) → row_of t.rows id.app ≡ Some row → row.current ≡ Some current → (current.number == id.number) ≡ true → finishing_in row.dialogue ≡ finishing_text (abstract_scene h t) id) where
  abbrev finish : MainEvent
  finish = mains.AttemptFinish id

  finish_of : IsEventOf finish id.app
  finish_of q n other = refl

  finish_mark : IsMarkOf finish id.app
  finish_mark d v other = rw other refl

  no_master : (row : Option AppRow) → row_of t.rows id.app ≡ row → IsNotIt settings h t k all id finish rest front finish_of finish_mark (λ c. false) (λ c. is_attempt id c.attempt) (λ q. refl) (λ c. refl) (none_of_it id) (λ c e. e) row → PreservesContainersTo settings h t (main_worked (main_quiet t))
  no_master = quiet_step settings h t k all id finish rest front finish_of finish_mark (λ c. false) (λ c. is_attempt id c.attempt) (λ q. refl) (λ c. refl) (none_of_it id) (λ c e. e)

  -- where its master said nothing, nothing is to be done
  unsaid : (row : AppRow) → row_of t.rows id.app ≡ Some row → finishing_text (abstract_scene h t) id ≡ None → PreservesContainersTo settings h t (main_worked (main_quiet t))
  unsaid row found none = record {
    next = h;
    joins = joins_quiet settings h t k all finish rest front id.app (Some row) found finish_of finish_mark (λ q same says. says)
        (λ d same says. event_goes d (container_view h (main_popped t) d) false false false false (is_attempt id d.attempt) (Some row) (λ one current is at_ n. may d current.state (is_master_of d current.master) (λ f. gone d f (is_attempt id d.attempt) refl)) says);
  }
    where
      gone : (d : ContainerId) → is_some (finishing_text (abstract_scene h t) d.attempt) ≡ true → (b : Bool) → is_attempt id d.attempt ≡ b → b ≡ false
      gone d f true e = absurd (let same : id ≡ d.attempt = grind (arith, nat_tests) in let x : finishing_text (abstract_scene h t) d.attempt ≡ None = rw (← same) none in let y = rw x at f in cc)
      gone d f false e = refl

      may : (d : ContainerId) (s : AttemptState) (m : Bool) → ((container_view h (main_popped t) d).finishing ≡ true → is_attempt id d.attempt ≡ false) → MayGo s m false false false false (is_attempt id d.attempt) (container_view h (main_popped t) d).finishing
      may d attempts.Granted m f = λ e. refl
      may d attempts.Saving m f = λ e. refl
      may d attempts.Live m f = (λ e. refl, refl, refl, f)
      may d attempts.Registered m f = (λ e. refl, refl, refl, f)
      may d attempts.Finishing m f = (λ e. refl, refl, refl, f)
      may d _ m f = tt

  finished_cases : (row : Option AppRow) → row_of t.rows id.app ≡ row → PreservesContainersTo settings h t (main_worked (finish_of_row row id t))
  finished_cases None found = no_master None found (λ one current is at_. cc)
  finished_cases (Some row) found = with_current row.current refl
    where
      at_text : (current : Current) → row.current ≡ Some current → Alive current.state → (current.number == id.number) ≡ true → (o : Option (List ℕ)) → finishing_text (abstract_scene h t) id ≡ o → PreservesContainersTo settings h t (main_worked (finish_of_living true o id t))
      at_text current is st n None o = unsaid row found o
      at_text current is st n (Some text) o =
          record { next = h; joins = end settings h t k all id finish rest front finish_of finish_mark (λ c. false) (λ c. is_attempt id c.attempt) (λ q. refl) (λ c. refl) (none_of_it id) (λ c e. e) row found current is st n ways.Finished text (EndsFor.finished o refl) }

      at_state : (current : Current) → row.current ≡ Some current → (b : Bool) → ((current.number == id.number) && is_alive current.state) ≡ b → PreservesContainersTo settings h t (main_worked (finish_of_living b (finishing_in row.dialogue) id t))
      at_state current is true e =
          let n = and_first (current.number == id.number) (is_alive current.state) e in
          let st = alive_by current.state (and_right (current.number == id.number) (is_alive current.state) e) in
          at_text current is st n (finishing_in row.dialogue) (sym (agree row current found is n))
      at_state current is false e = no_living (Some row) found (λ one other x y. let u : one ≡ row = cc in let w : Some other ≡ Some current = sym y ∙ ap (λ (r : AppRow). r.current) u ∙ is in let a : other ≡ current = cc in rw a e) (finishing_in row.dialogue)
        where
          no_living : (o : Option AppRow) → row_of t.rows id.app ≡ o → IsNotIt settings h t k all id finish rest front finish_of finish_mark (λ c. false) (λ c. is_attempt id c.attempt) (λ q. refl) (λ c. refl) (none_of_it id) (λ c e. e) o → (text : Option (List ℕ))
              → PreservesContainersTo settings h t (main_worked (finish_of_living false text id t))
          no_living o found not_it None = no_master o found not_it
          no_living o found not_it (Some text) = no_master o found not_it

      with_current : (o : Option Current) → row.current ≡ o → PreservesContainersTo settings h t (main_worked (finish_of_current o (finishing_in row.dialogue) id t))
      with_current None is = no_master (Some row) found (λ one current x y. absurd (let u : one ≡ row = cc in let w : Some current ≡ None = sym y ∙ ap (λ (r : AppRow). r.current) u ∙ is in cc))
      with_current (Some current) is = at_state current is ((current.number == id.number) && is_alive current.state) refl

  -- AttemptFinish, for every row and state
  pub finished_joins : PreservesContainersTo settings h t (main_worked (main_step (mains.AttemptFinish id) t))
  finished_joins = finished_cases (row_of t.rows id.app) refl
