-- AttemptSaved, as a whole step: an attempt whose kill is wished or whose master was lost meanwhile ends, and else its master is ordered where
-- it stands.
use Rattle.rm_invariant.proofs.Common.{◌≡◌, ◌≤◌, ℕ, ◌&&◌, suc, List, [], ◌∷◌, ◌++◌, Bool, true, false, Option, None, Some, refl, sym, ◌∙◌, ap, subst, arith, list_any, nat_tests, Issued, Ordered, Quiet, AttemptId, ContainerId, How, Op, AttemptRecord, Settings, is_app, is_attempt, is_container, record_of, is_some_and, Entry, app_itself, same_container, and_first, attempt_was_first, kept_attempt, is_living, is_attempt_end_op, EndsFor, killed_text, lost_text, Row, with_judged_node, AttemptState, is_alive, MainEvent, with_order, is_master_of, launch_of_master, launch_of_row, launch_of_tests, launch_of_place, launch_of_living, launch_of_current, main_step, node_at, AppRow, Current, Tables, attempt_ends, main_popped, main_quiet, main_worked, row_of, SameRows, History, abstract_scene}
use Rattle.std.proofs.Common.{◌==◌, is_some}
use Rattle.rm_types.specs.declared.messages.Lane.TheVariants.{Main as MainLane}
use Rattle.rm_types.specs.declared.operations.How.TheVariants as ways
use Rattle.rm_types.specs.declared.operations.Op.TheVariants as ops
use Rattle.rm_model.specs.Attempts.{has_lost_master}
use Rattle.rm_model.specs.Rules.{MayOrder}
use Rattle.rm_states.specs.declared.attempt.states.AttemptState.TheVariants as attempts
use Rattle.rm_tables.specs.declared.events.MainEvent.TheVariants as mains
use Rattle.rm_invariant.specs.apps.Invariant.{LastIsOpen, RowInvariant}
use Rattle.rm_invariant.specs.Step.{AppsInvariant}
use Rattle.rm_invariant.specs.apps.View.{counts, is_attempt_end_op_of, main_view, one_if, set_if, view}
use Rattle.rm_invariant.proofs.apps.Counts.{none_under}
use Rattle.rm_invariant.proofs.apps.Keeping.{unchanged}
use Rattle.rm_invariant.proofs.apps.Deciding.{Living}
use Rattle.rm_invariant.specs.masters.Invariant.{AliveInvariant, ContainersInvariant, MastersAreOwn, ContainerInvariant, own_of}
use Rattle.rm_invariant.specs.masters.Preserves.{PreservesContainers, PreservesContainersTo}
use Rattle.rm_invariant.specs.masters.View.{ContainerView, container_view_main, container_view}
use Rattle.rm_invariant.proofs.masters.Ends.{Alive, OwnMaster, alive_by, alive_says, end_step, goes_here, living_here, number_of, own_master}
use Rattle.rm_invariant.proofs.masters.Stepping.{IsEventOf, IsMarkOf, joins_own}
use Rattle.rm_invariant.proofs.masters.Marking.{MayGo, event_goes, ordering_marks, unordered_marks}
use Rattle.rm_invariant.proofs.masters.Held.{absent, has_end, mine_is, mine_of, mine_same, node_told, same_node, stands}
use Rattle.rm_invariant.proofs.masters.Saying.{alive_stays}
use Rattle.rm_invariant.proofs.masters.Quieting.{joins_quiet, launch_goes}
use Rattle.rm_invariant.proofs.masters.Effects.{main_taken}
use Rattle.rm_invariant.proofs.masters.Tests.{and_right, not_both}

pub under_end : (id : AttemptId) (op : Op) → is_attempt_end_op id op ≡ true → is_attempt_end_op_of id.app op ≡ true
under_end id (ops.AttemptEnd one how text) e = grind (arith, nat_tests)
under_end id _ e = cc

-- where the master that a row names stands, as the judge has it
abbrev place_told : List Row → Option ContainerId → Option (List ℕ)
place_told book None = None
place_told book (Some c) = node_told book c

module _ (settings : Settings) (h : History) (t : Tables) (k : AppsInvariant settings h t) (all : ContainersInvariant h t) (apt : MastersAreOwn t.tree.apps) (agree : SameRows t.book.rows h.book) (id : AttemptId) (rest : List MainEvent) (front : t.main ≡ mains.AttemptSaved id ∷ rest) where
  abbrev event : MainEvent
  event = mains.AttemptSaved id

  event_of : IsEventOf event id.app
  event_of q n other = rw other refl

  event_mark : IsMarkOf event id.app
  event_mark d v other = rw other refl

  -- what the event comes to
  abbrev LaunchedSteps : Entry × Tables → Type 0
  LaunchedSteps done = PreservesContainersTo settings h t (main_worked done)

  -- the history after the launch of a master is ordered
  abbrev pub ordering : ContainerId → List ℕ → History
  ordering c node =
      record h { masters = record h.masters { ordered = h.masters.ordered ++ c ∷ [] }; nodes = with_judged_node (λ one. record one { launches = one.launches ++ c ∷ [] }) node h.nodes }

  module _ (row : AppRow) (found : row_of t.rows id.app ≡ Some row) (current : Current) (is : row.current ≡ Some current) (st : Alive current.state) (n : (current.number == id.number) ≡ true) where
    number : current.number ≡ id.number
    number = number_of settings h t k all event rest front id row found current is st n

    living : Living id row current (view h t id)
    living = living_here settings h t k all event rest front id row found current is st n

    goes : LastIsOpen (record_of t.tree.apps id.app) id
    goes = subst (λ (n : ℕ). LastIsOpen (record_of t.tree.apps id.app) (record { app = id.app; number = n })) number living.may.goes_on

    own : OwnMaster h t id
    own = own_master h t id apt goes

    says : AliveInvariant own.one.master current.lost (is_master_of own.one.master current.master) (container_view h t own.one.master)
    says = alive_says settings h t k all event rest front id row found current is st n own.one.master own.apt

    own_mine : is_master_of own.one.master current.master ≡ true
    own_mine = sym says.0 ∙ own.own

    end : (how : How) (text : List ℕ) → EndsFor (abstract_scene h t) id how text → PreservesContainers settings h t (Issued (ops.AttemptEnd id how text)) h (main_popped (attempt_ends id how text t))
    end how text cause =
        end_step settings h t k all event rest front id row found current is st n event_of event_mark (λ q. one_if (id.number == q.number) (counts h (main_popped t) q).launches) (λ q same. rw same refl)
        (λ c. is_attempt id c.attempt) (λ c. false) (λ c. false) (λ c. false) (λ c. refl) how text cause

    lost_cause : current.lost ≡ true → has_lost_master (abstract_scene h t) id ≡ true
    lost_cause lost =
        let kept = own.kept in
        let gone = (says.7 own_mine).1 lost in
        rw kept gone

    -- the front is one AttemptSaved of it
    some_out : (c : ContainerId) → c.attempt ≡ id → 1 ≤ (container_view h t c).launches
    some_out c a =
        let e = ap (λ (v : ContainerView). v.launches) (main_taken h t c event rest front) in
        let self : is_attempt id c.attempt ≡ true = rw a (grind (arith, nat_tests)) in
        let f : (container_view h t c).launches ≡ suc (container_view h (main_popped t) c).launches = e ∙ rw self refl in
        omega (arith, f)

    module _ (wish : row.wish ≡ false) (unlost : current.lost ≡ false) where
      stays : (q : AttemptId) → is_app id.app q.app ≡ true → RowInvariant settings q (Some row) (main_view q event (view h (main_popped t) q)) → RowInvariant settings q (Some row) (view h (main_popped t) q)
      stays q same says_ = alive_stays settings q row current (view h (main_popped t) q) is (goes_here settings h t k all event rest front id row found current is st n) current.state refl st wish (id.number == q.number) (rw same at says_)

      marks_are : (d : ContainerId) → is_app id.app d.attempt.app ≡ true → ContainerInvariant d (Some row) (container_view_main d event (container_view h (main_popped t) d)) → ContainerInvariant d (Some row) (record (container_view h (main_popped t) d) { launches = one_if (current.number == d.attempt.number) (container_view h (main_popped t) d).launches })
      marks_are d same says_ =
          let num : (id.number == d.attempt.number) ≡ (current.number == d.attempt.number) = ap (λ n. n == d.attempt.number) (sym number) in
          subst (λ (b : Bool). ContainerInvariant d (Some row) (record (container_view h (main_popped t) d) { launches = one_if b (container_view h (main_popped t) d).launches })) num (rw same at says_)

      unordered : place_told h.book current.master ≡ None → PreservesContainers settings h t (Quiet MainLane) h (main_popped t)
      unordered gone =
          joins_quiet settings h t k all event rest front id.app (Some row) found event_of event_mark stays
          (λ d same says_. unordered_marks d row current (container_view h (main_popped t) d) is current.state refl st (current.number == d.attempt.number) refl (is_master_of d current.master) refl unlost
          (λ b m. by d current.master refl m gone) (marks_are d same says_))
        where
          by : (d : ContainerId) (o : Option ContainerId) → current.master ≡ o → is_master_of d o ≡ true → place_told h.book o ≡ None → is_living h.book d ≡ false
          by d None e m gone = cc
          by d (Some c) e m gone = let same : c ≡ d = same_container c d m in rw (← same) (absent h.book c gone)

      ordered_step : (c : ContainerId) → current.master ≡ Some c → (node : List ℕ) → node_told h.book c ≡ Some node
          → PreservesContainers settings h t (Ordered c node) (ordering c node) (main_popped (with_order c node t))
      ordered_step c master node place =
          joins_own settings h t k all event rest front (Ordered c node) (ordering c node) (main_popped (with_order c node t)) id.app row (λ r. r)
          lawful refl k.recorded k.is_open (unchanged t.rows id.app) found (λ q v. v) (λ q. refl) event_of (λ q v other. refl) stays
          (λ d v. record v { ordered = set_if (is_container c d) v.ordered }) (λ d. let e = has_end h.masters.ordered c d in rw e refl) event_mark (λ d v other. rw (apart d other) refl)
          (λ d same says_. subst (λ (b : Bool). ContainerInvariant d (Some row) (record (container_view h (main_popped t) d) { ordered = set_if b (container_view h (main_popped t) d).ordered })) (mine_is c d current.master c_mine)
          (ordering_marks d row current (container_view h (main_popped t) d) is current.state refl st (current.number == d.attempt.number) refl (is_master_of d current.master) refl unlost (not_here d) (marks_are d same says_))) (λ d v says. says)
        where
          c_is : own.one.master ≡ c
          c_is = mine_of own.one.master c current.master master own_mine

          of_it : c.attempt ≡ id
          of_it = let e = c_is in subst (λ (x : ContainerId). x.attempt ≡ id) e own.apt

          c_mine : is_master_of c current.master ≡ true
          c_mine = let e = c_is in subst (λ (x : ContainerId). is_master_of x current.master ≡ true) e own_mine

          c_own : own_of c (record_of t.tree.apps c.attempt.app) ≡ true
          c_own = let e = c_is in subst (λ (x : ContainerId). own_of x (record_of t.tree.apps x.attempt.app) ≡ true) e own.own

          c_says : AliveInvariant c current.lost (is_master_of c current.master) (container_view h t c)
          c_says = alive_says settings h t k all event rest front id row found current is st n c of_it

          apart : (d : ContainerId) → is_app id.app d.attempt.app ≡ false → is_container c d ≡ false
          apart d other = by (is_container c d) refl
            where
              by : (b : Bool) → is_container c d ≡ b → b ≡ false
              by true e = absurd (let same = same_container c d e in let a = of_it in let x : is_app id.app d.attempt.app ≡ true = rw (← same, a) (app_itself id.app) in cc)
              by false e = refl

          not_here : (d : ContainerId) → (current.number == d.attempt.number) ≡ false → is_master_of d current.master ≡ false
          not_here d b = by (is_master_of d current.master) refl
            where
              by : (m : Bool) → is_master_of d current.master ≡ m → m ≡ false
              by true m = absurd (let same : c ≡ d = mine_same c d current.master c_mine m in let a = of_it in let x : (current.number == d.attempt.number) ≡ true = rw (← same, a) n in cc)
              by false m = refl

          kept_too : (o : Option AttemptRecord) → is_some_and (λ one. is_container one.master c) o ≡ true → is_some o ≡ true
          kept_too None e = cc
          kept_too (Some one) e = refl

          lawful : MayOrder (abstract_scene h t) c node
          lawful =
              let some = some_out c of_it in
              let none = living.may.none_awaits in
              let goes_ = goes in
              let a = of_it in
              let no_wish : _ ≡ false = living.wished ∙ wish in
              let here : attempt_was_first (abstract_scene h t) c.attempt ≡ false = c_says.2 some in
              let kept = kept_too (kept_attempt (abstract_scene h t) c.attempt) c_own in
              let ended : list_any (is_attempt_end_op id) t.awaiting ≡ false = none_under (is_attempt_end_op_of id.app) (is_attempt_end_op id) (under_end id) t.awaiting (omega (arith, none)) in
              record {
                opened = k.is_open;
                master = c_own;
                here = rw (kept, here) refl;
                living = (stands h.book c node place).on;
                once = c_says.3 some;
                no_end = rw (a, ended, goes_.5) refl;
                no_wish = rw a no_wish;
              }

      on_node : (c : ContainerId) → current.master ≡ Some c → (place : Option (List ℕ)) → node_at t.book c ≡ place → LaunchedSteps (launch_of_place place c t)
      on_node c m None p = record { next = h; joins = unordered (rw m (sym (same_node t.book h.book c agree) ∙ p)) }
      on_node c m (Some node) p = record { next = ordering c node; joins = ordered_step c m node (sym (same_node t.book h.book c agree) ∙ p) }

      last_step : (o : Option ContainerId) → current.master ≡ o → LaunchedSteps (launch_of_master o t)
      last_step None m = record { next = h; joins = unordered (rw m refl) }
      last_step (Some c) m = on_node c m (node_at t.book c) refl

    alive_step : (w l : Bool) → row.wish ≡ w → current.lost ≡ l → LaunchedSteps (launch_of_tests w l current.master id t)
    alive_step true l w u = record { next = h; joins = end ways.Killed killed_text (EndsFor.killed (living.wished ∙ w) refl refl) }
    alive_step false true w u = record { next = h; joins = end ways.Failed lost_text (EndsFor.lost (lost_cause u) refl refl) }
    alive_step false false w u = last_step w u current.master refl

  -- where the attempt doesn't live, nothing is to be done
  abbrev IsNotIt : Option AppRow → Type 0
  IsNotIt row = (one : AppRow) (current : Current) → row ≡ Some one → one.current ≡ Some current → ((current.number == id.number) && is_alive current.state) ≡ false

  quiet_step : (row : Option AppRow) → row_of t.rows id.app ≡ row → IsNotIt row → LaunchedSteps (main_quiet t)
  quiet_step row found not_it = record {
    next = h;
    joins = joins_quiet settings h t k all event rest front id.app row found event_of event_mark
        (λ q same says. launch_goes settings q (view h (main_popped t) q) row (id.number == q.number) (λ b one current is at_ n. not_alive one current is at_ q.number b n) (rw same at says))
        (λ d same says. event_goes d (container_view h (main_popped t) d) false false (is_attempt id d.attempt) false false row (λ one current is at_ n. may d one current is at_ n current.state refl (is_master_of d current.master)) says);
  }
    where
      not_alive : (one : AppRow) (current : Current) → row ≡ Some one → one.current ≡ Some current → (m : ℕ) → (id.number == m) ≡ true → (current.number == m) ≡ true → is_alive current.state ≡ false
      not_alive one current is at_ m b n =
          let same : (current.number == id.number) ≡ true = grind (arith, nat_tests) in
          not_both (current.number == id.number) (is_alive current.state) (not_it one current is at_) same

      gone : (d : ContainerId) (one : AppRow) (current : Current) → row ≡ Some one → one.current ≡ Some current → (current.number == d.attempt.number) ≡ true → is_alive current.state ≡ true → (b : Bool) → is_attempt id d.attempt ≡ b → b ≡ false
      gone d one current is at_ n a true e =
          let x : (id.number == d.attempt.number) ≡ true = grind (arith, nat_tests) in
          let y = not_alive one current is at_ d.attempt.number x n in absurd (cc)
      gone d one current is at_ n a false e = refl

      may : (d : ContainerId) (one : AppRow) (current : Current) → row ≡ Some one → one.current ≡ Some current → (current.number == d.attempt.number) ≡ true → (s : AttemptState) → current.state ≡ s → (m : Bool)
          → MayGo s m false false (is_attempt id d.attempt) false false (container_view h (main_popped t) d).finishing
      may d one current is at_ n attempts.Granted st m = λ e. refl
      may d one current is at_ n attempts.Saving st m = λ e. refl
      may d one current is at_ n attempts.Live st m = (λ e. refl, gone d one current is at_ n (rw st refl) (is_attempt id d.attempt) refl, refl, λ f. refl)
      may d one current is at_ n attempts.Registered st m = (λ e. refl, gone d one current is at_ n (rw st refl) (is_attempt id d.attempt) refl, refl, λ f. refl)
      may d one current is at_ n attempts.Finishing st m = (λ e. refl, gone d one current is at_ n (rw st refl) (is_attempt id d.attempt) refl, refl, λ f. refl)
      may d one current is at_ n _ st m = tt

  launched_cases : (row : Option AppRow) → row_of t.rows id.app ≡ row → LaunchedSteps (launch_of_row row id t)
  launched_cases None found = quiet_step None found (λ one current is at_. cc)
  launched_cases (Some row) found = with_current row.current refl
    where
      at_state : (current : Current) → row.current ≡ Some current → (b : Bool) → ((current.number == id.number) && is_alive current.state) ≡ b → LaunchedSteps (launch_of_living b row.wish current id t)
      at_state current is true e =
          alive_step row found current is (alive_by current.state (and_right (current.number == id.number) (is_alive current.state) e)) (and_first (current.number == id.number) (is_alive current.state) e) row.wish current.lost refl refl
      at_state current is false e = quiet_step (Some row) found (λ one other x y. let u : one ≡ row = cc in let w : Some other ≡ Some current = sym y ∙ ap (λ (r : AppRow). r.current) u ∙ is in let a : other ≡ current = cc in rw a e)

      with_current : (o : Option Current) → row.current ≡ o → LaunchedSteps (launch_of_current o row.wish id t)
      with_current None is = quiet_step (Some row) found (λ one current x y. absurd (let u : one ≡ row = cc in let w : Some current ≡ None = sym y ∙ ap (λ (r : AppRow). r.current) u ∙ is in cc))
      with_current (Some current) is = at_state current is ((current.number == id.number) && is_alive current.state) refl

  -- AttemptSaved, for every row and state
  pub launched_joins : PreservesContainersTo settings h t (main_worked (main_step (mains.AttemptSaved id) t))
  launched_joins = launched_cases (row_of t.rows id.app) refl
