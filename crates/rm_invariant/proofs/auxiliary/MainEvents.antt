-- Each event of the main queue keeps what else holds of an open life.
use Rattle.rm_invariant.proofs.Common.{◌≡◌, inl, inr, ℕ, List, [], ◌∷◌, ◌++◌, Bool, true, false, ◌&&◌, ◌||◌, Option, None, Some, drop, refl, sym, ◌∙◌, ap, subst, arith, flat_map, list_any, nat_tests, false≢true, and_parts, flat_map-append, list_any-append, Entry, AppId, AttemptId, How, is_app, is_attempt, Records, attempt_asks, without_asks_of, capability_of, after, is_finished_op, AttemptState, is_alive, RowChange, MainEvent, AppRow, Current, Tables, main_worked, changed, current_after, killed_state, scheduled, main_step, node_row, ordered_row, row_of, with_row, killed_text, finishes_by, is_ending, History, abstract_scene, live_state, AppState, Submission, Settings, Op, same_attempt, start_of_submission, Scene}
use Rattle.std.proofs.Common.{◌≢◌, ◌==◌, is_some}
use Rattle.std.proofs.lemmas.List.{append_assoc, append-nil}
use Rattle.rm_types.specs.declared.operations.How.TheVariants as ways
use Rattle.rm_types.specs.declared.operations.Op.TheVariants as ops
use Rattle.rm_types.specs.Records.{is_finished}
use Rattle.rm_model.specs.State.{Release}
use Rattle.rm_states.specs.declared.attempt.states.AttemptState.TheVariants as attempts
use Rattle.rm_states.specs.declared.app.states.AppState.TheVariants as apps
use Rattle.rm_tables.specs.declared.changes.AttemptChange.TheVariants as of_attempt
use Rattle.rm_tables.specs.declared.changes.RowChange.TheVariants as of_app
use Rattle.rm_tables.specs.declared.events.MainEvent.TheVariants as mains
use Rattle.rm_tables.specs.declared.events.SchedEvent.TheVariants as scheds
use Rattle.rm_tables.specs.Changes.{dropped_state}
use Rattle.rm_invariant.proofs.apps.Found.{row_changed}
use Rattle.rm_invariant.specs.apps.Invariant.{RowInvariant, StateInvariant}
use Rattle.rm_invariant.specs.Step.{AppsInvariant}
use Rattle.rm_invariant.specs.apps.View.{view}
use Rattle.rm_invariant.proofs.apps.Events.{at}
use Rattle.rm_invariant.specs.events.Outcomes.{IsCurrentOf, Outcome, MayEndApp, accepts, adds, delays, ends, ends_one, follows, idles, issues, kills, loses, orders, removes, requeues, rests_at, saves, is_past_grant}
use Rattle.rm_invariant.proofs.events.Outcomes.{main_outcome}
use Rattle.rm_invariant.specs.events.Asking.{asks_others}
use Rattle.rm_invariant.specs.events.Here.{AreServed, NoneAbsent}
use Rattle.rm_invariant.specs.events.Masters.{are_single}
use Rattle.rm_invariant.proofs.events.Moving.{other_gone, own_gone}
use Rattle.rm_invariant.proofs.events.Registered.{registered_with}
use Rattle.rm_invariant.proofs.events.Still.{main_apt, main_completes}
use Rattle.rm_invariant.specs.auxiliary.Parts.{FixedParts, fixed_parts, parts_in}
use Rattle.rm_invariant.proofs.opening.Starting.{is_new}
use Rattle.rm_invariant.specs.Core.{CoreInvariant, PreservesCore}
use Rattle.rm_invariant.specs.apps.Submissions.{Lists, saving, starting, submitted_ids}
use Rattle.rm_invariant.specs.auxiliary.Invariant.{AreUnfinished, FinishesKnown, MastersSingle, OthersGo, AuxInvariant, goes_by, goes_numbered, end_is_issued}
use Rattle.rm_invariant.proofs.auxiliary.Rows.{finishes_with_row, goes_on, goes_with_row, killed_goes, none_finished, served_append, still_node}
use Rattle.rm_invariant.proofs.auxiliary.Together.{RowParts, at_found, aux_after, parts_changed, rows_of}
use Rattle.rm_invariant.proofs.events.Silent.{MayBe, WasAlive, WasGranted}

-- what the life remembers stays
pub main_parts : (h : History) (t : Tables) (done : Entry × Tables) → Outcome t done → parts_in (after (live_state h t) done.0) ≡ Some (fixed_parts h)
main_parts h t done idles = refl
main_parts h t done _ = refl

module _ (t : Tables) where
  -- what is said of each row
  module _ (m : Scene) (first : Records) (retired : List AppId) (before : RowParts m first retired t.rows) where
    row_kept : (change : RowChange) (id : AppId) → ((row : AppRow) → row_of t.rows id ≡ Some row → MayBe change row.current) → RowParts m first retired (with_row (changed change) id t.rows)
    row_kept change id may = parts_changed change id t.rows may before

    main_rows : (done : Entry × Tables) → Outcome t done → RowParts m first retired done.1.rows
    main_rows done (saves id row submission rest found waits front) = row_kept of_app.Issue id (λ one there. tt)
    main_rows done (accepts id row found state) = row_kept (of_app.Schedule 1) id (λ one there. tt)
    main_rows done (ends id row how text found stopped said) = row_kept of_app.End id (λ one there. tt)
    main_rows done (kills id row current is number alive goes) = row_kept of_app.Kill id.app (λ one there. tt)
    main_rows done (delays id row current is waits goes) = row_kept of_app.Kill id (λ one there. tt)
    main_rows done (issues container node row current is state number mine on) = row_kept (of_app.OfAttempt of_attempt.Issue) container.attempt.app (λ one there. tt)
    main_rows done (requeues container row current behind is state number mine on at_front) = row_kept (of_app.OfAttempt of_attempt.Requeue) container.attempt.app (at_found WasGranted t container.attempt.app row current is state)
    main_rows done (ends_one id row current how text is number alive said) = row_kept (of_app.OfAttempt (of_attempt.End how)) id.app (at_found WasAlive t id.app row current is alive)
    main_rows done (loses container row current is state number mine) = row_kept (of_app.OfAttempt of_attempt.Lose) container.attempt.app (λ one there. tt)
    main_rows done (follows id row current is goes state none) = row_kept (of_app.Schedule _) id (λ one there. tt)
    main_rows done _ = before

  -- only an order changes a node, and it leaves how the node stands
  main_present : NoneAbsent t.nodes → (done : Entry × Tables) → Outcome t done → NoneAbsent done.1.nodes
  main_present before done (orders id container node row current is number alive master on) = registered_with (ordered_row container) node t.nodes (λ r some. some) before
  main_present before done _ = before

  -- only a node that registered offers something
  main_offers : ((name : List ℕ) → node_row t.nodes name ≡ None → capability_of t.book name ≡ None) → (done : Entry × Tables) → Outcome t done → (name : List ℕ) → node_row done.1.nodes name ≡ None → capability_of done.1.book name ≡ None
  main_offers before done (orders id container node row current is number alive master on) = λ name none. before name (still_node (ordered_row container) node name t.nodes none)
  main_offers before done _ = before

  -- what is asked for besides masters, of an attempt whose asks go or stay
  pub less_others : (id q : AttemptId) → asks_others (attempt_asks (without_asks_of id t.asks) q) ≡ true → asks_others (attempt_asks t.asks q) ≡ true
  less_others id q e = by (is_attempt id q) refl
    where
      by : (b : Bool) → is_attempt id q ≡ b → asks_others (attempt_asks t.asks q) ≡ true
      by true same =
          let none : asks_others (attempt_asks (without_asks_of id t.asks) q) ≡ false = subst (λ (a : AttemptId). asks_others (attempt_asks (without_asks_of id t.asks) a) ≡ false) (same_attempt id q same) (ap asks_others (own_gone id t.asks)) in
          absurd (false≢true (sym none ∙ e))
      by false apart = sym (ap asks_others (other_gone id q apart t.asks)) ∙ e

  pub less_single : (id : AttemptId) → MastersSingle t → (q : AttemptId) → are_single (attempt_asks (without_asks_of id t.asks) q) ≡ true
  less_single id single q = by (is_attempt id q) refl
    where
      by : (b : Bool) → is_attempt id q ≡ b → are_single (attempt_asks (without_asks_of id t.asks) q) ≡ true
      by true same = subst (λ (a : AttemptId). are_single (attempt_asks (without_asks_of id t.asks) a) ≡ true) (same_attempt id q same) (ap are_single (own_gone id t.asks))
      by false apart = ap are_single (other_gone id q apart t.asks) ∙ single q

  main_single : MastersSingle t → (done : Entry × Tables) → Outcome t done → MastersSingle done.1
  main_single before done (ends id row how text found stopped said) = less_single _ before
  main_single before done _ = before

  -- where an attempt is the current one of a row that says so, by the row's current attempt
  at_current : (n : ℕ) (row : AppRow) (o : Option Current) → row.current ≡ o → goes_by n (Some row) ≡ true → goes_numbered n o ≡ true
  at_current n row o is goes = rw is at goes

  -- a state that neither lives nor ends
  not_going : (n : ℕ) (row : AppRow) (current : Current) → row.current ≡ Some current → (is_alive current.state || is_ending current.state) ≡ false → goes_by n (Some row) ≡ true → ⊥
  not_going n row current is none goes =
      let x = and_parts (current.number == n) (is_alive current.state || is_ending current.state) (at_current n row (Some current) is goes) in
      false≢true (sym none ∙ x.1)

  none_going : (n : ℕ) (row : AppRow) → row.current ≡ None → goes_by n (Some row) ≡ true → ⊥
  none_going n row is goes = let x = at_current n row None is goes in cc

  -- the attempt goes on where only its state changes, and that goes on
  state_goes : (change : RowChange) (n : ℕ) (row : AppRow) (c d : Current) → row.current ≡ Some c → current_after change (Some c) ≡ Some d → d.number ≡ c.number
      → ((is_alive c.state || is_ending c.state) ≡ true → (is_alive d.state || is_ending d.state) ≡ true) → goes_by n (Some row) ≡ true → goes_by n (Some (changed change row)) ≡ true
  state_goes change n row c d is now number state goes = rw (is, now) (goes_on n c d number state (at_current n row (Some c) is goes))

  rests_not : (s : AttemptState) → rests_at s ≡ true → (is_alive s || is_ending s) ≡ false
  rests_not s e = grind arith

  alive_killed : (s : AttemptState) → is_alive s ≡ true → killed_state s ≡ attempts.Ending
  alive_killed s e = grind arith

  waits_killed : (s : AttemptState) → is_past_grant s ≡ true → killed_state s ≡ s
  waits_killed s e = grind arith

  module _ (settings : Settings) (h : History) (k : AppsInvariant settings h t) where
    -- an application that is submitted has no attempt
    none_submitted : (id : AppId) (row : AppRow) → row_of t.rows id ≡ Some row → row.state ≡ apps.Submitted → row.current ≡ None
    none_submitted id row found state =
        let says : RowInvariant settings (at id) (Some row) (view h t (at id)) = rw found at (k.all (at id)) in
        let of_state : StateInvariant settings (at id) apps.Submitted row (view h t (at id)) = subst (λ (s : AppState). StateInvariant settings (at id) s row (view h t (at id))) state says.1 in
        of_state.3

    -- and so has one that waits to be saved
    none_waiting : (id : AppId) (row : AppRow) (submission : Submission) → row_of t.rows id ≡ Some row → row.pending ≡ Some submission → row.current ≡ None
    none_waiting id row submission found waits =
        let says : RowInvariant settings (at id) (Some row) (view h t (at id)) = rw found at (k.all (at id)) in
        by row.state says.1
      where
        no : row.pending ≡ None → row.current ≡ None
        no none = absurd (let x : None ≡ Some submission = sym none ∙ waits in cc)

        by : (s : AppState) → StateInvariant settings (at id) s row (view h t (at id)) → row.current ≡ None
        by apps.New says = says.0.no_attempt
        by apps.NewSaving says = says.0.no_attempt
        by apps.FinalSaving says = no says.1
        by apps.Finished says = no says.1
        by apps.Failed says = no says.1
        by apps.Killed says = no says.1
        by _ says = no says.2

    stopped_not : (id : AppId) (row : AppRow) → row_of t.rows id ≡ Some row → MayEndApp row → (n : ℕ) → goes_by n (Some row) ≡ true → ⊥
    stopped_not id row found (inl state) n goes = none_going n row (none_submitted id row found state) goes
    stopped_not id row found (inr (g, (current, is, rests))) n goes = not_going n row current is (rests_not current.state rests) goes

    -- an attempt that asks for something besides its master's container goes on
    main_others : OthersGo t → (done : Entry × Tables) → Outcome t done → OthersGo done.1
    main_others before done (saves id row submission rest found waits front) = λ q some.
        goes_with_row (changed of_app.Issue) id t.rows row found q.number q.app (λ goes. absurd (none_going q.number row (none_waiting id row submission found waits) goes)) (before q some)
    main_others before done (accepts id row found state) = λ q some.
        goes_with_row (changed (of_app.Schedule 1)) id t.rows row found q.number q.app (λ goes. absurd (none_going q.number row (none_submitted id row found state) goes)) (before q some)
    main_others before done (ends id row how text found stopped said) = λ q some.
        goes_with_row (changed of_app.End) id t.rows row found q.number q.app (λ goes. absurd (stopped_not id row found stopped q.number goes)) (before q (less_others _ q some))
    main_others before done (kills id row current is number alive goes) = λ q some.
        goes_with_row (changed of_app.Kill) id.app t.rows row is.found q.number q.app
        (state_goes of_app.Kill q.number row current (record current { state = killed_state current.state }) is.is refl refl (killed_goes current.state)) (before q some)
    main_others before done (delays id row current is waits goes) = λ q some.
        goes_with_row (changed of_app.Kill) id t.rows row is.found q.number q.app
        (state_goes of_app.Kill q.number row current (record current { state = killed_state current.state }) is.is refl refl (killed_goes current.state)) (before q some)
    main_others before done (issues container node row current is state number mine on) = λ q some.
        goes_with_row (changed (of_app.OfAttempt of_attempt.Issue)) container.attempt.app t.rows row is.found q.number q.app (λ goes. absurd (not_going q.number row current is.is (rw state refl) goes)) (before q some)
    main_others before done (requeues container row current behind is state number mine on at_front) = λ q some.
        goes_with_row (changed (of_app.OfAttempt of_attempt.Requeue)) container.attempt.app t.rows row is.found q.number q.app (λ goes. absurd (not_going q.number row current is.is (rw state refl) goes)) (before q some)
    main_others before done (ends_one id row current how text is number alive said) = λ q some.
        goes_with_row (changed (of_app.OfAttempt (of_attempt.End how))) id.app t.rows row is.found q.number q.app
        (state_goes (of_app.OfAttempt (of_attempt.End how)) q.number row current (record current { state = killed_state current.state; finished = is_finished how }) is.is refl refl (killed_goes current.state)) (before q some)
    main_others before done (loses container row current is state number mine) = λ q some.
        goes_with_row (changed (of_app.OfAttempt of_attempt.Lose)) container.attempt.app t.rows row is.found q.number q.app (λ goes. absurd (not_going q.number row current is.is (rw state refl) goes)) (before q some)
    main_others before done (follows id row current is goes state none) = λ q some.
        goes_with_row (changed (of_app.Schedule _)) id t.rows row is.found q.number q.app (λ goes. absurd (not_going q.number row current is.is (rw state refl) goes)) (before q some)
    main_others before done _ = before

  -- an attempt whose end isn't issued says of no end that it awaits
  pub finishes_none : (q : AttemptId) (row : AppRow) (c : Current) → row.current ≡ Some c → is_ending c.state ≡ false → finishes_by q (Some row) ≡ false
  finishes_none q row c is none = rw (is, none) (by (c.number == q.number))
    where
      by : (b : Bool) → (b && false) ≡ false
      by true = refl
      by false = refl

  pub finishes_without : (q : AttemptId) (row : AppRow) → row.current ≡ None → finishes_by q (Some row) ≡ false
  finishes_without q row is = rw is refl

  -- two that say nothing say the same
  both_none : (a b : Bool) → a ≡ false → b ≡ false → a ≡ b
  both_none a b e f = e ∙ sym f

  pub alive_not : (s : AttemptState) → is_alive s ≡ true → is_ending s ≡ false
  alive_not s e = grind arith

  pub alive_over : (s : AttemptState) → is_alive s ≡ true → end_is_issued s ≡ false
  alive_over s e = grind arith

  rests_ending : (s : AttemptState) → rests_at s ≡ true → (is_ending s ≡ false) × (is_ending (dropped_state s) ≡ false)
  rests_ending attempts.Scheduled e = (refl, refl)
  rests_ending attempts.Granted e = (refl, refl)
  rests_ending attempts.Ended e = (refl, refl)
  rests_ending _ e = cc

  module _ (settings : Settings) (h : History) (k : AppsInvariant settings h t) (unfinished : AreUnfinished t.rows) where
    stopped_finishes : (id : AppId) (row : AppRow) → row_of t.rows id ≡ Some row → MayEndApp row → (q : AttemptId) → finishes_by q (Some (changed of_app.End row)) ≡ finishes_by q (Some row)
    stopped_finishes id row found (inl state) q = let none = none_submitted settings h k id row found state in rw none refl
    stopped_finishes id row found (inr (g, (current, is, rests))) q =
        let x = rests_ending current.state rests in
        both_none (finishes_by q (Some (changed of_app.End row))) (finishes_by q (Some row)) (finishes_none q (changed of_app.End row) (record current { state = dropped_state current.state }) (rw is refl) x.1) (finishes_none q row current is x.0)

    -- the end of an attempt that lives is issued: it is FINISHED exactly where its master said so
    module _ (id : AttemptId) (row : AppRow) (current : Current) (is : IsCurrentOf t id.app row current) (number : (current.number == id.number) ≡ true) (alive : is_alive current.state ≡ true) (how : How) (text : List ℕ) (change : RowChange)
        (now : current_after change (Some current) ≡ Some (record current { state = attempts.Ending; finished = is_finished how })) (before : FinishesKnown t) where
      same_number : current.number ≡ id.number
      same_number = grind (arith, nat_tests)

      own_row_is : (q : AttemptId) → finishes_by q (Some (changed change row)) ≡ ((current.number == q.number) && is_finished how)
      own_row_is q = let c = is.is in rw (c, now) refl

      own_ends : (q : AttemptId) → is_attempt id q ≡ true → list_any (is_finished_op q) (t.awaiting ++ ops.AttemptEnd id how text ∷ []) ≡ finishes_by q (row_of (with_row (changed change) id.app t.rows) q.app)
      own_ends q same =
          let own : id ≡ q = same_attempt id q same in
          let one : (current.number == q.number) ≡ true = subst (λ (a : AttemptId). (current.number == a.number) ≡ true) own number in
          let found : row_of t.rows q.app ≡ Some row = subst (λ (a : AttemptId). row_of t.rows a.app ≡ Some row) own is.found in
          let app : is_app id.app q.app ≡ true = (and_parts (is_app id.app q.app) (id.number == q.number) same).0 in
          let none : list_any (is_finished_op q) t.awaiting ≡ false = before q ∙ ap (finishes_by q) found ∙ finishes_none q row current is.is (alive_not current.state alive) in
          let row_now : row_of (with_row (changed change) id.app t.rows) q.app ≡ Some (changed change row) = row_changed (changed change) id.app q.app t.rows ∙ rw (app, found) refl in
          let after : finishes_by q (row_of (with_row (changed change) id.app t.rows) q.app) ≡ is_finished how = ap (finishes_by q) row_now ∙ own_row_is q ∙ rw one refl in
          list_any-append (is_finished_op q) t.awaiting (ops.AttemptEnd id how text ∷ []) ∙ rw (none, same) (last (is_finished how)) ∙ sym after
        where
          last : (b : Bool) → (false || (b || false)) ≡ b
          last true = refl
          last false = refl

      other_ends : (q : AttemptId) → is_attempt id q ≡ false → list_any (is_finished_op q) (t.awaiting ++ ops.AttemptEnd id how text ∷ []) ≡ finishes_by q (row_of (with_row (changed change) id.app t.rows) q.app)
      other_ends q apart =
          none_finished q (ops.AttemptEnd id how text) t.awaiting (rw apart refl) ∙ before q
          ∙ sym (finishes_with_row (changed change) id.app t.rows row is.found q
          (λ app. both_none (finishes_by q (Some (changed change row))) (finishes_by q (Some row)) (own_row_is q ∙ different app) (finishes_none q row current is.is (alive_not current.state alive))))
        where
          different : is_app id.app q.app ≡ true → ((current.number == q.number) && is_finished how) ≡ false
          different app =
              let n : (id.number == q.number) ≡ false = rw app at apart in
              let c : (current.number == q.number) ≡ false = ap (λ (m : ℕ). m == q.number) same_number ∙ n in
              rw c refl

      ends_finish : (q : AttemptId) → list_any (is_finished_op q) (t.awaiting ++ ops.AttemptEnd id how text ∷ []) ≡ finishes_by q (row_of (with_row (changed change) id.app t.rows) q.app)
      ends_finish q = by (is_attempt id q) refl
        where
          by : (b : Bool) → is_attempt id q ≡ b → list_any (is_finished_op q) (t.awaiting ++ ops.AttemptEnd id how text ∷ []) ≡ finishes_by q (row_of (with_row (changed change) id.app t.rows) q.app)
          by true e = own_ends q e
          by false e = other_ends q e

    -- the end of an attempt awaits as FINISHED exactly where its row says so
    main_finishes : FinishesKnown t → (done : Entry × Tables) → Outcome t done → FinishesKnown done.1
    main_finishes before done (saves id row submission rest found waits front) = λ q.
        none_finished q (ops.App id submission) t.awaiting refl ∙ before q
        ∙ sym (finishes_with_row (changed of_app.Issue) id t.rows row found q (λ e. let none = none_waiting settings h k id row submission found waits in rw none refl))
    main_finishes before done (accepts id row found state) = λ q.
        before q ∙ sym (finishes_with_row (changed (of_app.Schedule 1)) id t.rows row found q
        (λ e. both_none _ _ (finishes_none q (changed (of_app.Schedule 1) row) _ refl refl) (finishes_without q row (none_submitted settings h k id row found state))))
    main_finishes before done (ends id row how text found stopped said) = λ q.
        none_finished q (ops.AppEnd id how text) t.awaiting refl ∙ before q ∙ sym (finishes_with_row (changed of_app.End) id t.rows row found q (λ e. stopped_finishes id row found stopped q))
    main_finishes before done (kills id row current is number alive goes) = λ q.
        let same : (current.number == id.number) ≡ true = grind (arith, nat_tests) in
        let c = is.is in
        let known = unfinished id.app row is.found in
        let early : current.finished ≡ false = (rw c at known) (alive_over current.state alive) in
        let ending = alive_killed current.state alive in
        ends_finish id row current is same alive ways.Killed killed_text of_app.Kill (rw (ending, early) refl) before q
    main_finishes before done (delays id row current is waits goes) = λ q.
        before q ∙ sym (finishes_with_row (changed of_app.Kill) id t.rows row is.found q (λ e. let c = is.is in let now = waits_killed current.state waits in rw (c, now) refl))
    main_finishes before done (issues container node row current is state number mine on) = λ q.
        none_finished q (ops.Attempt container.attempt container node) t.awaiting refl ∙ before q
        ∙ sym (finishes_with_row (changed (of_app.OfAttempt of_attempt.Issue)) container.attempt.app t.rows row is.found q
        (λ e. let c = is.is in both_none _ _ (finishes_none q (changed (of_app.OfAttempt of_attempt.Issue) row) (record current { state = attempts.Saving; lost = false }) (rw (c, state) refl) refl) (finishes_none q row current is.is (rw state refl))))
    main_finishes before done (requeues container row current behind is state number mine on at_front) = λ q.
        before q ∙ sym (finishes_with_row (changed (of_app.OfAttempt of_attempt.Requeue)) container.attempt.app t.rows row is.found q
        (λ e. let c = is.is in both_none _ _ (finishes_none q (changed (of_app.OfAttempt of_attempt.Requeue) row) (record (scheduled current.number) { granted = current.granted }) (rw (c, state) refl) refl) (finishes_none q row current is.is (rw state refl))))
    main_finishes before done (ends_one id row current how text is number alive said) = λ q.
        ends_finish id row current is number alive how text (of_app.OfAttempt (of_attempt.End how)) (let ending = alive_killed current.state alive in rw ending refl) before q
    main_finishes before done (loses container row current is state number mine) = λ q.
        before q ∙ sym (finishes_with_row (changed (of_app.OfAttempt of_attempt.Lose)) container.attempt.app t.rows row is.found q (λ e. let c = is.is in rw c refl))
    main_finishes before done (follows id row current is goes state none) = λ q.
        before q ∙ sym (finishes_with_row (changed (of_app.Schedule _)) id t.rows row is.found q
        (λ e. both_none _ _ (finishes_none q (changed (of_app.Schedule _) row) _ refl refl) (finishes_none q row current is.is (rw state refl))))
    main_finishes before done (removes id more first many) = λ q. none_finished q (ops.Remove id) t.awaiting refl ∙ before q
    main_finishes before done _ = before

  -- what is released and on its way was served
  main_served : (releases : List Release) → AreServed releases t.sched → (done : Entry × Tables) → Outcome t done → AreServed releases done.1.sched
  main_served releases before done (adds id row behind found state at_front) = served_append releases t.sched (scheds.AppAdded id ∷ []) before tt
  main_served releases before done (accepts id row found state) = served_append releases t.sched (scheds.AttemptAdded _ ∷ []) before tt
  main_served releases before done (requeues container row current behind is state number mine on at_front) = served_append releases t.sched (scheds.AttemptAdded container.attempt ∷ []) before tt
  main_served releases before done (follows id row current is goes state none) = served_append releases t.sched (scheds.AttemptAdded _ ∷ []) before tt
  main_served releases before done _ = before

  -- as many applications go on as before, and no record changes
  main_going : (done : Entry × Tables) → Outcome t done → (done.1.going ≡ t.going) × (done.1.tree ≡ t.tree) × (done.1.settings ≡ t.settings) × (done.1.waits ≡ t.waits)
  main_going done idles = (refl, refl, refl, refl)
  main_going done _ = (refl, refl, refl, refl)

  -- the applications that are to be issued after an event, in order
  module _ (e : MainEvent) (rest : List MainEvent) (front : t.main ≡ e ∷ rest) where
    abbrev to_issue : Tables → List AppId
    to_issue next = flat_map saving next.awaiting ++ flat_map starting (drop 1 next.main)

    no_more : (op : Op) → saving op ≡ [] → flat_map saving (t.awaiting ++ op ∷ []) ≡ flat_map saving t.awaiting
    no_more op none = simp flat_map-append (rw none (append-nil (flat_map saving t.awaiting)))

    same_issue : (op : Op) → saving op ≡ [] → (main : List MainEvent) → drop 1 main ≡ rest → flat_map saving (t.awaiting ++ op ∷ []) ++ flat_map starting (drop 1 main) ≡ flat_map saving t.awaiting ++ flat_map starting rest
    same_issue op none main is = rw (no_more op none, is) refl

    rest_is : drop 1 t.main ≡ rest
    rest_is = rw front refl

    same_rest : flat_map saving t.awaiting ++ flat_map starting (drop 1 t.main) ≡ flat_map saving t.awaiting ++ flat_map starting rest
    same_rest = rw rest_is refl

    main_order : starting e ≡ [] → (done : Entry × Tables) → Outcome t done → to_issue done.1 ≡ flat_map saving t.awaiting ++ flat_map starting rest
    main_order none done (saves id row submission other found waits first) =
        absurd (let x : mains.AppStart id ≡ e = (let y = sym first ∙ front in cc) in let z : id ∷ [] ≡ [] = ap starting x ∙ none in cc)
    main_order none done (ends id row how text found stopped said) = same_issue (ops.AppEnd id how text) refl t.main rest_is
    main_order none done (kills id row current is number alive goes) = same_issue (ops.AttemptEnd id ways.Killed killed_text) refl t.main rest_is
    main_order none done (issues container node row current is state number mine on) = same_issue (ops.Attempt container.attempt container node) refl t.main rest_is
    main_order none done (ends_one id row current how text is number alive said) = same_issue (ops.AttemptEnd id how text) refl t.main rest_is
    main_order none done (removes id more first many) =
        let after : drop 1 (t.main ++ mains.Retire ∷ []) ≡ rest ++ mains.Retire ∷ [] = rw front refl in
        let posted : flat_map starting (rest ++ mains.Retire ∷ []) ≡ flat_map starting rest = simp flat_map-append (append-nil (flat_map starting rest)) in
        rw (no_more (ops.Remove id) refl, after, posted) refl
    main_order none done _ = same_rest

    -- the lists after an event that starts no application
    other_lists : (h g : History) → starting e ≡ [] → fixed_parts g ≡ fixed_parts h → Lists h t → (done : Entry × Tables) → Outcome t done → Lists g (main_worked done).1
    other_lists h g none same lists done o =
        let submitted : g.apps.submitted ≡ h.apps.submitted = ap (λ (p : FixedParts). p.submitted) same in
        let before : submitted_ids h.apps.submitted ≡ flat_map saving t.awaiting ++ flat_map starting rest = lists.order ∙ rw (front, none) refl in
        let is = main_going done o in
        let going : done.1.going ≡ t.going = is.0 in
        let tree : done.1.tree ≡ t.tree = is.1 in
        record { order = rw submitted (before ∙ sym (main_order none done o)); going = rw (going, submitted, tree) lists.going }

  -- and after an AppStart
  start_lists : (settings : Settings) (h g : History) → AppsInvariant settings h t → (id : AppId) (rest : List MainEvent) → t.main ≡ mains.AppStart id ∷ rest → fixed_parts g ≡ fixed_parts h → Lists h t
      → Lists g (main_worked (main_step (mains.AppStart id) t)).1
  start_lists settings h g k id rest front same lists =
      let new = is_new settings h t k id rest front in
      let found = new.found in
      let submitted : g.apps.submitted ≡ h.apps.submitted = ap (λ (p : FixedParts). p.submitted) same in
      rw found (by submitted new.row.pending new.says.0.some_waits)
    where
      order_after : (s : Submission) → submitted_ids h.apps.submitted ≡ flat_map saving (t.awaiting ++ ops.App id s ∷ []) ++ flat_map starting (drop 1 t.main)
      order_after s = rw front (let o = rw front at lists.order in simp (flat_map-append, append_assoc) o)

      by : g.apps.submitted ≡ h.apps.submitted → (o : Option Submission) → is_some o ≡ true → Lists g (main_worked (start_of_submission o id t)).1
      by submitted None e = cc
      by submitted (Some s) e = record { order = rw submitted (order_after s); going = rw submitted lists.going }

-- all of it after an event of the main queue
module _ (h : History) (t : Tables) (w : CoreInvariant t.settings h t) (sides : AuxInvariant h t) (e : MainEvent) (rest : List MainEvent) (front : t.main ≡ e ∷ rest) (some : e ≢ mains.EpochStart) where
  abbrev after_it : Tables
  after_it = (main_worked (main_step e t)).1

  outcome : Outcome t (main_step e t)
  outcome = main_outcome t e rest front some

  lists_after : (g : History) → fixed_parts g ≡ fixed_parts h → Lists g after_it
  lists_after g same = by e front outcome
    where
      by : (e : MainEvent) → t.main ≡ e ∷ rest → Outcome t (main_step e t) → Lists g (main_worked (main_step e t)).1
      by (mains.AppStart id) front o = start_lists t t.settings h g w.keeps id rest front same sides.lists
      by e front o = other_lists t e rest front h g refl same sides.lists (main_step e t) o

  pub main_sides : (s : PreservesCore t.settings h t (main_worked (main_step e t))) → AuxInvariant s.next after_it
  main_sides s =
      let stays = main_going t (main_step e t) outcome in
      let lists : Lists h after_it = lists_after h refl in
      let waits : after_it.waits ≡ t.waits = stays.3 in
      aux_after t.settings h t (main_step e t).0 after_it after_it s h.apps.retired h.apps.submitted h.endings.releases (main_parts h t (main_step e t) outcome)
      (record {
        rows = main_rows t (abstract_scene h t) h.first h.apps.retired (rows_of h t sides) (main_step e t) outcome;
        completes = main_completes t e rest front outcome sides.completes;
        apt = main_apt t e outcome sides.apt;
        present = main_present t sides.present (main_step e t) outcome;
        others = main_others t t.settings h w.keeps sides.others (main_step e t) outcome;
        single = main_single t sides.single (main_step e t) outcome;
        waits = waits ∙ sides.waits;
        served = main_served t h.endings.releases sides.served (main_step e t) outcome;
        offers = main_offers t sides.offers (main_step e t) outcome;
        order = lists.order;
        going = lists.going;
        finishes = main_finishes t t.settings h w.keeps sides.unfinished sides.finishes (main_step e t) outcome;
      })
