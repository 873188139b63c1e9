-- Where the row of an attempt that lives and its master change alike, and the attempt lives on, the tables show the judge's scene again.
use Rattle.rm_master.proofs.Common.{◌≡◌, ℕ, List, Bool, true, false, ◌&&◌, Option, None, Some, is_some, refl, sym, ◌∙◌, ap, subst, arith, option_map, ◌==◌, nat_lt, false≢true, nat_tests, AttemptId, ContainerId, is_app, is_attempt, BookOf, is_alive, MasterState, Row, Scene, has_app, AppRow, Tables, row_of, SameRows, bare_dialogue, closings_for, session_of, plain_dialogue, RefinesLife, lives_by}
use Rattle.rm_types.specs.declared.containers.AskOf.{AskOf}
use Rattle.rm_types.specs.declared.containers.ClosingOf.{ClosingOf}
use Rattle.rm_types.specs.declared.ids.AppId.{AppId}
use Rattle.rm_types.proofs.IdLemmas.{same_attempt, same_app}
use Rattle.rm_book.specs.AskTables.{AsksOf}
use Rattle.rm_states.specs.declared.attempt.states.AttemptState.{AttemptState}
use Rattle.rm_states.specs.declared.attempt.states.AttemptState.TheVariants as attempts
use Rattle.rm_model.specs.State.{Endings}
use Rattle.rm_tables.specs.declared.events.MainEvent.{MainEvent}
use Rattle.rm_tables.specs.declared.events.SchedEvent.{SchedEvent}
use Rattle.rm_tables.specs.declared.rows.Current.{Current}
use Rattle.rm_tables.specs.Rows.{with_row}
use Rattle.rm_refinement.specs.Agreement.{AttemptAgrees, ClosingsAgree, HasNoSession, NumberAgrees, RowAgrees, SameAsks, SameNodes}
use Rattle.rm_refinement.specs.Services.{AgreesAround, finishes_by, is_ending}
use Rattle.rm_refinement.proofs.AppRows.{other_row, own_row}
use Rattle.rm_master.proofs.Replies.{Lives}

-- what lives doesn't end
alive_goes_on : (s : AttemptState) → is_alive s ≡ true → is_ending s ≡ false
alive_goes_on attempts.Scheduled e = refl
alive_goes_on attempts.Granted e = refl
alive_goes_on attempts.Saving e = refl
alive_goes_on attempts.Live e = refl
alive_goes_on attempts.Registered e = refl
alive_goes_on attempts.Finishing e = refl
alive_goes_on attempts.Ending e = cc
alive_goes_on attempts.Ended e = refl
alive_goes_on attempts.Dropped e = refl

-- an attempt of another number, of the same application
other_number : (a q : AttemptId) (n : ℕ) → (n == a.number) ≡ true → is_app a.app q.app ≡ true → is_attempt a q ≡ false → (n == q.number) ≡ false
other_number a q n e f g = grind (arith, nat_tests)

-- what is said of a row that was found
row_is : (registered : List MasterState) (granted : List ContainerId) (q : AttemptId) (row : AppRow) (retired : Bool) (o : Option AppRow) → o ≡ Some row → RowAgrees registered granted retired q o
    → AttemptAgrees registered granted q row row.current
row_is registered granted q row retired None e a = cc
row_is registered granted q row retired (Some one) e a = let same : one ≡ row = cc in subst (λ (r : AppRow). AttemptAgrees registered granted q r r.current) same a

-- what agrees with an attempt of another number: one of a greater number is untouched
apart_untouched : (registered : List MasterState) (granted : List ContainerId) (q : AttemptId) (row : AppRow) (current : Current) (same later : Bool) → same ≡ false → NumberAgrees same later registered granted q row current → later ≡ true
    → HasNoSession registered granted q
apart_untouched registered granted q row current true later e a l = cc
apart_untouched registered granted q row current false true e a l = a
apart_untouched registered granted q row current false false e a l = cc

apart_agrees : (registered : List MasterState) (granted : List ContainerId) (q : AttemptId) (row : AppRow) (current : Current) (same later : Bool) → same ≡ false → (later ≡ true → HasNoSession registered granted q)
    → NumberAgrees same later registered granted q row current
apart_agrees registered granted q row current true later e u = cc
apart_agrees registered granted q row current false true e u = u refl
apart_agrees registered granted q row current false false e u = tt

module _ (m : Scene) (t : Tables) (attempt : AttemptId) (shows : RefinesLife m t) (here : Lives m t attempt)
    (f : AppRow → AppRow) (next : Current) (next_is : (f here.row).current ≡ Some next) (number : next.number ≡ here.current.number) (granted : next.granted ≡ here.current.granted) (alive : is_alive next.state ≡ true)
    (registered : List MasterState) (spoken : option_map bare_dialogue (f here.row).dialogue ≡ option_map plain_dialogue (session_of registered attempt)) (known : next.registered ≡ is_some (f here.row).dialogue)
    (others : (q : AttemptId) → is_attempt attempt q ≡ false → session_of registered q ≡ session_of m.life.masters.registered q)
    (outbox : List ClosingOf) (told : (f here.row).closings ≡ closings_for outbox attempt.app) (untold : (q : AppId) → is_app attempt.app q ≡ false → closings_for outbox q ≡ closings_for m.life.endings.outbox q) where
  abbrev rows : List (AppId × Option AppRow)
  rows = with_row f attempt.app t.rows

  found : row_of rows attempt.app ≡ Some (f here.row)
  found = own_row f attempt.app t.rows ∙ ap (option_map f) here.found

  -- the dialogues
  untouched : (q : AttemptId) → is_attempt attempt q ≡ false → HasNoSession m.life.masters.registered m.life.granted q → HasNoSession registered m.life.granted q
  untouched q apart u = (others q apart ∙ u.0, u.1)

  number_agrees : (q : AttemptId) → is_attempt attempt q ≡ false → (row : AppRow) (current : Current) (same later : Bool) → NumberAgrees same later m.life.masters.registered m.life.granted q row current
      → NumberAgrees same later registered m.life.granted q row current
  number_agrees q apart row current true later a = (a.0 ∙ sym (ap (option_map plain_dialogue) (others q apart)), a.1, a.2)
  number_agrees q apart row current false true a = untouched q apart a
  number_agrees q apart row current false false a = tt

  attempt_agrees : (q : AttemptId) → is_attempt attempt q ≡ false → (row : AppRow) (c : Option Current) → AttemptAgrees m.life.masters.registered m.life.granted q row c → AttemptAgrees registered m.life.granted q row c
  attempt_agrees q apart row None a = (untouched q apart a.0, a.1)
  attempt_agrees q apart row (Some current) a = number_agrees q apart row current (current.number == q.number) (nat_lt current.number q.number) a

  row_agrees : (q : AttemptId) → is_attempt attempt q ≡ false → (retired : Bool) (o : Option AppRow) → RowAgrees m.life.masters.registered m.life.granted retired q o → RowAgrees registered m.life.granted retired q o
  row_agrees q apart retired None a = λ r. untouched q apart (a r)
  row_agrees q apart retired (Some row) a = attempt_agrees q apart row row.current a

  own_agrees : (retired : Bool) → RowAgrees registered m.life.granted retired attempt (row_of rows attempt.app)
  own_agrees retired =
      let n : (next.number == attempt.number) ≡ true = rw number here.number in
      rw (found, next_is, n) (spoken, known, granted ∙ here.agrees.2)

  -- another attempt of the same application
  before_agrees : (q : AttemptId) → is_attempt attempt q ≡ false → (here.current.number == q.number) ≡ false → (retired : Bool) → RowAgrees m.life.masters.registered m.life.granted retired q (row_of t.rows attempt.app)
      → RowAgrees registered m.life.granted retired q (row_of rows attempt.app)
  before_agrees q apart n retired a =
      let old : AttemptAgrees m.life.masters.registered m.life.granted q here.row (Some here.current) =
      subst (λ (c : Option Current). AttemptAgrees m.life.masters.registered m.life.granted q here.row c) here.is
      (row_is m.life.masters.registered m.life.granted q here.row retired (row_of t.rows attempt.app) here.found a) in
      let new : AttemptAgrees registered m.life.granted q (f here.row) (Some next) =
      apart_agrees registered m.life.granted q (f here.row) next (next.number == q.number) (nat_lt next.number q.number) (ap (λ (k : ℕ). k == q.number) number ∙ n)
      (λ later.
      untouched q apart
      (apart_untouched m.life.masters.registered m.life.granted q here.row here.current (here.current.number == q.number) (nat_lt here.current.number q.number) n old
      (ap (λ (k : ℕ). nat_lt k q.number) (sym number) ∙ later))) in
      rw found (subst (λ (c : Option Current). AttemptAgrees registered m.life.granted q (f here.row) c) (sym next_is) new)

  masters_again : (q : AttemptId) → RowAgrees registered m.life.granted (has_app m.life.apps.retired q.app) q (row_of rows q.app)
  masters_again q = by (is_app attempt.app q.app) refl (is_attempt attempt q) refl
    where
      by : (a : Bool) → is_app attempt.app q.app ≡ a → (b : Bool) → is_attempt attempt q ≡ b → RowAgrees registered m.life.granted (has_app m.life.apps.retired q.app) q (row_of rows q.app)
      by false e true g = let h : false ≡ true = rw e at g in absurd (false≢true h)
      by false e false g = rw (other_row f attempt.app q.app t.rows e) (row_agrees q g (has_app m.life.apps.retired q.app) (row_of t.rows q.app) (shows.masters q))
      by true e true g =
          subst (λ (z : AttemptId). RowAgrees registered m.life.granted (has_app m.life.apps.retired z.app) z (row_of rows z.app)) (same_attempt attempt q g) (own_agrees (has_app m.life.apps.retired attempt.app))
      by true e false g =
          let app : attempt.app ≡ q.app = same_app attempt.app q.app e in
          subst (λ (z : AppId). RowAgrees registered m.life.granted (has_app m.life.apps.retired z) q (row_of rows z)) app
          (before_agrees q g (other_number attempt q here.current.number here.number e g) (has_app m.life.apps.retired attempt.app)
          (subst (λ (z : AppId). RowAgrees m.life.masters.registered m.life.granted (has_app m.life.apps.retired z) q (row_of t.rows z)) (sym app) (shows.masters q)))

  -- what lives, and what ends
  lives_again : (q : AttemptId) → lives_by q (row_of t.rows q.app) ≡ lives_by q (row_of rows q.app)
  lives_again q = by (is_app attempt.app q.app) refl
    where
      by : (a : Bool) → is_app attempt.app q.app ≡ a → lives_by q (row_of t.rows q.app) ≡ lives_by q (row_of rows q.app)
      by false e = ap (lives_by q) (sym (other_row f attempt.app q.app t.rows e))
      by true e =
          subst (λ (z : AppId). lives_by q (row_of t.rows z) ≡ lives_by q (row_of rows z)) (same_app attempt.app q.app e)
          (rw (found, here.found, next_is, here.is, number, alive, here.alive) refl)

  ends_again : (q : AttemptId) → finishes_by q (row_of t.rows q.app) ≡ finishes_by q (row_of rows q.app)
  ends_again q = by (is_app attempt.app q.app) refl
    where
      by : (a : Bool) → is_app attempt.app q.app ≡ a → finishes_by q (row_of t.rows q.app) ≡ finishes_by q (row_of rows q.app)
      by false e = ap (finishes_by q) (sym (other_row f attempt.app q.app t.rows e))
      by true e =
          let now = alive_goes_on next.state alive in
          let before = alive_goes_on here.current.state here.alive in
          subst (λ (z : AppId). finishes_by q (row_of t.rows z) ≡ finishes_by q (row_of rows z)) (same_app attempt.app q.app e)
          (rw (found, here.found, next_is, here.is, number, now, before) refl)

  -- the endings that are to be told
  closings_again : (q : AppId) → ClosingsAgree outbox q (has_app m.life.apps.retired q) (row_of rows q)
  closings_again q = by (is_app attempt.app q) refl
    where
      other : is_app attempt.app q ≡ false → (o : Option AppRow) (retired : Bool) → ClosingsAgree m.life.endings.outbox q retired o → ClosingsAgree outbox q retired o
      other e None retired a = λ r. untold q e ∙ a r
      other e (Some row) retired a = a ∙ sym (untold q e)

      by : (a : Bool) → is_app attempt.app q ≡ a → ClosingsAgree outbox q (has_app m.life.apps.retired q) (row_of rows q)
      by false e = rw (other_row f attempt.app q t.rows e) (other e (row_of t.rows q) (has_app m.life.apps.retired q) (shows.closings q))
      by true e = subst (λ (z : AppId). ClosingsAgree outbox z (has_app m.life.apps.retired z) (row_of rows z)) (same_app attempt.app q e) (rw found told)

  -- the whole
  pub again : (table : List AsksOf) (book : BookOf) (sched : List SchedEvent) (main : List MainEvent) (pending : List ContainerId) (asks : List AskOf) (living : List Row) (endings : Endings)
      → SameRows book.rows living → SameNodes book t.nodes m.life.nodes → SameAsks table asks → endings.outbox ≡ outbox
      → AgreesAround (record m { life = record m.life { masters = record m.life.masters { registered = registered }; asks = asks; book = living; endings = endings } })
      (record t { rows = with_row f attempt.app t.rows; asks = table; book = book; sched = sched; main = main; pending = pending })
      → RefinesLife (record m { life = record m.life { masters = record m.life.masters { registered = registered }; asks = asks; book = living; endings = endings } })
      (record t { rows = with_row f attempt.app t.rows; asks = table; book = book; sched = sched; main = main; pending = pending })
  again table book sched main pending asks living endings same_rows same_nodes same_asks is around =
      record {
        records = shows.records;
        epoch = shows.epoch;
        rows = same_rows;
        nodes = same_nodes;
        asks = same_asks;
        closings = λ q. rw is (closings_again q);
        masters = masters_again;
        live = λ q. shows.live q ∙ lives_again q;
        finishes = λ q. shows.finishes q ∙ ends_again q;
        around = around;
      }
