-- The life's Epoch is kept: all that holds of an open life holds from then on, whatever was recorded.
use Rattle.rm_invariant.proofs.Common.{◌≡◌, ℕ, ◌+◌, suc, List, [], ◌∷◌, ◌++◌, Bool, true, false, ◌&&◌, ◌||◌, nat_le, Option, None, Some, is_none, length, refl, sym, ◌∙◌, ap, subst, arith, if◌then◌else◌, flat_map, list_any, nat_tests, AppId, AttemptId, How, AppRecord, AttemptRecord, is_attempt, last_attempt, record_of, attempt_was_first, life_keeps, has_app, LifeState, SchedEvent, AppRow, Current, Tables, was_first, kept, going_in, main_of, opening_sched, recovered_attempt, recovered_row, recovered_rows, sched_by, sched_of, row_of, AttemptAgrees, ClosingsAgree, NumberAgrees, RowAgrees, finishes_by, is_ending, History, abstract_life, abstract_scene, not, ContainerId}
use Rattle.std.proofs.Common.{◌==◌, nat_lt, is_some, option_map}
use Rattle.rm_types.specs.declared.entries.Entry.TheVariants.{Kept as KeptEntry}
use Rattle.rm_types.specs.declared.operations.Op.TheVariants as ops
use Rattle.rm_model.specs.State.{Release}
use Rattle.rm_states.specs.declared.attempt.states.AttemptState.TheVariants as attempts
use Rattle.rm_tables.specs.declared.events.MainEvent.TheVariants as mains
use Rattle.rm_tables.specs.declared.events.SchedEvent.TheVariants as scheds
use Rattle.rm_invariant.specs.apps.Recovered.{IsRecovered}
use Rattle.rm_invariant.specs.apps.Submissions.{Lists}
use Rattle.rm_invariant.proofs.apps.Completing.{retire_posted}
use Rattle.rm_invariant.proofs.apps.Completions.{ended_counts, ended_in_order}
use Rattle.rm_invariant.proofs.apps.Counts.{at_front}
use Rattle.rm_invariant.proofs.opening.Apps.{none_retired, opening_starts_none, recovered_found}
use Rattle.rm_invariant.specs.nodes.Invariant.{NodesInvariant, events_of}
use Rattle.rm_invariant.specs.nodes.Book.{BookInvariant}
use Rattle.rm_invariant.specs.masters.Sound.{Numbered}
use Rattle.rm_invariant.proofs.opening.Masters.{opening_joins}
use Rattle.rm_invariant.proofs.masters.Sounding.{recoverable}
use Rattle.rm_invariant.specs.events.Refines.{Refines}
use Rattle.rm_invariant.specs.events.Here.{AreServed, FirstsKnown, astray_at}
use Rattle.rm_invariant.specs.events.MainFacts.{IsSilent}
use Rattle.rm_invariant.specs.Core.{Nothing, PreservesCore}
use Rattle.rm_invariant.proofs.events.Leaving.{stepped_with}
use Rattle.rm_invariant.specs.opening.Begun.{IsBegun}
use Rattle.rm_invariant.specs.auxiliary.Invariant.{HasNotFinished, NoneFirst, AuxInvariant}
use Rattle.rm_invariant.proofs.auxiliary.Together.{aux_after}
use Rattle.rm_invariant.specs.masters.Preserves.{PreservesContainersTo}

-- WHAT A LIFE OPENS WITH

-- the events of the scheduler are of no node, and release nothing
sched_quiet : (q : List ℕ) (app : AppRecord) (more : List SchedEvent) → events_of q (sched_of app ++ more) ≡ events_of q more
sched_quiet q app more = by app.ending (last_attempt app.attempts)
  where
    unended : (last : AttemptRecord) (b : Bool) → events_of q ((if b then [] else scheds.AttemptRecovered (record { app = app.id; number = last.id.number }) ∷ []) ++ more) ≡ events_of q more
    unended last true = refl
    unended last false = refl

    by : (end : Option (How × List ℕ)) (last : Option AttemptRecord) → events_of q (sched_by end last app.submission.keep app.id ++ more) ≡ events_of q more
    by (Some end) last = refl
    by None None = refl
    by None (Some last) = unended last (is_some last.ending && not app.submission.keep)

none_of_nodes : (q : List ℕ) (records : List AppRecord) → events_of q (opening_sched records) ≡ []
none_of_nodes q [] = refl
none_of_nodes q (app ∷ more) = sched_quiet q app (opening_sched more) ∙ none_of_nodes q more

none_released : (releases : List Release) (records : List AppRecord) → AreServed releases (opening_sched records)
none_released releases [] = tt
none_released releases (app ∷ more) = by app.ending (last_attempt app.attempts) (none_released releases more)
  where
    unended : (last : AttemptRecord) (b : Bool) → AreServed releases (opening_sched more) → AreServed releases ((if b then [] else scheds.AttemptRecovered (record { app = app.id; number = last.id.number }) ∷ []) ++ opening_sched more)
    unended last true e = e
    unended last false e = e

    by : (end : Option (How × List ℕ)) (last : Option AttemptRecord) → AreServed releases (opening_sched more) → AreServed releases (sched_by end last app.submission.keep app.id ++ opening_sched more)
    by (Some end) last e = e
    by None None e = e
    by None (Some last) e = unended last (is_some last.ending && not app.submission.keep) e

-- an attempt of these numbers is found exactly where its number is among theirs
found_numbers : (app : AppId) (n : ℕ) (all : List AttemptRecord) (number : ℕ) → Numbered app n all
    → list_any (λ one. is_attempt one.id (record { app = app; number = number })) all ≡ (nat_lt n number && nat_le number (n + length all))
found_numbers app n [] number named = sym (none (nat_lt n number) refl)
  where
    none : (b : Bool) → nat_lt n number ≡ b → (b && nat_le number (n + 0)) ≡ false
    none true e = grind (arith, nat_tests)
    none false e = refl
found_numbers app n (one ∷ more) number named =
    let here : is_attempt one.id (record { app = app; number = number }) ≡ ((n + 1) == number) = ap (λ (id : AttemptId). is_attempt id (record { app = app; number = number })) named.0 ∙ self in
    rw here (by ((n + 1) == number) refl (found_numbers app (n + 1) more number named.1))
  where
    self : is_attempt (record { app = app; number = n + 1 }) (record { app = app; number = number }) ≡ ((n + 1) == number)
    self = grind (arith, nat_tests)

    by : (b : Bool) → ((n + 1) == number) ≡ b → list_any (λ one. is_attempt one.id (record { app = app; number = number })) more ≡ (nat_lt (n + 1) number && nat_le number ((n + 1) + length more))
        → (b || list_any (λ one. is_attempt one.id (record { app = app; number = number })) more) ≡ (nat_lt n number && nat_le number (n + suc (length more)))
    by true e rest = grind (arith, nat_tests)
    by false e rest = rest ∙ same (nat_lt (n + 1) number) (nat_le number ((n + 1) + length more)) (nat_lt n number) (nat_le number (n + suc (length more))) refl refl refl refl
      where
        same : (a b c d : Bool) → nat_lt (n + 1) number ≡ a → nat_le number ((n + 1) + length more) ≡ b → nat_lt n number ≡ c → nat_le number (n + suc (length more)) ≡ d → (a && b) ≡ (c && d)
        same a b c d p q r s = grind (arith, nat_tests)

-- something goes on exactly where one does
going_any : (records : List AppRecord) → nat_lt 0 (going_in records) ≡ list_any (λ app. is_none app.ending) records
going_any [] = refl
going_any (app ∷ more) = by (is_none app.ending) refl (going_any more)
  where
    by : (b : Bool) → is_none app.ending ≡ b → nat_lt 0 (going_in more) ≡ list_any (λ app. is_none app.ending) more → nat_lt 0 (going_in (app ∷ more)) ≡ (b || list_any (λ app. is_none app.ending) more)
    by true e rest =
        let n : going_in (app ∷ more) ≡ suc (going_in more) = at_front (λ (one : AppRecord). is_none one.ending) app more ∙ rw e refl in
        rw n (grind (arith, nat_tests))
    by false e rest =
        let n : going_in (app ∷ more) ≡ going_in more = at_front (λ (one : AppRecord). is_none one.ending) app more ∙ rw e refl in
        rw n rest

module _ (h : History) (t : Tables) (b : IsBegun h t) (next stamp : ℕ) (front : t.awaiting ≡ ops.Epoch next stamp ∷ []) (main : t.main ≡ []) (handed : t.handed ≡ true) where
  rows : t.rows ≡ recovered_rows t.tree.apps
  rows = ap (λ (x : Tables). x.rows) b.tables

  abbrev opened : Tables
  opened = kept (ops.Epoch next stamp) t

  recovered : IsRecovered h t
  recovered =
      record {
        new = b.new;
        recorded = b.recorded;
        rows = rows;
        once = b.stored.once;
        sound = λ id one found. recoverable id one (b.stored.sound id one found);
        ended = λ id. let ended = ap (λ (x : Tables). x.ended) b.tables in rw ended (ended_counts t.tree.apps id (b.stored.once id));
        main = main;
        sched = ap (λ (x : Tables). x.sched) b.tables;
      }

  -- a row is that of a record
  found_row : (id : AppId) → row_of t.rows id ≡ option_map recovered_row (record_of t.tree.apps id)
  found_row id = rw rows (recovered_found t.tree.apps id)

  each_row : (P : AppRow → Type 0) → ((one : AppRecord) → P (recovered_row one)) → (id : AppId) (row : AppRow) → row_of t.rows id ≡ Some row → P row
  each_row P all id row found = by (record_of t.tree.apps id) (sym (found_row id) ∙ found)
    where
      by : (o : Option AppRecord) → option_map recovered_row o ≡ Some row → P row
      by None e = cc
      by (Some one) e = let same : recovered_row one ≡ row = cc in subst P same (all one)

  -- THE WHOLE

  abbrev life_now : LifeState
  life_now = record (life_keeps (abstract_life h t) (ops.Epoch next stamp)) { handed = false }

  row_closings : (id : AppId) (retired : Bool) (o : Option AppRecord) → ClosingsAgree [] id retired (option_map recovered_row o)
  row_closings id retired None = λ r. refl
  row_closings id retired (Some one) = refl

  row_masters : (attempt : AttemptId) (retired : Bool) (o : Option AppRecord) → RowAgrees [] [] retired attempt (option_map recovered_row o)
  row_masters attempt retired None = λ r. (refl, refl)
  row_masters attempt retired (Some one) = by (last_attempt one.attempts)
    where
      number : (current : Current) (c d : Bool) → current.registered ≡ false → current.granted ≡ 0 → NumberAgrees c d [] [] attempt (recovered_row one) current
      number current true d r g = (refl, r, g)
      number current false true r g = (refl, refl)
      number current false false r g = tt

      by : (last : Option AttemptRecord) → AttemptAgrees [] [] attempt (recovered_row one) (option_map recovered_attempt last)
      by None = ((refl, refl), refl)
      by (Some last) = number (recovered_attempt last) ((recovered_attempt last).number == attempt.number) (nat_lt (recovered_attempt last).number attempt.number) refl refl

  agrees_now : Refines life_now opened
  agrees_now =
      let book : h.book ≡ [] = ap (λ (x : History). x.book) b.new in
      let in_book : t.book.rows ≡ [] = ap (λ (x : Tables). x.book.rows) b.tables in
      let told : h.nodes ≡ [] = ap (λ (x : History). x.nodes) b.new in
      let in_nodes : t.nodes ≡ [] = ap (λ (x : Tables). x.nodes) b.tables in
      let asked : h.asks ≡ [] = ap (λ (x : History). x.asks) b.new in
      let in_asks : t.asks ≡ [] = ap (λ (x : Tables). x.asks) b.tables in
      let outbox : h.endings.outbox ≡ [] = ap (λ (x : History). x.endings.outbox) b.new in
      let registered : h.masters.registered ≡ [] = ap (λ (x : History). x.masters.registered) b.new in
      let granted : h.granted ≡ [] = ap (λ (x : History). x.granted) b.new in
      record {
        rows = rw (in_book, book) refl;
        nodes = λ name. rw (in_nodes, told) refl;
        asks = λ attempt. rw (in_asks, asked) refl;
        closings = λ id. rw (outbox, found_row id) (row_closings id (has_app h.apps.retired id) (record_of t.tree.apps id));
        masters = λ attempt. rw (registered, granted, found_row attempt.app) (row_masters attempt (has_app h.apps.retired attempt.app) (record_of t.tree.apps attempt.app));
      }

  nodes_now : (astray : ContainerId → Bool) → NodesInvariant astray h.nodes h.book opened.sched
  nodes_now astray q =
      let book : h.book ≡ [] = ap (λ (x : History). x.book) b.new in
      let told : h.nodes ≡ [] = ap (λ (x : History). x.nodes) b.new in
      rw (told, book) (none_of_nodes q t.tree.apps, refl)

  book_now : BookInvariant life_now Nothing
  book_now =
      let book : h.book ≡ [] = ap (λ (x : History). x.book) b.new in
      let told : h.nodes ≡ [] = ap (λ (x : History). x.nodes) b.new in
      let left : h.endings.left ≡ [] = ap (λ (x : History). x.endings.left) b.new in
      record { apart = rw book tt; rows = rw book tt; left = rw left tt; launches = rw told tt }

  pub opened_whole : PreservesCore t.settings h t (KeptEntry (ops.Epoch next stamp), opened)
  opened_whole =
      let joins : PreservesContainersTo t.settings h t (KeptEntry (ops.Epoch next stamp), opened) = record { next = _; joins = opening_joins t.settings h t next stamp recovered front handed b.stored.sound } in
      stepped_with t.settings h t (KeptEntry (ops.Epoch next stamp)) opened life_now (astray_at t.settings joins.next opened) joins (λ c is. is) refl b.stored.sound agrees_now (nodes_now (astray_at t.settings joins.next opened)) book_now

  -- WHAT ELSE HOLDS

  first_is : h.first ≡ t.tree
  first_is = ap (λ (x : History). x.first) b.new ∙ b.recorded

  recovered_silent : (one : AppRecord) → IsSilent (recovered_row one).current (recovered_row one).dialogue
  recovered_silent one = by (last_attempt one.attempts)
    where
      state : (last : AttemptRecord) (ended : Bool) → is_some last.ending ≡ ended → IsSilent (Some (recovered_attempt last)) None
      state last true e = λ u. refl
      state last false e = λ u. refl

      by : (last : Option AttemptRecord) → IsSilent (option_map recovered_attempt last) None
      by None = tt
      by (Some last) = state last (is_some last.ending) refl

  recovered_unfinished : (one : AppRecord) → HasNotFinished (recovered_row one).current
  recovered_unfinished one = by (last_attempt one.attempts)
    where
      by : (last : Option AttemptRecord) → HasNotFinished (option_map recovered_attempt last)
      by None = tt
      by (Some last) = λ o. refl

  recovered_finishes : (q : AttemptId) (o : Option AppRecord) → finishes_by q (option_map recovered_row o) ≡ false
  recovered_finishes q None = refl
  recovered_finishes q (Some one) = by (last_attempt one.attempts)
    where
      state : (last : AttemptRecord) (c ended : Bool) → is_some last.ending ≡ ended → (c && (is_ending (if ended then attempts.Ended else attempts.Live) && false)) ≡ false
      state last true true e = refl
      state last true false e = refl
      state last false ended e = refl

      by : (last : Option AttemptRecord) → finishes_by q (Some (record (recovered_row one) { current = option_map recovered_attempt last })) ≡ false
      by None = refl
      by (Some last) = state last (last.id.number == q.number) (is_some last.ending) refl

  opened_firsts : FirstsKnown (abstract_scene h t) t.rows
  opened_firsts q row found = by (record_of t.tree.apps q.app) refl (sym (found_row q.app) ∙ found)
    where
      by : (o : Option AppRecord) → record_of t.tree.apps q.app ≡ o → option_map recovered_row o ≡ Some row → attempt_was_first (abstract_scene h t) q ≡ was_first q (Some row)
      by None is e = cc
      by (Some one) is e =
          let same : recovered_row one ≡ row = cc in
          let first = first_is in
          let numbers = found_numbers q.app 0 one.attempts q.number (b.stored.sound q.app one is).numbered in
          let zero : 0 + length one.attempts ≡ length one.attempts = omega arith in
          subst (λ (r : AppRow). attempt_was_first (abstract_scene h t) q ≡ was_first q (Some r)) same (rw (first, is) (numbers ∙ ap (λ n. nat_lt 0 q.number && nat_le q.number n) zero))

  opened_none : NoneFirst h.first h.apps.retired t.rows
  opened_none q none out = let first = first_is in rw first (by (record_of t.tree.apps q) refl (sym (found_row q) ∙ none))
    where
      by : (o : Option AppRecord) → record_of t.tree.apps q ≡ o → option_map recovered_row o ≡ None → record_of t.tree.apps q ≡ None
      by None is e = is
      by (Some one) is e = cc

  no_retired : h.apps.retired ≡ []
  no_retired = ap (λ (x : History). x.apps.retired) b.new

  no_submitted : h.apps.submitted ≡ []
  no_submitted = ap (λ (x : History). x.apps.submitted) b.new

  opened_lists : Lists h opened
  opened_lists =
      let fresh = no_submitted in
      let starts = opening_starts_none t.tree.apps in
      let going = ap (λ (x : Tables). x.going) b.tables in
      record { order = rw (fresh, front, starts) refl; going = rw fresh (let e : t.going ≡ going_in t.tree.apps = going in omega (arith, e)) }

  pub opened_sides : (s : PreservesCore t.settings h t (KeptEntry (ops.Epoch next stamp), opened)) → AuxInvariant s.next opened
  opened_sides s =
      let ended = ap (λ (x : Tables). x.ended) b.tables in
      let in_asks : t.asks ≡ [] = ap (λ (x : Tables). x.asks) b.tables in
      let in_nodes : t.nodes ≡ [] = ap (λ (x : Tables). x.nodes) b.tables in
      let in_book = ap (λ (x : Tables). x.book) b.tables in
      let waits = ap (λ (x : Tables). x.waits) b.tables in
      let none_out = no_retired in
      let first_tree = first_is in
      aux_after t.settings h t (KeptEntry (ops.Epoch next stamp)) opened opened s h.apps.retired h.apps.submitted h.endings.releases refl
      (record {
        rows = record {
          silent = each_row (λ row. IsSilent row.current row.dialogue) recovered_silent;
          firsts = opened_firsts;
          none_first = opened_none;
          unfinished = each_row (λ row. HasNotFinished row.current) recovered_unfinished;
          known = let r = rows in rw (none_out, r) (none_retired t.tree.apps);
        };
        completes = record {
          once = b.stored.once;
          in_order = rw ended (ended_in_order t.tree.apps b.stored.once);
          early = λ id. let low = b.stored.early id in omega (arith, low);
          retires = λ many. retire_posted (flat_map main_of t.tree.apps) mains.Retire refl;
        };
        apt = b.stored.apt;
        present = rw in_nodes (λ name row found. cc);
        others = rw in_asks (λ q some. cc);
        single = rw in_asks (λ q. refl);
        waits = rw first_tree (waits ∙ going_any t.tree.apps);
        served = none_released h.endings.releases t.tree.apps;
        offers = rw in_book (λ name none. refl);
        order = opened_lists.order;
        going = opened_lists.going;
        finishes = λ q. rw front (sym (ap (finishes_by q) (found_row q.app) ∙ recovered_finishes q (record_of t.tree.apps q.app)));
      })
