-- The row of an application changes: the tables agree with the judge's life again, whatever happens to the application or its attempt.
use Rattle.rm_invariant.proofs.Common.{◌≡◌, ◌<◌, ◌≤◌, ℕ, List, Bool, true, false, Option, None, Some, refl, sym, ◌∙◌, ap, arith, nat_tests, AppId, AttemptId, ContainerId, is_app, same_app, has_app, LifeState, MasterState, AttemptChange, RowChange, AppRow, Current, Tables, changed, current_after, scheduled, row_of, AttemptAgrees, ClosingsAgree, NumberAgrees, RowAgrees, plain_dialogue}
use Rattle.std.proofs.Common.{◌==◌, nat_lt, is_some}
use Rattle.std.specs.Prelude.{option_map}
use Rattle.rm_tables.specs.declared.changes.AttemptChange.TheVariants as of_attempt
use Rattle.rm_tables.specs.declared.changes.RowChange.TheVariants as of_app
use Rattle.rm_refinement.specs.Agreement.{HasNoSession}
use Rattle.rm_invariant.specs.apps.View.{changed_if}
use Rattle.rm_invariant.specs.events.Refines.{Refines}

-- two attempts of one number, to which as many containers were granted and whose master registered or not alike
abbrev pub AreAlike : Option Current → Option Current → Type 0
AreAlike None None = Unit {0}
AreAlike None (Some now) = ⊥
AreAlike (Some was) None = ⊥
AreAlike (Some was) (Some now) = (now.number ≡ was.number) × (now.registered ≡ was.registered) × (now.granted ≡ was.granted)

-- the change isn't one that brings another attempt, a grant, or a master that registers, nor takes a grant back
abbrev pub is_still : AttemptChange → Bool
is_still (of_attempt.Grant container) = false
is_still of_attempt.Requeue = false
is_still of_attempt.Issue = true
is_still of_attempt.Lose = true
is_still of_attempt.Keep = true
is_still of_attempt.Finish = true
is_still (of_attempt.End how) = true
is_still (of_attempt.KeepEnd how) = true

abbrev pub keeps_attempt : RowChange → Bool
keeps_attempt of_app.Issue = true
keeps_attempt of_app.Keep = true
keeps_attempt of_app.Wish = true
keeps_attempt of_app.Kill = true
keeps_attempt (of_app.Schedule number) = false
keeps_attempt of_app.Register = false
keeps_attempt of_app.End = true
keeps_attempt (of_app.KeepEnd how) = true
keeps_attempt (of_app.OfAttempt change) = is_still change

-- such a change leaves the attempt alike
still_alike : (change : AttemptChange) (was : Current) → is_still change ≡ true → AreAlike (Some was) (current_after (of_app.OfAttempt change) (Some was))
still_alike (of_attempt.Grant container) was e = cc
still_alike of_attempt.Requeue was e = cc
still_alike _ was e = (refl, refl, refl)

kept_alike : (change : RowChange) (was : Option Current) → keeps_attempt change ≡ true → AreAlike was (current_after change was)
kept_alike (of_app.Schedule number) None e = cc
kept_alike of_app.Register None e = cc
kept_alike of_app.Issue (Some was) e = (refl, refl, refl)
kept_alike of_app.Keep (Some was) e = (refl, refl, refl)
kept_alike of_app.Wish (Some was) e = (refl, refl, refl)
kept_alike of_app.Kill (Some was) e = (refl, refl, refl)
kept_alike (of_app.Schedule number) (Some was) e = cc
kept_alike of_app.Register (Some was) e = cc
kept_alike of_app.End (Some was) e = (refl, refl, refl)
kept_alike (of_app.KeepEnd how) (Some was) e = (refl, refl, refl)
kept_alike (of_app.OfAttempt change) (Some was) e = still_alike change was e
kept_alike _ None e = tt

same_dialogue : (change : RowChange) (row : AppRow) → keeps_attempt change ≡ true → (changed change row).dialogue ≡ row.dialogue
same_dialogue (of_app.Schedule number) row e = cc
same_dialogue of_app.Register row e = cc
same_dialogue _ row e = refl

module _ (registered : List MasterState) (granted : List ContainerId) (attempt : AttemptId) where
  -- what is said of an attempt by one row is said by one that is alike
  pub alike_agrees : (row now : AppRow) → now.dialogue ≡ row.dialogue → (o p : Option Current) → AreAlike o p → AttemptAgrees registered granted attempt row o → AttemptAgrees registered granted attempt now p
  alike_agrees row now dialogue None None alike same = (same.0, dialogue ∙ same.1)
  alike_agrees row now dialogue None (Some b) alike same = absurd alike
  alike_agrees row now dialogue (Some a) None alike same = absurd alike
  alike_agrees row now dialogue (Some a) (Some b) alike same =
      let equal : (b.number == attempt.number) ≡ (a.number == attempt.number) = ap (λ (n : ℕ). n == attempt.number) alike.0 in
      let below : nat_lt b.number attempt.number ≡ nat_lt a.number attempt.number = ap (λ (n : ℕ). nat_lt n attempt.number) alike.0 in
      rw (equal, below) (by (a.number == attempt.number) (nat_lt a.number attempt.number) same)
    where
      by : (x y : Bool) → NumberAgrees x y registered granted attempt row a → NumberAgrees x y registered granted attempt now b
      by true y same = (rw dialogue same.0, alike.1 ∙ same.1 ∙ sym (ap is_some dialogue), alike.2 ∙ same.2)
      by false true same = same
      by false false same = same

  -- the next attempt is untouched, as all of a greater number were
  next_agrees : (row : AppRow) (number : ℕ) (o : Option Current) → ((current : Current) → o ≡ Some current → current.number < number) → AttemptAgrees registered granted attempt row o
      → AttemptAgrees registered granted attempt (changed (of_app.Schedule number) row) (current_after (of_app.Schedule number) o)
  next_agrees row number o later same = by (number == attempt.number) refl (nat_lt number attempt.number) refl
    where
      untouched : (o : Option Current) → ((current : Current) → o ≡ Some current → current.number < number) → number ≤ attempt.number → AttemptAgrees registered granted attempt row o → HasNoSession registered granted attempt
      untouched None later above same = same.0
      untouched (Some current) later above same =
          let l = later current refl in
          let apart : (current.number == attempt.number) ≡ false = grind (arith, nat_tests) in
          let below : nat_lt current.number attempt.number ≡ true = grind (arith, nat_tests) in
          rw (apart, below) at same

      by : (b : Bool) → (number == attempt.number) ≡ b → (c : Bool) → nat_lt number attempt.number ≡ c
          → NumberAgrees b c registered granted attempt (changed (of_app.Schedule number) row) (scheduled number)
      by true e c f = let u = untouched o later (grind (arith, nat_tests)) same in (sym (ap (option_map plain_dialogue) u.0), refl, sym u.1)
      by false e true f = untouched o later (grind (arith, nat_tests)) same
      by false e false f = tt

-- WHOLE TABLES

-- one row changes, and nothing else that the agreement looks at
pub changed_agrees : (life : LifeState) (t next : Tables) (id : AppId) (change : AppRow → AppRow) → Refines life t → next.book ≡ t.book → next.nodes ≡ t.nodes → next.asks ≡ t.asks
    → ((q : AppId) → row_of next.rows q ≡ changed_if (is_app id q) change (row_of t.rows q))
    → ((row : AppRow) → row_of t.rows id ≡ Some row → (change row).closings ≡ row.closings)
    → ((row : AppRow) (attempt : AttemptId) → row_of t.rows id ≡ Some row → is_app id attempt.app ≡ true → AttemptAgrees life.masters.registered life.granted attempt row row.current
    → AttemptAgrees life.masters.registered life.granted attempt (change row) (change row).current)
    → Refines life next
changed_agrees life t next id change same book nodes asks rows tells attempts =
    record {
      rows = rw book same.rows;
      nodes = rw (book, nodes) same.nodes;
      asks = rw asks same.asks;
      closings = λ q. rw (rows q) (closing q (is_app id q) refl (row_of t.rows q) refl (same.closings q));
      masters = λ q. rw (rows q.app) (master q (is_app id q.app) refl (row_of t.rows q.app) refl (same.masters q));
    }
  where
    closing : (q : AppId) (b : Bool) → is_app id q ≡ b → (o : Option AppRow) → row_of t.rows q ≡ o → ClosingsAgree life.endings.outbox q (has_app life.apps.retired q) o
        → ClosingsAgree life.endings.outbox q (has_app life.apps.retired q) (changed_if b change o)
    closing q true e None found says = says
    closing q true e (Some row) found says = tells row (ap (row_of t.rows) (same_app id q e) ∙ found) ∙ says
    closing q false e o found says = says

    master : (q : AttemptId) (b : Bool) → is_app id q.app ≡ b → (o : Option AppRow) → row_of t.rows q.app ≡ o → RowAgrees life.masters.registered life.granted (has_app life.apps.retired q.app) q o
        → RowAgrees life.masters.registered life.granted (has_app life.apps.retired q.app) q (changed_if b change o)
    master q true e None found says = says
    master q true e (Some row) found says = attempts row q (ap (row_of t.rows) (same_app id q.app e) ∙ found) e says
    master q false e o found says = says

-- something happens to an application that leaves its attempt alike
pub kept_agrees : (life : LifeState) (t next : Tables) (id : AppId) (change : RowChange) → keeps_attempt change ≡ true → Refines life t → next.book ≡ t.book → next.nodes ≡ t.nodes → next.asks ≡ t.asks
    → ((q : AppId) → row_of next.rows q ≡ changed_if (is_app id q) (changed change) (row_of t.rows q)) → Refines life next
kept_agrees life t next id change keeps same book nodes asks rows =
    changed_agrees life t next id (changed change) same book nodes asks rows (λ row found. refl)
    (λ row attempt found e says. alike_agrees life.masters.registered life.granted attempt row (changed change row) (same_dialogue change row keeps) row.current (current_after change row.current) (kept_alike change row.current keeps) says)

-- its next attempt waits for a container
pub scheduled_agrees : (life : LifeState) (t next : Tables) (id : AppId) (number : ℕ) → Refines life t → next.book ≡ t.book → next.nodes ≡ t.nodes → next.asks ≡ t.asks
    → ((q : AppId) → row_of next.rows q ≡ changed_if (is_app id q) (changed (of_app.Schedule number)) (row_of t.rows q))
    → ((row : AppRow) (current : Current) → row_of t.rows id ≡ Some row → row.current ≡ Some current → current.number < number) → Refines life next
scheduled_agrees life t next id number same book nodes asks rows later =
    changed_agrees life t next id (changed (of_app.Schedule number)) same book nodes asks rows (λ row found. refl)
    (λ row attempt found e says. next_agrees life.masters.registered life.granted attempt row number row.current (λ current is. later row current found is) says)
