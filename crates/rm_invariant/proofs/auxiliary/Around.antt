-- What came late to an attempt is told alike again after each event: its row goes on, or nobody speaks with its master.
use Rattle.rm_invariant.proofs.Common.{◌≡◌, ◌≤◌, ◌⊎◌, inl, inr, ℕ, List, [], ◌∷◌, Bool, true, false, ◌&&◌, Option, None, Some, map, fold, refl, sym, ◌∙◌, ap, subst, arith, false≢true, AppId, AttemptId, ContainerId, Grant, is_app, same_app, AppRow, AttemptState, Current, RowChange, AttemptChange, Scene, Tables, changed, current_after, row_of, with_row, closed_in, rows_after_grant, BookRow, BookOf, Row, AppRecord, Records, record_of, History, abstract_scene, Settings, not, has_container, attempt_was_first, was_first}
use Rattle.std.proofs.Common.{◌==◌, option_map, nat_lt}
use Rattle.rm_types.specs.declared.containers.ClosingOf.{ClosingOf}
use Rattle.rm_states.specs.declared.attempt.states.AttemptState.TheVariants as attempts
use Rattle.rm_states.specs.attempt.Table.{is_alive, next_attempt_state}
use Rattle.rm_states.specs.declared.attempt.states.AttemptEvent.TheVariants as attempt_events
use Rattle.rm_tables.specs.declared.changes.AttemptChange.TheVariants as of_attempt
use Rattle.rm_tables.specs.declared.changes.RowChange.TheVariants as of_app
use Rattle.rm_tables.specs.declared.rows.Dialogue.{Dialogue}
use Rattle.rm_tables.specs.LateRows.{is_late_row}
use Rattle.rm_tables.specs.Changes.{attempt_after, granted_at}
use Rattle.rm_model.specs.MasterReplies.{is_late}
use Rattle.rm_refinement.specs.Services.{LateAgrees, LateSince, lives_by, lives_with}
use Rattle.rm_invariant.specs.apps.View.{changed_if}
use Rattle.rm_invariant.specs.auxiliary.Around.{AreToldUpTo, IsToldUpTo, AroundInvariant}
use Rattle.rm_invariant.proofs.apps.Found.{row_changed}
use Rattle.rm_invariant.proofs.events.Told.{rows_told, telling_more}
use Rattle.rm_refinement.specs.Agreement.{closings_for}
use Rattle.rm_model.specs.Facts.{keeps, app_goes_on}
use Rattle.rm_model.specs.Containers.{is_earlier}
use Rattle.rm_model.specs.Attempts.{is_masters}
use Rattle.rm_model.specs.State.{new_life}
use Rattle.rm_tables.specs.Leaving.{is_masters_in}
use Rattle.rm_book.specs.Books.{TellUpTo}
use Rattle.rm_invariant.proofs.auxiliary.AroundBook.{late_by, late_told_by}

-- ROWS THAT GO ON

-- nobody speaks with its master; or its dialogue is that of the row before, and an attempt that lives by it lived by that one
abbrev pub GoesOn : List (AppId × Option AppRow) → AppId → AppRow → Type 0
GoesOn rows id now =
    (now.dialogue ≡ None)
    ⊎ ((was : AppRow) × (row_of rows id ≡ Some was) × (now.dialogue ≡ was.dialogue) × ((q : AttemptId) → lives_with q now.current ≡ true → lives_with q was.current ≡ true))

abbrev pub RowsGoOn : List (AppId × Option AppRow) → List (AppId × Option AppRow) → Type 0
RowsGoOn rows next = (id : AppId) (now : AppRow) → row_of next id ≡ Some now → GoesOn rows id now

pub none_go : (rows : List (AppId × Option AppRow)) → RowsGoOn rows rows
none_go rows id now found = inr (now, found, refl, λ q lives. lives)

pub one_goes : (id : AppId) (f : AppRow → AppRow) (rows : List (AppId × Option AppRow)) → ((row : AppRow) → row_of rows id ≡ Some row → GoesOn rows id (f row)) → RowsGoOn rows (with_row f id rows)
one_goes id f rows own q now found = by (is_app id q) refl (row_of rows q) refl (sym (row_changed f id q rows) ∙ found)
  where
    by : (b : Bool) → is_app id q ≡ b → (o : Option AppRow) → row_of rows q ≡ o → changed_if b f o ≡ Some now → GoesOn rows q now
    by true e None there same = cc
    by true e (Some was) there same =
        let here : id ≡ q = same_app id q e in
        let after : f was ≡ now = cc in
        subst (λ (row : AppRow). GoesOn rows q row) after (subst (λ (one : AppId). GoesOn rows one (f was)) here (own was (ap (row_of rows) here ∙ there)))
    by false e o there same = inr (now, there ∙ same, refl, λ z lives. lives)

then_go : (rows middle next : List (AppId × Option AppRow)) → RowsGoOn rows middle → RowsGoOn middle next → RowsGoOn rows next
then_go rows middle next first second id now found = by (second id now found)
  where
    by : GoesOn middle id now → GoesOn rows id now
    by (inl none) = inl none
    by (inr (was, there, same, back)) = earlier (first id was there)
      where
        earlier : GoesOn rows id was → GoesOn rows id now
        earlier (inl none) = inl (same ∙ none)
        earlier (inr (one, here, alike, before)) = inr (one, here, same ∙ alike, λ q lives. before q (back q lives))

-- a change that makes no attempt live: another one is scheduled by it, or none is saved by it
abbrev pub saves_none : RowChange → Bool
saves_none (of_app.OfAttempt of_attempt.Keep) = false
saves_none _ = true

abbrev schedules_none : RowChange → Bool
schedules_none (of_app.Schedule number) = false
schedules_none _ = true

and_alive : (n : Bool) (a b : Bool) → (b ≡ true → a ≡ true) → (n && b) ≡ true → (n && a) ≡ true
and_alive true a b back h = back h
and_alive false a b back h = h

granted_back : (q : AttemptId) (container : ContainerId) (current : Current) (s : AttemptState) → current.state ≡ s → lives_with q (Some (granted_at s container current)) ≡ true → lives_with q (Some current) ≡ true
granted_back q container current attempts.Scheduled is lives = absurd (by (current.number == q.number) lives)
  where
    by : (b : Bool) → (b && false) ≡ true → ⊥
    by true e = cc
    by false e = cc
granted_back q container current _ is lives = lives

attempt_back : (q : AttemptId) (change : AttemptChange) → saves_none (of_app.OfAttempt change) ≡ true → (current : Current) → lives_with q (Some (attempt_after change current)) ≡ true → lives_with q (Some current) ≡ true
attempt_back q of_attempt.Keep other current lives = cc
attempt_back q (of_attempt.Grant container) other current lives = granted_back q container current current.state refl lives
attempt_back q of_attempt.Lose other current lives = lives
attempt_back q of_attempt.Requeue other current lives =
    and_alive (current.number == q.number) (is_alive current.state) (is_alive (next_attempt_state current.state attempt_events.Requeue)) (λ e. grind arith) lives
attempt_back q of_attempt.Issue other current lives =
    and_alive (current.number == q.number) (is_alive current.state) (is_alive (next_attempt_state current.state attempt_events.Issue)) (λ e. grind arith) lives
attempt_back q of_attempt.Finish other current lives =
    and_alive (current.number == q.number) (is_alive current.state) (is_alive (next_attempt_state current.state attempt_events.Finish)) (λ e. grind arith) lives
attempt_back q (of_attempt.End how) other current lives =
    and_alive (current.number == q.number) (is_alive current.state) (is_alive (next_attempt_state current.state attempt_events.End)) (λ e. grind arith) lives
attempt_back q (of_attempt.KeepEnd how) other current lives =
    and_alive (current.number == q.number) (is_alive current.state) (is_alive (next_attempt_state current.state attempt_events.EndKept)) (λ e. grind arith) lives

current_back : (q : AttemptId) (change : RowChange) → saves_none change ≡ true → schedules_none change ≡ true → (c : Option Current) → lives_with q (current_after change c) ≡ true → lives_with q c ≡ true
current_back q of_app.Issue other stays None lives = lives
current_back q of_app.Keep other stays None lives = lives
current_back q of_app.Wish other stays None lives = lives
current_back q of_app.Kill other stays None lives = lives
current_back q (of_app.Schedule number) other stays c lives = cc
current_back q of_app.Register other stays None lives = lives
current_back q of_app.End other stays None lives = lives
current_back q (of_app.KeepEnd how) other stays None lives = lives
current_back q (of_app.OfAttempt change) other stays None lives = lives
current_back q of_app.Issue other stays (Some current) lives = lives
current_back q of_app.Keep other stays (Some current) lives = lives
current_back q of_app.Wish other stays (Some current) lives = lives
current_back q of_app.Kill other stays (Some current) lives =
    and_alive (current.number == q.number) (is_alive current.state) (is_alive (next_attempt_state current.state attempt_events.End)) (λ e. grind arith) lives
current_back q of_app.Register other stays (Some current) lives =
    and_alive (current.number == q.number) (is_alive current.state) (is_alive (next_attempt_state current.state attempt_events.Register)) (λ e. grind arith) lives
current_back q of_app.End other stays (Some current) lives =
    and_alive (current.number == q.number) (is_alive current.state) (is_alive (next_attempt_state current.state attempt_events.Drop)) (λ e. grind arith) lives
current_back q (of_app.KeepEnd how) other stays (Some current) lives = lives
current_back q (of_app.OfAttempt change) other stays (Some current) lives = attempt_back q change other current lives

pub change_goes : (rows : List (AppId × Option AppRow)) (change : RowChange) → saves_none change ≡ true → (id : AppId) (row : AppRow) → row_of rows id ≡ Some row → GoesOn rows id (changed change row)
change_goes rows (of_app.Schedule number) other id row found = inl refl
change_goes rows of_app.Issue other id row found = inr (row, found, refl, λ q. current_back q of_app.Issue refl refl row.current)
change_goes rows of_app.Keep other id row found = inr (row, found, refl, λ q. current_back q of_app.Keep refl refl row.current)
change_goes rows of_app.Wish other id row found = inr (row, found, refl, λ q. current_back q of_app.Wish refl refl row.current)
change_goes rows of_app.Kill other id row found = inr (row, found, refl, λ q. current_back q of_app.Kill refl refl row.current)
change_goes rows of_app.Register other id row found = inr (row, found, refl, λ q. current_back q of_app.Register refl refl row.current)
change_goes rows of_app.End other id row found = inr (row, found, refl, λ q. current_back q of_app.End refl refl row.current)
change_goes rows (of_app.KeepEnd how) other id row found = inr (row, found, refl, λ q. current_back q (of_app.KeepEnd how) refl refl row.current)
change_goes rows (of_app.OfAttempt change) other id row found = inr (row, found, refl, λ q. current_back q (of_app.OfAttempt change) other refl row.current)

pub changed_go : (id : AppId) (change : RowChange) → saves_none change ≡ true → (rows : List (AppId × Option AppRow)) → RowsGoOn rows (with_row (changed change) id rows)
changed_go id change other rows = one_goes id (changed change) rows (change_goes rows change other id)

-- where endings are to be told, and where containers are granted
pub closed_go : (closings : List ClosingOf) (rows : List (AppId × Option AppRow)) → RowsGoOn rows (closed_in rows closings)
closed_go closings rows q now found = by (row_of rows q) refl (sym (rows_told closings rows q) ∙ found)
  where
    by : (o : Option AppRow) → row_of rows q ≡ o → option_map (telling_more (closings_for closings q)) o ≡ Some now → GoesOn rows q now
    by None there e = cc
    by (Some was) there e = let after : telling_more (closings_for closings q) was ≡ now = cc in inr (was, there, subst (λ (row : AppRow). row.dialogue ≡ was.dialogue) after refl, λ z. subst (λ (row : AppRow). lives_with z row.current ≡ true → lives_with z was.current ≡ true) after (λ lives. lives))

pub granted_go : (grants : List Grant) (rows : List (AppId × Option AppRow)) → RowsGoOn rows (fold rows_after_grant rows grants)
granted_go [] rows = none_go rows
granted_go (grant ∷ grants) rows =
    then_go rows (rows_after_grant rows grant) (fold rows_after_grant (rows_after_grant rows grant) grants)
    (changed_go grant.id.attempt.app (of_app.OfAttempt (of_attempt.Grant grant.id)) refl rows) (granted_go grants (rows_after_grant rows grant))

-- WHAT FOLLOWS OF ROWS THAT GO ON

-- masters were told before
pub told_still : (added more : ℕ) (rows next : List (AppId × Option AppRow)) → added ≤ more → RowsGoOn rows next → AreToldUpTo added rows → AreToldUpTo more next
told_still added more rows next few goes told id now found = by (goes id now found)
  where
    at : (d : Option Dialogue) → IsToldUpTo added d → IsToldUpTo more d
    at None is = tt
    at (Some one) is = omega (arith, is, few)

    by : GoesOn rows id now → IsToldUpTo more now.dialogue
    by (inl none) = rw none tt
    by (inr (was, there, same, back)) = rw same (at was.dialogue (told id was there))

-- what came late is told alike again, where a step leaves the rows of the book as late to each attempt that lives as they were
module _ (m n : Scene) (t u : Tables) (goes : RowsGoOn t.rows u.rows) (told : AreToldUpTo t.book.added t.rows)
    (still : (q : AttemptId) (since : ℕ) → since ≤ t.book.added → lives_by q (row_of t.rows q.app) ≡ true → lives_by q (row_of u.rows q.app) ≡ true
    → map (is_late_row t q since) t.book.rows ≡ map (is_late m q) m.life.book → map (is_late_row u q since) u.book.rows ≡ map (is_late n q) n.life.book) where
  pub late_stays : ((q : AttemptId) → LateAgrees m t q (row_of t.rows q.app)) → (q : AttemptId) → LateAgrees n u q (row_of u.rows q.app)
  late_stays late q = by (row_of u.rows q.app) refl
    where
      since : (d : Option Dialogue) → IsToldUpTo t.book.added d → lives_by q (row_of t.rows q.app) ≡ true → lives_by q (row_of u.rows q.app) ≡ true → LateSince m t q d → LateSince n u q d
      since None few was is agrees = tt
      since (Some one) few was is agrees = still q one.told few was is agrees

      by : (o : Option AppRow) → row_of u.rows q.app ≡ o → LateAgrees n u q o
      by None found = tt
      by (Some now) found = λ lives. of lives (goes q.app now found)
        where
          of : lives_with q now.current ≡ true → GoesOn t.rows q.app now → LateSince n u q now.dialogue
          of lives (inl none) = rw none tt
          of lives (inr (was, there, same, back)) =
              let before : LateAgrees m t q (Some was) = rw there at (late q) in
              let lived : lives_by q (row_of t.rows q.app) ≡ true = ap (lives_by q) there ∙ back q lives in
              rw same (since was.dialogue (told q.app was there) lived (ap (lives_by q) found ∙ lives) (before (back q lives)))

-- A STEP THAT CHANGES NEITHER THE BOOK NOR WHAT IS RECORDED

module _ (h g : History) (t next : Tables) (settings : next.settings ≡ t.settings) (epoch : next.epoch ≡ t.epoch) (departed : next.departed ≡ t.departed) (pending : next.pending ≡ t.pending) (in_book : next.book ≡ t.book) (tree : next.tree ≡ t.tree)
    (book : g.book ≡ h.book) (left : g.endings.left ≡ h.endings.left) (waiting : g.endings.pending ≡ h.endings.pending) (goes : RowsGoOn t.rows next.rows)
    (firsts : (id : AttemptId) → app_goes_on (record_of next.tree.apps id.app) ≡ true → was_first id (row_of next.rows id.app) ≡ attempt_was_first (abstract_scene g next) id) where
  recovers : next.settings.recover_ended_containers ≡ true → t.settings.recover_ended_containers ≡ true
  recovers r = ap (λ (s : Settings). s.recover_ended_containers) (sym settings) ∙ r

  late_same : (q : AttemptId) (since : ℕ) → map (is_late_row t q since) t.book.rows ≡ map (is_late (abstract_scene h t) q) h.book → map (is_late_row next q since) next.book.rows ≡ map (is_late (abstract_scene g next) q) g.book
  late_same q since e =
      subst (λ (r : Records). map (late_by r.apps q since) next.book.rows ≡ map (late_told_by r q) g.book) (sym tree)
      (subst (λ (b : BookOf). map (late_by t.tree.apps q since) b.rows ≡ map (late_told_by t.tree q) g.book) (sym in_book)
      (subst (λ (rows : List Row). map (late_by t.tree.apps q since) t.book.rows ≡ map (late_told_by t.tree q) rows) (sym book) e))

  pub same_around : AroundInvariant h t → AroundInvariant g next
  same_around a =
      record {
        agrees = record {
          firsts = firsts;
          departed = λ r id below. ap (λ (ids : List ContainerId). has_container ids id) departed ∙ a.agrees.departed (recovers r) id (ap (nat_lt id.epoch) (sym epoch) ∙ below) ∙ ap (λ (ids : List ContainerId). has_container ids id) (sym left);
          pending = λ r id. ap (λ (ids : List ContainerId). has_container ids id) pending ∙ a.agrees.pending (recovers r) id ∙ ap (λ (ids : List ContainerId). has_container ids id) (sym waiting);
          numbers = λ r. subst (λ (b : BookOf). TellUpTo 0 b.added b.rows) (sym in_book) (a.agrees.numbers (recovers r));
          late = λ r. late_stays (abstract_scene h t) (abstract_scene g next) t next goes a.told (λ q since few was is e. late_same q since e) (a.agrees.late (recovers r));
        };
        told = subst (λ (b : BookOf). AreToldUpTo b.added next.rows) (sym in_book) (told_still t.book.added t.book.added t.rows next.rows (omega arith) goes a.told);
      }
