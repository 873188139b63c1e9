-- After a message of a master, what came late to each attempt is still what is untold: the master that was answered was told of all rows, and
-- no row of another application changes.
use Rattle.rm_master.proofs.Common.{◌≡◌, ℕ, List, [], ◌∷◌, Bool, true, false, not, ◌&&◌, ◌||◌, Option, None, Some, filter, map, option_map, refl, sym, ◌∙◌, ap, subst, arith, ◌==◌, false≢true, nat_tests, BookRow, AttemptId, ContainerId, is_app, is_attempt, is_alive, Row, Scene, AppRow, Dialogue, Tables, row_of, SameRows, RefinesLife}
use Rattle.std.proofs.Common.{◌<◌, ◌≤◌, nat_lt}
use Rattle.rm_types.specs.declared.ids.AppId.{AppId}
use Rattle.rm_types.specs.Ids.{is_container}
use Rattle.rm_types.proofs.IdLemmas.{container_itself, same_app, same_attempt, same_container}
use Rattle.rm_book.specs.Books.{BookOf, TellUpTo}
use Rattle.rm_model.specs.Attempts.{is_masters}
use Rattle.rm_model.specs.Containers.{is_earlier}
use Rattle.rm_model.specs.Facts.{has_container, keeps, kept_record}
use Rattle.rm_model.specs.MasterReplies.{is_late}
use Rattle.rm_tables.specs.declared.rows.Current.{Current}
use Rattle.rm_tables.specs.Absorbing.{was_first}
use Rattle.rm_tables.specs.Actions.{found_in}
use Rattle.rm_tables.specs.LateRows.{is_late_row}
use Rattle.rm_tables.specs.Leaving.{is_masters_in}
use Rattle.rm_tables.specs.Rows.{with_row}
use Rattle.rm_refinement.specs.Services.{LateAgrees, LateSince, lives_with}
use Rattle.rm_refinement.proofs.AppRows.{other_row, own_row}
use Rattle.rm_master.proofs.Picked.{tests_same}
use Rattle.rm_master.proofs.Replies.{Lives}

-- LISTS

-- each of these that passes a test has its container among the others
abbrev pub Covered : (Row → Bool) → List ContainerId → List Row → Type 0
Covered p told [] = Unit {0}
Covered p told (one ∷ book) = (p one ≡ true → has_container told one.id ≡ true) × Covered p told book

covered_more : (p : Row → Bool) (id : ContainerId) (told : List ContainerId) (book : List Row) → Covered p told book → Covered p (id ∷ told) book
covered_more p id told [] covered = tt
covered_more p id told (one ∷ book) covered = ((λ e. or_true (is_container id one.id) (covered.0 e)), covered_more p id told book covered.1)
  where
    or_true : (a : Bool) {b : Bool} → b ≡ true → (a || b) ≡ true
    or_true true e = refl
    or_true false e = e

pub covered_all : (p : Row → Bool) (book : List Row) → Covered p (map (λ one. one.id) (filter p book)) book
covered_all p [] = tt
covered_all p (one ∷ book) = by (p one) refl (covered_all p book)
  where
    picked : p one ≡ true → filter p (one ∷ book) ≡ one ∷ filter p book
    picked e = rw e refl

    passed : p one ≡ false → filter p (one ∷ book) ≡ filter p book
    passed e = rw e refl

    by : (b : Bool) → p one ≡ b → Covered p (map (λ x. x.id) (filter p book)) book → Covered p (map (λ x. x.id) (filter p (one ∷ book))) (one ∷ book)
    by true e rest =
        subst (λ (rows : List Row). Covered p (map (λ (x : Row). x.id) rows) (one ∷ book)) (sym (picked e))
        ((λ f. ap (λ (b : Bool). b || has_container (map (λ (x : Row). x.id) (filter p book)) one.id) (container_itself one.id)), covered_more p one.id (map (λ (x : Row). x.id) (filter p book)) book rest)
    by false e rest =
        subst (λ (rows : List Row). Covered p (map (λ (x : Row). x.id) rows) (one ∷ book)) (sym (passed e)) ((λ f. absurd (false≢true (sym e ∙ f))), rest)

-- containers of one application
abbrev pub AreOf : AppId → List ContainerId → Type 0
AreOf app [] = Unit {0}
AreOf app (id ∷ ids) = (is_app id.attempt.app app ≡ true) × AreOf app ids

pub picked_of : (app : AppId) (p : Row → Bool) → ((one : Row) → p one ≡ true → is_app one.id.attempt.app app ≡ true) → (book : List Row) → AreOf app (map (λ one. one.id) (filter p book))
picked_of app p only [] = tt
picked_of app p only (one ∷ book) = by (p one) refl (picked_of app p only book)
  where
    by : (b : Bool) → p one ≡ b → AreOf app (map (λ x. x.id) (filter p book)) → AreOf app (map (λ x. x.id) (filter p (one ∷ book)))
    by true e rest = rw e (only one e, rest)
    by false e rest = rw e rest

not_there : (app : AppId) (ids : List ContainerId) (id : ContainerId) → AreOf app ids → is_app id.attempt.app app ≡ false → has_container ids id ≡ false
not_there app [] id of_app apart = refl
not_there app (one ∷ ids) id of_app apart = by (is_container one id) refl (not_there app ids id of_app.1 apart)
  where
    by : (b : Bool) → is_container one id ≡ b → has_container ids id ≡ false → (b || has_container ids id) ≡ false
    by true e rest =
        let own : is_app id.attempt.app app ≡ true = subst (λ (x : ContainerId). is_app x.attempt.app app ≡ true) (same_container one id e) of_app.0 in
        absurd (false≢true (sym apart ∙ own))
    by false e rest = rest

-- THE TABLES

-- nothing came late to an attempt that was told of all rows
none_past : (t : Tables) (attempt : AttemptId) (least added : ℕ) (rows : List BookRow) → TellUpTo least added rows → map (is_late_row t attempt added) rows ≡ map (λ row. false) rows
none_past t attempt least added [] told = refl
none_past t attempt least added (row ∷ rows) told =
    let early : nat_lt added row.told ≡ false = within (upper row.told rows told.1) in
    rw (early, none_past t attempt row.told added rows told.1) (ap (λ (b : Bool). b ∷ map (λ one. false) rows) (none (keeps (found_in t attempt.app)) (is_earlier row.id.attempt attempt)))
  where
    none : (a b : Bool) → (a && (b && false)) ≡ false
    none true true = refl
    none true false = refl
    none false b = refl

    upper : (low : ℕ) (more : List BookRow) → TellUpTo low added more → low ≤ added
    upper low [] h = h
    upper low (one ∷ more) h = let rest = upper one.told more h.1 in omega (arith, h.0, rest)

    within : row.told ≤ added → nat_lt added row.told ≡ false
    within h = grind (arith, nat_tests)

-- THE JUDGE

-- nothing is late any more of what was told
pub none_late : (m : Scene) (attempt : AttemptId) (p : Row → Bool) (told : List ContainerId) (g : Row → Row) → ((one : Row) → (p one ≡ true → has_container told one.id ≡ true) → is_late m attempt (g one) ≡ false)
    → (book : List Row) → Covered p told book → map (is_late m attempt) (map g book) ≡ map (λ one. false) (map g book)
none_late m attempt p told g goes [] covered = refl
none_late m attempt p told g goes (one ∷ book) covered = rw (goes one covered.0, none_late m attempt p told g goes book covered.1) refl

-- a row of which others were told is as late to an attempt of another application as before
pub late_apart : (m : Scene) (q : AttemptId) (app : AppId) (told : List ContainerId) → AreOf app told → is_app app q.app ≡ false → (one : Row)
    → (keeps (kept_record m q.app) && (is_earlier one.id.attempt q && ((one.untold && not (has_container told one.id)) && not (is_masters m one.id)))) ≡ is_late m q one
late_apart m q app told of_app apart one = by (is_earlier one.id.attempt q) refl
  where
    elsewhere : is_earlier one.id.attempt q ≡ true → is_app one.id.attempt.app app ≡ false
    elsewhere e = grind (arith, nat_tests)

    stays : (b : Bool) → (b && true) ≡ b
    stays true = refl
    stays false = refl

    by : (b : Bool) → is_earlier one.id.attempt q ≡ b
        → (keeps (kept_record m q.app) && (b && ((one.untold && not (has_container told one.id)) && not (is_masters m one.id)))) ≡ (keeps (kept_record m q.app) && (b && (one.untold && not (is_masters m one.id))))
    by true e = rw (not_there app told one.id of_app (elsewhere e)) (ap (λ (b : Bool). keeps (kept_record m q.app) && (b && not (is_masters m one.id))) (stays one.untold))
    by false e = refl

-- BOTH

-- to an attempt that was told of all rows nothing came late, by both
pub told_now : (m : Scene) (t : Tables) (attempt : AttemptId) (added : ℕ) (rows : List BookRow) (book : List Row) → TellUpTo 0 added rows → SameRows rows book → map (is_late m attempt) book ≡ map (λ one. false) book
    → map (is_late_row t attempt added) rows ≡ map (is_late m attempt) book
told_now m t attempt added rows book numbers same none = none_past t attempt 0 added rows numbers ∙ tests_same (λ row. false) rows book same ∙ sym none

-- where the row of an attempt that lives changes, its new dialogue and the book agree, and nothing changes for attempts of other applications
module _ (m : Scene) (t : Tables) (attempt : AttemptId) (shows : RefinesLife m t) (here : Lives m t attempt) (f : AppRow → AppRow) (next : Current) (next_is : (f here.row).current ≡ Some next) (number : next.number ≡ here.current.number) where
  rows_found : row_of (with_row f attempt.app t.rows) attempt.app ≡ Some (f here.row)
  rows_found = own_row f attempt.app t.rows ∙ ap (option_map f) here.found

  pub firsts_again : ((row : AppRow) → (f row).first ≡ row.first) → (id : AttemptId) → was_first id (row_of (with_row f attempt.app t.rows) id.app) ≡ was_first id (row_of t.rows id.app)
  firsts_again same id = by (is_app attempt.app id.app) refl
    where
      kept : (o : Option AppRow) → was_first id (option_map f o) ≡ was_first id o
      kept None = refl
      kept (Some row) = rw (same row) refl

      by : (b : Bool) → is_app attempt.app id.app ≡ b → was_first id (row_of (with_row f attempt.app t.rows) id.app) ≡ was_first id (row_of t.rows id.app)
      by false e = ap (was_first id) (other_row f attempt.app id.app t.rows e)
      by true e =
          subst (λ (z : AppId). was_first id (row_of (with_row f attempt.app t.rows) z) ≡ was_first id (row_of t.rows z)) (same_app attempt.app id.app e)
          (ap (was_first id) (own_row f attempt.app t.rows) ∙ kept (row_of t.rows attempt.app))

  pub late_again : (new_m : Scene) (new_t : Tables) → t.settings.recover_ended_containers ≡ true
      → ((q : AttemptId) (told : ℕ) → is_app attempt.app q.app ≡ false → map (is_late_row t q told) t.book.rows ≡ map (is_late m q) m.life.book → map (is_late_row new_t q told) new_t.book.rows ≡ map (is_late new_m q) new_m.life.book)
      → LateSince new_m new_t attempt (f here.row).dialogue → (q : AttemptId) → LateAgrees new_m new_t q (row_of (with_row f attempt.app t.rows) q.app)
  late_again new_m new_t recovers others own q = by (is_app attempt.app q.app) refl
    where
      same_number : (n : ℕ) → (n == attempt.number) ≡ true → (n == q.number) ≡ true → is_app attempt.app q.app ≡ true → is_attempt attempt q ≡ true
      same_number n e g h = grind (arith, nat_tests)

      since : is_app attempt.app q.app ≡ false → (d : Option Dialogue) → LateSince m t q d → LateSince new_m new_t q d
      since e None late = tt
      since e (Some one) late = others q one.told e late

      agrees : is_app attempt.app q.app ≡ false → (o : Option AppRow) → LateAgrees m t q o → LateAgrees new_m new_t q o
      agrees e None late = tt
      agrees e (Some row) late = λ lives. since e row.dialogue (late lives)

      alone : is_app attempt.app q.app ≡ true → (c : Option Current) → c ≡ Some next → lives_with q c ≡ true → LateSince new_m new_t q (f here.row).dialogue
      alone e None is lives = cc
      alone e (Some current) is lives =
          let one : current ≡ next = cc in
          let n : (next.number == attempt.number) ≡ true = rw number here.number in
          let k : (next.number == q.number) ≡ true = rw (← one) (first (current.number == q.number) (is_alive current.state) lives) in
          subst (λ (z : AttemptId). LateSince new_m new_t z (f here.row).dialogue) (same_attempt attempt q (same_number next.number n k e)) own
        where
          first : (a b : Bool) → (a && b) ≡ true → a ≡ true
          first true b e = refl
          first false b e = cc

      by : (b : Bool) → is_app attempt.app q.app ≡ b → LateAgrees new_m new_t q (row_of (with_row f attempt.app t.rows) q.app)
      by false e = rw (other_row f attempt.app q.app t.rows e) (agrees e (row_of t.rows q.app) (shows.around.late recovers q))
      by true e =
          subst (λ (z : AppId). LateAgrees new_m new_t q (row_of (with_row f attempt.app t.rows) z)) (same_app attempt.app q.app e)
          (rw rows_found (λ lives. alone e (f here.row).current next_is lives))
