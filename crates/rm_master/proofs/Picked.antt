-- Rows that the tables and the judge pick alike make the same grants, and what the code picks of an application's rows is what is told.
use Rattle.rm_master.proofs.Common.{◌≡◌, ℕ, List, [], ◌∷◌, Bool, true, false, not, ◌&&◌, ◌||◌, filter, map, refl, sym, ◌∙◌, ap, arith, subst, nat_tests, BookRow, Grant, AttemptId, Row, Tables, is_app, is_attempt, is_masters_in, SameRows}
use Rattle.std.proofs.Common.{nat_lt}
use Rattle.rm_types.specs.declared.ids.AppId.{AppId}
use Rattle.rm_types.specs.Containers.{is_granted}
use Rattle.rm_book.specs.Books.{BookRowsAreApart}
use Rattle.rm_book.specs.Granted.{AllMayBeTold, grants_to, grants_where, row_grant}
use Rattle.rm_book.proofs.UntoldGrants.{granted_to_told, told_filter}
use Rattle.rm_model.specs.Containers.{is_earlier}
use Rattle.rm_model.specs.Facts.{keeps}
use Rattle.rm_model.specs.MasterReplies.{grant_of}
use Rattle.rm_refinement.specs.Agreement.{PlainRow, bare_row, plain_row}
use Rattle.rm_tables.specs.Actions.{found_in}
use Rattle.rm_tables.specs.LateRows.{is_late_row}
use Rattle.rm_master.specs.Answers.{own_grants}
use Rattle.rm_master.specs.Told.{grants_told, is_left_row, is_new_row, is_told_row, kept_told}

-- THE TABLES AND THE JUDGE

-- rows that two tests pick in the same places make the same grants
pub picked_same : (p : BookRow → Bool) (q : Row → Bool) (rows : List BookRow) (book : List Row) → SameRows rows book → map p rows ≡ map q book → map row_grant (filter p rows) ≡ map grant_of (filter q book)
picked_same p q [] [] same tests = refl
picked_same p q [] (one ∷ book) same tests = cc
picked_same p q (row ∷ rows) [] same tests = cc
picked_same p q (row ∷ rows) (one ∷ book) same tests =
    let first : bare_row row ≡ plain_row one = cc in
    let rest : map bare_row rows ≡ map plain_row book = cc in
    let test : p row ≡ q one = cc in
    let more : map p rows ≡ map q book = cc in
    by (q one) refl test (ap (λ (x : PlainRow). record { id = x.id; node = x.node; size = x.size }) first) (picked_same p q rows book rest more)
  where
    by : (b : Bool) → q one ≡ b → p row ≡ q one → row_grant row ≡ grant_of one → map row_grant (filter p rows) ≡ map grant_of (filter q book) → map row_grant (filter p (row ∷ rows)) ≡ map grant_of (filter q (one ∷ book))
    by true e test grant rest = let own = test ∙ e in rw (own, e, grant) (ap (λ (more : List Grant). grant_of one ∷ more) rest)
    by false e test grant rest = let own = test ∙ e in rw (own, e) rest

-- a test that looks at what both have
pub tests_same : (r : PlainRow → Bool) (rows : List BookRow) (book : List Row) → SameRows rows book → map (λ row. r (bare_row row)) rows ≡ map (λ one. r (plain_row one)) book
tests_same r [] [] same = refl
tests_same r [] (one ∷ book) same = cc
tests_same r (row ∷ rows) [] same = cc
tests_same r (row ∷ rows) (one ∷ book) same =
    let first : bare_row row ≡ plain_row one = cc in
    let rest : map bare_row rows ≡ map plain_row book = cc in
    rw (ap r first, tests_same r rows book rest) refl

-- two tests together, of which the first counts or doesn't
both_tests : (l p : BookRow → Bool) (k q : Row → Bool) (rows : List BookRow) (book : List Row) → map l rows ≡ map k book → map p rows ≡ map q book → map (λ row. l row || p row) rows ≡ map (λ one. k one || q one) book
both_tests l p k q [] [] late new = refl
both_tests l p k q [] (one ∷ book) late new = cc
both_tests l p k q (row ∷ rows) [] late new = cc
both_tests l p k q (row ∷ rows) (one ∷ book) late new =
    let here : l row ≡ k one = cc in
    let there : p row ≡ q one = cc in
    let more_late : map l rows ≡ map k book = cc in
    let more_new : map p rows ≡ map q book = cc in
    rw (here, there, both_tests l p k q rows book more_late more_new) refl

pub tests_or : (b : Bool) (l p : BookRow → Bool) (k q : Row → Bool) (rows : List BookRow) (book : List Row) → (b ≡ true → map l rows ≡ map k book) → map p rows ≡ map q book
    → map (λ row. (b && l row) || p row) rows ≡ map (λ one. (b && k one) || q one) book
tests_or true l p k q rows book late new = both_tests l p k q rows book (late refl) new
tests_or false l p k q rows book late new = new

-- THE CODE

-- what is picked among an application's rows, by a test that only they pass
pub within_app : (app : AppId) (p : BookRow → Bool) → ((row : BookRow) → is_app row.id.attempt.app app ≡ false → p row ≡ false) → (rows : List BookRow) → grants_where app p rows ≡ map row_grant (filter p rows)
within_app app p only [] = refl
within_app app p only (row ∷ rows) = by (is_app row.id.attempt.app app) refl (p row) refl (within_app app p only rows)
  where
    by : (a : Bool) → is_app row.id.attempt.app app ≡ a → (b : Bool) → p row ≡ b → grants_where app p rows ≡ map row_grant (filter p rows) → grants_where app p (row ∷ rows) ≡ map row_grant (filter p (row ∷ rows))
    by true e true f rest = rw (e, f) (ap (λ (more : List Grant). row_grant row ∷ more) rest)
    by true e false f rest = rw (e, f) rest
    by false e b f rest = let none = only row e in rw (e, none) rest

nothing_late : (a b : Bool) → (a && (b && false)) ≡ false
nothing_late true true = refl
nothing_late true false = refl
nothing_late false b = refl

module _ (t : Tables) (attempt : AttemptId) where
  pub left_only : (row : BookRow) → is_app row.id.attempt.app attempt.app ≡ false → is_left_row t attempt row ≡ false
  left_only row e = rw e refl

  pub told_only : (told : ℕ) (row : BookRow) → is_app row.id.attempt.app attempt.app ≡ false → is_told_row t attempt told row ≡ false
  told_only told row e = rw e (ap (λ (b : Bool). b || false) (nothing_late t.settings.recover_ended_containers (keeps (found_in t attempt.app))))

  abbrev new_ones : List BookRow → List Grant
  new_ones rows = filter (λ grant. not (is_masters_in t.tree.apps grant.id)) (grants_to rows attempt)

  -- where nothing can have come late
  never_late : (a b c : Bool) → (a && b) ≡ false → (a && (b && c)) ≡ false
  never_late true true c e = cc
  never_late true false c e = refl
  never_late false b c e = refl

  pub new_alone : (told : ℕ) → (t.settings.recover_ended_containers && keeps (found_in t attempt.app)) ≡ false → (rows : List BookRow) → new_ones rows ≡ map row_grant (filter (is_told_row t attempt told) rows)
  new_alone told none [] = refl
  new_alone told none (row ∷ rows) =
      let late = never_late t.settings.recover_ended_containers (keeps (found_in t attempt.app)) (is_earlier row.id.attempt attempt && (nat_lt told row.told && not (is_masters_in t.tree.apps row.id))) none in
      by late (is_attempt row.id.attempt attempt) (is_granted row.state) (is_masters_in t.tree.apps row.id) refl refl refl (new_alone told none rows)
    where
      by : (t.settings.recover_ended_containers && is_late_row t attempt told row) ≡ false
          → (a b c : Bool) → is_attempt row.id.attempt attempt ≡ a → is_granted row.state ≡ b → is_masters_in t.tree.apps row.id ≡ c
          → new_ones rows ≡ map row_grant (filter (is_told_row t attempt told) rows) → new_ones (row ∷ rows) ≡ map row_grant (filter (is_told_row t attempt told) (row ∷ rows))
      by late false b c e f g rest = rw (late, e) rest
      by late true false c e f g rest = rw (late, e, f) rest
      by late true true true e f g rest = rw (late, e, f, g) rest
      by late true true false e f g rest = rw (late, e, f, g) (ap (λ (more : List Grant). row_grant row ∷ more) rest)

  not_earlier : (q : AttemptId) → is_attempt q attempt ≡ true → is_earlier q attempt ≡ false
  not_earlier q e = grind (arith, nat_tests)

  -- the attempt's own among what is told
  own_new : (told : ℕ) (rows : List BookRow) → own_grants attempt (map row_grant (filter (is_told_row t attempt told) rows)) ≡ new_ones rows
  own_new told [] = refl
  own_new told (row ∷ rows) = by (is_attempt row.id.attempt attempt) refl (own_new told rows)
    where
      late_none : is_attempt row.id.attempt attempt ≡ true → (t.settings.recover_ended_containers && is_late_row t attempt told row) ≡ false
      late_none e = let none = not_earlier row.id.attempt e in rw none (nothing_late t.settings.recover_ended_containers (keeps (found_in t attempt.app)))

      own : is_attempt row.id.attempt attempt ≡ true → (t.settings.recover_ended_containers && is_late_row t attempt told row) ≡ false → (b c : Bool) → is_granted row.state ≡ b → is_masters_in t.tree.apps row.id ≡ c
          → own_grants attempt (map row_grant (filter (is_told_row t attempt told) rows)) ≡ new_ones rows → own_grants attempt (map row_grant (filter (is_told_row t attempt told) (row ∷ rows))) ≡ new_ones (row ∷ rows)
      own e late false c f g rest = rw (late, e, f) rest
      own e late true true f g rest = rw (late, e, f, g) rest
      own e late true false f g rest = rw (late, e, f, g, e) (ap (λ (more : List Grant). row_grant row ∷ more) rest)

      other : is_attempt row.id.attempt attempt ≡ false → (b : Bool) → is_told_row t attempt told row ≡ b
          → own_grants attempt (map row_grant (filter (is_told_row t attempt told) rows)) ≡ new_ones rows → own_grants attempt (map row_grant (filter (is_told_row t attempt told) (row ∷ rows))) ≡ new_ones (row ∷ rows)
      other e true f rest = rw (f, e) rest
      other e false f rest = rw (f, e) rest

      by : (b : Bool) → is_attempt row.id.attempt attempt ≡ b
          → own_grants attempt (map row_grant (filter (is_told_row t attempt told) rows)) ≡ new_ones rows → own_grants attempt (map row_grant (filter (is_told_row t attempt told) (row ∷ rows))) ≡ new_ones (row ∷ rows)
      by true e rest = own e (late_none e) (is_granted row.state) (is_masters_in t.tree.apps row.id) refl refl rest
      by false e rest = other e (is_told_row t attempt told row) refl rest

  -- may be told of still
  pub own_told : (told : ℕ) (rows : List BookRow) → BookRowsAreApart rows → AllMayBeTold rows (own_grants attempt (map row_grant (filter (is_told_row t attempt told) rows)))
  own_told told rows apart =
      subst (AllMayBeTold rows) (sym (own_new told rows))
      (told_filter rows (λ grant. not (is_masters_in t.tree.apps grant.id)) (grants_to rows attempt) (granted_to_told attempt rows apart))
