-- What came late is told alike, and rows stay numbered, in a book that containers left, that a report was absorbed into, or in which some were
-- granted.
use Rattle.rm_invariant.proofs.Common.{◌≡◌, ◌≤◌, ℕ, ◌+◌, List, [], ◌∷◌, ◌++◌, Bool, true, false, ◌&&◌, not, Option, None, Some, map, filter, length, refl, sym, ◌∙◌, ap, subst, arith, nat_tests, list_any, false≢true, AppId, AttemptId, ContainerId, Grant, Held, is_app, is_container, same_app, BookRow, BookOf, Row, AppRecord, Records, record_of, has_container, AppRow, row_of, is_held}
use Rattle.std.proofs.Common.{◌==◌, nat_lt, append-nil, append_assoc}
use Rattle.std.proofs.lemmas.List.{map-append}
use Rattle.rm_model.specs.Absorbing.{row_absorbed, row_taken}
use Rattle.rm_model.specs.Attempts.{is_masters}
use Rattle.rm_model.specs.Containers.{is_earlier}
use Rattle.rm_model.specs.Facts.{keeps}
use Rattle.rm_model.specs.Passing.{row_granted}
use Rattle.rm_model.specs.State.{Scene, new_life}
use Rattle.rm_book.specs.Books.{TellUpTo, book_row_taken, granted_rows, taken_rows}
use Rattle.rm_book.proofs.Rows.{told_push}
use Rattle.rm_tables.specs.Leaving.{is_masters_in}
use Rattle.rm_refinement.specs.Agreement.{PlainRow, SameRows, bare_row, plain_row}
use Rattle.rm_refinement.specs.Services.{lives_by, lives_with}
use Rattle.rm_refinement.proofs.Late.{still_each}
use Rattle.rm_invariant.specs.events.Asking.{AreNext, is_current_number}
use Rattle.rm_invariant.proofs.masters.Masters.{masters_same}
use Rattle.rm_types.specs.declared.containers.ContainerState.TheVariants.{Granted, Running}

-- a row came late, by what is recorded
abbrev pub late_by : List AppRecord → AttemptId → ℕ → BookRow → Bool
late_by apps q since row = keeps (record_of apps q.app) && (is_earlier row.id.attempt q && (nat_lt since row.told && not (is_masters_in apps row.id)))

-- a scene in which this is recorded
abbrev pub scene_of : Records → Scene
scene_of r = record { records = r; awaiting = []; life = new_life 0 0 r }

abbrev pub late_told_by : Records → AttemptId → Row → Bool
late_told_by r q row = keeps (record_of r.apps q.app) && (is_earlier row.id.attempt q && (row.untold && not (is_masters (scene_of r) row.id)))

-- CONTAINERS LEAVE

module _ (P : BookRow → Bool) (Q : Row → Bool) (ids : List ContainerId) where
  pub late_left : (rows : List BookRow) (book : List Row) → SameRows rows book → map P rows ≡ map Q book
      → map P (filter (λ row. not (list_any (λ id. is_container id row.id) ids)) rows) ≡ map Q (filter (λ row. not (has_container ids row.id)) book)
  late_left [] [] same e = refl
  late_left [] (one ∷ book) same e = cc
  late_left (row ∷ rows) [] same e = cc
  late_left (row ∷ rows) (one ∷ book) same e = by (has_container ids row.id) refl (late_left rows book rest tests)
    where
      head : bare_row row ≡ plain_row one
      head = let x : bare_row row ∷ map bare_row rows ≡ plain_row one ∷ map plain_row book = same in cc

      rest : SameRows rows book
      rest = let x : bare_row row ∷ map bare_row rows ≡ plain_row one ∷ map plain_row book = same in cc

      test : P row ≡ Q one
      test = let x : P row ∷ map P rows ≡ Q one ∷ map Q book = e in cc

      tests : map P rows ≡ map Q book
      tests = let x : P row ∷ map P rows ≡ Q one ∷ map Q book = e in cc

      by : (b : Bool) → has_container ids row.id ≡ b → map P (filter (λ r. not (list_any (λ id. is_container id r.id) ids)) rows) ≡ map Q (filter (λ r. not (has_container ids r.id)) book)
          → map P (filter (λ r. not (list_any (λ id. is_container id r.id) ids)) (row ∷ rows)) ≡ map Q (filter (λ r. not (has_container ids r.id)) (one ∷ book))
      by true f more = let g : has_container ids one.id ≡ true = ap (λ (p : PlainRow). has_container ids p.id) (sym head) ∙ f in rw (f, g) more
      by false f more =
          let g : has_container ids one.id ≡ false = ap (λ (p : PlainRow). has_container ids p.id) (sym head) ∙ f in
          rw (f, g) (ap (λ (b : Bool). b ∷ map P (filter (λ r. not (list_any (λ id. is_container id r.id) ids)) rows)) test ∙ ap (λ (l : List Bool). Q one ∷ l) more)

-- A REPORT IS ABSORBED

taken_late : (apps : List AppRecord) (q : AttemptId) (since : ℕ) (taken : List Held) (row : BookRow) → late_by apps q since (book_row_taken taken row) ≡ late_by apps q since row
taken_late apps q since taken row = by (is_held taken row.id) refl
  where
    by : (b : Bool) → is_held taken row.id ≡ b → late_by apps q since (book_row_taken taken row) ≡ late_by apps q since row
    by true e = rw e refl
    by false e = rw e refl

taken_told : (r : Records) (q : AttemptId) (taken : List Held) (row : Row) → late_told_by r q (row_taken taken row) ≡ late_told_by r q row
taken_told r q taken row = by (is_held taken row.id) refl
  where
    by : (b : Bool) → is_held taken row.id ≡ b → late_told_by r q (row_taken taken row) ≡ late_told_by r q row
    by true e = rw e refl
    by false e = rw e refl

pub taken_number : (taken : List Held) (row : BookRow) → (book_row_taken taken row).told ≡ row.told
taken_number taken row = by (is_held taken row.id) refl
  where
    by : (b : Bool) → is_held taken row.id ≡ b → (book_row_taken taken row).told ≡ row.told
    by true e = rw e refl
    by false e = rw e refl

-- what enters is of a later number than any that a master was told of
late_enter : (r : Records) (q : AttemptId) (since added : ℕ) (name : List ℕ) (xs ys : List Held) → since ≤ added → SameRows (taken_rows added name xs) (map (row_absorbed name) ys)
    → map (late_by r.apps q since) (taken_rows added name xs) ≡ map (late_told_by r q) (map (row_absorbed name) ys)
late_enter r q since added name [] [] few same = refl
late_enter r q since added name [] (one ∷ ys) few same = cc
late_enter r q since added name (held ∷ xs) [] few same = cc
late_enter r q since added name (held ∷ xs) (one ∷ ys) few same =
    let heads : map bare_row (taken_rows added name (held ∷ xs)) ≡ map plain_row (map (row_absorbed name) (one ∷ ys)) = same in
    let head : bare_row (record { id = held.id; node = name; size = held.size; state = Running; told = added + 1 }) ≡ plain_row (row_absorbed name one) = cc in
    let rest : SameRows (taken_rows (added + 1) name xs) (map (row_absorbed name) ys) = cc in
    let id : held.id ≡ one.id = ap (λ (row : PlainRow). row.id) head in
    let above : nat_lt since (added + 1) ≡ true = grind (arith, nat_tests) in
    let masters = masters_same (scene_of r) one.id in
    rw (id, above, masters)
    (ap (λ (l : List Bool). (keeps (record_of r.apps q.app) && (is_earlier one.id.attempt q && (true && not (is_masters (scene_of r) one.id)))) ∷ l) (late_enter r q since (added + 1) name xs ys (omega (arith, few)) rest))

-- behind rows that are as many
rest_same : (P : BookRow → Bool) (Q : Row → Bool) (front : List BookRow) (cs : List Row) (bs : List BookRow) (ds : List Row) → map P front ≡ map Q cs → SameRows (front ++ bs) (cs ++ ds) → SameRows bs ds
rest_same P Q [] [] bs ds e same = same
rest_same P Q [] (c ∷ cs) bs ds e same = cc
rest_same P Q (a ∷ more) [] bs ds e same = cc
rest_same P Q (a ∷ more) (c ∷ cs) bs ds e same =
    let tests : map P more ≡ map Q cs = (let x : P a ∷ map P more ≡ Q c ∷ map Q cs = e in cc) in
    let rest : SameRows (more ++ bs) (cs ++ ds) = (let x : bare_row a ∷ map bare_row (more ++ bs) ≡ plain_row c ∷ map plain_row (cs ++ ds) = same in cc) in
    rest_same P Q more cs bs ds tests rest

pub late_absorbed : (r : Records) (q : AttemptId) (since added : ℕ) (name : List ℕ) (taken xs ys : List Held) (ids : List ContainerId) (rows : List BookRow) (book : List Row) → since ≤ added → SameRows rows book
    → SameRows (map (book_row_taken taken) (filter (λ row. not (list_any (λ id. is_container id row.id) ids)) rows) ++ taken_rows added name xs) (map (row_taken taken) (filter (λ row. not (has_container ids row.id)) book) ++ map (row_absorbed name) ys)
    → map (late_by r.apps q since) rows ≡ map (late_told_by r q) book
    → map (late_by r.apps q since) (map (book_row_taken taken) (filter (λ row. not (list_any (λ id. is_container id row.id) ids)) rows) ++ taken_rows added name xs)
    ≡ map (late_told_by r q) (map (row_taken taken) (filter (λ row. not (has_container ids row.id)) book) ++ map (row_absorbed name) ys)
late_absorbed r q since added name taken xs ys ids rows book few same after e =
    let P : BookRow → Bool = late_by r.apps q since in
    let Q : Row → Bool = late_told_by r q in
    let stay : List BookRow = filter (λ row. not (list_any (λ id. is_container id row.id) ids)) rows in
    let left : List Row = filter (λ row. not (has_container ids row.id)) book in
    let front : map P (map (book_row_taken taken) stay) ≡ map Q (map (row_taken taken) left) =
    still_each P (book_row_taken taken) (taken_late r.apps q since taken) stay ∙ (late_left P Q ids rows book same e ∙ sym (still_each Q (row_taken taken) (taken_told r q taken) left)) in
    map-append P (map (book_row_taken taken) stay) (taken_rows added name xs)
    ∙ ap (λ (l : List Bool). l ++ map P (taken_rows added name xs)) front
    ∙ ap (λ (l : List Bool). map Q (map (row_taken taken) left) ++ l)
    (late_enter r q since added name xs ys few (rest_same P Q (map (book_row_taken taken) stay) (map (row_taken taken) left) (taken_rows added name xs) (map (row_absorbed name) ys) front after))
    ∙ sym (map-append Q (map (row_taken taken) left) (map (row_absorbed name) ys))

-- CONTAINERS ARE GRANTED

-- what is granted to current attempts isn't an earlier attempt's
not_earlier : (rows : List (AppId × Option AppRow)) (q one : AttemptId) → lives_by q (row_of rows q.app) ≡ true → is_current_number rows one ≡ true → is_earlier one q ≡ false
not_earlier rows q one lives current = by (is_app one.app q.app) refl
  where
    number : (o : Option AppRow) → row_of rows q.app ≡ o → lives_by q o ≡ true → is_app one.app q.app ≡ true → (true && nat_lt one.number q.number) ≡ false
    number None found h own = cc
    number (Some row) found h own = at row.current refl h
      where
        same : row_of rows one.app ≡ Some row
        same = ap (row_of rows) (same_app one.app q.app own) ∙ found

        at : (c : _) → row.current ≡ c → lives_with q c ≡ true → (true && nat_lt one.number q.number) ≡ false
        at None is h = cc
        at (Some now) is h =
            let mine = rw (same, is) at current in
            let n : (now.number == q.number) ≡ true = grind arith in
            grind (arith, nat_tests)

    by : (b : Bool) → is_app one.app q.app ≡ b → is_earlier one q ≡ false
    by true own = rw own (number (row_of rows q.app) refl lives own)
    by false other = rw other refl

late_new : (r : Records) (q : AttemptId) (since added : ℕ) (all : List (AppId × Option AppRow)) (so_far : List ContainerId) (grants : List Grant) → lives_by q (row_of all q.app) ≡ true → AreNext all so_far grants
    → map (late_by r.apps q since) (granted_rows added grants) ≡ map (late_told_by r q) (map row_granted grants)
late_new r q since added all so_far [] lives next = refl
late_new r q since added all so_far (grant ∷ grants) lives next =
    let other = not_earlier all q grant.id.attempt lives next.0 in
    rw other (ap (λ (l : List Bool). (keeps (record_of r.apps q.app) && false) ∷ l) (late_new r q since (added + 1) all (so_far ++ grant.id ∷ []) grants lives next.2))

pub late_granted : (r : Records) (q : AttemptId) (since added : ℕ) (all : List (AppId × Option AppRow)) (so_far : List ContainerId) (grants : List Grant) (rows : List BookRow) (book : List Row) → lives_by q (row_of all q.app) ≡ true
    → AreNext all so_far grants → map (late_by r.apps q since) rows ≡ map (late_told_by r q) book → map (late_by r.apps q since) (rows ++ granted_rows added grants) ≡ map (late_told_by r q) (book ++ map row_granted grants)
late_granted r q since added all so_far grants rows book lives next e =
    map-append (late_by r.apps q since) rows (granted_rows added grants)
    ∙ ap (λ (l : List Bool). l ++ map (late_by r.apps q since) (granted_rows added grants)) e
    ∙ ap (λ (l : List Bool). map (late_told_by r q) book ++ l) (late_new r q since added all so_far grants lives next)
    ∙ sym (map-append (late_told_by r q) book (map row_granted grants))

pub told_granted : (rows : List BookRow) (added : ℕ) (grants : List Grant) → TellUpTo 0 added rows → TellUpTo 0 (added + length grants) (rows ++ granted_rows added grants)
told_granted rows added [] told = subst (λ (l : List BookRow). TellUpTo 0 (added + 0) l) (sym (append-nil rows)) (subst (λ (n : ℕ). TellUpTo 0 n rows) (omega arith) told)
told_granted rows added (grant ∷ grants) told =
    let one : BookRow = record { id = grant.id; node = grant.node; size = grant.size; state = Granted; told = added + 1 } in
    let rest = told_granted (rows ++ one ∷ []) (added + 1) grants (told_push 0 added rows one refl told) in
    let count : (added + 1) + length grants ≡ added + length (grant ∷ grants) = omega arith in
    rw (append_assoc rows (one ∷ []) (granted_rows (added + 1) grants), count) at rest

pub told_taken : (name : List ℕ) (rows : List BookRow) (added : ℕ) (list : List Held) → TellUpTo 0 added rows → TellUpTo 0 (added + length list) (rows ++ taken_rows added name list)
told_taken name rows added [] told = subst (λ (l : List BookRow). TellUpTo 0 (added + 0) l) (sym (append-nil rows)) (subst (λ (n : ℕ). TellUpTo 0 n rows) (omega arith) told)
told_taken name rows added (held ∷ list) told =
    let one : BookRow = record { id = held.id; node = name; size = held.size; state = Running; told = added + 1 } in
    let rest = told_taken name (rows ++ one ∷ []) (added + 1) list (told_push 0 added rows one refl told) in
    let count : (added + 1) + length list ≡ added + length (held ∷ list) = omega arith in
    rw (append_assoc rows (one ∷ []) (taken_rows (added + 1) name list), count) at rest
