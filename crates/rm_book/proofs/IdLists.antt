-- The containers of an attempt among those of its application, and what it was granted.
use Rattle.rm_book.proofs.Common.{◌≡◌, ℕ, ◌+◌, ◌<◌, Bool, true, false, ◌&&◌, ◌||◌, nat_lt, cond, Option, None, Some, find, List, [], ◌∷◌, ◌++◌, length, filter, map, take, get_or, refl, sym, ap, ◌∙◌, list_any, filter_map, or_parts, take_more, list_any-append, BookRow, Held, AttemptId, ContainerId, is_app, is_attempt, is_container, container_back, container_itself, is_held, inl, inr, cases_Bool}
use Rattle.std.proofs.Common.{◌==◌}
use Rattle.std.specs.List.{cons_option}
use Rattle.std.proofs.lemmas.List.Elements.{filter_map-append}
use Rattle.rm_book.specs.Books.{BookRowsAreApart, is_later, is_of}
use Rattle.rm_book.specs.Granted.{grant_in, row_grant, grants_to, is_granted_to, passing_grant}
use Rattle.rm_book.specs.Kept.{ids_where}

or_cond : (a b : Bool) → cond b true a ≡ (a || (b || false))
or_cond true true = refl
or_cond true false = refl
or_cond false true = refl
or_cond false false = refl

-- one more is held
pub held_more : (list : List Held) (i : ℕ) (d : Held) (id : ContainerId) → i < length list → cond (is_container (get_or list i d).id id) true (is_held (take i list) id) ≡ is_held (take (i + 1) list) id
held_more list i d id within =
    or_cond (is_held (take i list) id) (is_container (get_or list i d).id id)
    ∙ sym (list_any-append (λ held. is_container held.id id) (take i list) (get_or list i d ∷ []))
    ∙ ap (λ l. is_held l id) (sym (take_more list i d within))

-- an attempt's containers are its application's
pub attempt_ids : (attempt : AttemptId) (rows : List BookRow)
    → filter (λ id. is_attempt id.attempt attempt) (ids_where (λ row. is_app row.id.attempt.app attempt.app) rows) ≡ ids_where (λ row. is_attempt row.id.attempt attempt) rows
attempt_ids attempt [] = refl
attempt_ids attempt (row ∷ rows) = by (is_app row.id.attempt.app attempt.app) (row.id.attempt.number == attempt.number) refl refl (attempt_ids attempt rows)
  where
    by : (a b : Bool) → is_app row.id.attempt.app attempt.app ≡ a → (row.id.attempt.number == attempt.number) ≡ b
        → filter (λ id. is_attempt id.attempt attempt) (ids_where (λ row. is_app row.id.attempt.app attempt.app) rows) ≡ ids_where (λ row. is_attempt row.id.attempt attempt) rows
        → filter (λ id. is_attempt id.attempt attempt) (ids_where (λ row. is_app row.id.attempt.app attempt.app) (row ∷ rows)) ≡ ids_where (λ row. is_attempt row.id.attempt attempt) (row ∷ rows)
    by true true e f rest = rw (e, f, e) (ap (λ more. row.id ∷ more) rest)
    by true false e f rest = rw (e, f, e) rest
    by false b e f rest = rw e rest

-- a row of another container hides none
other_rows : (p : BookRow → Bool) (row : BookRow) (all rows : List BookRow) → list_any (is_of row.id) rows ≡ false
    → filter_map (grant_in (row ∷ all)) (ids_where p rows) ≡ filter_map (grant_in all) (ids_where p rows)
other_rows p row all [] none = refl
other_rows p row all (one ∷ rows) none =
    let parts = or_parts (is_of row.id one) (list_any (is_of row.id) rows) none in
    by (p one) refl (container_back row.id one.id ∙ parts.0) (other_rows p row all rows parts.1)
  where
    by : (b : Bool) → p one ≡ b → is_of one.id row ≡ false → filter_map (grant_in (row ∷ all)) (ids_where p rows) ≡ filter_map (grant_in all) (ids_where p rows)
        → filter_map (grant_in (row ∷ all)) (ids_where p (one ∷ rows)) ≡ filter_map (grant_in all) (ids_where p (one ∷ rows))
    by true e apart rest = rw (e, apart) (ap (cons_option (grant_in all one.id)) rest)
    by false e apart rest = rw e rest

-- the grants of the containers that an attempt was granted are what it was granted
pub granted_all : (attempt : AttemptId) (rows : List BookRow) → BookRowsAreApart rows → filter_map (grant_in rows) (ids_where (is_granted_to attempt) rows) ≡ grants_to rows attempt
granted_all attempt [] apart = refl
granted_all attempt (row ∷ rows) apart =
    by (is_granted_to attempt row) refl (container_itself row.id) (other_rows (is_granted_to attempt) row rows rows apart.0 ∙ granted_all attempt rows apart.1)
  where
    by : (b : Bool) → is_granted_to attempt row ≡ b → is_of row.id row ≡ true → filter_map (grant_in (row ∷ rows)) (ids_where (is_granted_to attempt) rows) ≡ grants_to rows attempt
        → filter_map (grant_in (row ∷ rows)) (ids_where (is_granted_to attempt) (row ∷ rows)) ≡ grants_to (row ∷ rows) attempt
    by true e own rest = rw (e, own) (ap (λ more. row_grant row ∷ more) rest)
    by false e own rest = rw e rest

-- one more is found
pub granted_more : (rows : List BookRow) (ids : List ContainerId) (i : ℕ) (d : ContainerId) → i < length ids
    → filter_map (grant_in rows) (take (i + 1) ids) ≡ filter_map (grant_in rows) (take i ids) ++ cons_option (grant_in rows (get_or ids i d)) []
granted_more rows ids i d within =
    ap (filter_map (grant_in rows)) (take_more ids i d within) ∙ filter_map-append (grant_in rows) (take i ids) (get_or ids i d ∷ [])

-- the grants of rows that pass a test, among those that pass another
module _ (test : BookRow → Bool) where
  -- a row of another container hides none
  others_passing : (p : BookRow → Bool) (row : BookRow) (all rows : List BookRow) → list_any (is_of row.id) rows ≡ false
      → filter_map (passing_grant test (row ∷ all)) (ids_where p rows) ≡ filter_map (passing_grant test all) (ids_where p rows)
  others_passing p row all [] none = refl
  others_passing p row all (one ∷ rows) none =
      let parts = or_parts (is_of row.id one) (list_any (is_of row.id) rows) none in
      by (p one) refl (container_back row.id one.id ∙ parts.0) (others_passing p row all rows parts.1)
    where
      by : (b : Bool) → p one ≡ b → is_of one.id row ≡ false → filter_map (passing_grant test (row ∷ all)) (ids_where p rows) ≡ filter_map (passing_grant test all) (ids_where p rows)
          → filter_map (passing_grant test (row ∷ all)) (ids_where p (one ∷ rows)) ≡ filter_map (passing_grant test all) (ids_where p (one ∷ rows))
      by true e apart rest = rw (e, apart) (ap (cons_option (passing_grant test all one.id)) rest)
      by false e apart rest = rw e rest

  pub passing_all : (p : BookRow → Bool) (rows : List BookRow) → BookRowsAreApart rows
      → filter_map (passing_grant test rows) (ids_where p rows) ≡ map row_grant (filter (λ row. p row && test row) rows)
  passing_all p [] apart = refl
  passing_all p (row ∷ rows) apart =
      by (p row) (test row) refl refl (container_itself row.id) (others_passing p row rows rows apart.0 ∙ passing_all p rows apart.1)
    where
      by : (a b : Bool) → p row ≡ a → test row ≡ b → is_of row.id row ≡ true
          → filter_map (passing_grant test (row ∷ rows)) (ids_where p rows) ≡ map row_grant (filter (λ row. p row && test row) rows)
          → filter_map (passing_grant test (row ∷ rows)) (ids_where p (row ∷ rows)) ≡ map row_grant (filter (λ row. p row && test row) (row ∷ rows))
      by true true e f own rest = rw (e, own, f) (ap (λ more. row_grant row ∷ more) rest)
      by true false e f own rest = rw (e, own, f) rest
      by false b e f own rest = rw e rest

  -- the grant of a container by its row
  pub passing_some : (rows : List BookRow) (id : ContainerId) (row : BookRow) → find (is_of id) rows ≡ Some row → test row ≡ true → passing_grant test rows id ≡ Some (row_grant row)
  passing_some rows id row found pass = rw (found, pass) refl

  pub passing_not : (rows : List BookRow) (id : ContainerId) (row : BookRow) → find (is_of id) rows ≡ Some row → test row ≡ false → passing_grant test rows id ≡ None
  passing_not rows id row found fail = rw (found, fail) refl

  pub passing_none : (rows : List BookRow) (id : ContainerId) → find (is_of id) rows ≡ None → passing_grant test rows id ≡ None
  passing_none rows id none = rw none refl

  -- one more is looked at
  pub passing_more : (rows : List BookRow) (ids : List ContainerId) (i : ℕ) (d : ContainerId) → i < length ids
      → filter_map (passing_grant test rows) (take (i + 1) ids) ≡ filter_map (passing_grant test rows) (take i ids) ++ cons_option (passing_grant test rows (get_or ids i d)) []
  passing_more rows ids i d within =
      ap (filter_map (passing_grant test rows)) (take_more ids i d within) ∙ filter_map-append (passing_grant test rows) (take i ids) (get_or ids i d ∷ [])

-- a later container of an attempt is one of its application
pub later_ids : (attempt : AttemptId) (epoch seq : ℕ) (rows : List BookRow)
    → list_any (λ id. is_attempt id.attempt attempt && ((id.epoch == epoch) && nat_lt seq id.seq)) (ids_where (λ row. is_app row.id.attempt.app attempt.app) rows)
    ≡ list_any (is_later attempt epoch seq) rows
later_ids attempt epoch seq [] = refl
later_ids attempt epoch seq (row ∷ rows) = elim (cases_Bool (is_app row.id.attempt.app attempt.app)) [
  | inl e ↦ rw (e, e) (ap (λ b. ((row.id.attempt.number == attempt.number) && ((row.id.epoch == epoch) && nat_lt seq row.id.seq)) || b) (later_ids attempt epoch seq rows))
  | inr e ↦ rw e (later_ids attempt epoch seq rows)
]
