-- Containers become Acquired one by one, as all at once.
use Rattle.rm_master.proofs.Common.{◌≡◌, ℕ, ◌+◌, List, [], ◌∷◌, ◌++◌, Bool, true, false, ◌||◌, find, map, length, take, refl, sym, ◌∙◌, ap, subst, arith, if◌then◌else◌, BookRow, Closing, ContainerState, Acquired, Grant, ContainerId, Reply, Allocated, BookOf}
use Rattle.std.proofs.Common.{zero, suc, ◌<◌, IfSome, append-nil, get_or}
use Rattle.std.proofs.lemmas.List.{map-append, take_more}
use Rattle.std.proofs.lemmas.List.Elements.{filter-append}
use Rattle.std.proofs.lemmas.List.Folds.{list_any-append}
use Rattle.rm_types.specs.Ids.{is_container}
use Rattle.rm_types.proofs.IdLemmas.{container_back}
use Rattle.rm_book.specs.Books.{is_of, with_state}
use Rattle.rm_book.specs.Granted.{AllMayBeTold, may_be_told}
use Rattle.rm_model.specs.Facts.{has_container}
use Rattle.rm_types.specs.Ids.{is_attempt}
use Rattle.rm_types.specs.declared.ids.AttemptId.{AttemptId}
use Rattle.rm_master.specs.Answers.{acquired, acquired_row, ids_granted, containers_told, own_grants}

no_rows : (rows : List BookRow) → rows ≡ map (acquired_row []) rows
no_rows [] = refl
no_rows (row ∷ rows) = ap (λ (more : List BookRow). row ∷ more) (no_rows rows)

-- none does
pub none_acquired : (book : BookOf) → book ≡ acquired [] book
none_acquired book = ap (λ (rows : List BookRow). record book { rows = rows }) (no_rows book.rows)

-- nor where the reply tells of none
pub none_told : (attempt : AttemptId) (reply : Reply) (book : BookOf) → ((id : ℕ) (grants : List Grant) (ended : List Closing) → reply ≡ Allocated id grants ended → ⊥) → book ≡ acquired (containers_told attempt reply) book
none_told attempt (Allocated id grants ended) book other = absurd (other id grants ended refl)
none_told attempt _ book other = none_acquired book

either_way : (here there : Bool) (row : BookRow) → (if here then record row { state = Acquired } else record row { state = if there then Acquired else row.state })
    ≡ record row { state = if there || here then Acquired else row.state }
either_way true true row = refl
either_way true false row = refl
either_way false true row = refl
either_way false false row = refl

module _ (told : List ContainerId) (id : ContainerId) where
  one_row : (row : BookRow) → (if is_of id row then record (acquired_row told row) { state = Acquired } else acquired_row told row) ≡ acquired_row (told ++ id ∷ []) row
  one_row row =
      either_way (is_of id row) (has_container told row.id) row
      ∙ ap (λ (b : Bool). record row { state = if b then Acquired else row.state })
      (ap (λ (b : Bool). has_container told row.id || b) (container_back row.id id ∙ or_none (is_container id row.id)) ∙ sym (list_any-append (λ one. is_container one row.id) told (id ∷ [])))
    where
      or_none : (b : Bool) → b ≡ (b || false)
      or_none true = refl
      or_none false = refl

  more_rows : (rows : List BookRow) → map (λ row. if is_of id row then record row { state = Acquired } else row) (map (acquired_row told) rows) ≡ map (acquired_row (told ++ id ∷ [])) rows
  more_rows [] = refl
  more_rows (row ∷ rows) = rw (more_rows rows) (ap (λ (one : BookRow). one ∷ map (acquired_row (told ++ id ∷ [])) rows) (one_row row))

  -- one more does
  pub one_acquired : (book : BookOf) → with_state (acquired told book) id Acquired ≡ acquired (told ++ id ∷ []) book
  one_acquired book = ap (λ (rows : List BookRow). record book { rows = rows }) (more_rows book.rows)

-- the containers of one grant more: where it is the attempt's own, there is one more; else they are the same
module _ (attempt : AttemptId) (grants : List Grant) (place : ℕ) (grant : Grant) (within : place < length grants) (is : grant ≡ get_or grants place grant) where
  own_more : own_grants attempt (take (place + 1) grants) ≡ own_grants attempt (take place grants) ++ own_grants attempt (grant ∷ [])
  own_more =
      ap (own_grants attempt) (take_more grants place grant within ∙ ap (λ (one : Grant). take place grants ++ one ∷ []) (sym is))
      ∙ filter-append (λ (one : Grant). is_attempt one.id.attempt attempt) (take place grants) (grant ∷ [])

  pub more_granted : is_attempt grant.id.attempt attempt ≡ true → ids_granted (own_grants attempt (take place grants)) ++ grant.id ∷ [] ≡ ids_granted (own_grants attempt (take (place + 1) grants))
  more_granted own =
      let one : own_grants attempt (grant ∷ []) ≡ grant ∷ [] = rw own refl in
      sym (ap ids_granted (own_more ∙ ap (λ (more : List Grant). own_grants attempt (take place grants) ++ more) one)
      ∙ map-append (λ (x : Grant). x.id) (own_grants attempt (take place grants)) (grant ∷ []))

  pub none_granted : is_attempt grant.id.attempt attempt ≡ false → ids_granted (own_grants attempt (take place grants)) ≡ ids_granted (own_grants attempt (take (place + 1) grants))
  none_granted other =
      let one : own_grants attempt (grant ∷ []) ≡ [] = rw other refl in
      sym (ap ids_granted (own_more ∙ ap (λ (more : List Grant). own_grants attempt (take place grants) ++ more) one ∙ append-nil (own_grants attempt (take place grants))))

-- somebody may be told of a container still, once they were told of others
acquired_told : (told : List ContainerId) (id : ContainerId) (rows : List BookRow) → IfSome (find (is_of id) rows) (λ row. may_be_told row.state ≡ true)
    → IfSome (find (is_of id) (map (acquired_row told) rows)) (λ row. may_be_told row.state ≡ true)
acquired_told told id [] may = tt
acquired_told told id (row ∷ rows) may = by (is_of id row) refl (acquired_told told id rows)
  where
    here : (b : Bool) (s : ContainerState) → may_be_told s ≡ true → may_be_told (if b then Acquired else s) ≡ true
    here true s e = refl
    here false s e = e

    by : (b : Bool) → is_of id row ≡ b → (IfSome (find (is_of id) rows) (λ one. may_be_told one.state ≡ true) → IfSome (find (is_of id) (map (acquired_row told) rows)) (λ one. may_be_told one.state ≡ true))
        → IfSome (find (is_of id) (map (acquired_row told) (row ∷ rows))) (λ one. may_be_told one.state ≡ true)
    by true e rest = rw e (here (has_container told row.id) row.state (rw e at may))
    by false e rest = rw e (rest (rw e at may))

-- and so of the container of the attempt's own grant at a place
pub told_at : (attempt : AttemptId) (told : List ContainerId) (rows : List BookRow) (grants : List Grant) (place : ℕ) (grant : Grant) → AllMayBeTold rows (own_grants attempt grants) → is_attempt grant.id.attempt attempt ≡ true
    → place < length grants → grant ≡ get_or grants place grant → IfSome (find (is_of grant.id) (map (acquired_row told) rows)) (λ row. may_be_told row.state ≡ true)
told_at attempt told rows [] place grant are own within is = absurd (omega (arith, within))
told_at attempt told rows (one ∷ grants) zero grant are own within is =
    let same : is_attempt one.id.attempt attempt ≡ true = subst (λ (g : Grant). is_attempt g.id.attempt attempt ≡ true) is own in
    let first = rw same at are in
    acquired_told told grant.id rows (subst (λ (g : Grant). IfSome (find (is_of g.id) rows) (λ row. may_be_told row.state ≡ true)) (sym is) first.0)
told_at attempt told rows (one ∷ grants) (suc place) grant are own within is =
    by (is_attempt one.id.attempt attempt) refl (λ more. told_at attempt told rows grants place grant more own (omega (arith, within)) is)
  where
    by : (b : Bool) → is_attempt one.id.attempt attempt ≡ b → (AllMayBeTold rows (own_grants attempt grants) → IfSome (find (is_of grant.id) (map (acquired_row told) rows)) (λ row. may_be_told row.state ≡ true))
        → IfSome (find (is_of grant.id) (map (acquired_row told) rows)) (λ row. may_be_told row.state ≡ true)
    by true e rest = let more = rw e at are in rest more.1
    by false e rest = let more = rw e at are in rest more
