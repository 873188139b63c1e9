-- Containers are handed over one by one, as all at once.
use Rattle.rm_master.proofs.Common.{◌≡◌, ℕ, ◌+◌, List, [], ◌∷◌, ◌++◌, Bool, true, false, ◌&&◌, ◌||◌, map, length, take, refl, sym, ◌∙◌, ap, arith, if◌then◌else◌, BookRow, ContainerState, Acquired, Grant, ContainerId, Reply, BookOf}
use Rattle.std.proofs.Common.{◌<◌, get_or}
use Rattle.std.proofs.lemmas.List.{map-append, take_more}
use Rattle.std.proofs.lemmas.List.Folds.{list_any-append}
use Rattle.rm_types.specs.Containers.{is_granted}
use Rattle.rm_types.specs.Ids.{is_container}
use Rattle.rm_types.specs.declared.containers.ContainerState.TheVariants.{Granted, Running, Completed}
use Rattle.rm_types.specs.declared.replies.Reply.TheVariants.{Took}
use Rattle.rm_types.proofs.IdLemmas.{container_back}
use Rattle.rm_book.specs.Books.{handed_over_row, is_of, with_handed_over}
use Rattle.rm_model.specs.Facts.{has_container}
use Rattle.rm_master.specs.Answers.{handed_by, handed_over, handed_row, ids_granted}

none_rows : (rows : List BookRow) → rows ≡ map (handed_row []) rows
none_rows [] = refl
none_rows (row ∷ rows) = ap (λ (more : List BookRow). row ∷ more) (none_rows rows)

-- none is
pub none_handed : (book : BookOf) → book ≡ handed_over [] book
none_handed book = ap (λ (rows : List BookRow). record book { rows = rows }) (none_rows book.rows)

-- nor where the reply hands over none
pub none_kept : (reply : Reply) (book : BookOf) → ((kept : List Grant) → reply ≡ Took kept → ⊥) → book ≡ handed_by reply book
none_kept (Took kept) book other = absurd (other kept refl)
none_kept _ book other = refl

-- here: the container that is handed over; there: those before it
either_way : (there here : Bool) (s : ContainerState)
    → (if here && is_granted (if there && is_granted s then Acquired else s) then Acquired else (if there && is_granted s then Acquired else s)) ≡ (if (there || here) && is_granted s then Acquired else s)
either_way true true Granted = refl
either_way true true Acquired = refl
either_way true true Running = refl
either_way true true Completed = refl
either_way true false Granted = refl
either_way true false Acquired = refl
either_way true false Running = refl
either_way true false Completed = refl
either_way false true Granted = refl
either_way false true Acquired = refl
either_way false true Running = refl
either_way false true Completed = refl
either_way false false Granted = refl
either_way false false Acquired = refl
either_way false false Running = refl
either_way false false Completed = refl

module _ (told : List ContainerId) (id : ContainerId) where
  one_row : (row : BookRow) → handed_over_row id (handed_row told row) ≡ handed_row (told ++ id ∷ []) row
  one_row row =
      ap (λ (s : ContainerState). record row { state = s }) (either_way (has_container told row.id) (is_of id row) row.state)
      ∙ ap (λ (b : Bool). record row { state = if b && is_granted row.state then Acquired else row.state })
      (ap (λ (b : Bool). has_container told row.id || b) (container_back row.id id ∙ or_none (is_container id row.id)) ∙ sym (list_any-append (λ one. is_container one row.id) told (id ∷ [])))
    where
      or_none : (b : Bool) → b ≡ (b || false)
      or_none true = refl
      or_none false = refl

  more_rows : (rows : List BookRow) → map (handed_over_row id) (map (handed_row told) rows) ≡ map (handed_row (told ++ id ∷ [])) rows
  more_rows [] = refl
  more_rows (row ∷ rows) = rw (more_rows rows) (ap (λ (one : BookRow). one ∷ map (handed_row (told ++ id ∷ [])) rows) (one_row row))

  -- one more is
  pub one_handed : (book : BookOf) → with_handed_over (handed_over told book) id ≡ handed_over (told ++ id ∷ []) book
  one_handed book = ap (λ (rows : List BookRow). record book { rows = rows }) (more_rows book.rows)

-- the containers of one grant more
pub more_kept : (grants : List Grant) (place : ℕ) (grant : Grant) → place < length grants → grant ≡ get_or grants place grant
    → ids_granted (take place grants) ++ grant.id ∷ [] ≡ ids_granted (take (place + 1) grants)
more_kept grants place grant within is =
    sym (ap ids_granted (take_more grants place grant within ∙ ap (λ (one : Grant). take place grants ++ one ∷ []) (sym is)) ∙ map-append (λ (one : Grant). one.id) (take place grants) (grant ∷ []))
