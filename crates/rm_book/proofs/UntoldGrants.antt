-- Somebody may be told of what an attempt was granted and nobody was told of yet.
use Rattle.rm_book.proofs.Common.{◌≡◌, Bool, true, false, ◌&&◌, List, [], ◌∷◌, IfSome, filter, find, refl, ◌∙◌, list_any, or_parts, BookRow, ContainerState, Granted, Acquired, Running, Completed, Grant, AttemptId, is_attempt, container_back, container_itself, is_granted, inl, inr, cases_Bool}
use Rattle.rm_book.specs.Books.{BookRowsAreApart, is_of}
use Rattle.rm_book.specs.Granted.{AllMayBeTold, grants_to, is_granted_to, may_be_told}

granted_told : (a : Bool) (s : ContainerState) → (a && is_granted s) ≡ true → may_be_told s ≡ true
granted_told true Granted e = refl
granted_told true Acquired e = cc
granted_told true Running e = cc
granted_told true Completed e = cc
granted_told false s e = cc

module _ (attempt : AttemptId) where
  -- with one more row before them, of another container
  more_told : (row : BookRow) (rest xs : List BookRow) → list_any (is_of row.id) xs ≡ false → AllMayBeTold rest (grants_to xs attempt) → AllMayBeTold (row ∷ rest) (grants_to xs attempt)
  more_told row rest [] none told = tt
  more_told row rest (x ∷ xs) none told =
      let parts = or_parts (is_of row.id x) (list_any (is_of row.id) xs) none in
      by (is_granted_to attempt x) refl (container_back row.id x.id ∙ parts.0) (λ more. more_told row rest xs parts.1 more)
    where
      by : (b : Bool) → is_granted_to attempt x ≡ b → is_of x.id row ≡ false → (AllMayBeTold rest (grants_to xs attempt) → AllMayBeTold (row ∷ rest) (grants_to xs attempt)) → AllMayBeTold (row ∷ rest) (grants_to (x ∷ xs) attempt)
      by true e apart more =
          let parts : IfSome (find (is_of x.id) rest) (λ one. may_be_told one.state ≡ true) × AllMayBeTold rest (grants_to xs attempt) = rw e at told in
          rw (e, apart) (parts.0, more parts.1)
      by false e apart more = rw e (more (rw e at told))

  pub granted_to_told : (rows : List BookRow) → BookRowsAreApart rows → AllMayBeTold rows (grants_to rows attempt)
  granted_to_told [] apart = tt
  granted_to_told (row ∷ rows) apart = elim (cases_Bool (is_granted_to attempt row)) [
    | inl e ↦
        let own : is_of row.id row ≡ true = container_itself row.id in
        rw (e, own) (granted_told (is_attempt row.id.attempt attempt) row.state e, (more_told row rows rows apart.0 (granted_to_told rows apart.1)))
    | inr e ↦ rw e (more_told row rows rows apart.0 (granted_to_told rows apart.1))
  ]

-- and so may those of them that pass a test
pub told_filter : (rows : List BookRow) (test : Grant → Bool) (grants : List Grant) → AllMayBeTold rows grants → AllMayBeTold rows (filter test grants)
told_filter rows test [] told = tt
told_filter rows test (grant ∷ grants) told = elim (cases_Bool (test grant)) [
  | inl e ↦ rw e (told.0, told_filter rows test grants told.1)
  | inr e ↦ rw e (told_filter rows test grants told.1)
]
