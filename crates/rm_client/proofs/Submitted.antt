-- A submission that joins is found among those that are submitted, and each other as it was.
use Rattle.std.proofs.Common.{◌≡◌, inl, inr, List, [], ◌∷◌, ◌++◌, Bool, true, false, ◌||◌, None, Some, refl, ap}
use Rattle.std.proofs.lemmas.Bool.{cases_Bool}
use Rattle.rm_types.specs.declared.ids.AppId.{AppId}
use Rattle.rm_types.specs.declared.operations.Submission.{Submission}
use Rattle.rm_types.specs.declared.operations.Submitted.{Submitted}
use Rattle.rm_types.specs.Ids.{is_app}
use Rattle.rm_types.proofs.IdLemmas.{app_itself}
use Rattle.rm_model.specs.Facts.{is_submitted, waiting_submission}

abbrev pub one_of : AppId → Submission → Submitted
one_of id s = record { id = id; submission = s }

pub own_submitted : (id : AppId) (s : Submission) (list : List Submitted) → is_submitted (list ++ one_of id s ∷ []) id ≡ true
own_submitted id s [] = rw (app_itself id) refl
own_submitted id s (one ∷ list) = by (is_app one.id id) (own_submitted id s list)
  where
    by : (b : Bool) → is_submitted (list ++ one_of id s ∷ []) id ≡ true → (b || is_submitted (list ++ one_of id s ∷ []) id) ≡ true
    by true rest = refl
    by false rest = rest

pub other_submitted : (id q : AppId) (s : Submission) (list : List Submitted) → is_app id q ≡ false → is_submitted (list ++ one_of id s ∷ []) q ≡ is_submitted list q
other_submitted id q s [] apart = rw apart refl
other_submitted id q s (one ∷ list) apart = ap (λ (b : Bool). is_app one.id q || b) (other_submitted id q s list apart)

pub own_waiting : (id : AppId) (s : Submission) (list : List Submitted) → waiting_submission list id ≡ None → waiting_submission (list ++ one_of id s ∷ []) id ≡ Some s
own_waiting id s [] none = rw (app_itself id) refl
own_waiting id s (one ∷ list) none = elim (cases_Bool (is_app one.id id)) [
  | inl e ↦ let h : Some one.submission ≡ None = rw e at none in cc
  | inr e ↦ rw e (own_waiting id s list (rw e at none))
]

pub other_waiting : (id q : AppId) (s : Submission) (list : List Submitted) → is_app id q ≡ false → waiting_submission (list ++ one_of id s ∷ []) q ≡ waiting_submission list q
other_waiting id q s [] apart = rw apart refl
other_waiting id q s (one ∷ list) apart = elim (cases_Bool (is_app one.id q)) [
  | inl e ↦ rw e refl
  | inr e ↦ rw e (other_waiting id q s list apart)
]
