-- The lists of submissions of an open life: how often an application stands there, what is left without the first, and which is to be issued next.
use Rattle.rm_invariant.proofs.Common.{◌≡◌, ℕ, ◌+◌, ◌≤◌, suc, List, [], ◌∷◌, ◌++◌, Bool, true, false, not, Some, filter, length, is_none, refl, sym, ◌∙◌, ap, arith, length-map, AppId, Submission, Submitted, AppRecord, is_app, new_record, app_itself, has_app, waiting_submission, Scene, going_in}
use Rattle.std.proofs.Common.{count_by}
use Rattle.rm_types.proofs.TestLemmas.{or_true}
use Rattle.rm_model.specs.Facts.{app_issued}
use Rattle.rm_model.specs.Issuing.{first_unissued}
use Rattle.rm_invariant.specs.apps.Submissions.{submitted_ids}
use Rattle.rm_invariant.specs.apps.View.{one_if}
use Rattle.rm_invariant.proofs.apps.Counts.{at_end, at_front}

-- a submission of another application
abbrev pub is_other : AppId → Submitted → Bool
is_other id one = not (is_app one.id id)

-- how often an application stands in a list, as in that of the submissions
abbrev pub id_count : AppId → List AppId → ℕ
id_count q ids = count_by (λ id. is_app id q) ids

pub submitted_count : (q : AppId) (submitted : List Submitted) → id_count q (submitted_ids submitted) ≡ count_by (λ one. is_app one.id q) submitted
submitted_count q [] = refl
submitted_count q (one ∷ more) =
    at_front (λ (id : AppId). is_app id q) one.id (submitted_ids more) ∙ ap (one_if (is_app one.id q)) (submitted_count q more) ∙ sym (at_front (λ (x : Submitted). is_app x.id q) one more)

-- submissions of which none is of an application stay as they are without it
none_more : (one : Submitted) (more : List Submitted) (id : AppId) (b : Bool) → is_app one.id id ≡ b → count_by (λ x. is_app x.id id) (one ∷ more) ≡ 0
    → (count_by (λ (x : Submitted). is_app x.id id) more ≡ 0 → filter (is_other id) more ≡ more) → filter (is_other id) (one ∷ more) ≡ one ∷ more
none_more one more id true e n h =
    let f : count_by (λ (x : Submitted). is_app x.id id) (one ∷ more) ≡ suc (count_by (λ (x : Submitted). is_app x.id id) more) = at_front (λ (x : Submitted). is_app x.id id) one more ∙ rw e refl in
    absurd (omega (arith, n, f))
none_more one more id false e n h =
    let f : count_by (λ (x : Submitted). is_app x.id id) (one ∷ more) ≡ count_by (λ (x : Submitted). is_app x.id id) more = at_front (λ (x : Submitted). is_app x.id id) one more ∙ rw e refl in
    rw (e, h (sym f ∙ n)) refl

filter_none : (submitted : List Submitted) (id : AppId) → count_by (λ (x : Submitted). is_app x.id id) submitted ≡ 0 → filter (is_other id) submitted ≡ submitted
filter_none [] id n = refl
filter_none (one ∷ more) id n = none_more one more id (is_app one.id id) refl n (filter_none more id)

-- the first submission alone goes, where it stands once
pub forgets_first : (submitted : List Submitted) (id : AppId) (rest : List AppId) → submitted_ids submitted ≡ id ∷ rest → count_by (λ one. is_app one.id id) submitted ≤ 1
    → submitted_ids (filter (is_other id) submitted) ≡ rest
forgets_first [] id rest e h = cc
forgets_first (one ∷ more) id rest e h =
    let same : one.id ≡ id = cc in
    let left : submitted_ids more ≡ rest = cc in
    let here : is_app one.id id ≡ true = rw same (app_itself id) in
    let f : count_by (λ (x : Submitted). is_app x.id id) (one ∷ more) ≡ suc (count_by (λ (x : Submitted). is_app x.id id) more) = at_front (λ (x : Submitted). is_app x.id id) one more ∙ rw here refl in
    let none : count_by (λ (x : Submitted). is_app x.id id) more ≡ 0 = omega (arith, h, f) in
    rw (here, filter_none more id none) left

-- as many submissions as ids
pub submitted_length : (submitted : List Submitted) (ids : List AppId) → submitted_ids submitted ≡ ids → length submitted ≡ length ids
submitted_length submitted ids e = sym (length-map submitted (λ one. one.id)) ∙ ap length e

-- one more application goes on
pub going_more : (apps : List AppRecord) (id : AppId) (s : Submission) → going_in (apps ++ new_record id s ∷ []) ≡ going_in apps + 1
going_more apps id s = let e = at_end (λ (one : AppRecord). is_none one.ending) apps (new_record id s) in omega (arith, e)

-- the first submitted application that isn't issued, and what was submitted for it
pub record IsFirst (m : Scene) (submitted : List Submitted) (id : AppId) : Type 0 where
  pub submission : Submission
  pub first : first_unissued m submitted ≡ Some (record { id = id; submission = submission })
  pub waits : waiting_submission submitted id ≡ Some submission

-- it is the one after those that await, in the order of submission
pub first_found : (m : Scene) (submitted : List Submitted) (before : List AppId) (id : AppId) (rest : List AppId)
    → submitted_ids submitted ≡ before ++ id ∷ rest → ((x : AppId) → has_app before x ≡ true → app_issued m x ≡ true)
    → has_app before id ≡ false → app_issued m id ≡ false → IsFirst m submitted id
first_found m [] [] id rest e issued apart new = cc
first_found m [] (x ∷ before) id rest e issued apart new = cc
first_found m (one ∷ more) [] id rest e issued apart new =
    let same : one.id ≡ id = cc in
    record { submission = one.submission; first = rw (same, new) refl; waits = rw (same, app_itself id) refl }
first_found m (one ∷ more) (x ∷ before) id rest e issued apart new =
    let same : one.id ≡ x = cc in
    let others : submitted_ids more ≡ before ++ id ∷ rest = cc in
    let f = first_found m more before id rest others (λ y among. issued y (rw among (or_true (is_app x y)))) (grind arith) new in
    let there : app_issued m x ≡ true = issued x (rw (app_itself x) refl) in
    let differs : is_app x id ≡ false = grind arith in
    record { submission = f.submission; first = rw (same, there) f.first; waits = rw (same, differs) f.waits }
