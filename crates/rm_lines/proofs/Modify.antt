-- Whether an application keeps its containers, and who else may modify it, by the words that are left.
use Rattle.std.proofs.Common.{◌≡◌, ℕ, Bool, true, false, not, List, [], ◌∷◌, ◌++◌, refl, sym, ◌∙◌}
use Rattle.std.specs.Prelude.{codes, IsTrue}
use Rattle.std.specs.List.{onto_first}
use Rattle.rm_types.specs.declared.texts.TextKind.TheVariants.{AclText}
use Rattle.rm_types.specs.Ranges.{IsText}
use Rattle.rm_page.proofs.Bytes.{cut}
use Rattle.rm_page.proofs.ReadOperations.{last_pieces}
use Rattle.rm_lines.specs.Submissions.{keep_and_modify_pieces}
use Rattle.rm_lines.specs.Results.{IsOf}
use Rattle.rm_lines.specs.Submissions.{IsKeepAndModify}
use Rattle.rm_lines.proofs.Parts.{differ, heads, left_same}
use Rattle.rm_lines.proofs.Splits.{behind_same, cut_same}

-- no word names nobody
pub modify_not : (words : List (List ℕ)) (found : List ℕ) → (words ≡ [] → ⊥) → found ≡ [] → IsOf (λ text. cut 32 (codes "modify=" ++ text)) (IsText AclText) words found → (text : List ℕ)
    → IsOf (last_pieces (codes "modify=")) (IsText AclText) words text → ⊥
modify_not words found some none of [] is = some is.same
modify_not words found some none of (byte ∷ bytes) is =
    let same : codes "modify=" ++ found ≡ codes "modify=" ++ (byte ∷ bytes) = cut_same 32 (codes "modify=" ++ found) (codes "modify=" ++ (byte ∷ bytes)) (sym of.same ∙ is.same) in
    let both : [] ≡ byte ∷ bytes = sym none ∙ behind_same (codes "modify=") found (byte ∷ bytes) same in
    cc

-- ---- whether it keeps

-- the word of keeping was taken, or isn't the first of those that are left
abbrev pub IsTaken : Bool → List (List ℕ) → List (List ℕ) → Type 0
IsTaken true words left = words ≡ codes "keep=yes" ∷ left
IsTaken false words left = (left ≡ words) × ((more : List (List ℕ)) → words ≡ codes "keep=yes" ∷ more → ⊥)

no_keep_first : (pieces left : List (List ℕ)) → codes "keep=yes" ∷ left ≡ onto_first 109 pieces → ⊥
no_keep_first [] left e = differ (codes "keep=yes") (109 ∷ []) refl (heads e).0
no_keep_first (piece ∷ pieces) left e = differ (codes "keep=yes") (109 ∷ piece) refl (heads e).0

-- what is written of who may modify doesn't begin with it
no_keep : (modify : List ℕ) (left : List (List ℕ)) → codes "keep=yes" ∷ left ≡ last_pieces (codes "modify=") modify → ⊥
no_keep [] left e = cc
no_keep (byte ∷ bytes) left e = no_keep_first (cut 32 (codes "odify=" ++ byte ∷ bytes)) left e

-- so what is left is what is written of who may modify
pub modify_left : (keep : Bool) (words left : List (List ℕ)) (said : Bool × List ℕ) → IsTaken keep words left → IsOf keep_and_modify_pieces IsKeepAndModify words said
    → IsOf (last_pieces (codes "modify=")) (IsText AclText) left said.1
modify_left true words left (true, modify) taken of = record { same = left_same taken of.same; fits = of.fits }
modify_left true words left (false, modify) taken of = absurd (no_keep modify left (sym taken ∙ of.same))
modify_left false words left (true, modify) taken of = absurd (taken.1 (last_pieces (codes "modify=") modify) of.same)
modify_left false words left (false, modify) taken of = record { same = taken.0 ∙ of.same; fits = of.fits }

pub is_taken : (keep : Bool) (words left : List (List ℕ)) → (IsTrue keep → words ≡ codes "keep=yes" ∷ left) → (IsTrue (not keep) → (left ≡ words) × ((more : List (List ℕ)) → words ≡ codes "keep=yes" ∷ more → ⊥))
    → IsTaken keep words left
is_taken true words left taken not_taken = taken refl
is_taken false words left taken not_taken = not_taken refl
