-- What is found at the end of a line.
use Rattle.std.proofs.Common.{◌≡◌, ℕ, List, ◌++◌, Result, Ok, Err, sym, ap, ◌∙◌}
use Rattle.std.specs.Prelude.{IsErrAnd}
use Rattle.rm_page.proofs.Bytes.{cut}
use Rattle.rm_lines.specs.declared.errors.LineError.{LineError}
use Rattle.rm_lines.specs.declared.errors.LineError.TheVariants.{Refused, Memory}
use Rattle.rm_lines.specs.Results.{Finds, IsOf}
use Rattle.rm_lines.proofs.Splits.{behind_same, cut_same}

-- what is found behind a name at the end is found of all words that are left
pub last_found : {X : Type 0} (written : X → List ℕ) (Fits : X → Type 0) (name text : List ℕ) (words : List (List ℕ)) (answer : Result X LineError) → words ≡ cut 32 (name ++ text)
    → Finds answer (IsOf written Fits text) → Finds answer (IsOf (λ x. cut 32 (name ++ written x)) Fits words)
last_found written Fits name text words (Ok x) e is = record { same = e ∙ ap (λ (t : List ℕ). cut 32 (name ++ t)) is.same; fits = is.fits }
last_found written Fits name text words (Err (Refused fault)) e none = λ x is.
    none x (record { same = behind_same name text (written x) (cut_same 32 (name ++ text) (name ++ written x) (sym e ∙ is.same)); fits = is.fits })
last_found written Fits name text words (Err Memory) e none = tt

pub last_not_found : {X : Type 0} (written : X → List ℕ) (Fits : X → Type 0) (name : List ℕ) (words : List (List ℕ)) (answer : Result X LineError) (error : LineError)
    → IsErrAnd answer (λ returned. returned ≡ error) → ((text : List ℕ) → words ≡ cut 32 (name ++ text) → ⊥) → Finds answer (IsOf (λ x. cut 32 (name ++ written x)) Fits words)
last_not_found written Fits name words (Ok x) error same none = absurd same
last_not_found written Fits name words (Err (Refused fault)) error same none = λ x is. none (written x) is.same
last_not_found written Fits name words (Err Memory) error same none = tt
