-- Lists of a line, of which some may be left out.
use Rattle.std.proofs.Common.{◌≡◌, ℕ, ◌<◌, ◌≤◌, List, [], ◌∷◌, ◌++◌, length, map, eqb, All, None, Result, sym, ap, ◌∙◌, arith}
use Rattle.std.proofs.lemmas.List.{length-map}
use Rattle.std.proofs.lemmas.List.Splits.{length-slice_split}
use Rattle.rm_types.specs.Limits.{most_listed}
use Rattle.rm_types.specs.Messages.{IsList}
use Rattle.rm_formats.specs.Wording.{listed, list_word}
use Rattle.rm_page.proofs.Bytes.{cut}
use Rattle.rm_lines.specs.Cuts.{HasNoComma, after_label}
use Rattle.rm_lines.specs.Results.{Finds, IsOf}
use Rattle.rm_lines.specs.declared.errors.LineError.{LineError}
use Rattle.rm_lines.proofs.Listing.{cut-listed, listed_pieces}
use Rattle.rm_lines.proofs.Parts.{found_as, heads, not_some}
use Rattle.rm_lines.proofs.Splits.{after_label-label, behind_same}
use Rattle.rm_script.specs.Pieces.{IsSomeList}

-- too many pieces are no list
pub too_long : {X : Type 0} (text : X → List ℕ) (Fits : X → Type 0) → ((item : X) → Fits item → HasNoComma (text item)) → (given : List ℕ) → most_listed < length (cut 44 given)
    → (items : List X) → IsOf (λ (xs : List X). listed (map text xs)) (IsSomeList Fits) given items → ⊥
too_long text Fits law given many items is =
    let pieces : cut 44 given ≡ map text items = ap (cut 44) is.same ∙ cut-listed text Fits law items is.fits.some is.fits.list.each in
    absurd (omega (arith, ap length pieces, length-map items text, is.fits.list.few))

-- what is found by the pieces is found of a list that isn't left out
pub list_found : {X : Type 0} (text : X → List ℕ) (Fits : X → Type 0) → ((item : X) → Fits item → HasNoComma (text item)) → (given : List ℕ) (answer : Result (List X) LineError) → length (cut 44 given) ≤ most_listed
    → Finds answer (IsOf (map text) (All Fits) (cut 44 given)) → Finds answer (IsOf (λ (xs : List X). listed (map text xs)) (IsSomeList Fits) given)
list_found text Fits law given answer few finds =
    found_as _ _ answer (λ items of. record {
      same = listed_pieces given (map text items) of.same;
      fits = record {
        some = omega (arith, ap length of.same, length-map items text, length-slice_split (λ (one : ℕ). eqb one 44) given);
        list = record { few = omega (arith, ap length of.same, length-map items text); each = of.fits };
      };
    }) (λ items is. record { same = ap (cut 44) is.same ∙ cut-listed text Fits law items is.fits.some is.fits.list.each; fits = is.fits.list.each }) finds

-- the words that are left say one list that may be left out
abbrev pub SayOne : {X : Type 0} → (X → List ℕ) → (X → Type 0) → List ℕ → List (List ℕ) → List X → Type 0
SayOne text Fits label words items = IsOf (λ items. list_word label (map text items)) (IsList Fits) words items

-- where some are left, the list isn't
pub one_said : {X : Type 0} (text : X → List ℕ) (Fits : X → Type 0) (label : List ℕ) (words : List (List ℕ)) (items : List X) → (words ≡ [] → ⊥) → SayOne text Fits label words items
    → (words ≡ (label ++ listed (map text items)) ∷ []) × IsSomeList Fits items
one_said text Fits label words [] some is = absurd (some is.same)
one_said text Fits label words (item ∷ items) some is = (is.same, record { some = omega arith; list = is.fits })

-- the words that are left say two lists, either of which may be left out
abbrev pub SayTwo : {X Y : Type 0} → (X → List ℕ) → (X → Type 0) → (Y → List ℕ) → (Y → Type 0) → List ℕ → List ℕ → List (List ℕ) → List X × List Y → Type 0
SayTwo text Fits other FitsOther first second words lists =
    IsOf (λ lists. list_word first (map text lists.0) ++ list_word second (map other lists.1)) (λ lists. IsList Fits lists.0 × IsList FitsOther lists.1) words lists

-- where the first word begins with the first label, it is the first list, and the other words are the second
pub two_said : {X Y : Type 0} (text : X → List ℕ) (Fits : X → Type 0) (other : Y → List ℕ) (FitsOther : Y → Type 0) (first second given : List ℕ) (words left : List (List ℕ)) (xs : List X) (ys : List Y)
    → ((t : List ℕ) → after_label first (second ++ t) ≡ None) → words ≡ (first ++ given) ∷ left → SayTwo text Fits other FitsOther first second words (xs, ys)
    → IsOf (λ (items : List X). listed (map text items)) (IsSomeList Fits) given xs × SayOne other FitsOther second left ys
two_said text Fits other FitsOther first second given words left [] [] apart e is = absurd (let none = sym e ∙ is.same in cc)
two_said text Fits other FitsOther first second given words left [] (y ∷ ys) apart e is =
    let same : first ++ given ≡ second ++ listed (map other (y ∷ ys)) = (heads (sym e ∙ is.same)).0 in
    absurd (not_some (after_label first (second ++ listed (map other (y ∷ ys)))) given (apart (listed (map other (y ∷ ys)))) (ap (after_label first) (sym same) ∙ after_label-label first given))
two_said text Fits other FitsOther first second given words left (x ∷ xs) ys apart e is =
    let parts = heads (sym e ∙ is.same) in (
      record { same = behind_same first given (listed (map text (x ∷ xs))) parts.0; fits = record { some = omega arith; list = is.fits.0 } },
      record { same = parts.1; fits = is.fits.1 },
    )
