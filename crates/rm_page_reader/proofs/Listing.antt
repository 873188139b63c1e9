-- A list that has items.
use Rattle.std.proofs.Common.{◌≡◌, ℕ, ◌<◌, List, [], ◌∷◌, length, map, All, Result, ap, ◌∙◌, arith}
use Rattle.rm_formats.specs.Wording.{listed}
use Rattle.rm_page.proofs.Bytes.{cut}
use Rattle.rm_lines.specs.Cuts.{HasNoComma}
use Rattle.rm_lines.specs.Results.{Finds, IsOf}
use Rattle.rm_lines.specs.declared.errors.LineError.{LineError}
use Rattle.rm_lines.proofs.Listing.{cut-listed, listed_pieces}
use Rattle.rm_lines.proofs.Parts.{found_as}

some_items : {X : Type 0} (text : X → List ℕ) (given : List ℕ) (items : List X) → 0 < length given → given ≡ listed (map text items) → 0 < length items
some_items text given [] some e = omega (arith, ap length e)
some_items text given (item ∷ items) some e = omega arith

-- what is found by the pieces of its text is found of the list
pub list_found : {X : Type 0} (text : X → List ℕ) (Fits : X → Type 0) → ((item : X) → Fits item → HasNoComma (text item)) → (given : List ℕ) (answer : Result (List X) LineError) → 0 < length given
    → Finds answer (IsOf (map text) (All Fits) (cut 44 given)) → Finds answer (IsOf (λ (xs : List X). listed (map text xs)) (All Fits) given)
list_found text Fits law given answer some finds =
    found_as _ _ answer (λ items of. record { same = listed_pieces given (map text items) of.same; fits = of.fits })
    (λ items is. record { same = ap (cut 44) is.same ∙ cut-listed text Fits law items (some_items text given items some is.same) is.fits; fits = is.fits }) finds
