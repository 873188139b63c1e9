-- Lists: the pieces of their texts, and the items that are read of them one after the other.
use Rattle.std.proofs.Common.{◌≡◌, ℕ, zero, suc, ◌<◌, List, [], ◌∷◌, length, map, get_or, All, sym, ap, ◌∙◌, arith}
use Rattle.std.specs.List.{join_with_byte, AllByRecursion}
use Rattle.std.proofs.lemmas.List.Elements.{recursion_from_All}
use Rattle.rm_formats.specs.Wording.{listed}
use Rattle.rm_page.proofs.Bytes.{EachLacks, cut, join_cut, cut_joined}
use Rattle.rm_lines.specs.Cuts.{HasNoComma}
use Rattle.rm_lines.specs.Results.{IsOf}
use Rattle.rm_lines.proofs.Parts.{heads}

each_lacks_comma : {X : Type 0} (text : X → List ℕ) (Fits : X → Type 0) → ((item : X) → Fits item → HasNoComma (text item)) → (items : List X) → AllByRecursion Fits items → EachLacks 44 (map text items)
each_lacks_comma text Fits law [] fit = tt
each_lacks_comma text Fits law (item ∷ items) fit = (law item fit.0, each_lacks_comma text Fits law items fit.1)

-- the pieces of the text of a list that has items are the texts of these
pub cut-listed : {X : Type 0} (text : X → List ℕ) (Fits : X → Type 0) → ((item : X) → Fits item → HasNoComma (text item)) → (items : List X) → 0 < length items → All Fits items
    → cut 44 (listed (map text items)) ≡ map text items
cut-listed text Fits law [] some all = absurd (omega arith)
cut-listed text Fits law (item ∷ items) some all = cut_joined 44 (text item) (map text items) (each_lacks_comma text Fits law (item ∷ items) (recursion_from_All Fits (item ∷ items) all))

-- and the text whose pieces are those of items is that of their list
pub listed_pieces : (given : List ℕ) (texts : List (List ℕ)) → cut 44 given ≡ texts → given ≡ listed texts
listed_pieces given texts e = sym (join_cut 44 given) ∙ ap (join_with_byte 44) e

-- the item that stands at a place
pub item_at : {X : Type 0} (text : X → List ℕ) (Fits : X → Type 0) (words : List (List ℕ)) (items : List X) (place : ℕ) (word : List ℕ) → words ≡ map text items → AllByRecursion Fits items
    → place < length words → word ≡ get_or words place word → (item : X) × IsOf text Fits word item
item_at text Fits words [] place word e fit there at = absurd (omega (arith, ap length e))
item_at text Fits [] (item ∷ items) place word e fit there at = absurd (omega arith)
item_at text Fits (one ∷ words) (item ∷ items) zero word e fit there at = (item, record { same = at ∙ (heads e).0; fits = fit.0 })
item_at text Fits (one ∷ words) (item ∷ items) (suc place) word e fit there at = item_at text Fits words items place word (heads e).1 fit.1 (omega arith) at
