-- Words and lists that are written piece by piece, and as their definitions join them.
use Rattle.std.proofs.Common.{◌≡◌, ℕ, List, [], ◌∷◌, ◌++◌, ◌+◌, ◌-◌, ◌≤◌, suc, map, length, take, drop, get_or, codes, refl, ap, sub-one, arith}
use Rattle.std.specs.List.{flat_map, join_with_byte}
use Rattle.std.proofs.lemmas.List.{append_assoc, append-nil, take_all}
use Rattle.std.proofs.lemmas.Grind.{flat_map-append}
use Rattle.std.proofs.lemmas.List.Folds.{flat_map-map}
use Rattle.rm_formats.specs.Wording.{listed}
use Rattle.rm_formats.specs.Page.{line}
use Rattle.rm_page.specs.Continued.{continued}

-- pieces that are joined by a byte: the first, and the others with the byte before each
pub join_with_byte-cons : (byte : ℕ) (piece : List ℕ) (pieces : List (List ℕ))
    → join_with_byte byte (piece ∷ pieces) ≡ piece ++ flat_map (λ one. byte ∷ one) pieces
join_with_byte-cons byte piece [] = simp append-nil
join_with_byte-cons byte piece (next ∷ more) = ap (λ rest. piece ++ (byte ∷ rest)) (join_with_byte-cons byte next more)

-- words that go on with a line, in two parts
pub continued-append : (first more : List (List ℕ)) → continued (first ++ more) ≡ continued first ++ continued more
continued-append first more = flat_map-append (λ word. 32 ∷ word) first more

-- what brings a text that was added piece by piece to the form of its definition
pub ruleset joined = (append_assoc, append-nil, join_with_byte-cons)

-- a list that has a first item, as it is written: that item, and each other one after a comma
pub listed-parts : {X : Type 0} (text : X → List ℕ) (items : List X) (first : X) → 1 ≤ length items → first ≡ get_or items 0 first
    → listed (map text items) ≡ text first ++ flat_map (λ item. 44 ∷ text item) (take (length items - 1) (drop 1 items))
listed-parts text [] first some is = absurd (omega arith)
listed-parts text (item ∷ items) first some is =
    let whole : take (suc (length items) - 1) items ≡ items = rw sub-one (take_all (length items) items (omega arith)) in
    rw (is, whole, join_with_byte-cons, flat_map-map (λ one. 44 ∷ one) text items) refl

-- the line of an answered message, as it is written
pub line-served : (message reply : List (List ℕ))
    → line (codes "served" ∷ message ++ codes "->" ∷ reply) ≡ codes "served" ++ (continued message ++ (codes " ->" ++ (continued reply ++ codes "\n")))
line-served message reply =
    let parts = continued-append message (codes "->" ∷ reply) in
    rw (join_with_byte-cons 32 (codes "served") (message ++ codes "->" ∷ reply), parts) (simp append_assoc)
