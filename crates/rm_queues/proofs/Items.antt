-- The items of the first parts, with one part more.
use Rattle.std.proofs.Common.{◌≡◌, ℕ, ◌+◌, ◌<◌, Bool, true, false, not, List, [], ◌∷◌, ◌++◌, map, take, length, get_or, suc, eqb, refl, sym, ap, ◌∙◌, arith}
use Rattle.std.specs.List.{filter}
use Rattle.std.proofs.lemmas.List.{map_more, append-nil, take_all}
use Rattle.std.proofs.lemmas.List.Elements.{filter-append}
use Rattle.std.proofs.lemmas.Bool.{cond-true, cond-false, ne_eqb}
use Rattle.rm_types.specs.AclTexts.{trimmed}
use Rattle.rm_types.specs.Lists.{is_nil}

-- something is left
abbrev is_left : List ℕ → Bool
is_left item = not (is_nil item)

-- the items of the first so many parts
abbrev pub items_of_first : List (List ℕ) → ℕ → List (List ℕ)
items_of_first parts count = filter is_left (map trimmed (take count parts))

-- with one part more
items_more : (parts : List (List ℕ)) (count : ℕ) (part : List ℕ) → (count < length parts) × (part ≡ get_or parts count part)
    → items_of_first parts (count + 1) ≡ items_of_first parts count ++ filter is_left (trimmed part ∷ [])
items_more parts count part at =
    ap (filter is_left) (map_more trimmed parts count part at.0 ∙ ap (λ one. map trimmed (take count parts) ++ trimmed one ∷ []) (sym at.1))
    ∙ filter-append is_left (map trimmed (take count parts)) (trimmed part ∷ [])

-- a part of which something is left
pub items_more-kept : (parts : List (List ℕ)) (count next : ℕ) (part item : List ℕ) (old new : List (List ℕ))
    → (count < length parts) × (part ≡ get_or parts count part) → next ≡ count + 1 → item ≡ trimmed part → is_nil item ≡ false
    → old ≡ items_of_first parts count → new ≡ old ++ item ∷ [] → new ≡ items_of_first parts next
items_more-kept parts count next part item old new at step is kept before after =
    let left : is_left (trimmed part) ≡ true = ap is_left (sym is) ∙ ap not kept in
    let more : items_of_first parts (count + 1) ≡ items_of_first parts count ++ trimmed part ∷ []
    = items_more parts count part at ∙ ap (λ items. items_of_first parts count ++ items) (cond-true _ (trimmed part ∷ []) [] left) in
    after ∙ ap (λ items. items ++ item ∷ []) before ∙ ap (λ one. items_of_first parts count ++ one ∷ []) is ∙ sym more ∙ ap (items_of_first parts) (sym step)

-- a part of which nothing is left
pub items_more-dropped : (parts : List (List ℕ)) (count : ℕ) (part : List ℕ) → (count < length parts) × (part ≡ get_or parts count part)
    → is_nil (trimmed part) ≡ true → items_of_first parts (count + 1) ≡ items_of_first parts count
items_more-dropped parts count part at dropped =
    items_more parts count part at
    ∙ ap (λ items. items_of_first parts count ++ items) (cond-false _ (trimmed part ∷ []) [] (ap not dropped))
    ∙ append-nil (items_of_first parts count)

-- a text is nil where it has no byte
pub is_nil_by_length : (text : List ℕ) → is_nil text ≡ eqb (length text) 0
is_nil_by_length [] = refl
is_nil_by_length (byte ∷ bytes) = sym (ne_eqb (suc (length bytes)) 0 (λ e. absurd (omega arith)))

-- the items of all parts
pub items_of_all : (parts : List (List ℕ)) (count : ℕ) → count ≡ length parts → items_of_first parts count ≡ filter is_left (map trimmed parts)
items_of_all parts count e = ap (λ front. filter is_left (map trimmed front)) (take_all count parts (omega (arith, e)))
