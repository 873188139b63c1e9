-- Texts that are cut at a byte, or behind a name, or before an end.
use Rattle.std.proofs.Common.{◌≡◌, ℕ, suc, ◌+◌, ◌-◌, ◌<◌, ◌≤◌, Bool, true, false, not, cond, eqb, ltb, List, [], ◌∷◌, ◌++◌, length, take, drop, Option, Some, None, refl, sym, ap, ◌∙◌, arith, rules}
use Rattle.std.specs.Prelude.{◌↔◌, IsTrue, is_some}
use Rattle.std.specs.List.{position_or_len, position, join_with_byte}
use Rattle.std.specs.Option.{option_map_or}
use Rattle.std.specs.Str.{bytes_eq}
use Rattle.std.proofs.lemmas.Bool.{ltb-true, ltb-false, eqb-true}
use Rattle.std.proofs.lemmas.Option.{cond_some, same_Some}
use Rattle.std.proofs.lemmas.List.{take_rest, take_at, drop_at, take-append-drop, length-append}
use Rattle.std.proofs.lemmas.List.Splits.{length-slice_split}
use Rattle.rm_types.proofs.TestLemmas.{text_itself, same_text}
use Rattle.rm_lines.proofs.Parts.{not_some}
use Rattle.rm_page.proofs.Bytes.{lacks, cut, cut_at, join_cut, and_both}
use Rattle.rm_lines.specs.Cuts.{after_label}
use Rattle.rm_lines.specs.Cuts.{IsFirstCut, before_end}

-- ---- at a byte

pub not_found : {A : Type 0} (b : Bool) (x : A) → cond b (Some x) None ≡ None → b ≡ false
not_found true x e = absurd cc
not_found false x e = refl

abbrev first : ℕ → List ℕ → ℕ
first byte text = position_or_len (λ one. eqb one byte) text

first-here : (byte one : ℕ) (text : List ℕ) → eqb one byte ≡ true → first byte (one ∷ text) ≡ 0
first-here byte one text e = rw e refl

first-later : (byte one : ℕ) (text : List ℕ) → eqb one byte ≡ false → first byte (one ∷ text) ≡ suc (first byte text)
first-later byte one text e = rw e (omega arith)

abbrev CutsAt : ℕ → ℕ → List ℕ → Type 0
CutsAt byte place text = IsFirstCut byte text (take place text) (drop (place + 1) text)

cuts_later : (byte one : ℕ) (text : List ℕ) (place : ℕ) → eqb one byte ≡ false → CutsAt byte place text → CutsAt byte (suc place) (one ∷ text)
cuts_later byte one text place e is =
    let one_on : suc place + 1 ≡ suc (place + 1) = omega arith in
    let after : drop (suc place + 1) (one ∷ text) ≡ drop (place + 1) text = ap (λ n. drop n (one ∷ text)) one_on in
    rw after (record { whole = ap (λ (t : List ℕ). one ∷ t) is.whole; front_lacks = and_both (not (eqb one byte)) (lacks byte (take place text)) (ap not e) is.front_lacks })

cuts_first : (byte : ℕ) (text : List ℕ) (place : ℕ) → first byte text ≡ place → place < length text → CutsAt byte place text
cuts_first byte [] place e h = absurd (omega arith)
cuts_first byte (one ∷ text) place e h =
    elim (eqb one byte) as (λ t. eqb one byte ≡ t → CutsAt byte place (one ∷ text)) [
      | true ↦ λ f.
          let here : place ≡ 0 = sym e ∙ first-here byte one text f in
          rw here (record { whole = ap (λ (b : ℕ). b ∷ text) (eqb-true one byte f); front_lacks = refl })
      | false ↦ λ f.
          let later : place ≡ suc (first byte text) = sym e ∙ first-later byte one text f in
          rw later (cuts_later byte one text (first byte text) f (cuts_first byte text (first byte text) refl (omega arith)))
    ] refl

lacks_first : (byte : ℕ) (text : List ℕ) → length text ≤ first byte text → lacks byte text ≡ true
lacks_first byte [] h = refl
lacks_first byte (one ∷ text) h =
    elim (eqb one byte) as (λ t. eqb one byte ≡ t → lacks byte (one ∷ text) ≡ true) [
      | true ↦ λ f. absurd (omega (arith, first-here byte one text f))
      | false ↦ λ f. and_both (not (eqb one byte)) (lacks byte text) (ap not f) (lacks_first byte text (omega (arith, first-later byte one text f)))
    ] refl

-- what the code cuts off where it finds the byte
pub cut_found : (byte : ℕ) (text : List ℕ) (place : ℕ) → position (λ one. eqb one byte) text ≡ Some place
    → IsFirstCut byte text (take place text) (take (length text - (place + 1)) (drop (place + 1) text))
cut_found byte text place e =
    let found = cond_some (ltb (first byte text) (length text)) (first byte text) place e in
    rw take_rest (cuts_first byte text place found.1 (omega (arith, ltb-true _ _ found.0)))

-- and where it finds none
pub none_found : (byte : ℕ) (text : List ℕ) → position (λ one. eqb one byte) text ≡ None → lacks byte text ≡ true
none_found byte text e = lacks_first byte text (ltb-false _ _ (not_found (ltb (first byte text) (length text)) (first byte text) e))

-- ---- words

pub word_cut : (text word after : List ℕ) → IsFirstCut 32 text word after → cut 32 text ≡ word ∷ cut 32 after
word_cut text word after is = ap (cut 32) is.whole ∙ cut_at 32 word after is.front_lacks

pub cut_some : (byte : ℕ) (text : List ℕ) → cut byte text ≡ [] → ⊥
cut_some byte text e = absurd (omega (arith, ap length e, length-slice_split (λ one. eqb one byte) text))

pub cut_same : (byte : ℕ) (one other : List ℕ) → cut byte one ≡ cut byte other → one ≡ other
cut_same byte one other e = sym (join_cut byte one) ∙ ap (join_with_byte byte) e ∙ join_cut byte other

pub no_word : {X : Type 0} (text : X → List ℕ) (rest : Option X) (b : Bool) → is_some rest ≡ not b → IsTrue b ↔ (option_map_or (λ one. cut 32 (text one)) rest [] ≡ [])
no_word text None true e = (λ t. refl, λ t. search rules)
no_word text None false e = absurd cc
no_word text (Some one) true e = absurd cc
no_word text (Some one) false e = (λ t. absurd (search rules), λ same. absurd (cut_some 32 (text one) same))

-- the first word is the last one where nothing stands behind it
pub last_word : {X : Type 0} (text : X → List ℕ) (words : List (List ℕ)) (word : List ℕ) (left : Option X) (b : Bool) → is_some left ≡ not b
    → words ≡ word ∷ option_map_or (λ one. cut 32 (text one)) left [] → IsTrue b ↔ (length words ≡ 1)
last_word text words word None true e is = (λ t. ap length is, λ one. search rules)
last_word text words word None false e is = absurd cc
last_word text words word (Some one) true e is = absurd cc
last_word text words word (Some one) false e is =
    (λ t. absurd (search rules), λ whole. absurd (omega (arith, ap length is, whole, length-slice_split (λ byte. eqb byte 32) (text one))))

-- ---- labels and ends

pub after_label_is : (label word text : List ℕ) → after_label label word ≡ Some text → word ≡ label ++ text
after_label_is label word text e =
    let parts = cond_some (bytes_eq (take (length label) word) label) (drop (length label) word) text e in
    let front : take (length label) word ≡ label = same_text (take (length label) word) label parts.0 in
    sym (take-append-drop (length label) word) ∙ ap (λ (t : List ℕ). t ++ drop (length label) word) front ∙ ap (λ (t : List ℕ). label ++ t) parts.1

pub after_label-label : (label text : List ℕ) → after_label label (label ++ text) ≡ Some text
after_label-label label text =
    rw (take_at label text (length label) refl, drop_at label text (length label) refl, text_itself label) refl

pub behind_same : (name one other : List ℕ) → name ++ one ≡ name ++ other → one ≡ other
behind_same name one other e = same_Some one other (sym (after_label-label name one) ∙ ap (after_label name) e ∙ after_label-label name other)

pub behind_none : (name text rest : List ℕ) → after_label name text ≡ None → text ≡ name ++ rest → ⊥
behind_none name text rest e same = not_some (after_label name text) rest e (ap (after_label name) same ∙ after_label-label name rest)

pub before_end_is : (end text rest : List ℕ) → before_end end text ≡ Some rest → text ≡ rest ++ end
before_end_is end text rest e =
    let count : ℕ = length text - length end in
    let parts = cond_some (bytes_eq (drop count text) end) (take count text) rest e in
    let back : drop count text ≡ end = same_text (drop count text) end parts.0 in
    sym (take-append-drop count text) ∙ ap (λ (t : List ℕ). take count text ++ t) back ∙ ap (λ (t : List ℕ). t ++ end) parts.1

pub before_end-end : (end rest : List ℕ) → before_end end (rest ++ end) ≡ Some rest
before_end-end end rest =
    let count : length (rest ++ end) - length end ≡ length rest = omega (arith, length-append rest end) in
    rw (count, take_at rest end (length rest) refl, drop_at rest end (length rest) refl, text_itself end) refl

pub before_none : (end text rest : List ℕ) → before_end end text ≡ None → text ≡ rest ++ end → ⊥
before_none end text rest e same = not_some (before_end end text) rest e (ap (before_end end) same ∙ before_end-end end rest)
