-- Bytes that stand in no text of a kind, and texts that are cut at such a byte.
use Rattle.std.proofs.Common.{◌≡◌, ℕ, ◌+◌, ◌^◌, ◌<◌, ◌≤◌, Bool, true, false, not, cond, ◌&&◌, ◌||◌, eqb, ltb, leb, List, [], ◌∷◌, ◌++◌, length, Option, Some, None, refl, sym, ap, ◌∙◌, arith}
use Rattle.std.specs.Fmt.{decimal}
use Rattle.std.specs.List.{AllByRecursion, join_with_byte, slice_split, onto_first, position_or_len}
use Rattle.std.proofs.lemmas.Bool.{and_parts, not-true, ne_eqb, eq-eqb, ltb-false, le-leb, true≢false}
use Rattle.std.proofs.lemmas.Fmt.{digits_decimal, digits_value-decimal}
use Rattle.std.proofs.lemmas.List.Elements.{All-from_recursion}
use Rattle.std.proofs.lemmas.List.Splits.{slice_split_none, slice_split_at, length-slice_split, join_with_byte-slice_split}
use Rattle.rm_types.specs.declared.texts.TextKind.{TextKind}
use Rattle.rm_types.specs.declared.texts.TextKind.TheVariants.{Name, Node, Queue}
use Rattle.rm_types.specs.Ranges.{IsText}
use Rattle.rm_formats.specs.IdTexts.{padded}
use Rattle.rm_types.specs.Texts.{is_allowed, is_digit, least_length, greatest_length, first_not_allowed}
use Rattle.rm_formats.specs.ids.Digits.{IsDigit, AreDigits, value_of}
use Rattle.rm_formats.proofs.ids.Digits.{own, padded_is_digits}

-- each byte passes
abbrev pub made_of : (ℕ → Bool) → List ℕ → Bool
made_of test [] = true
made_of test (byte ∷ bytes) = test byte && made_of test bytes

-- the byte is not among the bytes
abbrev pub lacks : ℕ → List ℕ → Bool
lacks byte bytes = made_of (λ one. not (eqb one byte)) bytes

pub and_both : (b c : Bool) → b ≡ true → c ≡ true → (b && c) ≡ true
and_both b c h k = rw (h, k) refl

pub made_of-append : (test : ℕ → Bool) (a b : List ℕ) → made_of test a ≡ true → made_of test b ≡ true → made_of test (a ++ b) ≡ true
made_of-append test [] b h k = k
made_of-append test (byte ∷ a) b h k =
    let parts = and_parts (test byte) (made_of test a) h in
    and_both (test byte) (made_of test (a ++ b)) parts.0 (made_of-append test a b parts.1 k)

pub lacks-append : (byte : ℕ) (a b : List ℕ) → lacks byte a ≡ true → lacks byte b ≡ true → lacks byte (a ++ b) ≡ true
lacks-append byte a b h k = made_of-append (λ one. not (eqb one byte)) a b h k

-- bytes that pass a test pass each weaker one
pub made_of-weaker : (p q : ℕ → Bool) → ((byte : ℕ) → p byte ≡ true → q byte ≡ true) → (bytes : List ℕ) → made_of p bytes ≡ true → made_of q bytes ≡ true
made_of-weaker p q weaker [] made = refl
made_of-weaker p q weaker (byte ∷ bytes) made =
    let parts = and_parts (p byte) (made_of p bytes) made in
    and_both (q byte) (made_of q bytes) (weaker byte parts.0) (made_of-weaker p q weaker bytes parts.1)

-- a byte that passes is not one that doesn't
unlike : (test : ℕ → Bool) (byte one : ℕ) → test byte ≡ false → test one ≡ true → not (eqb one byte) ≡ true
unlike test byte one fails passes = ap not (ne_eqb one byte (λ e. absurd (true≢false (sym passes ∙ ap test e ∙ fails))))

-- a byte that doesn't pass is not among bytes that do
pub lacks_failing : (test : ℕ → Bool) (byte : ℕ) (bytes : List ℕ) → test byte ≡ false → made_of test bytes ≡ true → lacks byte bytes ≡ true
lacks_failing test byte bytes fails made = made_of-weaker test (λ one. not (eqb one byte)) (λ one passes. unlike test byte one fails passes) bytes made

-- ---- numbers

-- small letters and digits
abbrev pub is_part_byte : ℕ → Bool
is_part_byte byte = is_digit byte || (leb 97 byte && leb byte 122)

-- the same and `_`
abbrev pub is_id_byte : ℕ → Bool
is_id_byte byte = is_part_byte byte || eqb byte 95

digit_passes : (byte : ℕ) → IsDigit byte → is_part_byte byte ≡ true
digit_passes byte digit = rw (le-leb 48 byte digit.0, le-leb byte 57 digit.1) refl

digits_made : (digits : List ℕ) → AreDigits digits → made_of is_part_byte digits ≡ true
digits_made [] all = refl
digits_made (digit ∷ digits) all = and_both (is_part_byte digit) (made_of is_part_byte digits) (digit_passes digit all.0) (digits_made digits all.1)

pub decimal_made : (number : ℕ) → number < 2 ^ 64 → made_of is_part_byte (decimal number) ≡ true
decimal_made number fits = digits_made (decimal number) (digits_decimal own number fits)

pub padded_made : (least number : ℕ) → number < 2 ^ 64 → made_of is_part_byte (padded least number) ≡ true
padded_made least number fits = digits_made (padded least number) (padded_is_digits least number fits)

pub number_back : (number : ℕ) → number < 2 ^ 64 → value_of (decimal number) ≡ number
number_back number fits = digits_value-decimal own number fits

-- ---- texts

all_pass : (test : ℕ → Bool) (bytes : List ℕ) → length bytes ≤ position_or_len (λ byte. not (test byte)) bytes → made_of test bytes ≡ true
all_pass test [] h = refl
all_pass test (byte ∷ bytes) h =
    elim (test byte) as (λ t. test byte ≡ t → length (byte ∷ bytes) ≤ cond (not (not t)) (1 + position_or_len (λ b. not (test b)) bytes) 0 → made_of test (byte ∷ bytes) ≡ true) [
      | true ↦ λ e k. and_both (test byte) (made_of test bytes) e (all_pass test bytes (omega arith))
      | false ↦ λ e k. absurd (omega arith)
    ] refl h

no_fault : (b c : Bool) (o : Option ℕ) (x y : ℕ) → cond b (Some x) (cond c o (Some y)) ≡ None → (b ≡ false) × (o ≡ None)
no_fault true c o x y e = absurd cc
no_fault false true o x y e = (refl, e)
no_fault false false o x y e = absurd cc

not_found : (b : Bool) (x : ℕ) → cond b (Some x) None ≡ None → b ≡ false
not_found true x e = absurd cc
not_found false x e = refl

-- the bytes of a text are of its kind
pub text_made : (kind : TextKind) (text : List ℕ) → IsText kind text → made_of (is_allowed kind) text ≡ true
text_made kind text fits =
    let none = (no_fault (ltb (length text) (least_length kind)) (leb (length text) (greatest_length kind)) (first_not_allowed kind text) 0 _ fits).1 in
    let place : ℕ = position_or_len (λ b. not (is_allowed kind b)) text in
    all_pass (is_allowed kind) text (ltb-false _ _ (not_found (ltb place (length text)) place none))

pub text_lacks : (kind : TextKind) (byte : ℕ) (text : List ℕ) → is_allowed kind byte ≡ false → IsText kind text → lacks byte text ≡ true
text_lacks kind byte text fails fits = lacks_failing (is_allowed kind) byte text fails (text_made kind text fits)

-- and there are as many as there must be
pub text_long : (kind : TextKind) (text : List ℕ) → IsText kind text → least_length kind ≤ length text
text_long kind text fits =
    ltb-false _ _ (no_fault (ltb (length text) (least_length kind)) (leb (length text) (greatest_length kind)) (first_not_allowed kind text) 0 _ fits).0

-- ---- cuts

-- a text cut at each place of a byte
abbrev pub cut : ℕ → List ℕ → List (List ℕ)
cut byte text = slice_split (λ one. eqb one byte) text

by_recursion : (byte : ℕ) (bytes : List ℕ) → lacks byte bytes ≡ true → AllByRecursion (λ one. eqb one byte ≡ false) bytes
by_recursion byte [] h = tt
by_recursion byte (one ∷ bytes) h =
    let parts = and_parts (not (eqb one byte)) (lacks byte bytes) h in
    (not-true (eqb one byte) parts.0, by_recursion byte bytes parts.1)

-- the first piece ends at the byte
pub cut_at : (byte : ℕ) (piece rest : List ℕ) → lacks byte piece ≡ true → cut byte (piece ++ byte ∷ rest) ≡ piece ∷ cut byte rest
cut_at byte piece rest h =
    slice_split_at (λ one. eqb one byte) piece byte rest (All-from_recursion (λ one. eqb one byte ≡ false) piece (by_recursion byte piece h)) (eq-eqb byte byte refl)

-- the last piece is what is left
pub cut_last : (byte : ℕ) (piece : List ℕ) → lacks byte piece ≡ true → cut byte piece ≡ piece ∷ []
cut_last byte piece h = slice_split_none (λ one. eqb one byte) piece (All-from_recursion (λ one. eqb one byte ≡ false) piece (by_recursion byte piece h))

onto_first-append : (byte : ℕ) (pieces more : List (List ℕ)) → 0 < length pieces → onto_first byte (pieces ++ more) ≡ onto_first byte pieces ++ more
onto_first-append byte [] more some = absurd (omega arith)
onto_first-append byte (piece ∷ pieces) more some = refl

-- a text in two halves with the byte between them comes in the pieces of the two
pub cut-append : (byte : ℕ) (front back : List ℕ) → cut byte (front ++ byte ∷ back) ≡ cut byte front ++ cut byte back
cut-append byte [] back = cut_at byte [] back refl
cut-append byte (one ∷ front) back =
    elim (eqb one byte) as (λ b. cond b ([] ∷ cut byte (front ++ byte ∷ back)) (onto_first one (cut byte (front ++ byte ∷ back))) ≡ cond b ([] ∷ cut byte front) (onto_first one (cut byte front)) ++ cut byte back) [
      | true ↦ ap (λ (ps : List (List ℕ)). [] ∷ ps) (cut-append byte front back)
      | false ↦
          ap (onto_first one) (cut-append byte front back)
          ∙ onto_first-append one (cut byte front) (cut byte back) (omega (arith, length-slice_split (λ b. eqb b byte) front))
    ]

-- the pieces put together are the text
pub join_cut : (byte : ℕ) (text : List ℕ) → join_with_byte byte (cut byte text) ≡ text
join_cut byte text = join_with_byte-slice_split byte text

-- each piece is made of bytes that pass
abbrev pub EachMade : (ℕ → Bool) → List (List ℕ) → Type 0
EachMade test [] = Unit {0}
EachMade test (piece ∷ pieces) = (made_of test piece ≡ true) × EachMade test pieces

pub EachMade-append : (test : ℕ → Bool) (a b : List (List ℕ)) → EachMade test a → EachMade test b → EachMade test (a ++ b)
EachMade-append test [] b first second = second
EachMade-append test (piece ∷ a) b first second = (first.0, EachMade-append test a b first.1 second)

pub EachMade-weaker : (p q : ℕ → Bool) → ((byte : ℕ) → p byte ≡ true → q byte ≡ true) → (pieces : List (List ℕ)) → EachMade p pieces → EachMade q pieces
EachMade-weaker p q weaker [] made = tt
EachMade-weaker p q weaker (piece ∷ pieces) made = (made_of-weaker p q weaker piece made.0, EachMade-weaker p q weaker pieces made.1)

-- what doesn't pass is not among bytes that do
pub each_lacks : (test : ℕ → Bool) (byte : ℕ) (pieces : List (List ℕ)) → test byte ≡ false → EachMade test pieces → EachMade (λ one. not (eqb one byte)) pieces
each_lacks test byte pieces fails made = EachMade-weaker test (λ one. not (eqb one byte)) (λ one passes. unlike test byte one fails passes) pieces made

-- what passes for the pieces and for the byte that joins them passes for the whole
pub joined_made : (test : ℕ → Bool) (joint : ℕ) (pieces : List (List ℕ)) → test joint ≡ true → EachMade test pieces → made_of test (join_with_byte joint pieces) ≡ true
joined_made test joint [] passes made = refl
joined_made test joint (piece ∷ []) passes made = made.0
joined_made test joint (piece ∷ next ∷ more) passes made =
    made_of-append test piece (joint ∷ join_with_byte joint (next ∷ more)) made.0
    (and_both (test joint) (made_of test (join_with_byte joint (next ∷ more))) passes (joined_made test joint (next ∷ more) passes made.1))

-- no piece has the byte
abbrev pub EachLacks : ℕ → List (List ℕ) → Type 0
EachLacks byte pieces = EachMade (λ one. not (eqb one byte)) pieces

-- pieces that are joined by a byte which stands in none of them come back
pub cut_joined : (byte : ℕ) (piece : List ℕ) (pieces : List (List ℕ)) → EachLacks byte (piece ∷ pieces) → cut byte (join_with_byte byte (piece ∷ pieces)) ≡ piece ∷ pieces
cut_joined byte piece [] lack = cut_last byte piece lack.0
cut_joined byte piece (next ∷ more) lack =
    cut_at byte piece (join_with_byte byte (next ∷ more)) lack.0 ∙ ap (λ (ps : List (List ℕ)). piece ∷ ps) (cut_joined byte next more lack.1)

-- and where it may stand in the last, that one comes back in pieces
pub cut_joined_last : (byte : ℕ) (pieces : List (List ℕ)) (last : List ℕ) → EachLacks byte pieces → cut byte (join_with_byte byte (pieces ++ last ∷ [])) ≡ pieces ++ cut byte last
cut_joined_last byte [] last lack = refl
cut_joined_last byte (piece ∷ []) last lack = cut_at byte piece last lack.0
cut_joined_last byte (piece ∷ next ∷ more) last lack =
    cut_at byte piece (join_with_byte byte (next ∷ (more ++ last ∷ []))) lack.0 ∙ ap (λ (ps : List (List ℕ)). piece ∷ ps) (cut_joined_last byte (next ∷ more) last lack.1)

-- what stands behind a label
abbrev pub behind : List ℕ → List ℕ → List ℕ
behind [] word = word
behind (one ∷ label) [] = []
behind (one ∷ label) (byte ∷ word) = behind label word

pub behind_is : (label text : List ℕ) → behind label (label ++ text) ≡ text
behind_is [] text = refl
behind_is (byte ∷ label) text = behind_is label text

-- ---- words

-- a byte of a word: no line feed, no space, no `>`
abbrev pub is_word_byte : ℕ → Bool
is_word_byte byte = not (eqb byte 10) && (not (eqb byte 32) && not (eqb byte 62))

word_passes : (test : ℕ → Bool) (one : ℕ) → test 10 ≡ false → test 32 ≡ false → test 62 ≡ false → test one ≡ true → is_word_byte one ≡ true
word_passes test one feed space arrow passes =
    and_both (not (eqb one 10)) (not (eqb one 32) && not (eqb one 62)) (unlike test 10 one feed passes)
    (and_both (not (eqb one 32)) (not (eqb one 62)) (unlike test 32 one space passes) (unlike test 62 one arrow passes))

-- bytes of a kind to which none of the three belongs are a word
pub word_by : (test : ℕ → Bool) (bytes : List ℕ) → test 10 ≡ false → test 32 ≡ false → test 62 ≡ false → made_of test bytes ≡ true → made_of is_word_byte bytes ≡ true
word_by test bytes feed space arrow made = made_of-weaker test is_word_byte (λ one passes. word_passes test one feed space arrow passes) bytes made

-- a byte of the pieces that another joins to an item of a list: one of a word, and neither a comma nor that one
abbrev pub is_piece_byte : ℕ → ℕ → Bool
is_piece_byte joint byte = is_word_byte byte && (not (eqb byte 44) && not (eqb byte joint))

pub piece_by : (joint : ℕ) (test : ℕ → Bool) (bytes : List ℕ) → test 10 ≡ false → test 32 ≡ false → test 62 ≡ false → test 44 ≡ false → test joint ≡ false → made_of test bytes ≡ true
    → made_of (is_piece_byte joint) bytes ≡ true
piece_by joint test bytes feed space arrow comma other made =
    made_of-weaker test (is_piece_byte joint) (λ one passes.
    and_both (is_word_byte one) (not (eqb one 44) && not (eqb one joint)) (word_passes test one feed space arrow passes)
    (and_both (not (eqb one 44)) (not (eqb one joint)) (unlike test 44 one comma passes) (unlike test joint one other passes)))
    bytes made

pub id_word : (bytes : List ℕ) → made_of is_id_byte bytes ≡ true → made_of is_word_byte bytes ≡ true
id_word bytes made = word_by is_id_byte bytes refl refl refl made

pub number_word : (number : ℕ) → number < 2 ^ 64 → made_of is_word_byte (decimal number) ≡ true
number_word number fits = word_by is_part_byte (decimal number) refl refl refl (decimal_made number fits)

pub name_word : (text : List ℕ) → IsText Name text → made_of is_word_byte text ≡ true
name_word text fits = word_by (is_allowed Name) text refl refl refl (text_made Name text fits)

pub node_word : (text : List ℕ) → IsText Node text → made_of is_word_byte text ≡ true
node_word text fits = word_by (is_allowed Node) text refl refl refl (text_made Node text fits)

pub queue_word : (text : List ℕ) → IsText Queue text → made_of is_word_byte text ≡ true
queue_word text fits = word_by (is_allowed Queue) text refl refl refl (text_made Queue text fits)

-- each of them is a word
abbrev pub AreWords : List (List ℕ) → Type 0
AreWords words = EachMade is_word_byte words

pub words_lack : (byte : ℕ) (words : List (List ℕ)) → is_word_byte byte ≡ false → AreWords words → EachLacks byte words
words_lack byte words fails are = each_lacks is_word_byte byte words fails are

pub EachLacks-append : (byte : ℕ) (a b : List (List ℕ)) → EachLacks byte a → EachLacks byte b → EachLacks byte (a ++ b)
EachLacks-append byte a b first second = EachMade-append (λ one. not (eqb one byte)) a b first second

-- what stands in none of the pieces and doesn't join them stands not in the whole
pub joined_lacks : (byte joint : ℕ) (pieces : List (List ℕ)) → eqb joint byte ≡ false → EachLacks byte pieces → lacks byte (join_with_byte joint pieces) ≡ true
joined_lacks byte joint pieces other lack = joined_made (λ one. not (eqb one byte)) joint pieces (ap not other) lack
