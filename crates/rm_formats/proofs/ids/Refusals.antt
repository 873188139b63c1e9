-- How far bytes go along texts that are made of parts.
use Rattle.std.proofs.Common.{◌≡◌, ◌≢◌, ℕ, ◌+◌, ◌-◌, ◌<◌, ◌≤◌, List, [], ◌∷◌, ◌++◌, length, take, drop, get_or, refl, sym, ap, subst, ◌∙◌, append_assoc, arith, inl, inr, ◌⊎◌}
use Rattle.std.specs.Prelude.{codes}
use Rattle.std.proofs.lemmas.Bool.{cases_lt}
use Rattle.std.proofs.lemmas.List.{append_cancel_left, length-append, length-drop, length_push, drop_more, take_at, take-take, take-append-drop, length-take-le}
use Rattle.rm_formats.specs.IdTexts.{padded}
use Rattle.rm_types.specs.Ranges.{IsWithin}
use Rattle.rm_formats.specs.declared.ids.parts.Part.{Part}
use Rattle.rm_formats.specs.ids.Parts.{least_digits, greatest}
use Rattle.rm_formats.specs.ids.Digits.{IsDigit, AreDigits, value_of, CanBeginNumber}
use Rattle.rm_formats.specs.ids.Fronts.{IsFrontOf, IsPlace}
use Rattle.rm_formats.specs.ids.Steps.{After, NumberThen, AreFields, Refuses, LacksByte, LeavesWord, Passes, StopsSpelling, NumberPasses, NumberStops}
use Rattle.rm_formats.proofs.ids.Digits.{HasDigit, LacksDigit, starts_with, AreDigits-append, heads_alike, digits_alike, digits_within, padded_is_digits, length-padded, digit_or_not}
use Rattle.rm_formats.proofs.ids.Numerals.{goes_on, enough_digits, number_begins, fits, some_digits}

-- ---- kinds of texts

-- a text of the kind with some more of it
pub record Inhabits (IsKind : List ℕ → Type 0) : Type 0 where
  pub text : List ℕ
  pub is : IsKind text

-- no text of the kind begins with a digit
pub record StartsApart (IsKind : List ℕ → Type 0) : Type 0 where
  pub apart : (text : List ℕ) → IsKind text → LacksDigit text

number_with : (part : Part) (parts : List Part) → Inhabits (AreFields parts) → Inhabits (NumberThen part (AreFields parts))
number_with part parts some = record {
  text = padded (least_digits part) 1 ++ some.text;
  is = record { number = 1; rest = some.text; within = (omega arith, omega (arith, some_digits part)); same = refl; is = some.is };
}

pub fields_have_text : (parts : List Part) → Inhabits (AreFields parts)
fields_have_text [] = record { text = []; is = refl }
fields_have_text (part ∷ parts) =
    let tail = number_with part parts (fields_have_text parts) in
    record { text = 95 ∷ tail.text; is = record { rest = tail.text; same = refl; is = tail.is } }

pub number_has_text : (part : Part) (parts : List Part) → Inhabits (NumberThen part (AreFields parts))
number_has_text part parts = number_with part parts (fields_have_text parts)

pub no_digit : IsDigit 95 → ⊥
no_digit digit = absurd (omega arith)

pub fields_start_apart : (parts : List Part) → StartsApart (AreFields parts)
fields_start_apart [] = record { apart = λ text is. subst LacksDigit (sym is) tt }
fields_start_apart (part ∷ parts) = record { apart = λ text is. subst LacksDigit (sym is.same) no_digit }

-- ---- a word

-- what is refused behind a word is refused with it
pub behind_word : (IsKind : List ℕ → Type 0) (word bytes rest : List ℕ) (left : ℕ) → bytes ≡ word ++ rest → Refuses IsKind rest left → Refuses (After word IsKind) bytes left
behind_word IsKind word bytes rest left e refuses = record {
  front = word ++ refuses.front;
  rest = refuses.rest;
  parts = e ∙ ap (λ (t : List ℕ). word ++ t) refuses.parts ∙ sym (append_assoc word refuses.front refuses.rest);
  count = refuses.count;
  begins = record {
    more = refuses.begins.more;
    is = record { rest = refuses.front ++ refuses.begins.more; same = append_assoc word refuses.front refuses.begins.more; is = refuses.begins.is };
  };
  longest = λ more others split begins.
      let tail = begins.is.rest in
      let grouped : word ++ ((refuses.front ++ more) ++ begins.more) ≡ word ++ tail =
      sym (append_assoc word (refuses.front ++ more) begins.more) ∙ ap (λ (t : List ℕ). t ++ begins.more) (sym (append_assoc word refuses.front more)) ∙ begins.is.same in
      let same : (refuses.front ++ more) ++ begins.more ≡ tail = append_cancel_left word ((refuses.front ++ more) ++ begins.more) tail grouped in
      refuses.longest more others split (record { more = begins.more; is = subst IsKind (sym same) begins.is.is });
  none = λ is. refuses.none (subst IsKind (append_cancel_left word is.rest rest (sym is.same ∙ e)) is.is);
}

lacks_front : (next : ℕ) (rest more others tail behind : List ℕ) → LacksByte next rest → rest ≡ more ++ others → more ++ tail ≡ next ∷ behind → more ≡ []
lacks_front next rest [] others tail behind lacks split e = refl
lacks_front next rest (byte ∷ more) others tail behind lacks split e =
    absurd (subst (LacksByte next) split lacks (heads_alike byte next (more ++ tail) behind e).0)

-- bytes that leave a word are refused
pub within_word : (IsKind : List ℕ → Type 0) (word bytes : List ℕ) (left : ℕ) → Inhabits IsKind → LeavesWord word bytes left → Refuses (After word IsKind) bytes left
within_word IsKind word bytes left some leaves =
    let goes_on_so : (more tail : List ℕ) → leaves.front ++ more ≡ word ++ tail → more ≡ leaves.next ∷ (leaves.others ++ tail) = λ more tail e.
    append_cancel_left leaves.front more (leaves.next ∷ (leaves.others ++ tail)) (e ∙ ap (λ (t : List ℕ). t ++ tail) leaves.of_word ∙ append_assoc leaves.front (leaves.next ∷ leaves.others) tail) in
    record {
      front = leaves.front;
      rest = leaves.rest;
      parts = leaves.of_bytes;
      count = leaves.count;
      begins = record {
        more = leaves.next ∷ (leaves.others ++ some.text);
        is = record {
          rest = some.text;
          same = sym (append_assoc leaves.front (leaves.next ∷ leaves.others) some.text) ∙ ap (λ (t : List ℕ). t ++ some.text) (sym leaves.of_word);
          is = some.is;
        };
      };
      longest = λ more others split begins.
          lacks_front leaves.next leaves.rest more others begins.more (leaves.others ++ begins.is.rest) leaves.lacks split
          (goes_on_so (more ++ begins.more) begins.is.rest (sym (append_assoc leaves.front more begins.more) ∙ begins.is.same));
      none = λ is.
          let e : leaves.rest ≡ leaves.next ∷ (leaves.others ++ is.rest) = goes_on_so leaves.rest is.rest (sym leaves.of_bytes ∙ is.same) in
          subst (LacksByte leaves.next) e leaves.lacks refl;
    }

-- ---- a number

pub number_digits : (part : Part) (number : ℕ) → IsWithin 1 (greatest part) number → AreDigits (padded (least_digits part) number)
number_digits part number within = padded_is_digits (least_digits part) number (omega (arith, within.1, fits part))

lacks_alike : (front : List ℕ) (byte : ℕ) (a b : List ℕ) → LacksDigit (front ++ byte ∷ a) → LacksDigit (front ++ byte ∷ b)
lacks_alike [] byte a b lacks = lacks
lacks_alike (first ∷ front) byte a b lacks = lacks

-- behind the text of a number, no more than what begins a text there
more_behind : (IsKind : List ℕ → Type 0) (part : Part) (number : ℕ) (rest front behind more others : List ℕ) → IsWithin 1 (greatest part) number → LacksDigit rest → StartsApart IsKind
    → rest ≡ front ++ behind → behind ≡ more ++ others → (IsFrontOf IsKind (front ++ more) → more ≡ []) → IsFrontOf (NumberThen part IsKind) ((padded (least_digits part) number ++ front) ++ more) → more ≡ []
more_behind IsKind part number rest front behind [] others within lacks apart split again longest begins = refl
more_behind IsKind part number rest front behind (byte ∷ more) others within lacks apart split again longest begins =
    let text = padded (least_digits part) number in
    let whole : rest ≡ front ++ byte ∷ (more ++ others) = split ∙ ap (λ (t : List ℕ). front ++ t) again in
    let grouped : text ++ (front ++ byte ∷ (more ++ begins.more)) ≡ padded (least_digits part) begins.is.number ++ begins.is.rest =
    sym (append_assoc text front (byte ∷ (more ++ begins.more))) ∙ sym (append_assoc (text ++ front) (byte ∷ more) begins.more) ∙ begins.is.same in
    let same = digits_alike text (padded (least_digits part) begins.is.number) (front ++ byte ∷ (more ++ begins.more)) begins.is.rest (number_digits part number within)
    (number_digits part begins.is.number begins.is.within) (lacks_alike front byte (more ++ others) (more ++ begins.more) (subst LacksDigit whole lacks))
    (apart.apart begins.is.rest begins.is.is) grouped in
    longest (record { more = begins.more; is = subst IsKind (sym same.1 ∙ sym (append_assoc front (byte ∷ more) begins.more)) begins.is.is })

-- what is refused behind a number is refused with it
pub behind_number : (IsKind : List ℕ → Type 0) (part : Part) (number : ℕ) (bytes rest : List ℕ) (left : ℕ) → IsWithin 1 (greatest part) number → bytes ≡ padded (least_digits part) number ++ rest
    → LacksDigit rest → StartsApart IsKind → Refuses IsKind rest left → Refuses (NumberThen part IsKind) bytes left
behind_number IsKind part number bytes rest left within e lacks apart refuses =
    let text = padded (least_digits part) number in
    record {
      front = text ++ refuses.front;
      rest = refuses.rest;
      parts = e ∙ ap (λ (t : List ℕ). text ++ t) refuses.parts ∙ sym (append_assoc text refuses.front refuses.rest);
      count = refuses.count;
      begins = record {
        more = refuses.begins.more;
        is = record {
          number = number;
          rest = refuses.front ++ refuses.begins.more;
          within = within;
          same = append_assoc text refuses.front refuses.begins.more;
          is = refuses.begins.is;
        };
      };
      longest = λ more others split begins. more_behind IsKind part number rest refuses.front refuses.rest more others within lacks apart refuses.parts split (refuses.longest more others split) begins;
      none = λ is.
          let same = digits_alike text (padded (least_digits part) is.number) rest is.rest (number_digits part number within) (number_digits part is.number is.within) lacks (apart.apart is.rest is.is) (sym e ∙ is.same) in
          refuses.none (subst IsKind (sym same.1) is.is);
    }

-- the bytes begin with no number's text: a number's text begins with a front of them and none with one byte more, and
-- that front has too few digits, or a digit stands behind it
pub record NumberEnds (part : Part) (bytes : List ℕ) (left : ℕ) : Type 0 where
  pub front : List ℕ
  pub rest : List ℕ
  pub parts : bytes ≡ front ++ rest
  pub count : length rest ≡ left
  pub can : CanBeginNumber part front
  pub next : (byte : ℕ) (others : List ℕ) → rest ≡ byte ∷ others → CanBeginNumber part (front ++ byte ∷ []) → ⊥
  pub unfit : (length front < least_digits part) ⊎ HasDigit rest

long_enough : (least number : ℕ) → least ≤ length (padded least number)
long_enough least number = omega (arith, length-padded least number)

no_number_here : (part : Part) (front : List ℕ) (number : ℕ) → front ≡ padded (least_digits part) number → length front < least_digits part → ⊥
no_number_here part front number e few = absurd (omega (arith, ap length e, long_enough (least_digits part) number))

-- with the next byte, no number's text and then what begins with no digit
no_number_next : (part : Part) (front rest : List ℕ) (byte : ℕ) (others tail : List ℕ) (number : ℕ) (behind : List ℕ) → CanBeginNumber part front
    → ((next : ℕ) (after : List ℕ) → rest ≡ next ∷ after → CanBeginNumber part (front ++ next ∷ []) → ⊥) → (length front < least_digits part) ⊎ HasDigit rest → rest ≡ byte ∷ others
    → IsWithin 1 (greatest part) number → LacksDigit behind → front ++ byte ∷ tail ≡ padded (least_digits part) number ++ behind → ⊥
no_number_next part front rest byte others tail number behind can next unfit split within lacks e =
    let text = padded (least_digits part) number in
    elim (digit_or_not byte) [
      | inl digit ↦
          let all : AreDigits (front ++ byte ∷ []) = AreDigits-append front (byte ∷ []) can.digits_alone (digit, tt) in
          let begun = digits_within (front ++ byte ∷ []) text tail behind all lacks (append_assoc front (byte ∷ []) tail ∙ e) in
          next byte others split (number_begins part number (front ++ byte ∷ []) begun.0 within begun.1)
      | inr not_digit ↦
          let same = digits_alike front text (byte ∷ tail) behind can.digits_alone (number_digits part number within) not_digit lacks e in
          elim unfit [
            | inl few ↦ no_number_here part front number same.0 few
            | inr digit ↦ not_digit (subst HasDigit split digit)
          ]
    ]

-- the bytes themselves are no number's text and then what begins with no digit
no_number_whole : (part : Part) (front rest : List ℕ) (number : ℕ) (behind : List ℕ) → CanBeginNumber part front
    → ((next : ℕ) (after : List ℕ) → rest ≡ next ∷ after → CanBeginNumber part (front ++ next ∷ []) → ⊥) → (length front < least_digits part) ⊎ HasDigit rest
    → IsWithin 1 (greatest part) number → LacksDigit behind → front ++ rest ≡ padded (least_digits part) number ++ behind → ⊥
no_number_whole part front [] number behind can next unfit within lacks e =
    let same = digits_alike front (padded (least_digits part) number) [] behind can.digits_alone (number_digits part number within) tt lacks e in
    elim unfit [ inl few ↦ no_number_here part front number same.0 few | inr digit ↦ digit ]
no_number_whole part front (byte ∷ rest) number behind can next unfit within lacks e =
    no_number_next part front (byte ∷ rest) byte rest rest number behind can next unfit refl within lacks e

no_more_digits : (IsKind : List ℕ → Type 0) (part : Part) (front rest more others : List ℕ) → CanBeginNumber part front
    → ((next : ℕ) (after : List ℕ) → rest ≡ next ∷ after → CanBeginNumber part (front ++ next ∷ []) → ⊥) → (length front < least_digits part) ⊎ HasDigit rest
    → StartsApart IsKind → rest ≡ more ++ others → IsFrontOf (NumberThen part IsKind) (front ++ more) → more ≡ []
no_more_digits IsKind part front rest [] others can next unfit apart split begins = refl
no_more_digits IsKind part front rest (byte ∷ more) others can next unfit apart split begins =
    absurd (no_number_next part front rest byte (more ++ others) (more ++ begins.more) begins.is.number begins.is.rest can next unfit split begins.is.within
    (apart.apart begins.is.rest begins.is.is) (sym (append_assoc front (byte ∷ more) begins.more) ∙ begins.is.same))

-- bytes that begin with no number's text are refused
pub within_number : (IsKind : List ℕ → Type 0) (part : Part) (bytes : List ℕ) (left : ℕ) → Inhabits IsKind → StartsApart IsKind → NumberEnds part bytes left → Refuses (NumberThen part IsKind) bytes left
within_number IsKind part bytes left some apart ends =
    let on = goes_on part ends.front ends.can in
    record {
      front = ends.front;
      rest = ends.rest;
      parts = ends.parts;
      count = ends.count;
      begins = record {
        more = on.0 ++ some.text;
        is = record {
          number = on.1.number;
          rest = some.text;
          within = on.1.within;
          same = sym (append_assoc ends.front on.0 some.text) ∙ ap (λ (t : List ℕ). t ++ some.text) on.1.same;
          is = some.is;
        };
      };
      longest = λ more others split begins. no_more_digits IsKind part ends.front ends.rest more others ends.can ends.next ends.unfit apart split begins;
      none = λ is. no_number_whole part ends.front ends.rest is.number is.rest ends.can ends.next ends.unfit is.within (apart.apart is.rest is.is) (sym ends.parts ∙ is.same);
    }

-- ---- the end

nothing_more : (front more : List ℕ) → front ++ more ≡ [] → front ≡ []
nothing_more [] more e = refl
nothing_more (byte ∷ front) more e = absurd cc

-- bytes are refused where there may be none
pub no_end : (bytes : List ℕ) → 0 < length bytes → Refuses (AreFields []) bytes (length bytes)
no_end bytes some = record {
  front = [];
  rest = bytes;
  parts = refl;
  count = refl;
  begins = record { more = []; is = refl };
  longest = λ more others split begins. nothing_more more begins.more begins.is;
  none = λ is. absurd (omega (arith, ap length is));
}

-- ---- kinds that are alike, and one kind or another

pub alike : (IsKind IsOther : List ℕ → Type 0) (bytes : List ℕ) (left : ℕ) → ((text : List ℕ) → IsKind text → IsOther text) → ((text : List ℕ) → IsOther text → IsKind text)
    → Refuses IsKind bytes left → Refuses IsOther bytes left
alike IsKind IsOther bytes left there back refuses = record {
  front = refuses.front;
  rest = refuses.rest;
  parts = refuses.parts;
  count = refuses.count;
  begins = record { more = refuses.begins.more; is = there (refuses.front ++ refuses.begins.more) refuses.begins.is };
  longest = λ more others split begins. refuses.longest more others split (record { more = begins.more; is = back ((refuses.front ++ more) ++ begins.more) begins.is });
  none = λ is. refuses.none (back bytes is);
}

-- a text of one kind or of another
abbrev pub Either : (List ℕ → Type 0) → (List ℕ → Type 0) → List ℕ → Type 0
Either IsKind IsOther text = IsKind text ⊎ IsOther text

either_longest : (IsKind IsOther : List ℕ → Type 0) (bytes : List ℕ) (left : ℕ) (refuses : Refuses IsKind bytes left)
    → ((front rest : List ℕ) → bytes ≡ front ++ rest → IsFrontOf IsOther front → IsFrontOf IsKind front)
    → (more others tail : List ℕ) → refuses.rest ≡ more ++ others → Either IsKind IsOther ((refuses.front ++ more) ++ tail) → more ≡ []
either_longest IsKind IsOther bytes left refuses begin more others tail split (inl is) = refuses.longest more others split (record { more = tail; is = is })
either_longest IsKind IsOther bytes left refuses begin more others tail split (inr is) =
    let whole : bytes ≡ (refuses.front ++ more) ++ others = refuses.parts ∙ ap (λ (t : List ℕ). refuses.front ++ t) split ∙ sym (append_assoc refuses.front more others) in
    refuses.longest more others split (begin (refuses.front ++ more) others whole (record { more = tail; is = is }))

-- another kind changes nothing where its texts begin with no other fronts of the bytes
pub either : (IsKind IsOther : List ℕ → Type 0) (bytes : List ℕ) (left : ℕ) → Refuses IsKind bytes left
    → ((front rest : List ℕ) → bytes ≡ front ++ rest → IsFrontOf IsOther front → IsFrontOf IsKind front) → (IsOther bytes → ⊥) → Refuses (Either IsKind IsOther) bytes left
either IsKind IsOther bytes left refuses begin none = record {
  front = refuses.front;
  rest = refuses.rest;
  parts = refuses.parts;
  count = refuses.count;
  begins = record { more = refuses.begins.more; is = inl refuses.begins.is };
  longest = λ more others split begins. either_longest IsKind IsOther bytes left refuses begin more others begins.more split begins.is;
  none = λ is. elim is [ inl one ↦ refuses.none one | inr other ↦ none other ];
}

-- ---- the place

-- bytes that are refused leave the texts where so many of them are left
place_of : (IsKind : List ℕ → Type 0) (bytes : List ℕ) (left : ℕ) → Refuses IsKind bytes left → IsPlace IsKind bytes (length bytes - left)
place_of IsKind bytes left refuses =
    let size : length bytes ≡ length refuses.front + length refuses.rest = ap length refuses.parts ∙ length-append refuses.front refuses.rest in
    let place : length refuses.front ≡ length bytes - left = omega (arith, refuses.count) in
    let front_is : take (length bytes - left) bytes ≡ refuses.front = ap (take (length bytes - left)) refuses.parts ∙ take_at refuses.front refuses.rest (length bytes - left) place in
    record {
      within = omega arith;
      front = subst (IsFrontOf IsKind) (sym front_is) (record { more = refuses.begins.more; is = refuses.begins.is });
      longest = λ count within begins. elim (cases_lt (length bytes - left) count) [
        | inl beyond ↦
            let more = drop (length bytes - left) (take count bytes) in
            let first : take (length bytes - left) (take count bytes) ≡ refuses.front = take-take (length bytes - left) count bytes (omega arith) ∙ front_is in
            let whole : refuses.front ++ more ≡ take count bytes = ap (λ (t : List ℕ). t ++ more) (sym first) ∙ take-append-drop (length bytes - left) (take count bytes) in
            let split : refuses.rest ≡ more ++ drop count bytes = append_cancel_left refuses.front refuses.rest (more ++ drop count bytes)
            (sym refuses.parts ∙ sym (take-append-drop count bytes) ∙ ap (λ (t : List ℕ). t ++ drop count bytes) (sym whole) ∙ append_assoc refuses.front more (drop count bytes)) in
            let none : more ≡ [] = refuses.longest more (drop count bytes) split (subst (IsFrontOf IsKind) (sym whole) begins) in
            absurd (omega (arith, ap length none, length-drop (length bytes - left) (take count bytes), length-take-le count bytes within))
        | inr here ↦ here
      ];
    }

-- ---- what a reader of one part finds

-- the longest front with which the text of a number can begin, and what stands behind it
pub record SplitsDigits (part : Part) (bytes digits rest : List ℕ) (count number : ℕ) : Type 0 where
  pub within : count ≤ length bytes
  pub front : digits ≡ take count bytes
  pub back : rest ≡ drop count bytes
  pub can : CanBeginNumber part (take count bytes)
  pub worth : number ≡ value_of (take count bytes)
  pub longest : count < length bytes → CanBeginNumber part (take (count + 1) bytes) → ⊥

pub split_digits : (part : Part) (bytes digits rest : List ℕ) (count number : ℕ) → count ≤ length bytes → digits ≡ take count bytes → rest ≡ drop count bytes → CanBeginNumber part (take count bytes)
    → number ≡ value_of (take count bytes) → (count < length bytes → CanBeginNumber part (take (count + 1) bytes) → ⊥) → SplitsDigits part bytes digits rest count number
split_digits part bytes digits rest count number within front back can worth longest =
    record { within = within; front = front; back = back; can = can; worth = worth; longest = longest }

number_ends : (part : Part) (bytes digits rest : List ℕ) (count number : ℕ) → SplitsDigits part bytes digits rest count number → (length digits < least_digits part) ⊎ HasDigit rest → NumberEnds part bytes (length rest)
number_ends part bytes digits rest count number splits unfit =
    let whole : bytes ≡ digits ++ rest = sym (take-append-drop count bytes) ∙ ap (λ (t : List ℕ). t ++ drop count bytes) (sym splits.front) ∙ ap (λ (t : List ℕ). digits ++ t) (sym splits.back) in
    let size : length digits ≡ count = ap length splits.front ∙ length-take-le count bytes splits.within in
    record {
      front = digits;
      rest = rest;
      parts = whole;
      count = refl;
      can = subst (CanBeginNumber part) (sym splits.front) splits.can;
      next = λ byte others split can.
          let all : bytes ≡ (digits ++ byte ∷ []) ++ others = whole ∙ ap (λ (t : List ℕ). digits ++ t) split ∙ sym (append_assoc digits (byte ∷ []) others) in
          let long : length (digits ++ byte ∷ []) ≡ count + 1 = length_push digits byte ∙ ap (λ (n : ℕ). n + 1) size in
          let first : take (count + 1) bytes ≡ digits ++ byte ∷ [] = ap (take (count + 1)) all ∙ take_at (digits ++ byte ∷ []) others (count + 1) long in
          splits.longest (omega (arith, long, ap length all, length-append (digits ++ byte ∷ []) others)) (subst (CanBeginNumber part) (sym first) can);
      unfit = unfit;
    }

-- too few digits, or a digit behind them
pub number_stops : (part : Part) (bytes digits rest : List ℕ) (count number : ℕ) → SplitsDigits part bytes digits rest count number → (length digits < least_digits part) ⊎ HasDigit rest
    → NumberStops part bytes (length rest)
number_stops part bytes digits rest count number splits unfit = λ more.
    within_number (AreFields more) part bytes (length rest) (fields_have_text more) (fields_start_apart more) (number_ends part bytes digits rest count number splits unfit)

-- enough digits are the text of their number, whatever stands behind them
pub record ReadsNumber (part : Part) (bytes rest : List ℕ) (number : ℕ) : Type 0 where
  pub within : IsWithin 1 (greatest part) number
  pub same : bytes ≡ padded (least_digits part) number ++ rest

pub number_reads : (part : Part) (bytes digits rest : List ℕ) (count number : ℕ) → SplitsDigits part bytes digits rest count number → least_digits part ≤ length digits → ReadsNumber part bytes rest number
number_reads part bytes digits rest count number splits enough =
    let size : length digits ≡ length (take count bytes) = ap length splits.front in
    let many : least_digits part ≤ length (take count bytes) = omega arith in
    let text : take count bytes ≡ padded (least_digits part) number =
    enough_digits part (take count bytes) splits.can many ∙ ap (padded (least_digits part)) (sym splits.worth) in
    record {
      within = (omega (arith, splits.can.some many, splits.worth), omega (arith, splits.can.small, splits.worth));
      same = sym (take-append-drop count bytes) ∙ ap (λ (t : List ℕ). t ++ drop count bytes) text ∙ ap (λ (t : List ℕ). padded (least_digits part) number ++ t) (sym splits.back);
    }

-- where a digit stands, nothing begins that begins with none
digit_refuses : (IsKind : List ℕ → Type 0) (bytes front rest : List ℕ) → HasDigit bytes → StartsApart IsKind → bytes ≡ front ++ rest → IsFrontOf IsKind front → front ≡ []
digit_refuses IsKind bytes [] rest digit apart e begins = refl
digit_refuses IsKind bytes (byte ∷ front) rest digit apart e begins = absurd (apart.apart (byte ∷ (front ++ begins.more)) begins.is (subst HasDigit e digit))

pub number_passes : (part : Part) (bytes digits rest : List ℕ) (count number : ℕ) → SplitsDigits part bytes digits rest count number → least_digits part ≤ length digits → NumberPasses part bytes rest
number_passes part bytes digits rest count number splits enough = λ more left refuses.
    let reads = number_reads part bytes digits rest count number splits enough in
    elim (starts_with rest) [
      | inl lacks ↦ behind_number (AreFields more) part number bytes rest left reads.within reads.same lacks (fields_start_apart more) refuses
      | inr digit ↦
          let none : refuses.front ≡ [] = digit_refuses (AreFields more) rest refuses.front refuses.rest digit (fields_start_apart more) refuses.parts refuses.begins in
          let all : length rest ≡ left = ap length refuses.parts ∙ ap (λ (t : List ℕ). length (t ++ refuses.rest)) none ∙ refuses.count in
          subst (Refuses (NumberThen part (AreFields more)) bytes) all (number_stops part bytes digits rest count number splits (inr digit) more)
    ]

pub lacks_byte : (byte : ℕ) (bytes : List ℕ) → (1 ≤ length bytes → get_or bytes 0 0 ≢ byte) → LacksByte byte bytes
lacks_byte byte [] other = tt
lacks_byte byte (first ∷ bytes) other = other (omega arith)

-- the bytes leave a word behind its first so many bytes
pub leaves_word : (word bytes rest : List ℕ) (count : ℕ) → count < length word → bytes ≡ take count word ++ rest → (1 ≤ length rest → get_or rest 0 0 ≢ get_or word count 0) → LeavesWord word bytes (length rest)
leaves_word word bytes rest count within parts other = record {
  front = take count word;
  next = get_or word count 0;
  others = drop (count + 1) word;
  rest = rest;
  of_word = sym (take-append-drop count word) ∙ ap (λ (t : List ℕ). take count word ++ t) (drop_more word count 0 within);
  of_bytes = parts;
  count = refl;
  lacks = lacks_byte (get_or word count 0) rest other;
}

-- the same at a field: a `_` and a number
pub field_stops_before : (part : Part) (bytes : List ℕ) (left : ℕ) → LeavesWord (codes "_") bytes left → StopsSpelling (part ∷ []) bytes left
field_stops_before part bytes left leaves = λ more.
    within_word (NumberThen part (AreFields more)) (codes "_") bytes left (number_has_text part more) leaves

pub field_stops : (part : Part) (bytes rest : List ℕ) (left : ℕ) → bytes ≡ codes "_" ++ rest → NumberStops part rest left → StopsSpelling (part ∷ []) bytes left
field_stops part bytes rest left e stops = λ more. behind_word (NumberThen part (AreFields more)) (codes "_") bytes rest left e (stops more)

pub field_passes : (part : Part) (bytes middle rest : List ℕ) → bytes ≡ codes "_" ++ middle → NumberPasses part middle rest → Passes (part ∷ []) bytes rest
field_passes part bytes middle rest e passes = λ more left refuses. behind_word (NumberThen part (AreFields more)) (codes "_") bytes middle left e (passes more left refuses)

-- ---- parts one after another

pub stops_first : (parts others : List Part) (bytes : List ℕ) (left : ℕ) → StopsSpelling parts bytes left → StopsSpelling (parts ++ others) bytes left
stops_first parts others bytes left stops = λ more. subst (λ (all : List Part). Refuses (AreFields all) bytes left) (sym (append_assoc parts others more)) (stops (others ++ more))

pub stops_then : (parts others : List Part) (bytes middle : List ℕ) (left : ℕ) → Passes parts bytes middle → StopsSpelling others middle left → StopsSpelling (parts ++ others) bytes left
stops_then parts others bytes middle left passes stops = λ more.
    subst (λ (all : List Part). Refuses (AreFields all) bytes left) (sym (append_assoc parts others more)) (passes (others ++ more) left (stops more))

pub at_place : (IsKind : List ℕ → Type 0) (bytes : List ℕ) (left place : ℕ) → Refuses IsKind bytes left → place ≡ length bytes - left → IsPlace IsKind bytes place
at_place IsKind bytes left place refuses e = subst (IsPlace IsKind bytes) (sym e) (place_of IsKind bytes left refuses)
