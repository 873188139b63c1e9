-- Bytes cut at their line feeds, and put together again.
use Rattle.std.proofs.Common.{◌≡◌, ℕ, ◌<◌, true, false, not, cond, eqb, List, [], ◌∷◌, ◌++◌, length, All, refl, sym, ap, subst, ◌∙◌, append_assoc, arith, ◌⊎◌, inl, inr}
use Rattle.std.specs.List.{flat_map, onto_first, AllByRecursion}
use Rattle.std.proofs.lemmas.Bool.{eqb-true, and_parts, not-true}
use Rattle.std.proofs.lemmas.List.{append-nil}
use Rattle.std.proofs.lemmas.List.Elements.{All-nil, All-cons, All-head, All-tail, recursion_from_All}
use Rattle.rm_page.proofs.Bytes.{lacks}
use Rattle.rm_lines.specs.Cuts.{IsFirstCut}
use Rattle.rm_lines.specs.Lines.{lines_of, ended, HasNoFeed, LackLastFeed, AreLinesOf}

abbrev IsNoFeed : ℕ → Type 0
IsNoFeed byte = eqb byte 10 ≡ false

-- ---- cut

-- a line feed before lines

feed_text : (bytes : List ℕ) (lines : List (List ℕ)) → (bytes ≡ flat_map ended lines) ⊎ LackLastFeed bytes lines → (10 ∷ bytes ≡ flat_map ended ([] ∷ lines)) ⊎ LackLastFeed (10 ∷ bytes) ([] ∷ lines)
feed_text bytes lines (inl e) = inl (ap (λ (rest : List ℕ). 10 ∷ rest) e)
feed_text bytes lines (inr lack) = inr (record {
  front = [] ∷ lack.front;
  last = lack.last;
  apart = ap (λ (ls : List (List ℕ)). [] ∷ ls) lack.apart;
  some = lack.some;
  text = ap (λ (rest : List ℕ). 10 ∷ rest) lack.text;
})

feed_before : (bytes : List ℕ) (lines : List (List ℕ)) → AreLinesOf bytes lines → AreLinesOf (10 ∷ bytes) ([] ∷ lines)
feed_before bytes lines are = record { no_feeds = All-cons HasNoFeed [] lines (All-nil IsNoFeed) are.no_feeds; text = feed_text bytes lines are.text }

-- another byte before lines

not_apart : (front : List (List ℕ)) (last : List ℕ) → [] ≡ front ++ last ∷ [] → ⊥
not_apart [] last e = cc
not_apart (line ∷ front) last e = cc

lone_byte : (byte : ℕ) (bytes : List ℕ) → (bytes ≡ []) ⊎ LackLastFeed bytes [] → LackLastFeed (byte ∷ bytes) ((byte ∷ []) ∷ [])
lone_byte byte bytes (inl e) = record { front = []; last = byte ∷ []; apart = refl; some = omega arith; text = ap (λ (rest : List ℕ). byte ∷ rest) e }
lone_byte byte bytes (inr lack) = absurd (not_apart lack.front lack.last lack.apart)

longer_front : (byte : ℕ) (bytes line : List ℕ) (lines : List (List ℕ)) (first : List ℕ) (front : List (List ℕ)) (last : List ℕ) → 0 < length last → line ≡ first → lines ≡ front ++ last ∷ []
    → bytes ≡ flat_map ended (first ∷ front) ++ last → LackLastFeed (byte ∷ bytes) ((byte ∷ line) ∷ lines)
longer_front byte bytes line lines first front last some same more text = record {
  front = (byte ∷ first) ∷ front;
  last = last;
  apart = ap (λ (l : List ℕ). (byte ∷ l) ∷ lines) same ∙ ap (λ (ls : List (List ℕ)). (byte ∷ first) ∷ ls) more;
  some = some;
  text = ap (λ (rest : List ℕ). byte ∷ rest) text;
}

longer : (byte : ℕ) (bytes line : List ℕ) (lines front : List (List ℕ)) (last : List ℕ) → 0 < length last → line ∷ lines ≡ front ++ last ∷ [] → bytes ≡ flat_map ended front ++ last
    → LackLastFeed (byte ∷ bytes) ((byte ∷ line) ∷ lines)
longer byte bytes line lines [] last some apart text =
    let same : line ≡ last = cc in
    let none : lines ≡ [] = cc in
    record {
      front = [];
      last = byte ∷ line;
      apart = ap (λ (ls : List (List ℕ)). (byte ∷ line) ∷ ls) none;
      some = omega arith;
      text = ap (λ (rest : List ℕ). byte ∷ rest) (text ∙ sym same);
    }
longer byte bytes line lines (first ∷ front) last some apart text =
    let same : line ≡ first = cc in
    let more : lines ≡ front ++ last ∷ [] = cc in
    longer_front byte bytes line lines first front last some same more text

byte_text : (byte : ℕ) (bytes line : List ℕ) (lines : List (List ℕ)) → (bytes ≡ flat_map ended (line ∷ lines)) ⊎ LackLastFeed bytes (line ∷ lines)
    → (byte ∷ bytes ≡ flat_map ended ((byte ∷ line) ∷ lines)) ⊎ LackLastFeed (byte ∷ bytes) ((byte ∷ line) ∷ lines)
byte_text byte bytes line lines (inl e) = inl (ap (λ (rest : List ℕ). byte ∷ rest) e)
byte_text byte bytes line lines (inr lack) = inr (longer byte bytes line lines lack.front lack.last lack.some lack.apart lack.text)

byte_before : (byte : ℕ) (bytes : List ℕ) (lines : List (List ℕ)) → eqb byte 10 ≡ false → AreLinesOf bytes lines → AreLinesOf (byte ∷ bytes) (onto_first byte lines)
byte_before byte bytes [] other are = record {
  no_feeds = All-cons HasNoFeed (byte ∷ []) [] (All-cons IsNoFeed byte [] other (All-nil IsNoFeed)) (All-nil HasNoFeed);
  text = inr (lone_byte byte bytes are.text);
}
byte_before byte bytes (line ∷ lines) other are = record {
  no_feeds = All-cons HasNoFeed (byte ∷ line) lines (All-cons IsNoFeed byte line other (All-head HasNoFeed line lines are.no_feeds)) (All-tail HasNoFeed line lines are.no_feeds);
  text = byte_text byte bytes line lines are.text;
}

-- the lines of bytes are what they are cut into
pub are_lines : (bytes : List ℕ) → AreLinesOf bytes (lines_of bytes)
are_lines [] = record { no_feeds = All-nil HasNoFeed; text = inl refl }
are_lines (byte ∷ bytes) =
    elim (eqb byte 10) as (λ t. eqb byte 10 ≡ t → AreLinesOf (byte ∷ bytes) (cond t ([] ∷ lines_of bytes) (onto_first byte (lines_of bytes)))) [
      | true ↦ λ e. subst (λ (b : ℕ). AreLinesOf (b ∷ bytes) ([] ∷ lines_of bytes)) (sym (eqb-true byte 10 e)) (feed_before bytes (lines_of bytes) (are_lines bytes))
      | false ↦ λ e. byte_before byte bytes (lines_of bytes) e (are_lines bytes)
    ] refl

-- ---- put together

-- a line with no line feed in it, with what follows
lines_of-line : (line rest : List ℕ) → AllByRecursion IsNoFeed line → lines_of (line ++ 10 ∷ rest) ≡ line ∷ lines_of rest
lines_of-line [] rest none = refl
lines_of-line (byte ∷ line) rest none = rw none.0 (ap (onto_first byte) (lines_of-line line rest none.1))

no_feed : (line : List ℕ) → HasNoFeed line → AllByRecursion IsNoFeed line
no_feed line none = recursion_from_All IsNoFeed line none

lines_of-ended : (lines : List (List ℕ)) (rest : List ℕ) → AllByRecursion HasNoFeed lines → lines_of (flat_map ended lines ++ rest) ≡ lines ++ lines_of rest
lines_of-ended [] rest none = refl
lines_of-ended (line ∷ lines) rest none =
    ap lines_of (append_assoc (ended line) (flat_map ended lines) rest ∙ append_assoc line (10 ∷ []) (flat_map ended lines ++ rest))
    ∙ lines_of-line line (flat_map ended lines ++ rest) (no_feed line none.0)
    ∙ ap (λ (ls : List (List ℕ)). line ∷ ls) (lines_of-ended lines rest none.1)

lines_of-last : (byte : ℕ) (last : List ℕ) → AllByRecursion IsNoFeed (byte ∷ last) → lines_of (byte ∷ last) ≡ (byte ∷ last) ∷ []
lines_of-last byte [] none = rw none.0 refl
lines_of-last byte (next ∷ last) none = rw none.0 (ap (onto_first byte) (lines_of-last next last none.1))

lines_of-some : (last : List ℕ) → 0 < length last → HasNoFeed last → lines_of last ≡ last ∷ []
lines_of-some [] some none = absurd (omega arith)
lines_of-some (byte ∷ last) some none = lines_of-last byte last (no_feed (byte ∷ last) none)

first_of_both : (P : List ℕ → Type 0) (front back : List (List ℕ)) → AllByRecursion P (front ++ back) → AllByRecursion P front × AllByRecursion P back
first_of_both P [] back fit = (tt, fit)
first_of_both P (line ∷ front) back fit =
    let rest = first_of_both P front back fit.1 in
    ((fit.0, rest.0), rest.1)

lacking : (bytes : List ℕ) (lines : List (List ℕ)) → All HasNoFeed lines → LackLastFeed bytes lines → lines ≡ lines_of bytes
lacking bytes lines none lack =
    let fit : AllByRecursion HasNoFeed (lack.front ++ lack.last ∷ []) = subst (AllByRecursion HasNoFeed) lack.apart (recursion_from_All HasNoFeed lines none) in
    let parts = first_of_both HasNoFeed lack.front (lack.last ∷ []) fit in
    lack.apart ∙ ap (λ (ls : List (List ℕ)). lack.front ++ ls) (sym (lines_of-some lack.last lack.some parts.1.0)) ∙ sym (lines_of-ended lack.front lack.last parts.0)
    ∙ ap lines_of (sym lack.text)

whole : (bytes : List ℕ) (lines : List (List ℕ)) → All HasNoFeed lines → (bytes ≡ flat_map ended lines) ⊎ LackLastFeed bytes lines → lines ≡ lines_of bytes
whole bytes lines none (inl e) =
    sym (ap lines_of (sym (append-nil (flat_map ended lines))) ∙ lines_of-ended lines [] (recursion_from_All HasNoFeed lines none) ∙ append-nil lines) ∙ ap lines_of (sym e)
whole bytes lines none (inr lack) = lacking bytes lines none lack

-- and nothing else is
pub only_lines : (bytes : List ℕ) (lines : List (List ℕ)) → AreLinesOf bytes lines → lines ≡ lines_of bytes
only_lines bytes lines are = whole bytes lines are.no_feeds are.text

-- ---- the first line

no_feeds : (line : List ℕ) → lacks 10 line ≡ true → AllByRecursion IsNoFeed line
no_feeds [] h = tt
no_feeds (byte ∷ line) h =
    let parts = and_parts (not (eqb byte 10)) (lacks 10 line) h in
    (not-true (eqb byte 10) parts.0, no_feeds line parts.1)

-- it ends at the first line feed
pub first_line : (bytes line after : List ℕ) → IsFirstCut 10 bytes line after → lines_of bytes ≡ line ∷ lines_of after
first_line bytes line after is = ap lines_of is.whole ∙ lines_of-line line after (no_feeds line is.front_lacks)

-- and bytes without one are one line
pub only_line : (bytes : List ℕ) → 0 < length bytes → lacks 10 bytes ≡ true → lines_of bytes ≡ bytes ∷ []
only_line [] some h = absurd (omega arith)
only_line (byte ∷ bytes) some h = lines_of-last byte bytes (no_feeds (byte ∷ bytes) h)
