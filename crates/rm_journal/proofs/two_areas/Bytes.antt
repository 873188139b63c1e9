-- The bytes of areas.
use Rattle.std.proofs.Common.{◌≡◌, ◌≢◌, ◌⊎◌, inl, inr, ℕ, zero, suc, ◌+◌, ◌-◌, ◌<◌, ◌≤◌, ◌^◌, Bool, true, false, not, List, [], ◌∷◌, ◌++◌, length, get_or, take, drop, refl, sym, ◌∙◌, ap, subst, arith, append_assoc, take-append-drop}
use Rattle.std.specs.Int.{w64, to_be_bytes}
use Rattle.std.proofs.lemmas.Bool.{cases_eq}
use Rattle.std.proofs.lemmas.List.Elements.{All-nil}
use Rattle.std.proofs.lemmas.List.{length-take-le, take-take, drop_more, drop-drop, drop-take, get_or-take, append_cancel_left}
use Rattle.rm_disk.specs.Disk.{put, SameElsewhere}
use Rattle.rm_disk.proofs.Puts.{take-put, drop_inside-put}
use Rattle.rm_formats.specs.Device.{IsPayload, journal_record, journal_records, HasPayloads, no_bytes, records}
use Rattle.rm_journal.specs.Journal.{region_of}
use Rattle.rm_journal.proofs.Payloads.{unique, next_of}
use Rattle.rm_journal.proofs.Regions.{length-region, region_on, region_front}
use Rattle.rm_journal.specs.two_areas.Areas.{area_from, area_end, area_of, head_of, IsShut, empty, closed, HasGeneration, IsBefore, IsOlder, shut, older, HasCurrent}

-- a region apart from the bytes that change
pub outside : (at many from end : ℕ) (x y : List ℕ) → from ≤ end → SameElsewhere at many x y → (end ≤ at) ⊎ (at + many ≤ from) → region_of from end y ≡ region_of from end x
outside at many from end x y le same (inl before) =
    ap (λ (l : List ℕ). drop from l) (sym (take-take end at y before) ∙ ap (λ (l : List ℕ). take end l) same.before ∙ take-take end at x before)
outside at many from end x y le same (inr behind) =
    let cut : end ≡ from + (end - from) = omega arith in
    let on : from ≡ at + many + (from - (at + many)) = omega arith in
    let drops : drop from y ≡ drop from x =
    ap (λ (k : ℕ). drop k y) on ∙ sym (drop-drop (from - (at + many)) (at + many) y) ∙ ap (λ (l : List ℕ). drop (from - (at + many)) l) same.after ∙ drop-drop (from - (at + many)) (at + many) x ∙ sym (ap (λ (k : ℕ). drop k x) on) in
    ap (λ (k : ℕ). drop from (take k y)) cut ∙ drop-take from (end - from) y ∙ ap (λ (l : List ℕ). take (end - from) l) drops ∙ sym (ap (λ (k : ℕ). drop from (take k x)) cut ∙ drop-take from (end - from) x)

-- a range in one area is apart from the other
pub apart : (half : ℕ) (second : Bool) (at many : ℕ) → area_from half (not second) ≤ at → at + many ≤ area_end half (not second) → (area_end half second ≤ at) ⊎ (at + many ≤ area_from half second)
apart half true at many low high = inr (omega (arith, high))
apart half false at many low high = inl (omega (arith, low))

pub apart_back : (half : ℕ) (second : Bool) (at many : ℕ) → area_from half second ≤ at → at + many ≤ area_end half second → (area_end half (not second) ≤ at) ⊎ (at + many ≤ area_from half (not second))
apart_back half true at many low high = inl (omega (arith, low))
apart_back half false at many low high = inr (omega (arith, high))

pub area_inside : (half size : ℕ) (second : Bool) → half + half ≤ size → area_end half second ≤ size
area_inside half size true le = omega arith
area_inside half size false le = omega arith

-- the first byte of a region, and what is behind it
pub region_head : (from end : ℕ) (y : List ℕ) → from < end → end ≤ length y → region_of from end y ≡ get_or y from 0 ∷ region_of (from + 1) end y
region_head from end y lt le =
    drop_more (take end y) from 0 (omega (arith, lt, length-take-le end y le)) ∙ ap (λ (x : ℕ). x ∷ region_of (from + 1) end y) (get_or-take end y from 0 lt)

pub shut_byte : (from end : ℕ) (y : List ℕ) → from < end → end ≤ length y → get_or y from 0 ≢ 1 → IsShut (region_of from end y)
shut_byte from end y lt le ne = closed (get_or y from 0) (region_of (from + 1) end y) ne (region_head from end y lt le)

pub byte_shut : (from end : ℕ) (y : List ℕ) → from < end → end ≤ length y → IsShut (region_of from end y) → get_or y from 0 ≢ 1
byte_shut from end y lt le (empty is) = absurd (omega (arith, lt, length-region from end y le, ap length is))
byte_shut from end y lt le (closed gate rest ne is) = λ one. ne (ap (λ (l : List ℕ). get_or l 0 0) (sym is ∙ region_head from end y lt le) ∙ one)

pub byte_before : (at many place : ℕ) (x y : List ℕ) → SameElsewhere at many x y → place < at → get_or y place 0 ≡ get_or x place 0
byte_before at many place x y same lt = sym (get_or-take at y place 0 lt) ∙ ap (λ (l : List ℕ). get_or l place 0) same.before ∙ get_or-take at x place 0 lt

pub shut_stays : (at many from end : ℕ) (x y : List ℕ) → from < end → end ≤ length x → from < at → SameElsewhere at many x y → IsShut (region_of from end x) → IsShut (region_of from end y)
shut_stays at many from end x y lt le behind same was =
    shut_byte from end y lt (omega (arith, le, same.size)) (λ one. byte_shut from end x lt le was (sym (byte_before at many from x y same behind) ∙ one))

-- a generation whose first gate may be any byte
pub older_first : (from end generation : ℕ) (x y : List ℕ) → from < end → end ≤ length x → SameElsewhere from 1 x y → IsBefore (region_of from end x) generation → IsOlder (region_of from end y) generation
older_first from end generation x y lt le same was = elim (cases_eq (get_or y from 0) 1) [
  | inr never ↦ shut (shut_byte from end y lt (omega (arith, le, same.size)) never)
  | inl one ↦
      let first : get_or x from 0 ≡ 1 = ap (λ (l : List ℕ). get_or l 0 0) (sym (region_head from end x lt le) ∙ was.has.is) in
      let behind : region_of (from + 1) end y ≡ region_of (from + 1) end x = outside from 1 (from + 1) end x y (omega (arith, lt)) same (inr (omega arith)) in
      let all : region_of from end y ≡ region_of from end x =
      region_head from end y lt (omega (arith, le, same.size)) ∙ ap (λ (b : ℕ). b ∷ region_of (from + 1) end y) (one ∙ sym first) ∙ ap (λ (l : List ℕ). get_or x from 0 ∷ l) behind ∙ sym (region_head from end x lt le) in
      older (subst (λ (l : List ℕ). IsBefore l generation) (sym all) was)
]

pub shut_holds : (area : List ℕ) → IsShut area → HasPayloads area []
shut_holds area (empty is) = no_bytes is refl
shut_holds area (closed gate rest ne is) = records gate rest ne (All-nil IsPayload) is

pub holds_shut : (area : List ℕ) → HasPayloads area [] → IsShut area
holds_shut area (no_bytes is none) = empty is
holds_shut area (records gate rest ne sizes is) = closed gate rest ne is

-- an area that has a generation and payloads is live
pub holds_live : (area : List ℕ) (n : ℕ) (payloads : List (List ℕ)) → suc n < 2 ^ 64 → HasPayloads area (head_of (suc n) ++ payloads) → HasGeneration area (suc n)
holds_live area n payloads high (no_bytes is none) = let no : suc (length payloads) ≡ 0 = ap length none in absurd (omega (arith, no))
holds_live area n payloads high (records gate rest ne sizes is) =
    let next = next_of payloads gate rest in
    record {
      low = omega arith;
      high = high;
      next = next.0;
      rest = next.1;
      is = is ∙ append_assoc (journal_record (to_be_bytes w64 (suc n))) (journal_records payloads) (gate ∷ rest) ∙ ap (λ (l : List ℕ). journal_record (to_be_bytes w64 (suc n)) ++ l) next.2;
    }

-- what the current area is, once a greater generation stands in the other one
pub outgrown : (area : List ℕ) (generation : ℕ) (payloads : List (List ℕ)) → generation < 2 ^ 64 → (generation ≡ 0 → payloads ≡ []) → HasPayloads area (head_of generation ++ payloads) → IsOlder area (suc generation)
outgrown area zero payloads high none has = shut (holds_shut area (subst (λ (l : List (List ℕ)). HasPayloads area l) (none refl) has))
outgrown area (suc n) payloads high none has = older (record { before = suc n; has = holds_live area n payloads high has; less = omega arith })

-- the payloads of the current area are determined
pub one_list : (half : ℕ) (second : Bool) (generation : ℕ) (one two : List (List ℕ)) (x : List ℕ) → HasCurrent half second generation one x → HasCurrent half second generation two x → one ≡ two
one_list half second generation one two x has also =
    append_cancel_left (head_of generation) one two (unique (area_of half second x) (head_of generation ++ one) (head_of generation ++ two) has.holds also.holds)

take_past : (xs ys : List ℕ) (m n : ℕ) → m ≡ length xs + n → take m (xs ++ ys) ≡ xs ++ take n ys
take_past [] ys m n is = let same : m ≡ n = omega arith in ap (λ (k : ℕ). take k ys) same
take_past (x ∷ xs) ys zero n is = absurd (omega arith)
take_past (x ∷ xs) ys (suc m) n is = ap (λ (l : List ℕ). x ∷ l) (take_past xs ys m n (omega arith))

-- a region after bytes were put into it
pub put_behind : (first at end : ℕ) (bytes b : List ℕ) → first ≤ at → at + length bytes ≤ end → end ≤ length b
    → region_of first end (put at bytes b) ≡ take (at - first) (region_of first end b) ++ (bytes ++ take (end - (at + length bytes)) (drop (at + length bytes) b))
put_behind first at end bytes b low high le =
    let k : ℕ = at - first in
    let to : first + k ≡ at = omega arith in
    let fits : at + length bytes ≤ length b = omega arith in
    let fronts : take k (region_of first end (put at bytes b)) ≡ take k (region_of first end b) =
    region_front first k end (put at bytes b) (omega arith) ∙ ap (λ (i : ℕ). drop first (take i (put at bytes b))) to ∙ ap (λ (l : List ℕ). drop first l) (take-put at bytes b fits)
    ∙ ap (λ (i : ℕ). drop first (take i b)) (sym to) ∙ sym (region_front first k end b (omega arith)) in
    let cut : end ≡ at + (end - at) = omega arith in
    let left : end - at ≡ length bytes + (end - (at + length bytes)) = omega arith in
    let backs : drop k (region_of first end (put at bytes b)) ≡ bytes ++ take (end - (at + length bytes)) (drop (at + length bytes) b) =
    sym (region_on first k end (put at bytes b)) ∙ ap (λ (i : ℕ). region_of i end (put at bytes b)) to ∙ ap (λ (i : ℕ). drop at (take i (put at bytes b))) cut ∙ drop-take at (end - at) (put at bytes b)
    ∙ ap (λ (l : List ℕ). take (end - at) l) (drop_inside-put at bytes b fits) ∙ take_past bytes (drop (at + length bytes) b) (end - at) (end - (at + length bytes)) left in
    sym (take-append-drop k (region_of first end (put at bytes b))) ∙ ap (λ (l : List ℕ). l ++ drop k (region_of first end (put at bytes b))) fronts ∙ ap (λ (l : List ℕ). take k (region_of first end b) ++ l) backs
