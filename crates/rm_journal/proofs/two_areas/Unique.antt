-- The same bytes have one list of payloads at most.
use Rattle.std.proofs.Common.{◌≡◌, ◌≢◌, ℕ, zero, suc, ◌-◌, ◌<◌, Bool, true, false, not, List, [], ◌∷◌, ◌++◌, length, get_or, drop, refl, sym, ◌∙◌, ap, subst, arith}
use Rattle.std.specs.Int.{w64, to_be_bytes, from_be_bytes}
use Rattle.std.proofs.lemmas.Bool.{true≢false}
use Rattle.std.proofs.lemmas.Nat.{from_be_bytes-to_be_bytes_8}
use Rattle.rm_formats.specs.Device.{HasPayloads, IsDamagedAt}
use Rattle.rm_journal.proofs.Payloads.{unique, sound_never}
use Rattle.rm_journal.specs.two_areas.Areas.{area_of, head_of, IsShut, empty, closed, HasGeneration, IsOlder, shut, older, HasCurrent, HasLayout, HasBadHead, IsDamagedLayout, first_head, second_head, twice, later, area_from}
use Rattle.rm_journal.proofs.two_areas.Bytes.{holds_live, holds_shut}
use Rattle.rm_journal.proofs.two_areas.Heads.{same_first, small_of}

one_generation : (area : List ℕ) (g h : ℕ) → HasGeneration area g → HasGeneration area h → g ≡ h
one_generation area g h one two =
    let same = same_first area (to_be_bytes w64 g) one.next one.rest h (small_of g) one.is two in
    sym (from_be_bytes-to_be_bytes_8 g one.high) ∙ ap (λ (l : List ℕ). from_be_bytes w64 l) same ∙ from_be_bytes-to_be_bytes_8 h two.high

not_shut : (area : List ℕ) (g : ℕ) → IsShut area → HasGeneration area g → ⊥
not_shut area g (empty is) has = let none = ap length (sym is ∙ has.is) in omega (arith, none)
not_shut area g (closed gate rest ne is) has = ne (ap (λ (l : List ℕ). get_or l 0 0) (sym is ∙ has.is))

lower : (area : List ℕ) (g h : ℕ) → IsOlder area g → HasGeneration area h → h < g
lower area g h (shut is) has = absurd (not_shut area h is has)
lower area g h (older b) has = let same = one_generation area b.before h b.has has in let less = b.less in omega (arith, same, less)

heads_same : (g h : ℕ) (one two : List (List ℕ)) → (g ≡ 0 → one ≡ []) → (h ≡ 0 → two ≡ []) → head_of g ++ one ≡ head_of h ++ two → one ≡ two
heads_same zero zero one two none none' same = same
heads_same zero (suc n) one two none none' same = absurd (let is = sym (none refl) ∙ same in let long = ap length is in omega (arith, long))
heads_same (suc m) zero one two none none' same = absurd (let is = sym (none' refl) ∙ sym same in let long = ap length is in omega (arith, long))
heads_same (suc m) (suc n) one two none none' same = ap (λ (l : List (List ℕ)). drop 1 l) same

live_now : (half : ℕ) (second : Bool) (g : ℕ) (payloads : List (List ℕ)) (bytes : List ℕ) → HasCurrent half second g payloads bytes → g ≢ 0 → HasGeneration (area_of half second bytes) g
live_now half second zero payloads bytes has ne = absurd (ne refl)
live_now half second (suc n) payloads bytes has ne = holds_live (area_of half second bytes) n payloads has.high has.holds

same_area : (half : ℕ) (second : Bool) (g h : ℕ) (one two : List (List ℕ)) (bytes : List ℕ) → HasCurrent half second g one bytes → HasCurrent half second h two bytes → one ≡ two
same_area half second g h one two bytes has also =
    heads_same g h one two (λ z. (has.none z).1) (λ z. (also.none z).1) (unique (area_of half second bytes) (head_of g ++ one) (head_of h ++ two) has.holds also.holds)

-- the second area and the first aren't both the current one
both_never : (half g h : ℕ) (one two : List (List ℕ)) (bytes : List ℕ) → HasCurrent half true g one bytes → HasCurrent half false h two bytes → ⊥
both_never half g h one two bytes has also =
    let first = live_now half false h two bytes also (λ z. true≢false (sym (also.none z).0)) in
    let less = lower (area_of half false bytes) g h has.other first in
    let second = live_now half true g one bytes has (λ z. omega (arith, z, less)) in
    let more = lower (area_of half true bytes) h g also.other second in
    omega (arith, less, more)

pub one_layout : (half : ℕ) (one two : List (List ℕ)) (bytes : List ℕ) → HasLayout half one bytes → HasLayout half two bytes → one ≡ two
one_layout half one two bytes has also = by has.second also.second has.current also.current
  where
    by : (s t : Bool) → HasCurrent half s has.generation one bytes → HasCurrent half t also.generation two bytes → one ≡ two
    by true true a b = same_area half true has.generation also.generation one two bytes a b
    by false false a b = same_area half false has.generation also.generation one two bytes a b
    by true false a b = absurd (both_never half has.generation also.generation one two bytes a b)
    by false true a b = absurd (both_never half also.generation has.generation two one bytes b a)

shut_not_live : (area rest : List ℕ) → IsShut area → area ≡ 1 ∷ rest → ⊥
shut_not_live area rest (empty is) live = let none = ap length (sym is ∙ live) in omega (arith, none)
shut_not_live area rest (closed gate more ne is) live = ne (ap (λ (l : List ℕ). get_or l 0 0) (sym is ∙ live))

other_good : (area : List ℕ) (g : ℕ) → IsOlder area g → HasBadHead area → ⊥
other_good area g (shut is) bad = shut_not_live area bad.rest is bad.live
other_good area g (older b) bad = bad.never b.before b.has

current_good : (half : ℕ) (second : Bool) (g : ℕ) (payloads : List (List ℕ)) (bytes : List ℕ) → HasCurrent half second g payloads bytes → HasBadHead (area_of half second bytes) → ⊥
current_good half second zero payloads bytes has bad =
    shut_not_live (area_of half second bytes) bad.rest (holds_shut (area_of half second bytes) (subst (λ (l : List (List ℕ)). HasPayloads (area_of half second bytes) l) (has.none refl).1 has.holds)) bad.live
current_good half second (suc n) payloads bytes has bad = bad.never (suc n) (holds_live (area_of half second bytes) n payloads has.high has.holds)

-- of the two areas, the one with this generation, above the other one, is the current one
twice_never : (half : ℕ) (second : Bool) (g h : ℕ) (payloads : List (List ℕ)) (bytes : List ℕ) → HasCurrent half second g payloads bytes → HasGeneration (area_of half second bytes) h → HasGeneration (area_of half (not second) bytes) h → ⊥
twice_never half second zero h payloads bytes has one two = let less = lower (area_of half (not second) bytes) zero h has.other two in omega (arith, less)
twice_never half second (suc n) h payloads bytes has one two =
    let less = lower (area_of half (not second) bytes) (suc n) h has.other two in
    let same = one_generation (area_of half second bytes) (suc n) h (holds_live (area_of half second bytes) n payloads has.high has.holds) one in
    omega (arith, less, same)

older_never : (half : ℕ) (second : Bool) (g h : ℕ) (payloads : List (List ℕ)) (bytes : List ℕ) → HasCurrent half second g payloads bytes → HasGeneration (area_of half (not second) bytes) h → IsOlder (area_of half second bytes) h → ⊥
older_never half second zero h payloads bytes has one two = let less = lower (area_of half (not second) bytes) zero h has.other one in omega (arith, less)
older_never half second (suc n) h payloads bytes has one two =
    let less = lower (area_of half (not second) bytes) (suc n) h has.other one in
    let more = lower (area_of half second bytes) h (suc n) two (holds_live (area_of half second bytes) n payloads has.high has.holds) in
    omega (arith, less, more)

sound_current : (half : ℕ) (second : Bool) (g offset : ℕ) (payloads : List (List ℕ)) (bytes : List ℕ) → HasCurrent half second g payloads bytes → IsDamagedAt (area_of half second bytes) offset → ⊥
sound_current half second g offset payloads bytes has damage = sound_never damage.payloads damage.rest (area_of half second bytes) (head_of g ++ payloads) damage.sizes damage.bytes_are damage.no_record has.holds

never_by : (half : ℕ) (second : Bool) (g offset : ℕ) (payloads : List (List ℕ)) (bytes : List ℕ) → HasCurrent half second g payloads bytes → IsDamagedLayout half bytes offset → ⊥
never_by half true g offset payloads bytes has (first_head bad place) = other_good (area_of half false bytes) g has.other bad
never_by half false g offset payloads bytes has (first_head bad place) = current_good half false g payloads bytes has bad
never_by half true g offset payloads bytes has (second_head good bad place) = current_good half true g payloads bytes has bad
never_by half false g offset payloads bytes has (second_head good bad place) = other_good (area_of half true bytes) g has.other bad
never_by half true g offset payloads bytes has (twice h one two place) = twice_never half true g h payloads bytes has two one
never_by half false g offset payloads bytes has (twice h one two place) = twice_never half false g h payloads bytes has one two
never_by half true g offset payloads bytes has (later true h one two low damage) = sound_current half true g (offset - area_from half true) payloads bytes has damage
never_by half false g offset payloads bytes has (later false h one two low damage) = sound_current half false g (offset - area_from half false) payloads bytes has damage
never_by half true g offset payloads bytes has (later false h one two low damage) = older_never half true g h payloads bytes has one two
never_by half false g offset payloads bytes has (later true h one two low damage) = older_never half false g h payloads bytes has one two

pub held_undamaged : (half : ℕ) (payloads : List (List ℕ)) (bytes : List ℕ) → HasLayout half payloads bytes → (offset : ℕ) → IsDamagedLayout half bytes offset → ⊥
held_undamaged half payloads bytes has offset damage = never_by half has.second has.generation offset payloads bytes has.current damage
