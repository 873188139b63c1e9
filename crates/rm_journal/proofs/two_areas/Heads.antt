-- The generations that areas begin with.
use Rattle.std.proofs.Common.{◌≡◌, ◌≢◌, ℕ, zero, suc, ◌+◌, ◌<◌, ◌^◌, List, ◌∷◌, ◌++◌, length, take, drop, Option, None, Some, refl, sym, ◌∙◌, ap, arith}
use Rattle.std.specs.Int.{w64, to_be_bytes, from_be_bytes}
use Rattle.std.proofs.lemmas.List.{take_at, drop-take}
use Rattle.rm_formats.specs.Device.{IsPayload, sized, journal_record}
use Rattle.rm_journal.specs.Journal.{region_of, FindsAt, FindsDamage}
use Rattle.rm_journal.proofs.Payloads.{same_sized}
use Rattle.rm_journal.proofs.Regions.{region_on, region_front}
use Rattle.rm_journal.specs.two_areas.Areas.{IsShut, closed, HasGeneration, IsGeneration, HasBadHead}

size_of : (g : ℕ) → length (to_be_bytes w64 g) ≡ 8
size_of g = refl

pub small_of : (g : ℕ) → IsPayload (to_be_bytes w64 g)
small_of g = (omega (arith, size_of g), omega (arith, size_of g))

pub none_is : (o : Option ℕ) → ((n : ℕ) → o ≡ Some n → ⊥) → o ≡ None
none_is None never = refl
none_is (Some n) never = absurd (never n refl)

pub shut_found : (from end : ℕ) (bytes : List ℕ) → FindsAt from end bytes None → IsShut (region_of from end bytes)
shut_found from end bytes (gate, rest, ne, is) = closed gate rest ne is

pub damage_found : (from end : ℕ) (bytes : List ℕ) → FindsDamage from end bytes → HasBadHead (region_of from end bytes)
damage_found from end bytes (rest, none, is) = record {
  rest = rest;
  live = is;
  never = λ g has. none (to_be_bytes w64 g) has.next has.rest (small_of g) (ap (λ (l : List ℕ). drop 1 l) (sym is ∙ has.is));
}

-- the payload of a record, as it is read
pub payload_read : (from end many : ℕ) (bytes payload : List ℕ) (next : ℕ) (rest : List ℕ) → length payload ≡ many → from + 5 + many < end → region_of from end bytes ≡ journal_record payload ++ next ∷ rest → take many (drop (from + 5) bytes) ≡ payload
payload_read from end many bytes payload next rest size room is =
    sym (drop-take (from + 5) many bytes)
    ∙ sym (region_front (from + 5) many end bytes (omega (arith, room)))
    ∙ ap (λ (l : List ℕ). take many l) (region_on from 5 end bytes ∙ ap (λ (l : List ℕ). drop 5 l) is)
    ∙ take_at payload (next ∷ rest) many size

-- the first record of an area is that of one payload
pub same_first : (area payload : List ℕ) (next : ℕ) (rest : List ℕ) (g : ℕ) → IsPayload payload → area ≡ journal_record payload ++ next ∷ rest → HasGeneration area g → payload ≡ to_be_bytes w64 g
same_first area payload next rest g small is has =
    (same_sized payload (to_be_bytes w64 g) (next ∷ rest) (has.next ∷ has.rest) small (small_of g) (ap (λ (l : List ℕ). drop 1 l) (sym is ∙ has.is))).0

pub no_generation : (from end : ℕ) (bytes read : List ℕ) → FindsAt from end bytes (Some 8) → from + 13 < end → read ≡ take 8 (drop (from + 5) bytes) → from_be_bytes w64 read ≡ 0 → ((g : ℕ) → g < 2 ^ 64 → from_be_bytes w64 (to_be_bytes w64 g) ≡ g) → HasBadHead (region_of from end bytes)
no_generation from end bytes read (payload, next, rest, small, size, is) room reads zero_is back = record {
  rest = sized payload ++ next ∷ rest;
  live = is;
  never = λ g has.
      let same = same_first (region_of from end bytes) payload next rest g small is has in
      let read_is : read ≡ to_be_bytes w64 g = reads ∙ payload_read from end 8 bytes payload next rest size (omega (arith, room)) is ∙ same in
      let value : from_be_bytes w64 read ≡ g = ap (λ (l : List ℕ). from_be_bytes w64 l) read_is ∙ back g has.high in
      let low = has.low in
      omega (arith, zero_is, value, low);
}

pub generation_found : (from end : ℕ) (bytes read : List ℕ) (g : ℕ) → FindsAt from end bytes (Some 8) → from + 13 < end → read ≡ take 8 (drop (from + 5) bytes) → to_be_bytes w64 g ≡ read → g < 2 ^ 64 → g ≢ 0 → IsGeneration (region_of from end bytes) g
generation_found from end bytes read zero found room reads code high some = absurd (some refl)
generation_found from end bytes read (suc n) (payload, next, rest, small, size, is) room reads code high some = record {
  low = omega arith;
  high = high;
  next = next;
  rest = rest;
  is = is ∙ ap (λ (l : List ℕ). journal_record l ++ next ∷ rest) (sym (code ∙ reads ∙ payload_read from end 8 bytes payload next rest size (omega (arith, room)) is));
}
