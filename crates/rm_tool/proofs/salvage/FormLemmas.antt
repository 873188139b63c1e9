-- Which form bytes are of, by what stands at the first gates; and where its front begins.
use Rattle.std.proofs.Common.{◌≡◌, ◌≢◌, ℕ, zero, suc, ◌+◌, ◌<◌, ◌≤◌, ◌^◌, Bool, true, false, nat_lt, if◌then◌else◌, Option, None, Some, List, [], ◌∷◌, ◌++◌, length, take, drop, get_or, refl, sym, ◌∙◌, ap, subst, arith, take_all}
use Rattle.std.specs.Prelude.{IfSome, IfNone}
use Rattle.std.specs.Int.{w64, to_be_bytes, from_be_bytes}
use Rattle.std.proofs.lemmas.Nat.{from_be_bytes-to_be_bytes_8}
use Rattle.std.proofs.lemmas.Bool.Decides.{nat_tests}
use Rattle.std.proofs.lemmas.List.{append-nil, length-drop, length-take-le}
use Rattle.std.proofs.lemmas.List.Elements.{All-nil, All-cons}
use Rattle.rm_types.specs.declared.operations.Op.{Op}
use Rattle.rm_formats.specs.Device.{IsPayload, journal_record}
use Rattle.rm_journal.specs.Journal.{region_of}
use Rattle.rm_journal.specs.two_areas.Areas.{HasGeneration, area_of, area_from, head_of}
use Rattle.rm_journal.proofs.two_areas.Heads.{same_first, small_of}
use Rattle.rm_store.specs.Content.{IsFrameOf, half_of}
use Rattle.rm_tool.specs.salvage.Forms.{HasFirst, HasFirstFrame, IsForm, form_by}
use Rattle.rm_tool.specs.salvage.Fronts.{IsClosedGate, IsOpenToNothing}
use Rattle.rm_tool.specs.salvage.Steps.{ReadsTo}
use Rattle.rm_tool.proofs.salvage.FrontLemmas.{behind_record, one_record}

-- the region of all bytes
pub whole_region : (bytes : List ℕ) (size : ℕ) → size ≡ length bytes → region_of 0 size bytes ≡ bytes
whole_region bytes size is = take_all size bytes (omega (arith, is))

-- ---- generations

pub closed_never : (area : List ℕ) → IsClosedGate area → (g : ℕ) → HasGeneration area g → ⊥
closed_never area closed g has = closed.closed (ap (λ (l : List ℕ). get_or l 0 0) (sym closed.is ∙ has.is))

pub broken_never : (area : List ℕ) → IsOpenToNothing area → (g : ℕ) → HasGeneration area g → ⊥
broken_never area broken g has = broken.no_record (to_be_bytes w64 g) has.next has.rest (small_of g) (ap (λ (l : List ℕ). drop 1 l) (sym broken.is ∙ has.is))

pub other_never : (area payload : List ℕ) → HasFirst area payload → ((g : ℕ) → 1 ≤ g → g < 2 ^ 64 → payload ≡ to_be_bytes w64 g → ⊥) → (g : ℕ) → HasGeneration area g → ⊥
other_never area payload first none g has = none g has.low has.high (same_first area payload first.next first.rest g first.small first.is has)

pub empty_never : (end : ℕ) (bytes : List ℕ) → (g : ℕ) → HasGeneration (region_of end end bytes) g → ⊥
empty_never end bytes g has =
    let long = ap length has.is in
    let dropped = length-drop end (take end bytes) in
    let taken = length-take-most end bytes in
    omega (arith, long, dropped, taken)
  where
    length-take-most : (n : ℕ) (l : List ℕ) → length (take n l) ≤ n
    length-take-most zero l = omega arith
    length-take-most (suc n) [] = omega arith
    length-take-most (suc n) (x ∷ l) = let h = length-take-most n l in omega (arith, h)

pub generation_there : (area payload : List ℕ) (g : ℕ) → HasFirst area payload → (1 ≤ g) × (g < 2 ^ 64) × (to_be_bytes w64 g ≡ payload) → HasGeneration area g
generation_there area payload g first is = record {
  low = is.0;
  high = is.1;
  next = first.next;
  rest = first.rest;
  is = first.is ∙ ap (λ (l : List ℕ). journal_record l ++ first.next ∷ first.rest) (sym is.2);
}

-- ---- a first frame

pub closed_no_frame : (bytes : List ℕ) → IsClosedGate bytes → HasFirstFrame bytes → ⊥
closed_no_frame bytes closed has = closed.closed (ap (λ (l : List ℕ). get_or l 0 0) (sym closed.is ∙ has.first.is))

pub broken_no_frame : (bytes : List ℕ) → IsOpenToNothing bytes → HasFirstFrame bytes → ⊥
broken_no_frame bytes broken has = broken.no_record has.payload has.first.next has.first.rest has.first.small (ap (λ (l : List ℕ). drop 1 l) (sym broken.is ∙ has.first.is))

pub other_no_frame : (bytes payload : List ℕ) → HasFirst bytes payload → ((op : Op) → IsFrameOf payload op → ⊥) → HasFirstFrame bytes → ⊥
other_no_frame bytes payload first none has =
    let same = one_record bytes payload has.payload first has.first.small has.first.next has.first.rest has.first.is in
    none has.op (subst (λ (l : List ℕ). IsFrameOf l has.op) (sym same) has.framed)

pub no_bytes_no_frame : (bytes : List ℕ) → length bytes ≡ 0 → HasFirstFrame bytes → ⊥
no_bytes_no_frame bytes none has = let long = ap length has.first.is in omega (arith, long, none)

-- ---- the form

-- what is known of an area's generation
abbrev pub IsKnown : List ℕ → Option ℕ → Type 0
IsKnown area (Some g) = HasGeneration area g
IsKnown area None = (g : ℕ) → HasGeneration area g → ⊥

pub known : (area : List ℕ) (found : Option ℕ) → IfSome found (HasGeneration area) → IfNone found ((g : ℕ) → HasGeneration area g → ⊥) → IsKnown area found
known area (Some g) some none = some
known area None some none = none

-- an area has one generation
one_generation : (area : List ℕ) (g h : ℕ) → HasGeneration area g → HasGeneration area h → g ≡ h
one_generation area g h one two =
    let same = same_first area (to_be_bytes w64 g) one.next one.rest h (small_of g) one.is two in
    sym (from_be_bytes-to_be_bytes_8 g one.high) ∙ ap (λ (l : List ℕ). from_be_bytes w64 l) same ∙ from_be_bytes-to_be_bytes_8 h two.high

pub form_is : (bytes : List ℕ) (first second : Option ℕ) → (HasFirstFrame bytes → ⊥) → IsKnown (area_of (half_of bytes) false bytes) first → IsKnown (area_of (half_of bytes) true bytes) second → IsForm bytes (form_by first second)
form_is bytes (Some g) (Some h) none one other = by (nat_lt g h) refl
  where
    by : (b : Bool) → nat_lt g h ≡ b → IsForm bytes (form_by (Some g) (Some h))
    by true e = rw e (none, other, λ o has. let same = one_generation (area_of (half_of bytes) false bytes) o g has one in let less : g < h = grind (arith, nat_tests) in omega (arith, same, less))
    by false e = rw e (none, one, λ o has. let same = one_generation (area_of (half_of bytes) true bytes) o h has other in let le : h ≤ g = grind (arith, nat_tests) in omega (arith, same, le))
form_is bytes (Some g) None none one other = (none, one, λ o has. absurd (other o has))
form_is bytes None (Some h) none one other = (none, other, λ o has. absurd (one o has))
form_is bytes None None none one other = (none, λ second. by second)
  where
    by : (second : Bool) (generation : ℕ) → HasGeneration (area_of (half_of bytes) second bytes) generation → ⊥
    by true generation has = other generation has
    by false generation has = one generation has

-- ---- where a front begins

pub begin_journal : (bytes : List ℕ) (size : ℕ) → ReadsTo bytes 0 size [] 0 []
begin_journal bytes size = record { payloads = []; sizes = All-nil IsPayload; is = refl; place = refl; reads = tt; none_stray = refl }

pub begin_area : (bytes : List ℕ) (start end generation : ℕ) → HasGeneration (region_of start end bytes) generation → ReadsTo bytes start end (head_of generation) (start + 13) []
begin_area bytes start end zero has = absurd (let low = has.low in omega (arith, low))
begin_area bytes start end (suc n) has =
    let payload = to_be_bytes w64 (suc n) in
    let first : HasFirst (region_of start end bytes) payload = record { small = small_of (suc n); next = has.next; rest = has.rest; is = has.is } in
    record {
      payloads = [];
      sizes = All-cons IsPayload payload [] (small_of (suc n)) (All-nil IsPayload);
      is = behind_record bytes payload start end first ∙ ap (λ (l : List ℕ). l ++ region_of (start + 13) end bytes) (sym (append-nil (journal_record payload)));
      place = refl;
      reads = tt;
      none_stray = refl;
    }

-- a generation's record and a gate have room in an area that is live
pub room_there : (bytes : List ℕ) (start end generation : ℕ) → end ≤ length bytes → HasGeneration (region_of start end bytes) generation → start + 13 < end
room_there bytes start end generation within has =
    let long = ap length has.is in
    let dropped = length-drop start (take end bytes) in
    let taken = length-take-le end bytes within in
    omega (arith, long, dropped, taken)

-- an area, from where it begins
pub area_is : (bytes : List ℕ) (start half : ℕ) (second : Bool) → start ≡ area_from half second → half ≡ half_of bytes → region_of start (start + half) bytes ≡ area_of (half_of bytes) second bytes
area_is bytes start half second at is = ap (λ (n : ℕ). region_of n (n + half) bytes) at ∙ ap (λ (n : ℕ). area_of n second bytes) is
