-- The areas that a disk is opened with.
use Rattle.std.proofs.Common.{◌≡◌, ◌≢◌, ◌⊎◌, inl, inr, ℕ, zero, suc, ◌+◌, ◌<◌, ◌≤◌, ◌^◌, ◌/◌, Bool, true, false, not, List, [], ◌∷◌, ◌++◌, length, Option, None, Some, refl, sym, ◌∙◌, ap, subst, arith, length-append, if◌then◌else◌, nat_le, nat_eq, get_or, drop, ◌-◌, take}
use Rattle.std.specs.Int.{w64, to_be_bytes}
use Rattle.std.proofs.lemmas.Bool.{true≢false, cases_eq}
use Rattle.std.proofs.lemmas.Bool.Decides.{nat_tests}
use Rattle.rm_disk.specs.Disk.{DiskView, IfTold, IsDurable, IsQuiet}
use Rattle.rm_formats.specs.Device.{IsPayload, journal_record, journal_records, HasPayloads, IsDamagedAt}
use Rattle.rm_journal.specs.Journal.{JournalPlace, IsOpened, HasRead, region_of}
use Rattle.rm_journal.proofs.Payloads.{empty_none, shut_none, open_first, unique, length-journal_record}
use Rattle.rm_journal.proofs.two_areas.Bytes.{area_inside}
use Rattle.rm_journal.proofs.two_areas.Steps.{from_inside}
use Rattle.rm_journal.proofs.two_areas.Heads.{small_of}
use Rattle.std.proofs.lemmas.List.{take_at, append-nil}
use Rattle.std.proofs.lemmas.List.Elements.{All-nil, All-cons}
use Rattle.rm_journal.specs.Walk.{HasWalked}
use Rattle.rm_journal.proofs.Opens.{none_there}
use Rattle.rm_journal.proofs.Regions.{region_front}
use Rattle.rm_journal.specs.two_areas.Reading.{IsPicked, ReadingAt, IsReading}
use Rattle.rm_journal.specs.two_areas.Areas.{AreasAt, area_from, area_end, area_of, head_of, empty, closed, HasGeneration, HasBadHead, first_head, twice, IsGeneration, IsOlder, shut, older, OtherIs, AreasHold, AreasInvariant, IsDamagedLayout, later}

size_of : (g : ℕ) → length (to_be_bytes w64 g) ≡ 8
size_of g = refl

-- the payloads of an area, the generation first
head_split : (area : List ℕ) (g : ℕ) (all : List (List ℕ)) → IsGeneration area g → HasPayloads area all → (payloads : List (List ℕ)) × (all ≡ head_of g ++ payloads) × (g ≡ 0 → payloads ≡ [])
head_split area zero all (empty is) has = ([], empty_none all (subst (λ (l : List ℕ). HasPayloads l all) is has), λ _. refl)
head_split area zero all (closed gate rest ne is) has = ([], shut_none gate rest all ne (subst (λ (l : List ℕ). HasPayloads l all) is has), λ _. refl)
head_split area (suc n) all generation has =
    let first = open_first (to_be_bytes w64 (suc n)) generation.next generation.rest all (omega (arith, size_of (suc n)), omega (arith, size_of (suc n))) (subst (λ (l : List ℕ). HasPayloads l all) generation.is has) in
    (first.0, first.1, λ never. absurd (omega (arith, never)))

pub older_of : (area : List ℕ) (o g : ℕ) → IsGeneration area o → (o ≡ 0) ⊎ (o < g) → IsOlder area g
older_of area zero g is less = shut is
older_of area (suc n) g is (inl never) = absurd (omega (arith, never))
older_of area (suc n) g is (inr lt) = older (record { before = suc n; has = is; less = lt })

other_of : (area : List ℕ) (o g : ℕ) (live : Bool) → (live ≡ true → o ≢ 0) → (live ≡ false → o ≡ 0) → IsGeneration area o → (o ≡ 0) ⊎ (o < g) → OtherIs live area g
other_of area zero g true alive dead is less = absurd (alive refl refl)
other_of area zero g false alive dead is less = is
other_of area (suc n) g true alive dead is (inl never) = absurd (omega (arith, never))
other_of area (suc n) g true alive dead is (inr lt) = record { before = suc n; has = is; less = lt }
other_of area (suc n) g false alive dead is less = absurd (let never = dead refl in omega (arith, never))

head_length : (g n : ℕ) → (g ≡ 0 → n ≡ 0) → (g ≢ 0 → n ≡ 13) → n ≡ length (journal_records (head_of g))
head_length zero n none some = none refl
head_length (suc m) n none some =
    let is = some (λ never. omega (arith, never)) in
    omega (arith, is, length-append (journal_record (to_be_bytes w64 (suc m))) [], length-journal_record (to_be_bytes w64 (suc m)), size_of (suc m))

pub picked_one : (v : DiskView) (half one two : ℕ) (second : Bool) → IfTold v (λ bytes. IsGeneration (region_of 0 half bytes) one) → IfTold v (λ bytes. IsGeneration (region_of half (half + half) bytes) two)
    → one < 2 ^ 64 → two < 2 ^ 64 → (one ≢ 0 → 0 + 13 < half) → (two ≢ 0 → half + 13 < half + half) → (one ≡ two → one ≡ 0) → (second ≡ true → one ≤ two) → (second ≡ false → two < one)
    → IsPicked v half second (if second then two else one) (if second then one else two)
picked_one v half one two true first last high1 high2 room1 room2 apart alive never = record {
  current = last;
  other = λ bytes told. subst (λ (n : ℕ). IsGeneration (region_of 0 n bytes) one) (omega arith) (first bytes told);
  less = (let le = alive refl in elim (cases_eq one two) [ inl same ↦ inl (apart same) | inr ne ↦ inr (omega (arith, le, ne)) ]);
  zero_is = λ _. refl;
  high = high2;
  room = room2;
}
picked_one v half one two false first last high1 high2 room1 room2 apart alive never = record {
  current = λ bytes told. subst (λ (n : ℕ). IsGeneration (region_of 0 n bytes) one) (omega arith) (first bytes told);
  other = last;
  less = inr (never refl);
  zero_is = λ z. absurd (let lt = never refl in omega (arith, z, lt));
  high = high1;
  room = λ some. (let fits = room1 some in omega (arith, fits));
}

-- the area that is the current one was opened, up to behind its generation
pub record AreOpened (v : DiskView) (half : ℕ) (second : Bool) (g o : ℕ) (j : JournalPlace) (live : Bool) (head : ℕ) : Type 0 where
  pub picked : IsPicked v half second g o
  pub size : half ≡ v.size / 2
  pub inside : half + half ≤ v.size
  pub durable : IsDurable v
  pub reads : (bytes : List ℕ) → v.told ≡ Some bytes → v.images bytes
  pub sizes : (image : List ℕ) → v.images image → length image ≡ v.size
  pub opened : IsOpened v (area_from half second) half j
  pub alive : live ≡ true → o ≢ 0
  pub dead : live ≡ false → o ≡ 0
  pub none : g ≡ 0 → head ≡ 0
  pub some : g ≢ 0 → head ≡ 13

module _ (v : DiskView) (half : ℕ) (second : Bool) (g o : ℕ) (j : JournalPlace) (live : Bool) (head : ℕ) (are : AreOpened v half second g o j live head) where
  abbrev placed : JournalPlace
  placed = record j { cursor = area_from half second + head }

  abbrev areas : AreasAt
  areas = record { half = half; second = second; generation = g; journal = placed; other_live = live; build = None; is_broken = false }

  has_all : (bytes : List ℕ) → v.told ≡ Some bytes → (payloads : List (List ℕ)) × HasPayloads (area_of half second bytes) (head_of g ++ payloads) × (g ≡ 0 → payloads ≡ [])
  has_all bytes told =
      let left = are.opened.stands.payloads bytes told in
      let all : List (List ℕ) = left.given ++ left.left in
      let has : HasPayloads (area_of half second bytes) all = subst (λ (n : ℕ). HasPayloads (region_of n (area_end half second) bytes) all) are.opened.from (subst (λ (n : ℕ). HasPayloads (region_of j.from n bytes) all) are.opened.end left.read.holds) in
      let split = head_split (area_of half second bytes) g all (are.picked.current bytes told) has in
      (split.0, subst (λ (l : List (List ℕ)). HasPayloads (area_of half second bytes) l) split.1 has, split.2)

  has_current : (bytes : List ℕ) (told : v.told ≡ Some bytes) → AreasHold areas (has_all bytes told).0 bytes
  has_current bytes told =
      let all = has_all bytes told in
      record { size = are.size ∙ ap (λ (n : ℕ). n / 2) (sym (are.sizes bytes (are.reads bytes told))); high = are.picked.high; holds = all.1; none = λ z. (are.picked.zero_is z, all.2 z); other = older_of (area_of half (not second) bytes) o g (are.picked.other bytes told) are.picked.less }

  read_first : (bytes : List ℕ) (told : v.told ≡ Some bytes) → HasRead placed bytes (head_of g) (has_all bytes told).0
  read_first bytes told =
      let all = has_all bytes told in
      record {
        holds = subst (λ (n : ℕ). HasPayloads (region_of j.from n bytes) (head_of g ++ all.0)) (sym are.opened.end) (subst (λ (n : ℕ). HasPayloads (region_of n (area_end half second) bytes) (head_of g ++ all.0)) (sym are.opened.from) all.1);
        place = ap (λ (n : ℕ). area_from half second + n) (head_length g head are.none are.some) ∙ ap (λ (n : ℕ). n + length (journal_records (head_of g))) (sym are.opened.from);
      }

  pub opened_holds : IfTold v (λ bytes. (payloads : List (List ℕ)) × AreasHold areas payloads bytes × HasRead placed bytes (head_of g) payloads)
  opened_holds bytes told = ((has_all bytes told).0, has_current bytes told, read_first bytes told)

  head_fits : area_from half second + head ≤ area_end half second
  head_fits = elim (cases_eq g 0) [
    | inl z ↦ (let is = are.none z in omega (arith, is))
    | inr ne ↦ (let is = are.some ne in let room = are.picked.room ne in omega (arith, is, room))
  ]

  pub opened_stands : AreasInvariant v areas
  opened_stands = record {
    half = are.size;
    inside = are.inside;
    from = are.opened.from;
    end = are.opened.end;
    stands = record {
      inside = are.opened.stands.inside;
      first = omega (arith, are.opened.from);
      last = (let fits = head_fits in omega (arith, fits, are.opened.end));
      payloads = λ bytes told. record { given = head_of g; left = (has_all bytes told).0; read = record { holds = (read_first bytes told).holds; place = (read_first bytes told).place } };
      gate = are.opened.stands.gate;
      images = are.opened.stands.images;
    };
    unbroken = λ _. are.opened.sound;
    has = λ _ bytes told. ((has_all bytes told).0, λ image is. (let same : bytes ≡ image = some_eq bytes image v.told told (are.durable image is) in subst (λ (l : List ℕ). AreasHold areas (has_all bytes told).0 l) same (has_current bytes told)));
    other = λ _ image is. other_of (area_of half (not second) image) o g live are.alive are.dead (are.picked.other image (are.durable image is)) are.picked.less;
    build = λ _ gate is. cc;
  }
    where
      some_eq : (a b : List ℕ) (t : Option (List ℕ)) → t ≡ Some a → t ≡ Some b → a ≡ b
      some_eq a b t one two = cc

-- from the first place of an area to behind its generation there is that record alone
pub head_walked : (v : DiskView) (half : ℕ) (second : Bool) (g o : ℕ) → IsPicked v half second g o → half + half ≤ v.size → ((bytes : List ℕ) → v.told ≡ Some bytes → length bytes ≡ v.size) → (head : ℕ) → (g ≡ 0 → head ≡ 0) → (g ≢ 0 → head ≡ 13)
    → IfTold v (λ bytes. HasWalked (record { from = area_from half second; end = area_end half second; gate = area_from half second + head; is_done = false }) bytes (head_of g))
head_walked v half second zero o p inside long head none some bytes told =
    let from = area_from half second in
    let fits = area_inside half v.size second inside in
    let size = long bytes told in
    let same : from ≡ from + head = (let z = none refl in omega (arith, z)) in
    record {
      sizes = All-nil IsPayload;
      are = ap (λ (n : ℕ). region_of from n bytes) (sym same) ∙ none_there from bytes (let low = from_inside half second in omega (arith, low, fits, size));
      place = ap (λ (n : ℕ). from + n) (none refl);
    }
head_walked v half second (suc n) o p inside long head none some bytes told =
    let from = area_from half second in
    let has = p.current bytes told in
    let ne : suc n ≢ 0 = (λ never. omega (arith, never)) in
    let is = some ne in
    let room = p.room ne in
    let payload = to_be_bytes w64 (suc n) in
    let size : length (journal_record payload) ≡ head = (let a = length-journal_record payload in let b = size_of (suc n) in omega (arith, a, b, is)) in
    record {
      sizes = All-cons IsPayload payload [] (small_of (suc n)) (All-nil IsPayload);
      are = sym (region_front from head (area_end half second) bytes (omega (arith, room, is))) ∙ ap (λ (l : List ℕ). take head l) has.is ∙ take_at (journal_record payload) (has.next ∷ has.rest) head size ∙ sym (append-nil (journal_record payload));
      place = ap (λ (m : ℕ). from + m) (head_length (suc n) head none some);
    }

head_same : (head one two : List (List ℕ)) → head ++ one ≡ head ++ two → one ≡ two
head_same [] one two is = is
head_same (h ∷ head) one two is = head_same head one two (ap (λ (l : List (List ℕ)). drop 1 l) is)

-- areas that were read whole
module _ (v : DiskView) (r : ReadingAt) (is : IsReading v r) (done : r.walk.is_done ≡ true) (reads : (bytes : List ℕ) → v.told ≡ Some bytes → v.images bytes) (sizes : (image : List ℕ) → v.images image → length image ≡ v.size)
    (j : JournalPlace) (opened : IsOpened v r.walk.from (r.walk.end - r.walk.from) j) (head : ℕ) (none : r.generation ≡ 0 → head ≡ 0) (some : r.generation ≢ 0 → head ≡ 13) where
  long_enough : r.walk.end - r.walk.from ≡ r.half
  long_enough = let a = is.from in let b = is.end in omega (arith, a, b)

  opened_area : IsOpened v (area_from r.half r.second) r.half j
  opened_area = subst (λ (n : ℕ). IsOpened v n r.half j) is.from (subst (λ (n : ℕ). IsOpened v r.walk.from n j) long_enough opened)

  -- they were opened so
  read_opened : AreOpened v r.half r.second r.generation is.other j r.other_live head
  read_opened = record { picked = is.picked; size = is.half; inside = is.inside; durable = is.walking.durable; reads = reads; sizes = sizes; opened = opened_area; alive = is.alive; dead = is.dead; none = none; some = some }

  abbrev pub read_areas : AreasAt
  read_areas = record { half = r.half; second = r.second; generation = r.generation; journal = record j { cursor = area_from r.half r.second + head }; other_live = r.other_live; build = None; is_broken = false }

  pub read_stands : AreasInvariant v read_areas
  read_stands = opened_stands v r.half r.second r.generation is.other j r.other_live head read_opened

  pub read_holds : IfTold v (λ bytes. (payloads : List (List ℕ)) → HasWalked r.walk bytes (head_of r.generation ++ payloads) → AreasHold read_areas payloads bytes)
  read_holds bytes told payloads walked =
      let there = opened_holds v r.half r.second r.generation is.other j r.other_live head read_opened bytes told in
      let all = is.walking.done done bytes told (head_of r.generation ++ payloads) walked in
      let area : HasPayloads (area_of r.half r.second bytes) (head_of r.generation ++ payloads) =
      subst (λ (n : ℕ). HasPayloads (region_of n (area_end r.half r.second) bytes) (head_of r.generation ++ payloads)) is.from (subst (λ (n : ℕ). HasPayloads (region_of r.walk.from n bytes) (head_of r.generation ++ payloads)) is.end all) in
      let same : there.0 ≡ payloads = head_same (head_of r.generation) there.0 payloads (unique (area_of r.half r.second bytes) (head_of r.generation ++ there.0) (head_of r.generation ++ payloads) there.1.holds area) in
      subst (λ (l : List (List ℕ)). AreasHold read_areas l bytes) same there.1

  pub read_fits : area_from r.half r.second + head ≤ j.end
  read_fits =
      let low = head_fits v r.half r.second r.generation is.other j r.other_live head read_opened in
      let end = opened_area.end in
      omega (arith, low, end)

pub le_yes : (m n : ℕ) → nat_le m n ≡ true → m ≤ n
le_yes m n e = grind (arith, nat_tests)

pub le_no : (m n : ℕ) → nat_le m n ≡ false → n < m
le_no m n e = grind (arith, nat_tests)

pub live_yes : (o : ℕ) → not (nat_eq o 0) ≡ true → o ≢ 0
live_yes zero e = absurd (true≢false (sym e))
live_yes (suc n) e = λ never. omega (arith, never)

pub live_no : (o : ℕ) → not (nat_eq o 0) ≡ false → o ≡ 0
live_no zero e = refl
live_no (suc n) e = let is : nat_eq (suc n) 0 ≡ false = grind (arith, nat_tests) in absurd (true≢false (sym (ap not is) ∙ e))

pub halves : (n : ℕ) → n / 2 + n / 2 ≤ n
halves n = grind arith

pub live_generation : (area : List ℕ) (g : ℕ) → IsGeneration area g → g ≢ 0 → HasGeneration area g
live_generation area zero is ne = absurd (ne refl)
live_generation area (suc n) is ne = is

-- of a disk of which both areas were looked at, the current one has the greater generation
pub picked_both : {v0 v1 v : DiskView} {half one two : ℕ} → IsQuiet v0 v1 → IsQuiet v1 v → IfTold v0 (λ bytes. IsGeneration (region_of 0 half bytes) one) → IfTold v1 (λ bytes. IsGeneration (region_of half (half + half) bytes) two)
    → one < 2 ^ 64 → two < 2 ^ 64 → (one ≢ 0 → 0 + 13 < half) → (two ≢ 0 → half + 13 < half + half) → (one ≡ two → one ≡ 0) → IsPicked v half (nat_le one two) (if nat_le one two then two else one) (if nat_le one two then one else two)
picked_both {v0} {v1} {v} {half} {one} {two} quiet1 quiet2 first last high1 high2 room1 room2 apart =
    picked_one v half one two (nat_le one two) (λ bytes told. first bytes (sym quiet1.told ∙ (sym quiet2.told ∙ told))) (λ bytes told. last bytes (sym quiet2.told ∙ told)) high1 high2 room1 room2 apart (le_yes one two) (le_no one two)

-- a walk from behind the generation of the current one has that record behind it
pub head_passed : {v : DiskView} {size from head g o : ℕ} {second : Bool} → size ≡ v.size → IsPicked v (size / 2) second g o → ((bytes : List ℕ) → v.told ≡ Some bytes → v.images bytes) → ((image : List ℕ) → v.images image → length image ≡ v.size)
    → (g ≡ 0 → head ≡ 0) → (g ≢ 0 → head ≡ 13) → from ≡ area_from (size / 2) second → IfTold v (λ bytes. HasWalked (record { from = from; end = from + size / 2; gate = from + head; is_done = false }) bytes (head_of g))
head_passed {v} {size} {from} {head} {g} {o} {second} is picked reads sizes none some from_is =
    let fits = halves size in
    subst (λ (n : ℕ). IfTold v (λ bytes. HasWalked (record { from = n; end = n + size / 2; gate = n + head; is_done = false }) bytes (head_of g))) (sym from_is)
    (head_walked v (size / 2) second g o picked (omega (arith, fits, is)) (λ bytes told. sizes bytes (reads bytes told)) head none some)

-- the first area is damaged
pub first_damaged : (v : DiskView) {size offset : ℕ} → size ≡ v.size → (offset ≡ 0) × IfTold v (λ bytes. HasBadHead (region_of 0 (size / 2) bytes)) → IfTold v (λ bytes. IsDamagedLayout (v.size / 2) bytes offset)
first_damaged v {size} {offset} is bad bytes told =
    subst (λ (n : ℕ). IsDamagedLayout (n / 2) bytes offset) is (first_head (subst (λ (n : ℕ). HasBadHead (region_of 0 n bytes)) (omega arith) (bad.1 bytes told)) bad.0)

-- both areas have one generation
pub twice_damaged : {v w : DiskView} {size one two offset : ℕ} → size ≡ v.size → IsQuiet v w → (one ≡ two) × (one ≢ 0) → IfTold v (λ bytes. IsGeneration (region_of 0 (size / 2) bytes) one) → IfTold w (λ bytes. IsGeneration (region_of (size / 2) (size / 2 + size / 2) bytes) two) → offset ≡ size / 2
    → IfTold v (λ bytes. IsDamagedLayout (v.size / 2) bytes offset)
twice_damaged {v} {w} {size} {one} {two} {offset} is quiet both first last place bytes told =
    let half : ℕ = size / 2 in
    let low = live_generation (region_of 0 half bytes) one (first bytes told) both.1 in
    let high = live_generation (region_of half (half + half) bytes) two (last bytes (quiet.told ∙ told)) (λ z. both.1 (both.0 ∙ z)) in
    subst (λ (n : ℕ). IsDamagedLayout (n / 2) bytes offset) is
    (twice one (subst (λ (n : ℕ). HasGeneration (region_of 0 n bytes) one) (omega arith) low) (subst (λ (n : ℕ). HasGeneration (region_of half (half + half) bytes) n) (sym both.0) high) place)

begins_open : (payloads : List (List ℕ)) (rest : List ℕ) → (more : List ℕ) × (journal_records payloads ++ 1 ∷ rest ≡ 1 ∷ more)
begins_open [] rest = (rest, refl)
begins_open (p ∷ payloads) rest = (drop 1 (journal_records (p ∷ payloads) ++ 1 ∷ rest), refl)

-- an area that is damaged is live
damaged_live : (area : List ℕ) (offset g : ℕ) → IsDamagedAt area offset → IsGeneration area g → g ≢ 0
damaged_live area offset (suc n) damage is = λ never. omega (arith, never)
damaged_live area offset zero damage (empty is) = λ _. (let open_ = begins_open damage.payloads damage.rest in let none = ap length (sym is ∙ damage.bytes_are ∙ open_.1) in omega (arith, none))
damaged_live area offset zero damage (closed gate rest ne is) = λ _. (let open_ = begins_open damage.payloads damage.rest in ne (ap (λ (l : List ℕ). get_or l 0 0) (sym is ∙ damage.bytes_are ∙ open_.1)))

pub damaged_later : (v : DiskView) (half : ℕ) (second : Bool) (g o : ℕ) → IsPicked v half second g o → (from offset : ℕ) → from ≡ area_from half second → from ≤ offset → (bytes : List ℕ) → v.told ≡ Some bytes → IsDamagedAt (region_of from (from + half) bytes) (offset - from) → IsDamagedLayout half bytes offset
damaged_later v half second g o p from offset from_is low bytes told damage =
    let there : IsDamagedAt (area_of half second bytes) (offset - area_from half second) = subst (λ (n : ℕ). IsDamagedAt (region_of n (n + half) bytes) (offset - n)) from_is damage in
    let ne = damaged_live (area_of half second bytes) (offset - area_from half second) g there (p.current bytes told) in
    later second g (live_generation (area_of half second bytes) g (p.current bytes told) ne) (older_of (area_of half (not second) bytes) o g (p.other bytes told) p.less) (subst (λ (n : ℕ). n ≤ offset) from_is low) there
