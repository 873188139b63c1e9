-- What stands after each call of a disk that begins, goes on with or finishes a build.
use Rattle.std.proofs.Common.{◌≡◌, ◌≢◌, ◌⊎◌, inl, inr, ℕ, zero, suc, ◌+◌, ◌-◌, ◌<◌, ◌≤◌, ◌^◌, ◌/◌, Bool, true, false, not, List, [], ◌∷◌, ◌++◌, length, get_or, take, drop, Option, None, Some, refl, sym, ◌∙◌, ap, subst, arith, append_assoc, length-append, nat_lt}
use Rattle.std.specs.Prelude.{option_map, All}
use Rattle.std.specs.Int.{w64, to_be_bytes}
use Rattle.std.proofs.lemmas.Bool.{true≢false, cases_eq}
use Rattle.std.proofs.lemmas.Bool.Decides.{nat_tests}
use Rattle.std.proofs.lemmas.List.{take_at, append-nil}
use Rattle.std.proofs.lemmas.List.Elements.{All-nil, All-cons, All-append}
use Rattle.rm_disk.specs.Disk.{DiskView, EachImage, IfTold, AtEachMoment, SameElsewhere, MayWrite, IsQuiet, IsDurable, put}
use Rattle.rm_disk.proofs.Puts.{get_or-put, put_elsewhere}
use Rattle.rm_disk.proofs.Views.{told_before, quiet_writes, write_wider}
use Rattle.rm_formats.specs.Device.{IsPayload, sized, journal_record, journal_records, HasPayloads, records}
use Rattle.rm_journal.specs.Journal.{JournalPlace, JournalInvariant, region_of}
use Rattle.rm_journal.proofs.Payloads.{unique, records_push, length-records_push, length-journal_record}
use Rattle.rm_journal.proofs.Nexts.{stands_quiet}
use Rattle.rm_journal.proofs.Outside.{write_write}
use Rattle.rm_journal.specs.two_areas.Areas.{AreasAt, area_from, area_end, area_of, head_of, IsShut, IsBefore, IsOlder, shut, OtherIs, HasCurrent, HasLayout, LeavesPayloads, LeavesEitherLayout, AreasHold, IsBuilt, AreasInvariant, ClosesGate, other_from, other_end}
use Rattle.rm_journal.proofs.two_areas.Bytes.{outside, apart, area_inside, region_head, shut_byte, shut_stays, older_first, outgrown, holds_shut, holds_live, one_list, put_behind}
use Rattle.rm_journal.proofs.two_areas.Moments.{some_same, written_moment, quiet_moment, moment_on, moment_of, stands_outside}

told_put : (o : Option (List ℕ)) (f : List ℕ → List ℕ) (image : List ℕ) → option_map f o ≡ Some image → (b : List ℕ) × (o ≡ Some b) × (image ≡ f b)
told_put None f image is = cc
told_put (Some b) f image is = (b, refl, (let same : f b ≡ image = cc in sym same))

pub from_inside : (half : ℕ) (second : Bool) → area_from half second ≤ area_end half second
from_inside half true = omega arith
from_inside half false = omega arith

generation_size : (g : ℕ) → length (to_be_bytes w64 g) ≡ 8
generation_size g = refl

module _ (a : AreasAt) (at many : ℕ) (x y : List ℕ) (long : a.half + a.half ≤ length x) (same : SameElsewhere at many x y) (low : other_from a ≤ at) (high : at + many ≤ other_end a) where
  other_long : other_end a ≤ length x
  other_long = area_inside a.half (length x) (not a.second) long

  holds_on : (payloads : List (List ℕ)) → AreasHold a payloads x → HasPayloads (area_of a.half a.second y) (head_of a.generation ++ payloads)
  holds_on payloads has = subst (λ (l : List ℕ). HasPayloads l (head_of a.generation ++ payloads)) (sym (outside at many (area_from a.half a.second) (area_end a.half a.second) x y (from_inside a.half a.second) same (apart a.half a.second at many low high))) has.holds

  with_other : (payloads : List (List ℕ)) → AreasHold a payloads x → IsOlder (area_of a.half (not a.second) y) a.generation → AreasHold a payloads y
  with_other payloads has other = record { size = has.size ∙ ap (λ (n : ℕ). n / 2) (sym same.size); high = has.high; holds = holds_on payloads has; none = has.none; other = other }

  module _ (some : 1 ≤ a.half) where
    -- behind the first gate of the other area, which is closed
    pub shut_behind : other_from a < at → IsShut (area_of a.half (not a.second) x) → IsShut (area_of a.half (not a.second) y)
    shut_behind behind was = shut_stays at many (other_from a) (other_end a) x y (omega (arith, some)) other_long behind same was

    pub has_behind : (payloads : List (List ℕ)) → AreasHold a payloads x → other_from a < at → IsShut (area_of a.half (not a.second) x) → AreasHold a payloads y
    has_behind payloads has behind was = with_other payloads has (shut (shut_behind behind was))

    -- the first gate itself
    pub has_first : (payloads : List (List ℕ)) → AreasHold a payloads x → at ≡ other_from a → many ≡ 1 → IsBefore (area_of a.half (not a.second) x) a.generation → AreasHold a payloads y
    has_first payloads has first one was =
        let there : SameElsewhere (other_from a) 1 x y = subst (λ (n : ℕ). SameElsewhere (other_from a) n x y) one (subst (λ (n : ℕ). SameElsewhere n many x y) first same) in
        with_other payloads has (older_first (other_from a) (other_end a) a.generation x y (omega (arith, some)) other_long there was)

-- of a disk that tells its bytes, each image has what they have
pub each_has : (v : DiskView) (a : AreasAt) → AreasInvariant v a → a.is_broken ≡ false → ((bytes : List ℕ) → v.told ≡ Some bytes → v.images bytes) → (bytes : List ℕ) (payloads : List (List ℕ)) → v.told ≡ Some bytes → AreasHold a payloads bytes → EachImage v (AreasHold a payloads)
each_has v a stands sound reads bytes payloads told has = λ image is.
    let own = stands.has sound bytes told in
    subst (λ (l : List (List ℕ)). AreasHold a l image) (one_list a.half a.second a.generation own.0 payloads bytes (own.1 bytes (reads bytes told)) has) (own.1 image is)

-- areas that a fault broke, while the other one was written
pub broken_on : (v w : DiskView) (a : AreasAt) (at many : ℕ) (live : Bool) (build : Option ℕ) → AreasInvariant v a → other_from a ≤ at → at + many ≤ other_end a → MayWrite at many v w → AreasInvariant w (record a { other_live = live; build = build; is_broken = true })
broken_on v w a at many live build stands low high wrote = record {
  half = stands.half ∙ ap (λ (n : ℕ). n / 2) (sym wrote.goes_on.size);
  inside = omega (arith, stands.inside, wrote.goes_on.size);
  from = stands.from;
  end = stands.end;
  stands = stands_outside v w a.journal at many (subst (λ (n : ℕ). (n ≤ at) ⊎ (at + many ≤ a.journal.from)) (sym stands.end) (subst (λ (n : ℕ). (area_end a.half a.second ≤ at) ⊎ (at + many ≤ n)) (sym stands.from) (apart a.half a.second at many low high))) wrote stands.stands;
  unbroken = λ never. absurd (true≢false never);
  has = λ never. absurd (true≢false never);
  other = λ never. absurd (true≢false never);
  build = λ never. absurd (true≢false never);
}

-- the same where nothing changed
pub broken_quiet : (v w : DiskView) (a : AreasAt) (live : Bool) (build : Option ℕ) → AreasInvariant v a → IsQuiet v w → AreasInvariant w (record a { other_live = live; build = build; is_broken = true })
broken_quiet v w a live build stands quiet = record {
  half = stands.half ∙ ap (λ (n : ℕ). n / 2) (sym quiet.goes_on.size);
  inside = omega (arith, stands.inside, quiet.goes_on.size);
  from = stands.from;
  end = stands.end;
  stands = stands_quiet v w a.journal stands.stands quiet;
  unbroken = λ never. absurd (true≢false never);
  has = λ never. absurd (true≢false never);
  other = λ never. absurd (true≢false never);
  build = λ never. absurd (true≢false never);
}

pub layout : (a : AreasAt) (payloads : List (List ℕ)) (image : List ℕ) → AreasHold a payloads image → HasLayout a.half payloads image
layout a payloads image has = record { second = a.second; generation = a.generation; current = has }

-- a build has its head at least
pub build_low : (v : DiskView) (a : AreasAt) (added : List (List ℕ)) (b : IsBuilt v a added) → other_from a + 13 ≤ b.gate
build_low v a added b =
    omega (arith, b.place, length-append (journal_record (to_be_bytes w64 (suc a.generation))) (journal_records added), length-journal_record (to_be_bytes w64 (suc a.generation)), generation_size (suc a.generation))

pub same_gate : (o : Option ℕ) (m n : ℕ) → o ≡ Some m → o ≡ Some n → m ≡ n
same_gate o m n one two = cc

not_not : (b : Bool) → not (not b) ≡ b
not_not true = refl
not_not false = refl

outgrown_is : (area : List ℕ) (generation : ℕ) (payloads : List (List ℕ)) → generation < 2 ^ 64 → (generation ≡ 0 → payloads ≡ []) → HasPayloads area (head_of generation ++ payloads) → OtherIs (nat_lt 0 generation) area (suc generation)
outgrown_is area zero payloads high none has = holds_shut area (subst (λ (l : List (List ℕ)). HasPayloads area l) (none refl) has)
outgrown_is area (suc n) payloads high none has =
    let is : nat_lt 0 (suc n) ≡ true = grind (arith, nat_tests) in
    let before : IsBefore area (suc (suc n)) = record { before = suc n; has = holds_live area n payloads high has; less = omega arith } in
    subst (λ (b : Bool). OtherIs b area (suc (suc n))) (sym is) before

-- once the first gate of the build is opened
abbrev pub grown_at : AreasAt → ℕ → AreasAt
grown_at a gate = record {
  half = a.half;
  second = not a.second;
  generation = suc a.generation;
  journal = record { from = other_from a; end = other_end a; gate = gate; cursor = other_from a + 13; is_broken = false };
  other_live = nat_lt 0 a.generation;
  build = None;
  is_broken = false;
}

pub quiet_either : (v : DiskView) (a : AreasAt) (w : DiskView) → IsQuiet v w → (added payloads : List (List ℕ)) → EachImage v (AreasHold a payloads) → AtEachMoment v w (λ image. HasLayout a.half payloads image ⊎ HasLayout a.half added image)
quiet_either v a w quiet added payloads each =
    moment_of (AreasHold a payloads) (λ image. HasLayout a.half payloads image ⊎ HasLayout a.half added image) v w (λ image has. inl (layout a payloads image has)) (quiet_moment (AreasHold a payloads) v w each quiet)

-- areas that no fault broke stand on a disk, and each has room for a head; the disk's images have its size, and what it tells is one of them
pub record IsWhole (disk : DiskView) (a : AreasAt) : Type 0 where
  pub stands : AreasInvariant disk a
  pub sound : a.is_broken ≡ false
  pub sizes : EachImage disk (λ image. length image ≡ disk.size)
  pub reads : (bytes : List ℕ) → disk.told ≡ Some bytes → disk.images bytes
  pub room : 14 ≤ a.half

-- the first gate of the other area was closed, and a head is written behind it
pub record IsHeading (v0 v1 v2 : DiskView) (a : AreasAt) (head : List ℕ) : Type 0 where
  pub shuts : ClosesGate a.other_live (other_from a) v0 v1
  pub wrote : MayWrite (other_from a) 1 v0 v1
  pub sizes : EachImage v1 (λ image. length image ≡ v1.size)
  pub reads : (bytes : List ℕ) → v1.told ≡ Some bytes → v1.images bytes
  pub is : head ≡ sized (to_be_bytes w64 (suc a.generation)) ++ 0 ∷ []
  pub headed : MayWrite (other_from a + 1) (length head) v1 v2

-- a payload is written at the gate of what is built
pub record IsAdding (v0 v1 : DiskView) (a : AreasAt) (gate : ℕ) (payload body : List ℕ) : Type 0 where
  pub begun : a.build ≡ Some gate
  pub is : body ≡ journal_record payload ++ 0 ∷ []
  pub small : IsPayload payload
  pub fits : gate + length payload + 6 ≤ other_end a
  pub wrote : MayWrite gate (length body) v0 v1

-- what is built was synced, and its first gate is opened
pub record IsOpening (v0 v1 v2 : DiskView) (a : AreasAt) : Type 0 where
  pub synced : IsQuiet v0 v1
  pub durable : IsDurable v1
  pub opens : MayWrite (other_from a) 1 v1 v2

-- areas as a call finds them
pub whole_of : {disk : DiskView} {a s : AreasAt} → a ≡ s → AreasInvariant disk s → a.is_broken ≡ false → EachImage disk (λ image. length image ≡ disk.size) → ((bytes : List ℕ) → disk.told ≡ Some bytes → disk.images bytes) → 14 ≤ s.half → IsWhole disk s
whole_of same stands sound sizes reads room = record { stands = stands; sound = rw (← same) sound; sizes = sizes; reads = reads; room = room }

-- the same of areas of which one is being built, which has room for its head
pub building_whole : {disk : DiskView} {a s : AreasAt} → a ≡ s → AreasInvariant disk s → a.is_broken ≡ false → EachImage disk (λ image. length image ≡ disk.size) → ((bytes : List ℕ) → disk.told ≡ Some bytes → disk.images bytes) → (gate : ℕ) → a.build ≡ Some gate → IsWhole disk s
building_whole {disk} {a} {s} same stands sound sizes reads gate begun =
    let built = stands.build (rw (← same) sound) gate (rw (← same) begun) in
    let low = build_low disk s built.0 built.1 in
    let room = built.1.room in
    whole_of same stands sound sizes reads (omega (arith, low, room))

module _ (v0 : DiskView) (a : AreasAt) (whole : IsWhole v0 a) where
  long : (x : List ℕ) → v0.images x → a.half + a.half ≤ length x
  long x is = omega (arith, whole.stands.inside, whole.sizes x is)

  -- of a disk that tells its bytes, a crash leaves their payloads where at each moment it leaves those that each image has
  pub leaves_payloads : (w : DiskView) → ((payloads : List (List ℕ)) → EachImage v0 (AreasHold a payloads) → AtEachMoment v0 w (AreasHold a payloads)) → IfTold v0 (λ bytes. (payloads : List (List ℕ)) → AreasHold a payloads bytes → LeavesPayloads v0 w a.half payloads)
  leaves_payloads w leaves bytes told payloads has =
      moment_of (AreasHold a payloads) (HasLayout a.half payloads) v0 w (layout a payloads) (leaves payloads (each_has v0 a whole.stands whole.sound whole.reads bytes payloads told has))

  -- and then it tells them
  pub tells_payloads : (w : DiskView) → ((bytes : List ℕ) → w.told ≡ Some bytes → w.images bytes) → ((payloads : List (List ℕ)) → EachImage v0 (AreasHold a payloads) → AtEachMoment v0 w (AreasHold a payloads)) → IfTold v0 (λ bytes. (payloads : List (List ℕ)) → AreasHold a payloads bytes → IfTold w (AreasHold a payloads))
  tells_payloads w reads leaves bytes told payloads has = λ now tells.
      (leaves payloads (each_has v0 a whole.stands whole.sound whole.reads bytes payloads told has)).now now (reads now tells)

  -- the first gate of the other area is being closed
  module _ (v1 : DiskView) (wrote : MayWrite (other_from a) 1 v0 v1) where
    pub closing_live : a.other_live ≡ true → (payloads : List (List ℕ)) → EachImage v0 (AreasHold a payloads) → AtEachMoment v0 v1 (AreasHold a payloads)
    closing_live live payloads each =
        written_moment (AreasHold a payloads) (other_from a) 1 v0 v1
        (λ x y is same. has_first a (other_from a) 1 x y (long x is) same (omega arith) (omega (arith, whole.room)) (omega (arith, whole.room)) payloads (each x is) refl refl (subst (λ (b : Bool). OtherIs b (area_of a.half (not a.second) x) a.generation) live (whole.stands.other whole.sound x is)))
        wrote

  -- it is closed
  module _ (v1 : DiskView) (shuts : ClosesGate a.other_live (other_from a) v0 v1) where
    closed_has : (payloads : List (List ℕ)) → EachImage v0 (AreasHold a payloads) → AtEachMoment v0 v1 (AreasHold a payloads)
    closed_has payloads each = by a.other_live refl shuts
      where
        by : (b : Bool) → a.other_live ≡ b → ClosesGate b (other_from a) v0 v1 → AtEachMoment v0 v1 (AreasHold a payloads)
        by true e s = closing_live v1 s.2 e payloads each
        by false e s = quiet_moment (AreasHold a payloads) v0 v1 each s

    closed_shut : EachImage v1 (λ image. IsShut (area_of a.half (not a.second) image))
    closed_shut = by a.other_live refl shuts
      where
        by : (b : Bool) → a.other_live ≡ b → ClosesGate b (other_from a) v0 v1 → EachImage v1 (λ image. IsShut (area_of a.half (not a.second) image))
        by true e s = λ image is.
            let put_ = told_put v0.told (put (other_from a) (0 ∷ [])) image (sym s.0 ∙ s.1 image is) in
            let le : other_end a ≤ length put_.0 = area_inside a.half (length put_.0) (not a.second) (long put_.0 (whole.reads put_.0 put_.1)) in
            let fits : other_from a + 1 ≤ length put_.0 = omega (arith, le, whole.room) in
            let elsewhere = put_elsewhere (other_from a) (0 ∷ []) put_.0 fits in
            subst (λ (l : List ℕ). IsShut (area_of a.half (not a.second) l)) (sym put_.2)
            (shut_byte (other_from a) (other_end a) (put (other_from a) (0 ∷ []) put_.0) (omega (arith, whole.room)) (omega (arith, le, elsewhere.size)) (λ one. let zero_is = get_or-put (other_from a) 0 put_.0 fits in let never : ◌≡◌ {A = ℕ} 0 1 = sym zero_is ∙ one in omega (arith, never)))
        by false e s = λ image is. subst (λ (b : Bool). OtherIs b (area_of a.half (not a.second) image) a.generation) e (whole.stands.other whole.sound image (s.images image is))

  abbrev next_head : List (List ℕ)
  next_head = head_of (suc a.generation)

  abbrev begun_at : AreasAt
  begun_at = record a { other_live = false; build = Some (other_from a + 13); is_broken = false }

  -- the head of the build is written
  module _ (v1 v2 : DiskView) (head : List ℕ) (heading : IsHeading v0 v1 v2 a head) where
    head_size : length head ≡ 13
    head_size = omega (arith, ap length heading.is)

    head_inside : other_from a + 1 + length head ≤ other_end a
    head_inside = omega (arith, head_size, whole.room)

    long1 : (x : List ℕ) → v1.images x → a.half + a.half ≤ length x
    long1 x is = omega (arith, whole.stands.inside, heading.wrote.goes_on.size, heading.sizes x is)

    pub headed_has : (payloads : List (List ℕ)) → EachImage v0 (AreasHold a payloads) → AtEachMoment v0 v2 (AreasHold a payloads)
    headed_has payloads each =
        let closed = closed_has v1 heading.shuts payloads each in
        moment_on (AreasHold a payloads) v0 v1 v2 closed
        (written_moment (AreasHold a payloads) (other_from a + 1) (length head) v1 v2
        (λ x y is same. has_behind a (other_from a + 1) (length head) x y (long1 x is) same (omega arith) head_inside (omega (arith, whole.room)) payloads (closed.now x is) (omega arith) (closed_shut v1 heading.shuts x is))
        heading.headed)

    -- a fault broke them meanwhile
    pub headed_broken : AreasInvariant v2 (record a { other_live = false; build = None; is_broken = true })
    headed_broken =
        broken_on v1 v2 (record a { other_live = false; build = None; is_broken = true }) (other_from a + 1) (length head) false None
        (broken_on v0 v1 a (other_from a) 1 false None whole.stands (omega arith) (omega (arith, whole.room)) heading.wrote) (omega arith) head_inside heading.headed

    -- nothing else is written
    pub headed_alone : MayWrite (other_from a) 14 v0 v2
    headed_alone =
        write_write (other_from a) 14 v0 v1 v2 (write_wider (other_from a) 14 (other_from a) 1 v0 v1 (omega arith) (omega arith) heading.wrote)
        (write_wider (other_from a) 14 (other_from a + 1) (length head) v1 v2 (omega arith) (omega (arith, head_size)) heading.headed)

    headed_shut : EachImage v2 (λ image. IsShut (area_of a.half (not a.second) image))
    headed_shut = λ image is.
        let any = heading.headed.images image is in
        shut_behind a (other_from a + 1) (length head) any.0 image (long1 any.0 any.1) any.2 (omega arith) head_inside (omega (arith, whole.room)) (omega arith) (closed_shut v1 heading.shuts any.0 any.1)

    both_outside : JournalInvariant v2 a.journal
    both_outside =
        let split : (at many : ℕ) → other_from a ≤ at → at + many ≤ other_end a → (a.journal.end ≤ at) ⊎ (at + many ≤ a.journal.from) =
        λ at many low high. subst (λ (n : ℕ). (n ≤ at) ⊎ (at + many ≤ a.journal.from)) (sym whole.stands.end) (subst (λ (n : ℕ). (area_end a.half a.second ≤ at) ⊎ (at + many ≤ n)) (sym whole.stands.from) (apart a.half a.second at many low high)) in
        stands_outside v1 v2 a.journal (other_from a + 1) (length head) (split (other_from a + 1) (length head) (omega arith) head_inside) heading.headed
        (stands_outside v0 v1 a.journal (other_from a) 1 (split (other_from a) 1 (omega arith) (omega (arith, whole.room))) heading.wrote whole.stands.stands)

    module _ (written : v2.told ≡ option_map (put (other_from a + 1) head) v1.told) (high : suc a.generation < 2 ^ 64) where
      headed_built : IfTold v2 (λ bytes. (rest : List ℕ) × (region_of (other_from a + 1) (other_end a) bytes ≡ drop 1 (journal_records (next_head ++ [])) ++ 0 ∷ rest))
      headed_built bytes told =
          let put_ = told_put v1.told (put (other_from a + 1) head) bytes (sym written ∙ told) in
          let b : List ℕ = put_.0 in
          let first : ℕ = other_from a + 1 in
          let le : other_end a ≤ length b = area_inside a.half (length b) (not a.second) (long1 b (heading.reads b put_.1)) in
          let rest : List ℕ = take (other_end a - (first + length head)) (drop (first + length head) b) in
          let none : first - first ≡ 0 = omega arith in (
            rest,
            ap (λ (l : List ℕ). region_of first (other_end a) l) put_.2
                ∙ put_behind first first (other_end a) head b (omega arith) head_inside le
                ∙ ap (λ (k : ℕ). take k (region_of first (other_end a) b) ++ (head ++ rest)) none
                ∙ ap (λ (l : List ℕ). l ++ rest) heading.is
                ∙ append_assoc (sized (to_be_bytes w64 (suc a.generation))) (0 ∷ []) rest
                ∙ ap (λ (l : List ℕ). l ++ 0 ∷ rest) (sym (append-nil (sized (to_be_bytes w64 (suc a.generation))))),
          )

      pub headed_builds : IsBuilt v2 begun_at []
      headed_builds = record {
        gate = other_from a + 13;
        begun = refl;
        dead = refl;
        place = omega arith;
        room = omega (arith, whole.room);
        next = high;
        sizes = All-cons IsPayload (to_be_bytes w64 (suc a.generation)) [] (omega (arith, generation_size (suc a.generation)), omega (arith, generation_size (suc a.generation))) (All-nil IsPayload);
        built = headed_built;
        shut = headed_shut;
      }

      pub headed_stands : AreasInvariant v2 begun_at
      headed_stands = record {
        half = whole.stands.half ∙ ap (λ (n : ℕ). n / 2) (sym (heading.headed.goes_on.size ∙ heading.wrote.goes_on.size));
        inside = omega (arith, whole.stands.inside, heading.wrote.goes_on.size, heading.headed.goes_on.size);
        from = whole.stands.from;
        end = whole.stands.end;
        stands = both_outside;
        unbroken = λ _. whole.stands.unbroken whole.sound;
        has = λ _ bytes told.
            let put_ = told_put v1.told (put (other_from a + 1) head) bytes (sym written ∙ told) in
            let was = told_before v0 v1 heading.wrote.goes_on put_.0 put_.1 in
            let own = whole.stands.has whole.sound was.0 was.1 in
            (own.0, (headed_has own.0 own.1).now);
        other = λ _. headed_shut;
        build = λ _ g is. ([], headed_builds);
      }

  -- one more payload is added
  module _ (v1 : DiskView) (gate : ℕ) (payload body : List ℕ) (adding : IsAdding v0 v1 a gate payload body) where
    -- what was built before
    abbrev before : (added : List (List ℕ)) × IsBuilt v0 a added
    before = whole.stands.build whole.sound gate adding.begun

    -- its gate is behind the first one, which is closed
    behind : other_from a < gate
    behind =
        let low = build_low v0 a before.0 before.1 in
        omega (arith, low, same_gate a.build before.1.gate gate before.1.begun adding.begun)

    closed : EachImage v0 (λ image. IsShut (area_of a.half (not a.second) image))
    closed = before.1.shut

    body_size : length body ≡ length payload + 6
    body_size = omega (arith, ap length adding.is, length-append (journal_record payload) (0 ∷ []), length-journal_record payload)

    body_inside : gate + length body ≤ other_end a
    body_inside = omega (arith, body_size, adding.fits)

    -- a fault broke them meanwhile
    pub adding_broken : AreasInvariant v1 (record a { is_broken = true })
    adding_broken = broken_on v0 v1 a gate (length body) a.other_live a.build whole.stands (omega (arith, behind)) body_inside adding.wrote

    -- nothing else is written
    pub adding_alone : (at : ℕ) → a.build ≡ Some at → MayWrite at (length payload + 6) v0 v1
    adding_alone at is = subst (λ (n : ℕ). MayWrite at n v0 v1) body_size (subst (λ (n : ℕ). MayWrite n (length body) v0 v1) (same_gate a.build gate at adding.begun is) adding.wrote)

    pub adding_has : (payloads : List (List ℕ)) → EachImage v0 (AreasHold a payloads) → AtEachMoment v0 v1 (AreasHold a payloads)
    adding_has payloads each =
        written_moment (AreasHold a payloads) gate (length body) v0 v1
        (λ x y is same. has_behind a gate (length body) x y (long x is) same (omega (arith, behind)) body_inside (omega (arith, whole.room)) payloads (each x is) behind (closed x is)) adding.wrote

    adding_shut : EachImage v1 (λ image. IsShut (area_of a.half (not a.second) image))
    adding_shut = λ image is.
        let any = adding.wrote.images image is in
        shut_behind a gate (length body) any.0 image (long any.0 any.1) any.2 (omega (arith, behind)) body_inside (omega (arith, whole.room)) behind (closed any.0 any.1)

    module _ (written : v1.told ≡ option_map (put gate body) v0.told) (next : ℕ) (next_is : next ≡ gate + length payload + 5) where
      module _ (added : List (List ℕ)) (b : IsBuilt v0 a added) where
        at_gate : b.gate ≡ gate
        at_gate = same_gate a.build b.gate gate b.begun adding.begun

        abbrev all : List (List ℕ)
        all = next_head ++ added

        adding_built : IfTold v1 (λ bytes. (rest : List ℕ) × (region_of (other_from a + 1) (other_end a) bytes ≡ drop 1 (journal_records (all ++ payload ∷ [])) ++ 0 ∷ rest))
        adding_built bytes told =
            let put_ = told_put v0.told (put gate body) bytes (sym written ∙ told) in
            let old : List ℕ = put_.0 in
            let first : ℕ = other_from a + 1 in
            let le : other_end a ≤ length old = area_inside a.half (length old) (not a.second) (long old (whole.reads old put_.1)) in
            let rest : List ℕ = take (other_end a - (gate + length body)) (drop (gate + length body) old) in
            let was = b.built old put_.1 in
            let tail : List ℕ = drop 1 (journal_records all) in
            let size : length tail ≡ gate - first = (let place = b.place in let one : length (journal_records all) ≡ suc (length tail) = refl in omega (arith, place, one, at_gate)) in (
              rest,
              ap (λ (l : List ℕ). region_of first (other_end a) l) put_.2
                  ∙ put_behind first gate (other_end a) body old (omega (arith, behind)) body_inside le
                  ∙ ap (λ (l : List ℕ). take (gate - first) l ++ (body ++ rest)) was.1
                  ∙ ap (λ (l : List ℕ). l ++ (body ++ rest)) (take_at tail (0 ∷ was.0) (gate - first) size)
                  ∙ ap (λ (l : List ℕ). tail ++ (l ++ rest)) adding.is
                  ∙ ap (λ (l : List ℕ). tail ++ l) (append_assoc (journal_record payload) (0 ∷ []) rest)
                  ∙ sym (append_assoc tail (journal_record payload) (0 ∷ rest))
                  ∙ ap (λ (l : List ℕ). drop 1 l ++ 0 ∷ rest) (sym (records_push all payload)),
            )

        pub adding_builds : IsBuilt v1 (record a { build = Some next; is_broken = false }) (added ++ payload ∷ [])
        adding_builds =
            let push : (next_head ++ added) ++ payload ∷ [] ≡ next_head ++ (added ++ payload ∷ []) = append_assoc next_head added (payload ∷ []) in
            record {
              gate = next;
              begun = refl;
              dead = b.dead;
              place = (let place = b.place in let longer = length-records_push all payload in let same = ap (λ (l : List (List ℕ)). length (journal_records l)) push in omega (arith, next_is, place, at_gate, longer, same));
              room = omega (arith, next_is, adding.fits);
              next = b.next;
              sizes = subst (λ (l : List (List ℕ)). All IsPayload l) push (All-append IsPayload all (payload ∷ []) b.sizes (All-cons IsPayload payload [] adding.small (All-nil IsPayload)));
              built = λ bytes told. subst (λ (l : List (List ℕ)). (rest : List ℕ) × (region_of (other_from a + 1) (other_end a) bytes ≡ drop 1 (journal_records l) ++ 0 ∷ rest)) push (adding_built bytes told);
              shut = adding_shut;
            }

      pub adding_stands : AreasInvariant v1 (record a { build = Some next; is_broken = false })
      adding_stands = record {
        half = whole.stands.half ∙ ap (λ (n : ℕ). n / 2) (sym adding.wrote.goes_on.size);
        inside = omega (arith, whole.stands.inside, adding.wrote.goes_on.size);
        from = whole.stands.from;
        end = whole.stands.end;
        stands = stands_outside v0 v1 a.journal gate (length body) (subst (λ (n : ℕ). (n ≤ gate) ⊎ (gate + length body ≤ a.journal.from)) (sym whole.stands.end) (subst (λ (n : ℕ). (area_end a.half a.second ≤ gate) ⊎ (gate + length body ≤ n)) (sym whole.stands.from) (apart a.half a.second gate (length body) (omega (arith, behind)) body_inside))) adding.wrote whole.stands.stands;
        unbroken = λ _. whole.stands.unbroken whole.sound;
        has = λ _ bytes told.
            let was = told_put v0.told (put gate body) bytes (sym written ∙ told) in
            let own = whole.stands.has whole.sound was.0 was.1 in
            (own.0, (adding_has own.0 own.1).now);
        other = λ _ image is. subst (λ (l : Bool). OtherIs l (area_of a.half (not a.second) image) a.generation) (sym before.1.dead) (adding_shut image is);
        build = λ _ g is. (before.0 ++ payload ∷ [], adding_builds before.0 before.1);
      }

  module _ (v1 v2 : DiskView) (opening : IsOpening v0 v1 v2 a) (added : List (List ℕ)) (b : IsBuilt v0 a added) where
    abbrev grown : AreasAt
    grown = grown_at a b.gate

    module _ (x y : List ℕ) (told : v0.told ≡ Some x) (same : SameElsewhere (other_from a) 1 x y) where
      length_x : a.half + a.half ≤ length x
      length_x = long x (whole.reads x told)

      end_x : other_end a ≤ length x
      end_x = area_inside a.half (length x) (not a.second) length_x

      end_y : other_end a ≤ length y
      end_y = omega (arith, end_x, same.size)

      opened_holds : get_or y (other_from a) 0 ≡ 1 → HasPayloads (area_of a.half (not a.second) y) (next_head ++ added)
      opened_holds one =
          let built = b.built x told in
          let behind : region_of (other_from a + 1) (other_end a) y ≡ region_of (other_from a + 1) (other_end a) x = outside (other_from a) 1 (other_from a + 1) (other_end a) x y (omega (arith, whole.room)) same (inr (omega arith)) in
          records 0 built.0 (λ never. omega (arith, never)) b.sizes
          (region_head (other_from a) (other_end a) y (omega (arith, whole.room)) end_y
          ∙ ap (λ (n : ℕ). n ∷ region_of (other_from a + 1) (other_end a) y) one
          ∙ ap (λ (l : List ℕ). 1 ∷ l) (behind ∙ built.1))

      opened_has : (payloads : List (List ℕ)) → AreasHold a payloads x → get_or y (other_from a) 0 ≡ 1 → AreasHold grown added y
      opened_has payloads has one = record {
        size = has.size ∙ ap (λ (n : ℕ). n / 2) (sym same.size);
        high = b.next;
        holds = opened_holds one;
        none = λ never. absurd (omega (arith, never));
        other =
            subst (λ (s : Bool). IsOlder (area_of a.half s y) (suc a.generation)) (sym (not_not a.second))
            (outgrown (area_of a.half a.second y) a.generation payloads has.high (λ z. (has.none z).1) (holds_on a (other_from a) 1 x y length_x same (omega arith) (omega (arith, whole.room)) payloads has));
      }

      left_shut : (payloads : List (List ℕ)) → AreasHold a payloads x → get_or y (other_from a) 0 ≢ 1 → AreasHold a payloads y
      left_shut payloads has never = with_other a (other_from a) 1 x y length_x same (omega arith) (omega (arith, whole.room)) payloads has (shut (shut_byte (other_from a) (other_end a) y (omega (arith, whole.room)) end_y never))

      opened_either : (payloads : List (List ℕ)) → AreasHold a payloads x → HasLayout a.half payloads y ⊎ HasLayout a.half added y
      opened_either payloads has = elim (cases_eq (get_or y (other_from a) 0) 1) [
        | inl one ↦ inr (layout grown added y (opened_has payloads has one))
        | inr never ↦ inl (layout a payloads y (left_shut payloads has never))
      ]

    told_of : (x : List ℕ) → v1.images x → v0.told ≡ Some x
    told_of x is = sym opening.synced.told ∙ opening.durable x is

    pub finishing : (payloads : List (List ℕ)) → EachImage v0 (AreasHold a payloads) → AtEachMoment v0 v2 (λ image. HasLayout a.half payloads image ⊎ HasLayout a.half added image)
    finishing payloads each =
        moment_on (λ image. HasLayout a.half payloads image ⊎ HasLayout a.half added image) v0 v1 v2 (quiet_either v0 a v1 opening.synced added payloads each)
        (written_moment (λ image. HasLayout a.half payloads image ⊎ HasLayout a.half added image) (other_from a) 1 v1 v2
        (λ x y is same. opened_either x y (told_of x is) same payloads (each x (opening.synced.images x is))) opening.opens)

    module _ (written : v2.told ≡ option_map (put (other_from a) (1 ∷ [])) v1.told) (lasts : IsDurable v2) where
      pub grown_told : IfTold v2 (AreasHold grown added)
      grown_told y told =
          let put_ = told_put v1.told (put (other_from a) (1 ∷ [])) y (sym written ∙ told) in
          let x : List ℕ = put_.0 in
          let told0 : v0.told ≡ Some x = sym opening.synced.told ∙ put_.1 in
          let le : other_end a ≤ length x = area_inside a.half (length x) (not a.second) (long x (whole.reads x told0)) in
          let fits : other_from a + 1 ≤ length x = omega (arith, le, whole.room) in
          let own = whole.stands.has whole.sound x told0 in
          subst (λ (l : List ℕ). AreasHold grown added l) (sym put_.2)
          (opened_has x (put (other_from a) (1 ∷ []) x) told0 (put_elsewhere (other_from a) (1 ∷ []) x fits) own.0 (own.1 x (whole.reads x told0)) (get_or-put (other_from a) 1 x fits))

      pub grown_images : EachImage v2 (AreasHold grown added)
      grown_images image is = grown_told image (lasts image is)

      -- what was the current area
      left_behind : EachImage v2 (λ image. OtherIs (nat_lt 0 a.generation) (area_of a.half (not (not a.second)) image) (suc a.generation))
      left_behind image is =
          let any = opening.opens.images image is in
          let own = whole.stands.has whole.sound any.0 (told_of any.0 any.1) in
          let has = own.1 any.0 (opening.synced.images any.0 any.1) in
          subst (λ (s : Bool). OtherIs (nat_lt 0 a.generation) (area_of a.half s image) (suc a.generation)) (sym (not_not a.second))
          (outgrown_is (area_of a.half a.second image) a.generation own.0 has.high (λ z. (has.none z).1)
          (holds_on a (other_from a) 1 any.0 image (long any.0 (opening.synced.images any.0 any.1)) any.2 (omega arith) (omega (arith, whole.room)) own.0 has))

      pub grown_stands : AreasInvariant v2 grown
      grown_stands = record {
        half = whole.stands.half ∙ ap (λ (n : ℕ). n / 2) (sym (opening.opens.goes_on.size ∙ opening.synced.goes_on.size));
        inside = omega (arith, whole.stands.inside, opening.synced.goes_on.size, opening.opens.goes_on.size);
        from = refl;
        end = refl;
        stands = record {
          inside = (let le = area_inside a.half v0.size (not a.second) whole.stands.inside in omega (arith, le, opening.synced.goes_on.size, opening.opens.goes_on.size));
          first = omega arith;
          last = omega (arith, whole.room);
          payloads = λ bytes told. record { given = next_head; left = added; read = record { holds = (grown_told bytes told).holds; place = omega (arith, length-append (journal_record (to_be_bytes w64 (suc a.generation))) [], length-journal_record (to_be_bytes w64 (suc a.generation)), generation_size (suc a.generation)) } };
          gate = λ _ bytes told all has. b.place ∙ ap (λ (l : List (List ℕ)). other_from a + length (journal_records l)) (unique (area_of a.half (not a.second) bytes) (next_head ++ added) all (grown_told bytes told).holds has);
          images = λ _ bytes told image is all has. subst (λ (l : List ℕ). HasPayloads (region_of (other_from a) (other_end a) l) all) (sym (some_same bytes image v2.told told (lasts image is))) has;
        };
        unbroken = λ _. refl;
        has = λ _ bytes told. (added, grown_images);
        other = λ _. left_behind;
        build = λ _ gate is. cc;
      }

  -- the same of whatever was built
  module _ (v1 v2 : DiskView) (opening : IsOpening v0 v1 v2 a) where
    -- a fault broke them meanwhile
    pub opening_broken : AreasInvariant v2 (record a { is_broken = true })
    opening_broken = broken_on v1 v2 (record a { is_broken = true }) (other_from a) 1 a.other_live a.build (broken_quiet v0 v1 a a.other_live a.build whole.stands opening.synced) (omega arith) (omega (arith, whole.room)) opening.opens

    -- nothing else is written
    pub opening_alone : MayWrite (other_from a) 1 v0 v2
    opening_alone = write_write (other_from a) 1 v0 v1 v2 (quiet_writes (other_from a) 1 v0 v1 opening.synced) opening.opens

    -- a crash leaves what stood or what was built
    pub opening_leaves : IfTold v0 (λ bytes. (payloads added : List (List ℕ)) → AreasHold a payloads bytes → IsBuilt v0 a added → LeavesEitherLayout v0 v2 a.half payloads added)
    opening_leaves bytes told payloads added has b = finishing v1 v2 opening added b payloads (each_has v0 a whole.stands whole.sound whole.reads bytes payloads told has)

    module _ (written : v2.told ≡ option_map (put (other_from a) (1 ∷ [])) v1.told) (lasts : IsDurable v2) where
      -- the next generation
      plus : suc a.generation ≡ a.generation + 1
      plus = omega arith

      -- the disk has what was built
      pub finished_has : (added : List (List ℕ)) → IsBuilt v0 a added → IfTold v2 (HasCurrent a.half (not a.second) (a.generation + 1) added) × EachImage v2 (HasCurrent a.half (not a.second) (a.generation + 1) added)
      finished_has added b =
          subst (λ (n : ℕ). IfTold v2 (HasCurrent a.half (not a.second) n added) × EachImage v2 (HasCurrent a.half (not a.second) n added)) plus
          (grown_told v1 v2 opening added b written lasts, grown_images v1 v2 opening added b written lasts)

      -- and its area is the current one
      pub finished_stands : (gate : ℕ) (journal : JournalPlace) → a.build ≡ Some gate → journal ≡ record { from = other_from a; end = other_end a; gate = gate; cursor = other_from a + 13; is_broken = false }
          → AreasInvariant v2 (record { half = a.half; second = not a.second; generation = a.generation + 1; journal = journal; other_live = nat_lt 0 a.generation; build = None; is_broken = false })
      finished_stands gate journal begun is =
          let built = whole.stands.build whole.sound gate begun in
          subst (λ (n : ℕ). AreasInvariant v2 (record { half = a.half; second = not a.second; generation = n; journal = journal; other_live = nat_lt 0 a.generation; build = None; is_broken = false })) plus
          (subst (λ (j : JournalPlace). AreasInvariant v2 (record (grown_at a gate) { journal = j })) (sym is)
          (subst (λ (n : ℕ). AreasInvariant v2 (grown_at a n)) (same_gate a.build built.1.gate gate built.1.begun begun) (grown_stands v1 v2 opening built.0 built.1 written lasts)))

-- areas of which the next payload was read
pub stands_read : (v w : DiskView) (a : AreasAt) (j : JournalPlace) → AreasInvariant v a → IsQuiet v w → JournalInvariant w j → j.from ≡ a.journal.from → j.end ≡ a.journal.end → j.is_broken ≡ a.journal.is_broken → AreasInvariant w (record a { journal = j })
stands_read v w a j stands quiet on from end broken = record {
  half = stands.half ∙ ap (λ (n : ℕ). n / 2) (sym quiet.goes_on.size);
  inside = omega (arith, stands.inside, quiet.goes_on.size);
  from = from ∙ stands.from;
  end = end ∙ stands.end;
  stands = on;
  unbroken = λ whole. broken ∙ stands.unbroken whole;
  has = λ whole bytes told. let own = stands.has whole bytes (sym quiet.told ∙ told) in (own.0, λ image is. own.1 image (quiet.images image is));
  other = λ whole image is. stands.other whole image (quiet.images image is);
  build = λ whole gate is.
      let own = stands.build whole gate is in
      let b = own.1 in (
        own.0,
        record {
          gate = b.gate;
          begun = b.begun;
          dead = b.dead;
          place = b.place;
          room = b.room;
          next = b.next;
          sizes = b.sizes;
          built = λ bytes told. b.built bytes (sym quiet.told ∙ told);
          shut = λ image is. b.shut image (quiet.images image is);
        },
      );
}
