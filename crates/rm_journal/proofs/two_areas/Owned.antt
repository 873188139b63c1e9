-- What a store may have left stays so over what its areas write.
use Rattle.std.proofs.Common.{◌≡◌, ◌≢◌, ◌⊎◌, inl, inr, ℕ, zero, suc, ◌+◌, ◌-◌, ◌<◌, ◌≤◌, ◌/◌, Bool, true, false, not, Some, List, ◌∷◌, length, get_or, sym, ◌∙◌, ap, subst, arith}
use Rattle.std.specs.Prelude.{All}
use Rattle.std.specs.Int.{w64, to_be_bytes}
use Rattle.std.proofs.lemmas.List.{get_or-drop}
use Rattle.rm_formats.specs.Device.{HasPayloads, no_bytes, records}
use Rattle.rm_disk.specs.Disk.{DiskView, SameElsewhere, MayWrite, EachImage, AtEachMoment}
use Rattle.rm_disk.specs.Scan.{MayBeStore}
use Rattle.rm_disk.proofs.Views.{elsewhere_wider}
use Rattle.rm_journal.specs.two_areas.Areas.{AreasAt, AreasInvariant, AreasHold, HasCurrent, IsShut, shut, older, area_from, area_end, area_of}
use Rattle.rm_journal.proofs.two_areas.Bytes.{area_inside, region_head, byte_before, byte_shut}
use Rattle.rm_journal.proofs.two_areas.Moments.{written_moment}

-- bytes that hold a payload begin with an open gate
begins_open : (bytes payload : List ℕ) (others : List (List ℕ)) → HasPayloads bytes (payload ∷ others) → get_or bytes 0 0 ≡ 1
begins_open bytes payload others (no_bytes is none) = cc
begins_open bytes payload others (records gate rest ne sizes is) = ap (λ (l : List ℕ). get_or l 0 0) is

-- the first gate of the current area is open where it is live
live_open : (half : ℕ) (second : Bool) (generation : ℕ) (payloads : List (List ℕ)) (image : List ℕ) → HasCurrent half second generation payloads image → 1 ≤ generation → 0 < half → half + half ≤ length image → get_or image (area_from half second) 0 ≡ 1
live_open half second zero payloads image has live some inside = absurd (omega (arith, live))
live_open half second (suc n) payloads image has live some inside =
    let end : area_end half second ≤ length image = area_inside half (length image) second inside in
    let first : get_or (area_of half second image) 0 0 ≡ 1 = begins_open (area_of half second image) (to_be_bytes w64 (suc n)) payloads has.holds in
    sym (ap (λ (l : List ℕ). get_or l 0 0) (region_head (area_from half second) (area_end half second) image (omega (arith, some)) end)) ∙ first

byte_behind : (at many place : ℕ) (x y : List ℕ) → SameElsewhere at many x y → at + many ≤ place → get_or y place 0 ≡ get_or x place 0
byte_behind at many place x y same le =
    let k : at + many + (place - (at + many)) ≡ place = omega (arith, le) in
    ap (λ (n : ℕ). get_or y n 0) (sym k) ∙ sym (get_or-drop (at + many) y (place - (at + many)) 0)
    ∙ ap (λ (l : List ℕ). get_or l (place - (at + many)) 0) same.after
    ∙ get_or-drop (at + many) x (place - (at + many)) 0 ∙ ap (λ (n : ℕ). get_or x n 0) k

byte_apart : (at many place : ℕ) (x y : List ℕ) → SameElsewhere at many x y → (place < at) ⊎ (at + many ≤ place) → get_or y place 0 ≡ get_or x place 0
byte_apart at many place x y same (inl before) = byte_before at many place x y same before
byte_apart at many place x y same (inr behind) = byte_behind at many place x y same behind

open_may : (half : ℕ) (second : Bool) (image : List ℕ) → half ≡ length image / 2 → get_or image (area_from half second) 0 ≡ 1 → MayBeStore image
open_may half false image size one = inl (inl one)
open_may half true image size one = inl (inr (subst (λ (n : ℕ). get_or image n 0 ≡ 1) size one))

-- where the current area is live, and its first byte isn't among those that are written
pub live_stays : (v w : DiskView) (a : AreasAt) (at many : ℕ) (bytes : List ℕ) → AreasInvariant v a → a.is_broken ≡ false → v.told ≡ Some bytes
    → ((image : List ℕ) → v.images image → length image ≡ v.size) → 1 ≤ a.generation → 0 < a.half
    → (area_from a.half a.second < at) ⊎ (at + many ≤ area_from a.half a.second) → MayWrite at many v w → AtEachMoment v w MayBeStore
live_stays v w a at many bytes stands sound told sized live some apart wrote =
    let own = stands.has sound bytes told in
    written_moment MayBeStore at many v w
    (λ x y is same.
    let has = own.1 x is in
    let inside : a.half + a.half ≤ length x = omega (arith, stands.inside, sized x is) in
    let was : get_or x (area_from a.half a.second) 0 ≡ 1 = live_open a.half a.second a.generation own.0 x has live some inside in
    open_may a.half a.second y (has.size ∙ ap (λ (n : ℕ). n / 2) (sym same.size)) (byte_apart at many (area_from a.half a.second) x y same apart ∙ was))
    wrote

-- where no area is live, the first byte is no open gate
none_live : (a : AreasAt) (payloads : List (List ℕ)) (image : List ℕ) → AreasHold a payloads image → a.generation ≡ 0 → 0 < a.half → a.half + a.half ≤ length image → get_or image 0 0 ≢ 1
none_live a payloads image has none some inside =
    let second : a.second ≡ true = (has.none none).0 in
    elim has.other [
      | shut closed ↦
          let first : IsShut (area_of a.half false image) = subst (λ (b : Bool). IsShut (area_of a.half (not b) image)) second closed in
          byte_shut (area_from a.half false) (area_end a.half false) image (omega (arith, some)) (omega (arith, inside)) first
      | older before ↦ absurd (omega (arith, before.less, none))
    ]

-- what is written in front of the place of the first record and the gate behind that, while no area is live
pub first_stays : (v w : DiskView) (a : AreasAt) (at many : ℕ) (bytes : List ℕ) → AreasInvariant v a → a.is_broken ≡ false → v.told ≡ Some bytes
    → ((image : List ℕ) → v.images image → length image ≡ v.size) → a.generation ≡ 0 → 14 ≤ a.half → at + many ≤ 14
    → EachImage v MayBeStore → MayWrite at many v w → AtEachMoment v w MayBeStore
first_stays v w a at many bytes stands sound told sized none room within own_was wrote =
    let own = stands.has sound bytes told in
    written_moment MayBeStore at many v w
    (λ x y is same.
    let has = own.1 x is in
    let inside : a.half + a.half ≤ length x = omega (arith, stands.inside, sized x is) in
    let closed : get_or x 0 0 ≢ 1 = none_live a own.0 x has none (omega (arith, room)) inside in
    let half : length y / 2 ≡ a.half = ap (λ (n : ℕ). n / 2) same.size ∙ sym has.size in
    elim (own_was x is) [
      | inl (inl one) ↦ absurd (closed one)
      | inl (inr one) ↦
          let was : get_or x a.half 0 ≡ 1 = subst (λ (n : ℕ). get_or x n 0 ≡ 1) (sym has.size) one in
          open_may a.half true y (sym half) (byte_behind at many a.half x y same (omega (arith, room, within)) ∙ was)
      | inr clear ↦
          let wider = elsewhere_wider 0 14 at many x y (omega arith) (omega (arith, within)) same in
          inr (subst (λ (l : List ℕ). All (λ b. b ≡ 0) l) (sym wider.after) clear)
    ])
    wrote
