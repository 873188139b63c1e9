-- What a store leaves is not taken for another's file.
use Rattle.rm_store.proofs.Common.{◌≡◌, ◌⊎◌, inl, inr, ℕ, zero, suc, ◌+◌, ◌-◌, ◌<◌, ◌≤◌, Bool, true, false, not, Some, List, [], ◌∷◌, ◌++◌, length, refl, sym, ◌∙◌, ap, subst, arith, All, length-append, Op, folded, journal_record, journal_records, DiskView, IsQuiet, told_after, AreasAt, AreasInvariant, AreasHold, head_of}
use Rattle.std.specs.Int.{w64, to_be_bytes}
use Rattle.std.specs.Prelude.{replicate}
use Rattle.std.proofs.lemmas.Bool.{cases_eq}
use Rattle.std.proofs.lemmas.List.{drop-replicate}
use Rattle.std.proofs.lemmas.List.Elements.{All-replicate}
use Rattle.rm_formats.specs.Device.{HasPayloads}
use Rattle.rm_disk.specs.Disk.{MayWrite, IsLaterView, Falls}
use Rattle.rm_disk.specs.Scan.{MayBeStore}
use Rattle.rm_disk.proofs.Views.{leaves_of, leaves_same}
use Rattle.rm_journal.specs.Journal.{region_of}
use Rattle.rm_journal.proofs.Payloads.{length-journal_record}
use Rattle.rm_journal.specs.two_areas.Areas.{area_from, other_from, other_end}
use Rattle.rm_journal.proofs.two_areas.Moments.{moment_on}
use Rattle.rm_journal.proofs.two_areas.Owned.{live_stays, first_stays}
use Rattle.rm_journal.proofs.two_areas.Steps.{build_low, same_gate}
use Rattle.rm_store.specs.Content.{ReadsAs}
use Rattle.rm_store.specs.Kept.{IsKept}
use Rattle.rm_store.specs.Store.{LooksOwn, StaysOwn, KeepsOwn}

-- WITHOUT A WRITE

-- a disk that stays as it is
pub still_own : (v : DiskView) → LooksOwn v → StaysOwn v v
still_own v own = record { so_far = leaves_same v MayBeStore; now = own }

pub still_keeps : (v : DiskView) → KeepsOwn v v
still_keeps v bytes told own = still_own v own

pub fresh : (size : ℕ) → MayBeStore (replicate size 0)
fresh size = inr (subst (λ (l : List ℕ). All (λ b. b ≡ 0) l) (sym (drop-replicate 14 size 0)) (All-replicate (λ b. b ≡ 0) (size - 14) 0 refl))

pub quiet_own : (old new : DiskView) → IsQuiet old new → LooksOwn old → StaysOwn old new
quiet_own old new quiet own = record {
  so_far = leaves_of old new old.images MayBeStore own quiet.time;
  now = λ image now. own image (quiet.images image now);
}

pub fallen_own : (old new : DiskView) → Falls old new → LooksOwn old → StaysOwn old new
fallen_own old new falls own = record {
  so_far = leaves_of old new old.images MayBeStore own falls.time;
  now = λ image now. own image (falls.told image (falls.durable image now));
}

-- one call after another
pub own_after : (a b c : DiskView) → IsLaterView a b → KeepsOwn a b → KeepsOwn b c → KeepsOwn a c
own_after a b c goes one two bytes told own =
    let now = told_after a b goes bytes told in
    let first = one bytes told own in
    moment_on MayBeStore a b c first (two now.0 now.1 first.now)

-- WHAT THE AREAS WRITE

-- a generation and what stands behind it are no less than a byte
head_some : (g : ℕ) (payloads : List (List ℕ)) → 1 ≤ g → 1 ≤ length (journal_records (head_of g ++ payloads))
head_some zero payloads live = absurd (omega (arith, live))
head_some (suc n) payloads live =
    let a = length-append (journal_record (to_be_bytes w64 (suc n))) (journal_records payloads) in
    let b = length-journal_record (to_be_bytes w64 (suc n)) in
    omega (arith, a, b)

-- so many bytes from the other area's first gate on are none of the current one's
other_apart : (half : ℕ) (second : Bool) (many : ℕ) → 0 < half → many ≤ half → (area_from half second < area_from half (not second)) ⊎ (area_from half (not second) + many ≤ area_from half second)
other_apart half false many some le = inl some
other_apart half true many some le = inr (omega (arith, le))

-- nor are those behind a generation there
build_apart : (half : ℕ) (second : Bool) (gate many : ℕ) → area_from half (not second) + 13 ≤ gate → gate + many ≤ area_from half (not second) + half → (area_from half second < gate) ⊎ (gate + many ≤ area_from half second)
build_apart half false gate many low high = inl (omega (arith, low))
build_apart half true gate many low high = inr (omega (arith, high))

module _ (v w : DiskView) (a : AreasAt) (stands : AreasInvariant v a) (sound : a.is_broken ≡ false) (reads : (bytes : List ℕ) → v.told ≡ Some bytes → v.images bytes) (sized : (image : List ℕ) → v.images image → length image ≡ v.size) where
  -- the closed gate of a live area stands behind its first one
  behind_first : (bytes : List ℕ) → v.told ≡ Some bytes → 1 ≤ a.generation → area_from a.half a.second < a.journal.gate
  behind_first bytes told live =
      let own = stands.has sound bytes told in
      let has : AreasHold a own.0 bytes = own.1 bytes (reads bytes told) in
      let all : List (List ℕ) = head_of a.generation ++ own.0 in
      let region : HasPayloads (region_of a.journal.from a.journal.end bytes) all =
      subst (λ (n : ℕ). HasPayloads (region_of n a.journal.end bytes) all) (sym stands.from) (subst (λ (n : ℕ). HasPayloads (region_of (area_from a.half a.second) n bytes) all) (sym stands.end) has.holds) in
      let at = stands.stands.gate (stands.unbroken sound) bytes told all region in
      let long = head_some a.generation own.0 live in
      let from = stands.from in
      omega (arith, at, long, from)

  -- an append
  pub put_own : (many : ℕ) → 1 ≤ a.generation → a.journal.gate < a.journal.end → MayWrite a.journal.gate many v w → KeepsOwn v w
  put_own many live room wrote bytes told own =
      let behind = behind_first bytes told live in
      let end = stands.end in
      live_stays v w a a.journal.gate many bytes stands sound told sized live (omega (arith, behind, room, end)) (inl behind) wrote

  -- where no area is live the other one is the first
  none_from : (bytes : List ℕ) → v.told ≡ Some bytes → a.generation ≡ 0 → other_from a ≡ 0
  none_from bytes told none =
      let own = stands.has sound bytes told in
      let has : AreasHold a own.0 bytes = own.1 bytes (reads bytes told) in
      ap (λ (b : Bool). area_from a.half (not b)) (has.none none).0

  -- a build is begun, or finished
  pub other_own : (many : ℕ) → 13 < a.half → many ≤ 14 → MayWrite (other_from a) many v w → KeepsOwn v w
  other_own many room few wrote bytes told own = elim (cases_eq a.generation 0) [
    | inl none ↦
        let from = none_from bytes told none in
        first_stays v w a (other_from a) many bytes stands sound told sized none (omega (arith, room)) (omega (arith, from, few)) own wrote
    | inr some ↦
        live_stays v w a (other_from a) many bytes stands sound told sized (omega (arith, some)) (omega (arith, room)) (other_apart a.half a.second many (omega (arith, room)) (omega (arith, room, few))) wrote
  ]

  -- one more is added to a build
  pub add_own : (gate many : ℕ) → 1 ≤ a.generation → a.build ≡ Some gate → gate + many ≤ other_end a → MayWrite gate many v w → KeepsOwn v w
  add_own gate many live is high wrote bytes told own =
      let build = stands.build sound gate is in
      let low = build_low v a build.0 build.1 in
      let same = same_gate a.build gate build.1.gate is build.1.begun in
      let behind : other_from a + 13 ≤ gate = omega (arith, low, same) in
      live_stays v w a gate many bytes stands sound told sized live (omega (arith, behind, high)) (build_apart a.half a.second gate many behind high) wrote

-- something is added only where an area is live
live_where : {X : Type 0} (g : ℕ) (xs : List X) (place : ℕ) → (g ≡ 0 → xs ≡ []) → place < length xs → 1 ≤ g
live_where zero xs place only within =
    let none = ap (λ l. length l) (only refl) in
    absurd (omega (arith, none, within))
live_where (suc n) xs place only within = omega arith

-- one frame more is added
pub own_more : {X : Type 0} (v0 v1 v2 : DiskView) (before after : ℕ) (xs : List X) (place : ℕ) → IsLaterView v0 v1 → after ≡ before → place < length xs
    → ((before ≡ 0 → xs ≡ []) → KeepsOwn v0 v1) → (1 ≤ after → KeepsOwn v1 v2) → (before ≡ 0 → xs ≡ []) → KeepsOwn v0 v2
own_more v0 v1 v2 before after xs place goes same within so_far one only =
    let live = live_where before xs place only within in
    own_after v0 v1 v2 goes (so_far only) (one (omega (arith, live, same)))

-- no payloads read as no operations
no_content : (payloads : List (List ℕ)) (content : List Op) → payloads ≡ [] → ReadsAs payloads content → content ≡ []
no_content [] [] none reads = refl
no_content [] (op ∷ content) none reads = absurd reads
no_content (p ∷ payloads) content none reads = cc

-- a change of area, where nothing is added but what is left of the content
pub changed_own : {v : DiskView} {a : AreasAt} {content left : List Op} (w : DiskView) → IsKept v a content → ((bytes : List ℕ) → v.told ≡ Some bytes → v.images bytes) → left ≡ folded content
    → ((a.generation ≡ 0 → left ≡ []) → KeepsOwn v w) → KeepsOwn v w
changed_own {content = content} w kept reads is change bytes told own =
    let on = kept.has bytes told in
    change (λ none. is ∙ ap folded (no_content on.0 content (on.1.none none).1 on.2)) bytes told own
