-- The room that a full store tells.
use Rattle.rm_store.proofs.Common.{◌≡◌, ℕ, ◌-◌, ◌+◌, ◌<◌, false, if◌then◌else◌, List, map, sum, length, inl, inr, ap, subst, ◌∙◌, arith, nat_tests, Op, frame, DiskView, AreasAt}
use Rattle.std.proofs.Common.{◌^◌, nat_eq}
use Rattle.std.proofs.lemmas.Bool.{cases_eq}
use Rattle.rm_journal.specs.two_areas.Areas.{HasCurrent}
use Rattle.rm_store.specs.Content.{room_for}
use Rattle.rm_store.specs.Kept.{IsKept, HasOps, told_room, room_here}
use Rattle.rm_store.proofs.Puts.{there_is}
use Rattle.rm_store.specs.Store.{IsBelowLast, room_behind}

lower_apart : (n m : ℕ) → n < m → nat_eq n m ≡ false
lower_apart n m e = grind (arith, nat_tests)

below_last : (v : DiskView) (a : AreasAt) (content ops : List Op) → IsKept v a content → HasOps v ops → IsBelowLast v → a.generation < 2 ^ 64 - 1
below_last v a content ops kept has below =
    let on = kept.has has.bytes has.told in
    let current : HasCurrent a.half a.second a.generation on.0 has.bytes = on.1 in
    let high = current.high in
    elim (cases_eq a.generation (2 ^ 64 - 1)) [
      | inl same ↦ absurd (below has.bytes has.told a.second on.0 (subst (λ (n : ℕ). HasCurrent n a.second (2 ^ 64 - 1) on.0 has.bytes) current.size (subst (λ (n : ℕ). HasCurrent a.half a.second n on.0 has.bytes) same current)))
      | inr apart ↦ (omega (arith, high, apart))
    ]

pub room_told : (v : DiskView) (a : AreasAt) (content ops : List Op) → IsKept v a content → HasOps v ops → IsBelowLast v → told_room a content ≡ room_behind v.size ops
room_told v a content ops kept has below =
    let less = below_last v a content ops kept has below in
    let t = there_is v a content ops kept has in
    let e : nat_eq a.generation (2 ^ 64 - 1) ≡ false = lower_apart a.generation (2 ^ 64 - 1) less in
    ap (λ b. if b then room_here a else room_for a.half content) e
    ∙ ap (λ (l : List Op). a.half - 13 - sum (map (λ op. length (frame op) + 5) l)) t.same
    ∙ ap (λ (n : ℕ). room_for n ops) kept.stands.half
