-- What a window shows of a disk's bytes.
use Rattle.std.proofs.Common.{◌≡◌, ◌+◌, ◌-◌, ◌≤◌, ℕ, List, take, drop, arith, ap, ◌∙◌}
use Rattle.std.proofs.lemmas.List.{take-take, drop-drop, drop-take}

-- Bytes that were read ahead from a first place on are those of the disk at every place among them.
pub shown : (first at many ahead : ℕ) (bytes told : List ℕ) → bytes ≡ take ahead (drop first told) → first ≤ at → at + many ≤ first + ahead
    → take many (drop (at - first) bytes) ≡ take many (drop at told)
shown first at many ahead bytes told is low high =
    let skip : ℕ = at - first in
    let cut : ahead ≡ skip + (ahead - skip) = omega arith in
    let place : first + skip ≡ at = omega arith in
    let left : many ≤ ahead - skip = omega arith in
    ap (λ (l : List ℕ). take many (drop skip l)) is
    ∙ ap (λ (n : ℕ). take many (drop skip (take n (drop first told)))) cut
    ∙ ap (λ (l : List ℕ). take many l) (drop-take skip (ahead - skip) (drop first told))
    ∙ take-take many (ahead - skip) (drop skip (drop first told)) left
    ∙ ap (λ (l : List ℕ). take many l) (drop-drop skip first told)
    ∙ ap (λ (n : ℕ). take many (drop n told)) place
