-- What is left of the operations that were looked at, from the last one on.
use Rattle.rm_store.proofs.Common.{◌≡◌, ℕ, ◌+◌, ◌-◌, ◌<◌, Bool, true, false, List, [], ◌∷◌, ◌++◌, length, drop, slice_get, Some, if◌then◌else◌, refl, sym, ap, ◌∙◌, arith, Op, folded, stays}
use Rattle.std.proofs.Common.{get_or, reverse}
use Rattle.std.proofs.lemmas.List.{drop_more, reverse-append}
use Rattle.std.proofs.lemmas.Option.{get_or_from_slice_get}

-- one more operation before those that were looked at, last first
pub looked : (op : Op) (ops left now : List Op) (b : Bool) → b ≡ stays op ops → now ≡ (if b then left ++ op ∷ [] else left) → reverse left ≡ folded ops → reverse now ≡ folded (op ∷ ops)
looked op ops left now true e is rest = rw (is, sym e) (reverse-append left (op ∷ []) ∙ ap (λ (l : List Op). op ∷ l) rest)
looked op ops left now false e is rest = rw (is, sym e) rest

-- those behind a place, and those behind the one before it
pub one_more : (ops : List Op) (done place : ℕ) (op : Op) → done < length ops → place ≡ length ops - 1 - done → slice_get ops place ≡ Some op → drop (length ops - (done + 1)) ops ≡ op ∷ drop (length ops - done) ops
one_more ops done place op less at is =
    let here : place ≡ length ops - (done + 1) = omega (arith, at) in
    let next : length ops - (done + 1) + 1 ≡ length ops - done = omega (arith, less) in
    let within : length ops - (done + 1) < length ops = omega (arith, less) in
    let one : get_or ops (length ops - (done + 1)) op ≡ op = get_or_from_slice_get ops (length ops - (done + 1)) op op (rw here at is) in
    drop_more ops (length ops - (done + 1)) op within ∙ rw (one, next) refl
