-- What a life remembers after a step is read off the state after its entry.
use Rattle.rm_invariant.proofs.Common.{◌≡◌, Some, sym, ◌∙◌, ap, Manager, Tables, History, live_state}
use Rattle.rm_invariant.specs.auxiliary.Parts.{FixedParts, fixed_parts, parts_in}

pub parts_after : (g : History) (next : Tables) (s : Manager) (p : FixedParts) → s ≡ live_state g next → parts_in s ≡ Some p → fixed_parts g ≡ p
parts_after g next s p same is =
    let x : Some (fixed_parts g) ≡ Some p = sym (ap parts_in same) ∙ is in
    cc
