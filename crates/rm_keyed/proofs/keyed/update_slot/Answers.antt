use Rattle.std.proofs.Common.{◌≡◌, refl, sym, ◌∙◌}
use Rattle.rm_keyed.proofs.keyed.update_slot.Goals as goal

pub returns-in-Some-clause-there : goal.returns-in-Some-clause-there
returns-in-Some-clause-there g c = λ value was.
    let i : c.in-Some.value ≡ value = (let m = sym c.in-Some.is ∙ was in cc) in
    (c.change.new.arg2, record { shown = _; shows = i; left = _; met = c.change.ensures; leaves = refl }, refl)
