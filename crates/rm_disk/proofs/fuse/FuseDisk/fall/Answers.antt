use Rattle.std.proofs.Common.{◌≡◌, Some, false, [], ◌∷◌, length, refl, sym, ◌∙◌, ap, arith, length-append}
use Rattle.rm_disk.proofs.fuse.FuseDisk.fall.Goals as goal

pub set_last-requires : goal.set_last-requires
set_last-requires g c =
    let armed_is : c.self.inside.armed ≡ Some c.in-Some.armed = sym c.take.ensures.value ∙ c.in-Some.is in
    let next = c.self.invariant.next_falls c.in-Some.armed armed_is in
    omega (arith, ap length next, length-append c.self.inside.falls (record { calls = c.in-Some.armed.passes; image = 0; blown = false } ∷ []))

pub returns-in-Some-clause-image : goal.returns-in-Some-clause-image
returns-in-Some-clause-image g c =
    let armed_is : c.self.inside.armed ≡ Some c.in-Some.armed = sym c.take.ensures.value ∙ c.in-Some.is in
    let next = c.self.invariant.next_falls c.in-Some.armed armed_is in
    let falls = c.set_last.ensures c.self.inside.falls (record { calls = c.in-Some.armed.passes; image = 0; blown = false }) next in
    record { inside = rw (← c.self.view_is) c.fall.ensures.image; shown = rw (← c.self.view_is, falls, armed_is, c.take.ensures.after) refl }
