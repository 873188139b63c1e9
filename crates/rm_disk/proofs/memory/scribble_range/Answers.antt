use Rattle.std.proofs.Common.{◌+◌, ◌*◌, ◌%◌, ◌<◌, ℕ, length, ap, arith}
use Rattle.rm_disk.specs.Memory.{is_within}
use Rattle.rm_disk.proofs.Renewed.{length-renewed, none_renewed, renewed_more}
use Rattle.rm_disk.proofs.memory.scribble_range.Goals as goal

pub places-init : goal.places-init
places-init c = none_renewed c.args.first (λ place. (167 * c.args.image + place) % 256) c.args.into.now.items

pub places-preserved : goal.places-preserved
places-preserved c =
    let byte : ℕ → ℕ = λ place. (167 * c.args.image + place) % 256 in
    let old = c.args.into.now.items in
    let within : c.places.place < length old = omega (arith, ap length c.places.invariant, length-renewed (is_within c.args.first c.places.place) byte old, c.places-test.true, c.requires.inside) in
    rw (c.from.ensures, c.places.invariant) (renewed_more c.args.first c.places.place byte old c.places.auto.place within)
