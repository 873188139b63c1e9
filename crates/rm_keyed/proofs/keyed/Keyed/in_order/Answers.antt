use Rattle.std.proofs.Common.{◌∙◌}
use Rattle.std.specs.List.{list_any}
use Rattle.rm_keyed.proofs.Places.{keys_placed}
use Rattle.rm_keyed.proofs.keyed.Keyed.in_order.Goals as goal

pub returns : goal.returns
returns g c =
    let places = c.deref.ensures.value ∙ c.in_ok-places.ensures in
    let placed = keys_placed (λ key. list_any (λ one. g.K.PartialEq.eq one key) c.args.keys.now) c.self.inside.slots.entries in
    rw (← c.self.view_is) (rw (places, placed) at c.keys_at.ensures)
