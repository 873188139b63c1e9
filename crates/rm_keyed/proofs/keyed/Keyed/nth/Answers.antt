use Rattle.std.proofs.Common.{sym, ◌∙◌}
use Rattle.rm_keyed.proofs.Slots.{full_place}
use Rattle.rm_keyed.proofs.keyed.Keyed.nth.Goals as goal

pub returns-then-self-len : goal.returns-then-self-len
returns-then-self-len g c =
    let full = full_place c.self.inside.slots.entries c.args.place (c.self.invariant.counted ∙ c.if-self-len.true ∙ c.len.ensures.len) in
    rw (← c.self.view_is) (c.slot_at.ensures ∙ sym full)
