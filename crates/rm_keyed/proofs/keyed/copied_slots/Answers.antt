use Rattle.std.proofs.Common.{◌++◌, sym, ap, subst, ◌∙◌}
use Rattle.std.specs.List.{IsDistinct}
use Rattle.std.specs.Map.{keys_of}
use Rattle.rm_keyed.proofs.Copying.{goes_last}
use Rattle.rm_keyed.proofs.keyed.copied_slots.Goals as goal

pub slots-preserved : goal.slots-preserved
slots-preserved g c =
    let left = c.next.new.self in
    let before = c.slots.copied.entries in
    let all = ap (λ more. before ++ more) (sym c.in-Some.ensures.steps) ∙ c.slots.invariant in
    let apart = subst (λ slots. IsDistinct g.K.PartialEq.eq (keys_of slots)) (sym all) c.iter-key-items.ensures.unique in
    ap (λ slots. slots ++ left) c.in_ok-insert_copy.ensures ∙ goes_last g.met.K.Eq.laws before left (c.in-Some.key.now, c.in-Some.slot.now) apart ∙ all
