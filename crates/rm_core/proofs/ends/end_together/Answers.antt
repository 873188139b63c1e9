use Rattle.std.proofs.Common.{sym, subst}
use Rattle.std.proofs.lemmas.List.Sorted.{IsPermutation-sym}
use Rattle.rm_core.specs.Ends.{AreInStep}
use Rattle.rm_core.proofs.EndOrder.{moved_step, step_of_together, together_of}
use Rattle.rm_core.proofs.ends.end_together.Goals as goal

pub returns : goal.returns
returns c =
    let apps = c.args.tree.now.apps in
    let others = c.args.other.now.apps in
    let ends = c.in_ok-ends_of.field-0.items in
    let sorted = c.in_order-ends.result.items in
    let moved = c.in_order-ends.ensures.moved in (
      λ is.
          let step : AreInStep sorted = subst AreInStep c.as_slice.ensures.value (c.are_in_step.ensures.0 is) in
          together_of apps others c.len-apart.ensures.apart c.requires (subst AreInStep c.in_ok-ends_of.ensures (moved_step sorted ends (IsPermutation-sym ends sorted moved) step)),
      λ together.
          let step : AreInStep ends = subst AreInStep (sym c.in_ok-ends_of.ensures) (step_of_together apps others c.len-apart.ensures.apart c.requires together) in
          c.are_in_step.ensures.1 (subst AreInStep (sym c.as_slice.ensures.value) (moved_step ends sorted moved step)),
    )
