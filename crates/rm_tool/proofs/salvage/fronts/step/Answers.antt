use Rattle.std.proofs.Common.{List, ℕ, refl, sym, subst}
use Rattle.rm_store.specs.Content.{IsFrameOf}
use Rattle.rm_tool.proofs.salvage.fronts.step.Goals as goal

pub returns-in-NoFrame-clause-step : goal.returns-in-NoFrame-clause-step
returns-in-NoFrame-clause-step c =
    let first = rw c.in-Record.is at c.in_ok-look.ensures.found in
    let taken = rw c.in-NoFrame.is at c.in_ok-take_in.ensures in (
      taken.0,
      taken.1,
      (refl, record { payload = c.look.new.payload.items; first = first; no_frame = λ op is. taken.2 op (subst (λ (l : List ℕ). IsFrameOf l op) (sym c.deref.ensures.value) is) }),
    )

pub returns-in-Stray-clause-step : goal.returns-in-Stray-clause-step
returns-in-Stray-clause-step c =
    let first = rw c.in-Record.is at c.in_ok-look.ensures.found in
    let taken = rw c.in-Stray.is at c.in_ok-take_in.ensures in
    let stray = taken.2 in (
      taken.0,
      taken.1,
      (refl, record { payload = c.look.new.payload.items; op = stray.op; first = first; framed = subst (λ (l : List ℕ). IsFrameOf l stray.op) c.deref.ensures.value stray.framed; stray = stray.stray }),
    )
