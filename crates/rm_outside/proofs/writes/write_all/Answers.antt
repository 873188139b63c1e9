use Rattle.std.proofs.Common.{◌∙◌, arith, length-drop}
use Rattle.std.proofs.lemmas.List.{take_rest}
use Rattle.rm_outside.proofs.Pieces.{Appends-more}
use Rattle.rm_outside.proofs.writes.write_all.Goals as goal

pub pieces-preserved : goal.pieces-preserved
pieces-preserved g c =
    let count = rw take_rest at c.in-Ok.ensures.count in
    let taken = rw take_rest at c.in-Ok.ensures.taken in
    record {
      within = omega (arith, count, length-drop c.pieces.done c.args.bytes.now, c.pieces.invariant.within);
      taken = Appends-more _ _ _ c.args.bytes.now c.pieces.done c.in-Ok.count c.pieces.invariant.taken taken;
      faults = c.in-Ok.ensures.no_fault ∙ c.pieces.invariant.faults;
      idle = c.in-Ok.ensures.some (omega arith) ∙ c.pieces.invariant.idle;
      untouched = λ h. absurd (omega arith);
    }
