use Rattle.std.proofs.Common.{map, ap, ◌∙◌}
use Rattle.rm_script.proofs.ItemParts.{held_found}
use Rattle.rm_script.proofs.lists.SaidReadingHeld.read.Goals as goal

pub returns : goal.returns
returns c =
    let parts = ap (map (λ part. part.now)) c.as_slice.ensures.value ∙ c.in_ok-parts.ensures.pieces in
    held_found c.args.word.now c.held_of.result (rw parts at c.held_of.ensures)
