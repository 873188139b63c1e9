use Rattle.std.proofs.Common.{map, ap, ◌∙◌}
use Rattle.rm_script.proofs.ItemParts.{ask_found}
use Rattle.rm_script.proofs.lists.SaidReadingAsk.read.Goals as goal

pub returns : goal.returns
returns c =
    let parts = ap (map (λ part. part.now)) c.as_slice.ensures.value ∙ c.in_ok-parts.ensures.pieces in
    ask_found c.args.word.now c.ask_of.result (rw parts at c.ask_of.ensures)
