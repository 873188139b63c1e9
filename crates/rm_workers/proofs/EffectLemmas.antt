-- What a turn of the store's worker makes of the desk.
use Rattle.std.proofs.Common.{inr, sym, subst}
use Rattle.rm_types.specs.declared.messages.Lane.{Lane}
use Rattle.rm_types.specs.declared.messages.Lane.TheVariants.{Hand}
use Rattle.rm_desk.specs.View.{DeskView}
use Rattle.rm_workers.specs.declared.turns.End.TheVariants as ends
use Rattle.rm_workers.specs.declared.turns.Turn.{Turn}
use Rattle.rm_workers.specs.declared.turns.Turn.TheVariants as turns
use Rattle.rm_workers.specs.Turns.{IsHandedTurn, IsMove, Makes}

-- an operation was handed
pub handed_makes : (turn : Turn) (old new : DeskView) → IsHandedTurn turn → IsMove Hand old new → Makes turn old new
handed_makes turns.Out old new is move = absurd is
handed_makes turns.Wait old new is move = absurd is
handed_makes (turns.Moved lane) old new is move = subst (λ (l : Lane). IsMove l old new) (sym is) move
handed_makes (turns.Write op) old new is move = move
handed_makes (turns.Ends ends.Over) old new is move = inr move
handed_makes (turns.Ends (ends.Down image)) old new is move = absurd is
handed_makes (turns.Ends (ends.Halted halt)) old new is move = absurd is
