use Rattle.std.proofs.Common.{map, take, All}
use Rattle.rm_lines.specs.Results.{IsOf}
use Rattle.rm_lines.proofs.lists.items_of.Given as goal

-- the items so far are those of the first pieces
abbrev pub invariant-pieces : goal.invariant-pieces
invariant-pieces g l = IsOf (map g.R.Reading.text) (All g.R.Reading.is) (map (λ piece. piece.now) (take l.piece-index l.fn.pieces)) l.items
