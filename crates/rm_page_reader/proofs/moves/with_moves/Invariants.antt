use Rattle.std.specs.Prelude.{◌≡◌, ◌++◌, All, drop, take}
use Rattle.std.specs.List.{flat_map}
use Rattle.std.specs.Vec.Iter.{into_iter_items}
use Rattle.rm_formats.specs.Page.{line_of, letters}
use Rattle.rm_page.specs.Ranges.{IsEntry}
use Rattle.rm_page_reader.specs.Answers.{Fit, IsToldEntry}
use Rattle.rm_page_reader.proofs.moves.with_moves.Given as goal

-- the log has the first letters and the lines of the entries that were taken; where all letters fit, those that are left fit
-- the entries that are left
abbrev pub invariant-letters : goal.invariant-letters
invariant-letters l = record {
  ranges : All IsEntry l.log;
  told : All IsToldEntry (into_iter_items l.left);
  lines : flat_map line_of l.log ++ flat_map line_of (into_iter_items l.left) ≡ flat_map line_of l.fn.heard;
  first : letters l.log ≡ take l.letter-index l.moves;
  own : letters (into_iter_items l.left) ≡ drop l.place l.own;
  fit : Fit l.moves (letters l.fn.heard) → Fit (drop l.letter-index l.moves) (drop l.place l.own);
}
