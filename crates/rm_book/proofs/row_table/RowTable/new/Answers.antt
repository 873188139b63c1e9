use Rattle.rm_book.proofs.Kept.{none_kept_yet}
use Rattle.rm_book.proofs.row_table.RowTable.new.Goals as goal

pub invariant_of-result : goal.invariant_of-result
invariant_of-result c = none_kept_yet c.new.ensures c.new-2.ensures c.new-3.ensures c.new-4.ensures
