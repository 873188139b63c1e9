use Rattle.rm_book.proofs.Common.{◌≡◌, Bool, take, filter_map}
use Rattle.std.specs.Fn.{FnReturnsAt}
use Rattle.rm_types.specs.declared.containers.BookRow.{BookRow as Row}
use Rattle.rm_book.specs.Granted.{passing_grant}
use Rattle.rm_book.proofs.granted.grants_where.Given as goal

-- the grants so far are those of the containers that were looked at
abbrev pub invariant-ids : goal.invariant-ids
invariant-ids g l =
    (p : Row → Bool) → ((row : Row) (answer : Bool) → FnReturnsAt g.F.Fn l.test row answer → answer ≡ p row)
    → l.grants ≡ filter_map (passing_grant p l.rows) (take l.id-index l.id-items)
