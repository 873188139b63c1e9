use Rattle.rm_book.proofs.Common.{sym, ap, ◌∙◌, values_of}
use Rattle.rm_book.proofs.Kept.{found_kept, removed_kept, removed_none, removed_view}
use Rattle.rm_book.proofs.row_table.RowTable.remove.Goals as goal

pub invariant_of-self : goal.invariant_of-self
invariant_of-self c =
    let value = rw c.in_err-row.was at c.remove.ensures.value in
    removed_none c.self.invariant c.args.id (sym value) c.remove.ensures.rest

pub returns-in_err-row-clause-row : goal.returns-in_err-row-clause-row
returns-in_err-row-clause-row c =
    let value = rw c.in_err-row.was at c.remove.ensures.value in
    rw (c.from_residual.ensures, ← c.self.view_is) (value ∙ found_kept c.self.invariant c.args.id)

pub returns-in_err-row-clause-rest : goal.returns-in_err-row-clause-rest
returns-in_err-row-clause-rest c =
    rw (← c.self.view_is) (ap values_of c.remove.ensures.rest ∙ removed_view c.self.invariant c.args.id)

pub invariant_of-self-2 : goal.invariant_of-self-2
invariant_of-self-2 c =
    let value = rw c.in_ok-row.was at c.remove.ensures.value in
    removed_kept c.self.invariant c.args.id c.in_ok-row.row c.remove.new.self value c.remove.ensures.rest c.leave.ensures.nodes c.leave.ensures.apps c.leave_untold.ensures

pub returns-clause-row : goal.returns-clause-row
returns-clause-row c =
    let value = rw c.in_ok-row.was at c.remove.ensures.value in
    rw (← c.self.view_is) (value ∙ found_kept c.self.invariant c.args.id)

pub returns-clause-rest : goal.returns-clause-rest
returns-clause-rest c =
    rw (← c.self.view_is) (ap values_of c.remove.ensures.rest ∙ removed_view c.self.invariant c.args.id)
