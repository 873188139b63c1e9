use Rattle.rm_book.proofs.Common.{sym, ◌∙◌, subst}
use Rattle.rm_book.specs.Kept.{AreUsed}
use Rattle.rm_book.proofs.LeavingSteps.{all_left, holds_row, used_lowered}
use Rattle.rm_book.proofs.leaving.end_row.Goals as goal

pub returns-in_err-row-clause-used : goal.returns-in_err-row-clause-used
returns-in_err-row-clause-used c =
    let none = rw c.in_err-row.was at c.remove.ensures.row in
    subst (AreUsed c.args.nodes.now.map.entries) (sym (c.remove.ensures.rest ∙ all_left c.args.id c.args.rows.now (sym none))) c.requires

pub lower-requires : goal.lower-requires
lower-requires c =
    let at = rw c.in_ok-row.was at c.remove.ensures.row in
    holds_row c.args.nodes.now.map.entries c.args.rows.now c.args.id c.in_ok-row.row c.requires c.remove.ensures.apart (sym at)

pub returns-clause-used : goal.returns-clause-used
returns-clause-used c =
    let at = rw c.in_ok-row.was at c.remove.ensures.row in
    subst (AreUsed c.lower.new.self.map.entries) (sym c.remove.ensures.rest)
    (used_lowered c.args.nodes.now.map.entries c.lower.new.self.map.entries c.args.rows.now c.args.id c.in_ok-row.row c.requires c.remove.ensures.apart (sym at) c.lower.ensures.loads)
