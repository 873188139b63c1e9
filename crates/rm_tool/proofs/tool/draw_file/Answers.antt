use Rattle.std.proofs.Common.{Err, sym, subst, ap, ◌∙◌}
use Rattle.rm_tool.specs.Runs.{IsNotReadWhole, Reports}
use Rattle.rm_tool.proofs.Comings.{page_refused, unread_reports}
use Rattle.rm_tool.proofs.tool.draw_file.Goals as goal

pub returns-in-Err-clause-comes : goal.returns-in-Err-clause-comes
returns-in-Err-clause-comes g c = unread_reports (g.F.Shelf.bytes_of c.args.shelf.now c.args.page.now) c.stopped.result.outcome (subst (IsNotReadWhole (g.F.Shelf.bytes_of c.args.shelf.now c.args.page.now)) (sym c.stopped.ensures) c.in-Err.ensures.errors)

pub returns-clause-comes : goal.returns-clause-comes
returns-clause-comes g c =
    subst (Reports (g.F.Shelf.bytes_of c.args.shelf.now c.args.page.now)) (sym (c.stopped-in-Err-draw.ensures ∙ c.of_page.ensures))
    (page_refused (g.F.Shelf.bytes_of c.args.shelf.now c.args.page.now) c.deref.result.now c.in-Err-draw.error (rw c.deref.ensures.value c.in-Ok.ensures.bytes) (rw c.deref.ensures.value c.in-Ok.ensures.whole)
    (λ line is. c.in-Err-draw.ensures line (ap Err is)))
