use Rattle.std.proofs.Common.{Err, sym, subst, ap, ◌∙◌}
use Rattle.rm_tool.specs.Runs.{IsNotReadWhole, Reports}
use Rattle.rm_tool.proofs.Comings.{page_not_done, page_refused, unread_not_done, unread_reports}
use Rattle.rm_tool.proofs.tool.summarize_file.Goals as goal

pub returns-in-Err-clause-written : goal.returns-in-Err-clause-written
returns-in-Err-clause-written g c = λ is. absurd (unread_not_done (g.F.Shelf.bytes_of c.args.shelf.now c.args.page.now) c.stopped.result.outcome (subst (IsNotReadWhole (g.F.Shelf.bytes_of c.args.shelf.now c.args.page.now)) (sym c.stopped.ensures) c.in-Err.ensures.errors) is)

pub returns-in-Ok-summary-clause-written : goal.returns-in-Ok-summary-clause-written
returns-in-Ok-summary-clause-written g c = λ is. record { bytes = c.deref.result.now; read = rw c.deref.ensures.value c.in-Ok.ensures.bytes; whole = rw c.deref.ensures.value c.in-Ok.ensures.whole; is = c.in-Ok-summary.ensures.told }

pub returns-clause-written : goal.returns-clause-written
returns-clause-written g c = λ is. absurd (page_not_done c.in-Err-summary.error (sym c.of_page.ensures ∙ (sym c.stopped-in-Err-summary.ensures ∙ is)))

pub returns-in-Err-clause-comes : goal.returns-in-Err-clause-comes
returns-in-Err-clause-comes g c = unread_reports (g.F.Shelf.bytes_of c.args.shelf.now c.args.page.now) c.stopped.result.outcome (subst (IsNotReadWhole (g.F.Shelf.bytes_of c.args.shelf.now c.args.page.now)) (sym c.stopped.ensures) c.in-Err.ensures.errors)

pub returns-clause-comes : goal.returns-clause-comes
returns-clause-comes g c =
    subst (Reports (g.F.Shelf.bytes_of c.args.shelf.now c.args.page.now)) (sym (c.stopped-in-Err-summary.ensures ∙ c.of_page.ensures))
    (page_refused (g.F.Shelf.bytes_of c.args.shelf.now c.args.page.now) c.deref.result.now c.in-Err-summary.error (rw c.deref.ensures.value c.in-Ok.ensures.bytes) (rw c.deref.ensures.value c.in-Ok.ensures.whole)
    (λ line is. c.in-Err-summary.ensures.not_a_page line (ap Err is)))
