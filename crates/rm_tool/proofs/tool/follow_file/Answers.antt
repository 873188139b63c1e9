use Rattle.std.proofs.Common.{Err, sym, subst, ap, ◌∙◌}
use Rattle.rm_tool.specs.Runs.{FollowsReport, IsNotReadWhole}
use Rattle.rm_tool.proofs.Comings.{report_not_done, report_refused, unread_follows, unread_not_done}
use Rattle.rm_tool.proofs.tool.follow_file.Goals as goal

pub returns-in-Err-clause-written : goal.returns-in-Err-clause-written
returns-in-Err-clause-written g c = λ is. absurd (unread_not_done (g.F.Shelf.bytes_of c.args.shelf.now c.args.page.now) c.stopped.result.outcome (subst (IsNotReadWhole (g.F.Shelf.bytes_of c.args.shelf.now c.args.page.now)) (sym c.stopped.ensures) c.in-Err.ensures.errors) is)

pub returns-in-Ok-follow-clause-written : goal.returns-in-Ok-follow-clause-written
returns-in-Ok-follow-clause-written g c = λ is. record { bytes = c.deref.result.now; read = rw c.deref.ensures.value c.in-Ok.ensures.bytes; whole = rw c.deref.ensures.value c.in-Ok.ensures.whole; is = c.in-Ok-follow.ensures.told }

pub returns-clause-written : goal.returns-clause-written
returns-clause-written g c = λ is. absurd (report_not_done c.in-Err-follow.error (sym c.of_report.ensures ∙ (sym c.stopped-in-Err-follow.ensures ∙ is)))

pub returns-in-Err-clause-comes : goal.returns-in-Err-clause-comes
returns-in-Err-clause-comes g c = unread_follows (g.F.Shelf.bytes_of c.args.shelf.now c.args.page.now) c.args.id.now c.stopped.result.outcome (subst (IsNotReadWhole (g.F.Shelf.bytes_of c.args.shelf.now c.args.page.now)) (sym c.stopped.ensures) c.in-Err.ensures.errors)

pub returns-clause-comes : goal.returns-clause-comes
returns-clause-comes g c =
    subst (FollowsReport (g.F.Shelf.bytes_of c.args.shelf.now c.args.page.now) c.args.id.now) (sym (c.stopped-in-Err-follow.ensures ∙ c.of_report.ensures))
    (report_refused (g.F.Shelf.bytes_of c.args.shelf.now c.args.page.now) c.args.id.now c.deref.result.now c.in-Err-follow.error (rw c.deref.ensures.value c.in-Ok.ensures.bytes) (rw c.deref.ensures.value c.in-Ok.ensures.whole)
    (λ is. c.in-Err-follow.ensures.not_an_id (ap Err is)) (λ line is. c.in-Err-follow.ensures.not_a_page line (ap Err is)))
