use Rattle.std.proofs.Common.{sym, subst}
use Rattle.rm_tool.specs.Runs.{Checks}
use Rattle.rm_tool.proofs.Comings.{checks_by, either_page}
use Rattle.rm_tool.proofs.tool.check_file.Goals as goal

pub returns-clause-comes : goal.returns-clause-comes
returns-clause-comes g c =
    let told = g.F.Shelf.bytes_of c.args.shelf.now c.args.file.now in
    let checked = c.in-Ok-check.checked in
    either_page (Checks told) c.of_fault-outcome.result c.with_page.result.outcome c.with_page.ensures
    (subst (Checks told) (sym c.of_fault-outcome.ensures) (checks_by told c.in-Ok.disk checked.form checked.ops checked.fault c.in-Ok.ensures.bytes c.in-Ok-check.ensures.form c.in-Ok-check.ensures.whole c.in-Ok-check.ensures.fault))
    tt
