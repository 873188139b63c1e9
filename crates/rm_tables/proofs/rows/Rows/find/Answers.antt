use Rattle.std.proofs.Common.{◌∙◌, ap}
use Rattle.rm_tables.specs.Rows.{row_in}
use Rattle.rm_tables.proofs.rows.Rows.find.Goals as goal

pub returns-in-Some : goal.returns-in-Some
returns-in-Some c =
    let found = rw c.in-Some.is at c.get.ensures.value in
    rw (← c.self.view_is) (c.row_in.ensures ∙ ap row_in found)
