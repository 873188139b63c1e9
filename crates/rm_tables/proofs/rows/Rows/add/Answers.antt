use Rattle.std.proofs.Common.{Some, ◌∙◌}
use Rattle.indexmap.proofs.CallerLemmas.{insert_entry-new}
use Rattle.rm_types.specs.Ids.{is_app}
use Rattle.rm_tables.proofs.rows.Rows.add.Goals as goal

pub returns-clause-ok : goal.returns-clause-ok
returns-clause-ok c = λ new.
    let none = rw (← c.self.view_is) at new in
    rw (← c.self.view_is) (c.in_ok-insert.ensures.entries ∙ insert_entry-new is_app c.self.inside.map c.args.id (Some c.args.row) none)
