use Rattle.rm_book.proofs.row_table.RowTable.ids_of.Goals as goal

pub returns-clause-ids : goal.returns-clause-ids
returns-clause-ids c = rw (← c.self.view_is, ← c.self.invariant.by_app c.args.app) c.ids.ensures

pub returns-clause-apart : goal.returns-clause-apart
returns-clause-apart c = rw (← c.self.view_is) c.self.invariant.apart
