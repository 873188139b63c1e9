use Rattle.std.proofs.Common.{◌≡◌, ◌++◌, ◌∷◌, [], None, Some, sym, ◌∙◌, ap}
use Rattle.rm_tables.specs.declared.rows.AppRow.{AppRow}
use Rattle.rm_tables.specs.Opening.{recovered_rows}
use Rattle.rm_tables.specs.Rows.{slot_of}
use Rattle.rm_tables.proofs.Placed.{absent_before, take_got, one_more}
use Rattle.rm_tables.proofs.opening.recovered_rows.Goals as goal

pub records-preserved : goal.records-preserved
records-preserved c =
    let absent : slot_of c.records.rows c.at-app.result.now.id ≡ None = rw c.records.invariant (absent_before c.args.tree.now.apps c.records.place c.at-app.result.now c.len-count.ensures.apart c.at-app.ensures) in
    let got = take_got c.args.tree.now.apps c.records.place c.at-app.result.now c.at-app.ensures in
    c.in_ok-add.ensures.ok absent ∙ ap (λ (row : AppRow). c.records.rows ++ (c.at-app.result.now.id, Some row) ∷ []) c.recovered_row.ensures
    ∙ rw c.records.invariant (sym (ap recovered_rows got ∙ one_more _ c.at-app.result.now))
