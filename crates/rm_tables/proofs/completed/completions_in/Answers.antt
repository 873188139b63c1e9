use Rattle.std.proofs.Common.{take, sym, ◌∙◌, ap, []}
use Rattle.std.proofs.lemmas.List.Sums.{fold_push}
use Rattle.rm_tables.proofs.Placed.{take_got}
use Rattle.rm_tables.specs.Completed.{completions_in, with_completed}
use Rattle.rm_tables.proofs.completed.completions_in.Goals as goal

pub records-preserved : goal.records-preserved
records-preserved c =
    let got = take_got c.args.tree.now.apps c.records.place c.at.result.now c.at.ensures in
    let more = ap completions_in got ∙ fold_push with_completed [] (take c.records.place c.args.tree.now.apps) c.at.result.now in
    record { put = c.in_ok-put_app.ensures.put ∙ rw c.records.invariant.put (sym more); sorted = c.in_ok-put_app.ensures.sorted }
