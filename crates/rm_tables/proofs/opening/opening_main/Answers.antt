use Rattle.std.proofs.Common.{sym, ◌∙◌}
use Rattle.rm_tables.specs.Opening.{main_of}
use Rattle.rm_tables.proofs.Placed.{more_events}
use Rattle.rm_tables.proofs.opening.opening_main.Goals as goal

pub records-preserved : goal.records-preserved
records-preserved c =
    let more = more_events main_of c.args.tree.now.apps c.records.place c.at.result.now c.at.ensures in
    c.in_ok-push_main.ensures.ok ∙ rw c.records.invariant (sym more)
