use Rattle.std.proofs.Common.{◌≤◌, cond, Bool, true, false, arith}
use Rattle.std.specs.Prelude.{is_none}
use Rattle.rm_tables.proofs.Placed.{more_going}
use Rattle.rm_tables.proofs.opening.going_in.Goals as goal

at_most : (b : Bool) → cond b 1 0 ≤ 1
at_most true = omega arith
at_most false = omega arith

pub records-preserved : goal.records-preserved
records-preserved c =
    let more = more_going c.args.tree.now.apps c.records.place c.at.result.now c.at.ensures in
    let few = at_most (is_none c.at.result.now.ending) in
    record { few = omega (arith, few); counted = omega (arith, more) }
