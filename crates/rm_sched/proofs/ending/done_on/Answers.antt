use Rattle.std.proofs.Common.{[], ◌∙◌, fold, ap, arith}
use Rattle.std.proofs.lemmas.List.{take_all}
use Rattle.rm_tables.specs.SchedEvents.{ends_as_done}
use Rattle.rm_tables.proofs.Once.{take_one, taken_once}
use Rattle.rm_sched.proofs.ending.done_on.Goals as goal

pub returns : goal.returns
returns c =
    c.list.invariant ∙ ap (fold (take_one (ends_as_done c.args.name.now c.args.t.now)) []) (take_all c.list.id-index c.args.list.now (omega (arith, c.list-test.false)))
    ∙ taken_once (ends_as_done c.args.name.now c.args.t.now) c.args.list.now
